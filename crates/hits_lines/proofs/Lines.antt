-- The lines after line 1, one after another from a place on. Assumes nothing.
use Prim.Native.Nat.{ℕ, suc, ◌+◌, ◌-◌, ◌≤◌, ◌<◌}
use borrow.Author.Tests.{ne_eqb, lt-ltb, le-ltb, le-leb, lt-leb}
use lib.Dec.{ltb, leb}
use lib.ListN.{length, take, drop, length-append, drop_of_length-le}
use mathlib.Core.Bool.{true, false, ◌||◌}
use mathlib.Core.List.{List, [], ◌++◌}
use mathlib.Core.Logic.{◌≢◌}
use mathlib.Core.Option.{Option, none, some, some-injective, none-ne-some, some-ne-none}
use mathlib.Core.Path.{◌≡◌, refl, sym, ap, ◌∙◌}
use native.Mathlib.Numerals.{add-one}
use native.Mathlib.Omega.{arith}
use Rattle.model.proofs.Slices.{part_length}
use Rattle.text_read.specs.Pieces.{split, until, pieces}
use Rattle.hits_input.specs.Input.{run_of, Lines, runs_are, fault_at, run_before, lines_from, row}
use Rattle.hits_run.specs.Line.{count_of}
use Rattle.hits_lines.specs.Lines.{scanned, lines_at}
use Rattle.hits_lines.specs.declared.Counts.{Counts}
use Rattle.hits_lines.specs.declared.Faulty.{Faulty}
use Rattle.std.specs.Prelude.{Result, Ok, Err}
use Rattle.text_read.proofs.Pieces.{pieces_in, pieces_out, pieces_next}

-- the lines from a place on, after i runs with n numbers
abbrev pub lines_here : ℕ → ℕ → List ℕ → ℕ → ℕ → ℕ → Lines
lines_here runs room bytes at i n = lines_from (record { runs = runs; numbers = room }) i n (pieces 10 bytes at)

-- a line with an end, of which o is the run, and the lines after it
unfoldable pub on_line : ℕ → ℕ → ℕ → ℕ → Option (List ℕ) → List (List ℕ) → Lines
on_line runs room i n o rest =
    elim o [
      | none ↦ fault_at (i + 2)
      | some run ↦
          elim (leb runs i || ltb room (n + length run)) [
            | true ↦ fault_at (i + 2)
            | false ↦ run_before run (lines_from (record { runs = runs; numbers = room }) (suc i) (n + length run) rest)
          ]
    ]

pub lines_start : (runs room : ℕ) (bytes : List ℕ) (start : ℕ) → start ≤ length bytes → lines_at runs room bytes start ≡ lines_here runs room bytes start 0 0
unfolding lines_at
lines_start runs room bytes start h = ap (lines_from (record { runs = runs; numbers = room }) 0 0) (sym (pieces_in 10 bytes start h))

pub lines_end : (runs room : ℕ) (bytes : List ℕ) (at i n : ℕ) → at ≡ length bytes → lines_here runs room bytes at i n ≡ runs_are []
unfolding lines_from split
lines_end runs room bytes at i n e =
    let h : length bytes ≤ at = omega arith in
    ap (lines_from (record { runs = runs; numbers = room }) i n) (pieces_in 10 bytes at (omega arith) ∙ ap (split 10) (drop_of_length-le bytes h))

module _ (runs room : ℕ) (bytes : List ℕ) (at end i n : ℕ) (h : at < length bytes) (e : end ≡ at + until 10 (drop at bytes)) where
  pub line_inside : end ≤ length bytes
  line_inside = (pieces_next 10 bytes at end (omega arith) e).0

  pub line_unended : end ≡ length bytes → lines_here runs room bytes at i n ≡ fault_at (i + 2)
  unfolding lines_from
  line_unended q =
      let k = part_length at end bytes line_inside in
      let z : length (take (end - at) (drop at bytes)) ≢ 0 = λ w. omega arith in
      rw ((pieces_next 10 bytes at end (omega arith) e).1, pieces_out 10 bytes (end + 1) (omega arith)) (rw (ne_eqb (length (take (end - at) (drop at bytes))) 0 z, lines_from))

  pub line_ended : end ≢ length bytes
      → lines_here runs room bytes at i n ≡ on_line runs room i n (run_of (take (end - at) (drop at bytes))) (pieces 10 bytes (end + 1))
  unfolding lines_from on_line
  line_ended q =
      let w = line_inside in
      let k : end + 1 ≤ length bytes = omega (arith, q) in
      rw ((pieces_next 10 bytes at end (omega arith) e).1, (pieces_next 10 bytes (end + 1) (end + 1 + until 10 (drop (end + 1) bytes)) k refl).1)

-- a run's line by the count of its numbers
count_some : (run : List ℕ) {m : ℕ} → count_of (some run) ≡ some m → length run ≡ m
unfolding count_of
count_some run {m} e = some-injective (length run) m e

module _ (runs room i n : ℕ) (rest : List (List ℕ)) where
  pub stop_form : (o : Option (List ℕ)) → count_of o ≡ none → on_line runs room i n o rest ≡ fault_at (i + 2)
  unfolding count_of on_line
  stop_form none e = refl
  stop_form (some run) e = absurd (some-ne-none (length run) e)

  pub stop_runs : (o : Option (List ℕ)) {m : ℕ} → count_of o ≡ some m → runs ≤ i → on_line runs room i n o rest ≡ fault_at (i + 2)
  unfolding count_of on_line
  stop_runs none e h = absurd (none-ne-some _ e)
  stop_runs (some run) e h = rw (le-leb runs i h, on_line)

  pub stop_room : (o : Option (List ℕ)) {m : ℕ} → count_of o ≡ some m → i < runs → room < n + m → on_line runs room i n o rest ≡ fault_at (i + 2)
  unfolding count_of on_line
  stop_room none e h k = absurd (none-ne-some _ e)
  stop_room (some run) e h k =
      let q = count_some run e in
      let l : room < n + length run = omega arith in
      rw (lt-leb runs i h, lt-ltb room (n + length run) l, on_line)

  -- the runs and numbers with those of the lines from here on
  scan_with : (run : List ℕ) (lines : Lines) → scanned i n (run_before run lines) ≡ scanned (i + 1) (n + length run) lines
  unfolding scanned run_before row
  scan_with run (runs_are rs) =
      let a = length-append run (row rs) in
      let p : i + suc (length rs) ≡ i + 1 + length rs = omega arith in
      let q : n + length (run ++ row rs) ≡ n + length run + length (row rs) = omega arith in
      rw (p, q)
  scan_with run (fault_at line) = refl

  pub scan_on : (o : Option (List ℕ)) {m : ℕ} → count_of o ≡ some m → i < runs → n + m ≤ room
      → scanned i n (on_line runs room i n o rest) ≡ scanned (i + 1) (n + m) (lines_from (record { runs = runs; numbers = room }) (i + 1) (n + m) rest)
  unfolding on_line count_of
  scan_on none e h k = absurd (none-ne-some _ e)
  scan_on (some run) e h k =
      let q = count_some run e in
      let l : n + length run ≤ room = omega arith in
      rw (lt-leb runs i h, le-ltb room (n + length run) l, on_line)
      (scan_with run (lines_from (record { runs = runs; numbers = room }) (suc i) (n + length run) rest)
      ∙ (ap (λ x. scanned (i + 1) (n + length run) (lines_from (record { runs = runs; numbers = room }) x (n + length run) rest)) (sym (add-one i))
      ∙ ap (λ x. scanned (i + 1) (n + x) (lines_from (record { runs = runs; numbers = room }) (i + 1) (n + x) rest)) q))

-- what a scan gives
abbrev pub counted : ℕ → ℕ → Result Counts Faulty
counted i n = Ok (record { runs = i; numbers = n })

abbrev pub faulty : ℕ → Result Counts Faulty
faulty line = Err (record { 0 = line })

-- the scan so far
pub record Scanning (bytes : List ℕ) (start runs room at i n : ℕ) : Type 0 where
  pub bound : at ≤ length bytes
  pub few : i ≤ at
  pub fit_runs : i ≤ runs
  pub fit : n ≤ room
  pub same : scanned 0 0 (lines_at runs room bytes start) ≡ scanned i n (lines_here runs room bytes at i n)

pub scanning_start : (bytes : List ℕ) (start runs room : ℕ) → start ≤ length bytes → Scanning bytes start runs room start 0 0
scanning_start bytes start runs room h =
    record { bound = h; few = omega arith; fit_runs = omega arith; fit = omega arith; same = ap (scanned 0 0) (lines_start runs room bytes start h) }

module _ (bytes : List ℕ) (start runs room at i n : ℕ) (s : Scanning bytes start runs room at i n) where
  pub scanning_end : length bytes ≤ at → counted i n ≡ scanned 0 0 (lines_at runs room bytes start)
  unfolding scanned row
  scanning_end h =
      let b = s.bound in
      let p : i ≡ i + 0 = omega arith in
      let q : n ≡ n + 0 = omega arith in
      sym (s.same ∙ (ap (scanned i n) (lines_end runs room bytes at i n (omega arith)) ∙ (ap (λ x. counted x (n + 0)) (sym p) ∙ ap (counted i) (sym q))))

  module _ (end : ℕ) (h : at < length bytes) (e : end ≡ at + until 10 (drop at bytes)) where
    -- a fault in this line
    found : lines_here runs room bytes at i n ≡ fault_at (i + 2) → faulty (i + 2) ≡ scanned 0 0 (lines_at runs room bytes start)
    unfolding scanned
    found q = sym (s.same ∙ ap (scanned i n) q)

    pub found_unended : end ≡ length bytes → faulty (i + 2) ≡ scanned 0 0 (lines_at runs room bytes start)
    found_unended q = found (line_unended runs room bytes at end i n h e q)

    module _ (q : end ≢ length bytes) where
      pub found_form : count_of (run_of (take (end - at) (drop at bytes))) ≡ none → faulty (i + 2) ≡ scanned 0 0 (lines_at runs room bytes start)
      found_form g = found (line_ended runs room bytes at end i n h e q ∙ stop_form runs room i n _ _ g)

      module _ (m : ℕ) (g : count_of (run_of (take (end - at) (drop at bytes))) ≡ some m) where
        pub found_runs : runs ≤ i → faulty (i + 2) ≡ scanned 0 0 (lines_at runs room bytes start)
        found_runs k = found (line_ended runs room bytes at end i n h e q ∙ stop_runs runs room i n _ _ g k)

        pub found_room : i < runs → room < n + m → faulty (i + 2) ≡ scanned 0 0 (lines_at runs room bytes start)
        found_room k l = found (line_ended runs room bytes at end i n h e q ∙ stop_room runs room i n _ _ g k l)

        pub scanning_on : i < runs → n + m ≤ room → Scanning bytes start runs room (end + 1) (i + 1) (n + m)
        scanning_on k l =
            let w = line_inside runs room bytes at end i n h e in
            let f = s.few in
            record {
              bound = omega (arith, q);
              few = omega arith;
              fit_runs = omega arith;
              fit = l;
              same = s.same ∙ (ap (scanned i n) (line_ended runs room bytes at end i n h e q) ∙ scan_on runs room i n _ _ g k l);
            }
