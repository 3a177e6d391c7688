-- The runs stored line by line, where no line is at fault. Assumes nothing.
use Prim.Native.Nat.{ℕ, suc, ◌+◌, ◌-◌, ◌≤◌, ◌<◌}
use borrow.Author.Tests.{ltb-false, leb-false}
use lib.Dec.{ltb, leb}
use lib.ListN.{length, take, drop, set, length-set}
use lib.Seq.{sets, length-sets}
use mathlib.Core.Bool.{true, false, ◌||◌}
use mathlib.Core.List.{List, [], ◌∷◌, ◌++◌}
use mathlib.Core.Logic.{⊎_elim, ◌≢◌}
use mathlib.Core.Option.{Option, none, some, some-injective, none-ne-some}
use mathlib.Core.Path.{◌≡◌, refl, sym, ap, ◌∙◌}
use native.Mathlib.Nat.{add-zero}
use native.Mathlib.Numerals.{add-one}
use native.Mathlib.Omega.{arith}
use Rattle.model.proofs.Slices.{part_length}
use Rattle.model.proofs.Tests.{both, eq_or_ne, or_false}
use Rattle.hits_limits.specs.Limits.{most_bytes}
use Rattle.hits_input.specs.Input.{before, numbers_of, run_of, Lines, runs_are, fault_at, run_before, lines_from, row, ends_from}
use Rattle.text_read.specs.Pieces.{split, until, pieces}
use Rattle.text_read.specs.Numbers.{number, value}
use Rattle.hits_run.specs.Line.{leading}
use Rattle.hits_lines.specs.Lines.{runs_in, lines_at, Readable, Stored}
use Rattle.hits_lines.proofs.Lines.{lines_here, on_line, lines_start, lines_end, line_inside, line_unended, line_ended}
use Rattle.text_read.proofs.Pieces.{split_few}

sets_append : (xs ys l : List ℕ) (at : ℕ) → sets l at (xs ++ ys) ≡ sets (sets l at xs) (at + length xs) ys
sets_append [] ys l at = rw add-zero
sets_append (x ∷ xs) ys l at =
    let e : at + suc (length xs) ≡ suc at + length xs = omega arith in rw e (sets_append xs ys (set l at x) (suc at))

-- ---- the numbers of a run's line

before_some : (o : Option ℕ) (p : Option (List ℕ)) {xs : List ℕ} → before o p ≡ some xs
    → (x : ℕ) × (ys : List ℕ) × (o ≡ some x) × (p ≡ some ys) × (xs ≡ x ∷ ys)
unfolding before
before_some none p e = absurd (none-ne-some _ e)
before_some (some x) none e = absurd (none-ne-some _ e)
before_some (some x) (some ys) {xs} e = (x, ys, refl, refl, sym (some-injective (x ∷ ys) xs e))

leading_all : (words : List (List ℕ)) {xs : List ℕ} → numbers_of words ≡ some xs → (leading words ≡ xs) × (length xs ≡ length words)
unfolding numbers_of leading
leading_all [] {xs} e = let q = some-injective [] xs e in (q, sym (ap length q))
leading_all (word ∷ words) e =
    let (x, ys, p, q, r) = before_some (number word) (numbers_of words) e in
    let (s, t) = leading_all words q in
    (rw (p, leading) (ap (x ∷◌) s ∙ sym r), ap length r ∙ ap suc t)

pub run_leading : (line : List ℕ) {run : List ℕ} → run_of line ≡ some run → leading (split 32 line) ≡ run
unfolding run_of split leading number value
run_leading [] {run} e = some-injective [] run e
run_leading (b ∷ line) e = (leading_all (split 32 (b ∷ line)) e).0

pub run_few : (line : List ℕ) {run : List ℕ} → run_of line ≡ some run → length run ≤ suc (length line)
unfolding run_of
run_few [] {run} e = let q = ap length (some-injective [] run e) in omega arith
run_few (b ∷ line) e = let l = (leading_all (split 32 (b ∷ line)) e).1 in let f = split_few 32 (b ∷ line) in omega arith

-- ---- a line that is not at fault

not_runs : {A : Type 0} {line : ℕ} {rs : List (List ℕ)} → fault_at line ≡ runs_are rs → A
not_runs e = let z : ◌≡◌ {A = ℕ} 0 1 = cc in absurd (omega arith)

runs_before : (run : List ℕ) (lines : Lines) {rs : List (List ℕ)} → run_before run lines ≡ runs_are rs
    → (lines ≡ runs_are (runs_in lines)) × (rs ≡ run ∷ runs_in lines)
unfolding run_before runs_in
runs_before run (runs_are rs) e = (refl, sym (ap runs_in e))
runs_before run (fault_at line) e = not_runs e

-- the line's run, and the runs of the lines after it
pub record Next (runs room i n : ℕ) (o : Option (List ℕ)) (rest : List (List ℕ)) (rs : List (List ℕ)) : Type 0 where
  pub run : List ℕ
  pub others : List (List ℕ)
  pub is_run : o ≡ some run
  pub runs_are_law : rs ≡ run ∷ others
  pub more : i < runs
  pub fit : n + length run ≤ room
  pub rest_are : lines_from (record { runs = runs; numbers = room }) (i + 1) (n + length run) rest ≡ runs_are others

next_line : (runs room i n : ℕ) (o : Option (List ℕ)) (rest : List (List ℕ)) {rs : List (List ℕ)} → on_line runs room i n o rest ≡ runs_are rs
    → Next runs room i n o rest rs
unfolding on_line
next_line runs room i n none rest e = not_runs e
next_line runs room i n (some run) rest {rs} e =
    ⊎_elim
    (λ (t : (leb runs i || ltb room (n + length run)) ≡ true). not_runs (rw (t, on_line) at e))
    (λ (t : (leb runs i || ltb room (n + length run)) ≡ false).
    let lines = lines_from (record { runs = runs; numbers = room }) (suc i) (n + length run) rest in
    let w = runs_before run lines (rw (t, on_line) at e) in
    let f = or_false (leb runs i) (ltb room (n + length run)) t in
    record {
      run = run;
      others = runs_in lines;
      is_run = refl;
      runs_are_law = w.1;
      more = leb-false runs i f.0;
      fit = ltb-false room (n + length run) f.1;
      rest_are = ap (λ x. lines_from (record { runs = runs; numbers = room }) x (n + length run) rest) (add-one i) ∙ w.0;
    })
    (both (leb runs i || ltb room (n + length run)))

-- the line from at to end, which has an end
pub record Ended (runs room : ℕ) (bytes : List ℕ) (at end i n : ℕ) (rs : List (List ℕ)) : Type 0 where
  pub inside : end < length bytes
  pub next : Next runs room i n (run_of (take (end - at) (drop at bytes))) (pieces 10 bytes (end + 1)) rs

pub ended : (runs room : ℕ) (bytes : List ℕ) (at end i n : ℕ) → at < length bytes → end ≡ at + until 10 (drop at bytes) → {rs : List (List ℕ)}
    → lines_here runs room bytes at i n ≡ runs_are rs → Ended runs room bytes at end i n rs
ended runs room bytes at end i n h e {rs} q =
    let w = line_inside runs room bytes at end i n h e in
    ⊎_elim
    (λ (u : end ≡ length bytes). not_runs (sym (line_unended runs room bytes at end i n h e u) ∙ q))
    (λ (u : end ≢ length bytes).
    record {
      inside = omega (arith, u);
      next =
          next_line runs room i n (run_of (take (end - at) (drop at bytes))) (pieces 10 bytes (end + 1)) (sym (line_ended runs room bytes at end i n h e u) ∙ q);
    })
    (eq_or_ne end (length bytes))

-- ---- the rows so far: what is stored from here on gives what is stored from the start

pub record Writing (bytes : List ℕ) (start : ℕ) (numbers₀ ends₀ numbers ends : List ℕ) (at i n : ℕ) : Type 0 where
  pub bound : at ≤ length bytes
  pub short : length bytes ≤ most_bytes
  pub few : n ≤ at
  pub same_numbers : length numbers ≡ length numbers₀
  pub same_ends : length ends ≡ length ends₀
  pub rest : List (List ℕ)
  pub here : lines_here (length ends₀) (length numbers₀) bytes at i n ≡ runs_are rest
  pub stores_numbers : sets numbers₀ 0 (row (runs_in (lines_at (length ends₀) (length numbers₀) bytes start))) ≡ sets numbers n (row rest)
  pub stores_ends : sets ends₀ 0 (ends_from 0 (runs_in (lines_at (length ends₀) (length numbers₀) bytes start))) ≡ sets ends i (ends_from n rest)

pub writing_start : (bytes : List ℕ) (start : ℕ) (numbers ends : List ℕ) → Readable bytes start numbers ends
    → Writing bytes start numbers ends numbers ends start 0 0
writing_start bytes start numbers ends r =
    record {
      bound = r.inside;
      short = r.short;
      few = omega arith;
      same_numbers = refl;
      same_ends = refl;
      rest = runs_in (lines_at (length ends) (length numbers) bytes start);
      here = sym (lines_start (length ends) (length numbers) bytes start r.inside) ∙ r.no_fault;
      stores_numbers = refl;
      stores_ends = refl;
    }

module _ (bytes : List ℕ) (start : ℕ) (numbers₀ ends₀ numbers ends : List ℕ) (at i n : ℕ) (w : Writing bytes start numbers₀ ends₀ numbers ends at i n) where
  pub writing_end : length bytes ≤ at → Stored bytes start numbers₀ ends₀ numbers ends
  unfolding row ends_from runs_in
  writing_end h =
      let b = w.bound in
      let r : w.rest ≡ [] = ap runs_in (sym w.here ∙ lines_end (length ends₀) (length numbers₀) bytes at i n (omega arith)) in
      record {
        numbers_are = sym (w.stores_numbers ∙ ap (λ x. sets numbers n (row x)) r);
        ends_are = sym (w.stores_ends ∙ ap (λ x. sets ends i (ends_from n x)) r);
      }

  module _ (end : ℕ) (h : at < length bytes) (e : end ≡ at + until 10 (drop at bytes)) where
    this : Ended (length ends₀) (length numbers₀) bytes at end i n w.rest
    this = ended (length ends₀) (length numbers₀) bytes at end i n h e w.here

    pub writing_inside : end < length bytes
    writing_inside = this.inside

    -- room for the run's numbers and for its end, which is a small number
    pub writing_room : n + length (leading (split 32 (take (end - at) (drop at bytes)))) ≤ length numbers
    writing_room =
        let x = this.next in
        let l = ap length (run_leading (take (end - at) (drop at bytes)) x.is_run) in
        omega (arith, x.fit, l, w.same_numbers)

    pub writing_more : i < length ends
    writing_more = omega (arith, this.next.more, w.same_ends)

    pub writing_few : n + length (leading (split 32 (take (end - at) (drop at bytes)))) ≤ end + 1
    writing_few =
        let x = this.next in
        let k = line_inside (length ends₀) (length numbers₀) bytes at end i n h e in
        let p = part_length at end bytes k in
        let f = run_few (take (end - at) (drop at bytes)) x.is_run in
        let l = ap length (run_leading (take (end - at) (drop at bytes)) x.is_run) in
        omega (arith, f, l, p, w.few)

    pub writing_on : {m : ℕ} {numbers' : List ℕ} → m ≡ n + length (leading (split 32 (take (end - at) (drop at bytes))))
        → numbers' ≡ sets numbers n (leading (split 32 (take (end - at) (drop at bytes))))
        → Writing bytes start numbers₀ ends₀ numbers' (set ends i m) (end + 1) (i + 1) m
    unfolding row ends_from
    writing_on {m} {numbers'} p q =
        let x = this.next in
        let l = run_leading (take (end - at) (drop at bytes)) x.is_run in
        let g : n + length x.run ≡ m = sym (p ∙ ap (λ y. n + length y) l) in
        let f = writing_few in
        let z = this.inside in
        record {
          bound = omega arith;
          short = w.short;
          few = omega arith;
          same_numbers = ap length q ∙ (length-sets numbers n (leading (split 32 (take (end - at) (drop at bytes)))) ∙ w.same_numbers);
          same_ends = length-set ends i m ∙ w.same_ends;
          rest = x.others;
          here = ap (λ y. lines_from (record { runs = length ends₀; numbers = length numbers₀ }) (i + 1) y (pieces 10 bytes (end + 1))) (sym g) ∙ x.rest_are;
          stores_numbers =
              w.stores_numbers
              ∙ (ap (λ y. sets numbers n (row y)) x.runs_are_law
              ∙ (sets_append x.run (row x.others) numbers n
              ∙ (ap (λ y. sets y (n + length x.run) (row x.others)) (ap (sets numbers n) (sym l) ∙ sym q) ∙ ap (λ y. sets numbers' y (row x.others)) g)));
          stores_ends =
              w.stores_ends
              ∙ (ap (λ y. sets ends i (ends_from n y)) x.runs_are_law
              ∙ (ap (λ y. sets (set ends i y) (suc i) (ends_from y x.others)) g ∙ ap (λ y. sets (set ends i m) y (ends_from m x.others)) (sym (add-one i))));
        }
