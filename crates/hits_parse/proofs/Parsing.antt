-- What the parts of `parse` come to: line 1, the lines after it, and the byte past the limit or not read. Assumes nothing.
use Prim.Native.Nat.{ℕ, suc, ◌+◌, ◌≤◌, ◌<◌}
use borrow.Author.Tests.{lt-ltb, le-ltb}
use lib.ListN.{length, take, drop}
use lib.Seq.{take_all}
use mathlib.Core.Bool.{Bool, true, false, or-true, or-false}
use mathlib.Core.List.{List, [], ◌∷◌}
use mathlib.Core.Logic.{◌≢◌}
use mathlib.Core.Path.{◌≡◌, refl, sym, ap, ◌∙◌, subst⁻¹}
use native.Mathlib.Omega.{arith}
use Rattle.model.proofs.Buffers.{over_sets}
use Rattle.hits_limits.specs.Limits.{most_bytes}
use Rattle.hits_input.specs.Input.{heading, no_heading, heading_of, Lines, runs_are, fault_at, Limits, lines_from, limited, row, ends_from, question, refused, result_of, parse_lines, parse}
use Rattle.text_read.specs.Pieces.{split, until}
use Rattle.hits_lines.specs.Lines.{scanned, Within, runs_in, lines_at, Readable, Stored}
use Rattle.hits_parse.specs.Parsed.{Returns}
use Rattle.hits_lines.specs.declared.Counts.{Counts}
use Rattle.hits_lines.specs.declared.Faulty.{Faulty}
use Rattle.hits_lines.proofs.Lines.{counted, faulty}
use Rattle.text_read.proofs.Pieces.{split_last, split_cases, split_found}

-- ---- the scan's answer

scan_fault : (lines : Lines) {line : ℕ} → faulty line ≡ scanned 0 0 lines → lines ≡ fault_at line
unfolding scanned
scan_fault (runs_are rs) e = let z : ◌≡◌ {A = ℕ} 0 1 = cc in absurd (omega arith)
scan_fault (fault_at l) {line} e = let q : ◌≡◌ {A = Faulty} (record { 0 = l }) (record { 0 = line }) = cc in ap (λ f. fault_at f.0) q

limited_fault : (more : Bool) (line : ℕ) → limited more (fault_at line) ≡ fault_at line
unfolding limited
limited_fault true line = refl
limited_fault false line = refl

record Scanned (lines : Lines) (i n : ℕ) : Type 0 where
  no_fault : lines ≡ runs_are (runs_in lines)
  runs_are_law : i ≡ length (runs_in lines)
  numbers_are : n ≡ length (row (runs_in lines))

scan_runs : (lines : Lines) {i n : ℕ} → counted i n ≡ scanned 0 0 lines → Scanned lines i n
unfolding scanned runs_in
scan_runs (runs_are rs) {i} {n} e =
    let r : ◌≡◌ {A = Counts} (record { runs = i; numbers = n }) (record { runs = 0 + length rs; numbers = 0 + length (row rs) }) = cc in
    let p = ap (λ k. k.runs) r in
    let q = ap (λ k. k.numbers) r in
    record { no_fault = refl; runs_are_law = omega arith; numbers_are = omega arith }
scan_runs (fault_at line) e = let z : ◌≡◌ {A = ℕ} 0 1 = cc in absurd (omega arith)

-- ---- the rows

pub ends_length : (start : ℕ) (rs : List (List ℕ)) → length (ends_from start rs) ≡ length rs
unfolding ends_from
ends_length start [] = refl
ends_length start (run ∷ rs) = ap suc (ends_length (start + length run) rs)

-- ---- line 1

pub no_end : (more : Bool) (bytes numbers ends : List ℕ) → until 10 bytes ≡ length bytes
    → Returns (parse_lines more (split 10 bytes) numbers ends) (refused 12 1) numbers ends
unfolding parse_lines result_of
no_end more bytes numbers ends e =
    rw (split_last 10 bytes e) (record { outcome_agrees = refl; numbers_are = refl; ends_are = refl })

module _ (more : Bool) (bytes numbers ends : List ℕ) (end : ℕ) (e : end ≡ until 10 bytes) (h : end ≢ length bytes) where
  pub line_inside : end < length bytes
  line_inside = (split_found 10 bytes end e h).0

  parse_is : parse_lines more (split 10 bytes) numbers ends
      ≡ result_of (heading_of (take end bytes)) (limited more (lines_at (length ends) (length numbers) bytes (end + 1))) numbers ends
  unfolding parse_lines lines_at
  parse_is =
      let limits : Limits = record { runs = length ends; numbers = length numbers } in
      ap (λ x. parse_lines more x numbers ends) (split_found 10 bytes end e h).1
      ∙ split_cases 10 (drop (end + 1) bytes)
      (λ x. parse_lines more (take end bytes ∷ x) numbers ends ≡ result_of (heading_of (take end bytes)) (limited more (lines_from limits 0 0 x)) numbers ends)
      (λ line lines. refl)

  pub no_heading_law : heading_of (take end bytes) ≡ no_heading → Returns (parse_lines more (split 10 bytes) numbers ends) (refused 12 1) numbers ends
  unfolding result_of
  no_heading_law q =
      subst⁻¹ (λ r. Returns r (refused 12 1) numbers ends) (parse_is ∙ ap (λ x. result_of x (limited more (lines_at (length ends) (length numbers) bytes (end + 1))) numbers ends) q)
      (record { outcome_agrees = refl; numbers_are = refl; ends_are = refl })

  module _ {t allowance : ℕ} (q : heading_of (take end bytes) ≡ heading t allowance) where
    result_is : (lines : Lines) → limited more (lines_at (length ends) (length numbers) bytes (end + 1)) ≡ lines
        → parse_lines more (split 10 bytes) numbers ends ≡ result_of (heading t allowance) lines numbers ends
    result_is lines r =
        parse_is
        ∙ (ap (λ x. result_of x (limited more (lines_at (length ends) (length numbers) bytes (end + 1))) numbers ends) q
        ∙ ap (λ x. result_of (heading t allowance) x numbers ends) r)

    refused_at : {line : ℕ} → limited more (lines_at (length ends) (length numbers) bytes (end + 1)) ≡ fault_at line
        → Returns (parse_lines more (split 10 bytes) numbers ends) (refused 12 line) numbers ends
    unfolding result_of
    refused_at {line} r =
        subst⁻¹ (λ x. Returns x (refused 12 line) numbers ends) (result_is (fault_at line) r)
        (record { outcome_agrees = refl; numbers_are = refl; ends_are = refl })

    pub line_fault : {line : ℕ} → faulty line ≡ scanned 0 0 (lines_at (length ends) (length numbers) bytes (end + 1))
        → Returns (parse_lines more (split 10 bytes) numbers ends) (refused 12 line) numbers ends
    line_fault {line} s =
        refused_at (ap (limited more) (scan_fault (lines_at (length ends) (length numbers) bytes (end + 1)) s) ∙ limited_fault more line)

    module _ {i n : ℕ} (s : counted i n ≡ scanned 0 0 (lines_at (length ends) (length numbers) bytes (end + 1))) where
      found : Scanned (lines_at (length ends) (length numbers) bytes (end + 1)) i n
      found = scan_runs (lines_at (length ends) (length numbers) bytes (end + 1)) s

      pub more_refused : more ≡ true → Returns (parse_lines more (split 10 bytes) numbers ends) (refused 12 (i + 2)) numbers ends
      unfolding limited
      more_refused b =
          refused_at
          (ap (λ x. limited x (lines_at (length ends) (length numbers) bytes (end + 1))) b
          ∙ (ap (limited true) found.no_fault ∙ ap (λ x. fault_at (x + 2)) (sym found.runs_are_law)))

      pub readable : length bytes ≤ most_bytes → Readable bytes (end + 1) numbers ends
      readable k = let l = line_inside in record { inside = omega arith; short = k; no_fault = found.no_fault }

      pub stored : more ≡ false → Within (length ends) (length numbers) (counted i n) → {numbers' ends' : List ℕ}
          → Stored bytes (end + 1) numbers ends numbers' ends' → Returns (parse_lines more (split 10 bytes) numbers ends) (question t allowance i n) numbers' ends'
      unfolding limited result_of
      stored b (f, g) {numbers'} {ends'} w =
          let rs = runs_in (lines_at (length ends) (length numbers) bytes (end + 1)) in
          let k = found.runs_are_law in
          let m = found.numbers_are in
          let l = ends_length 0 rs in
          subst⁻¹ (λ x. Returns x (question t allowance i n) numbers' ends')
          (result_is (runs_are rs) (ap (λ x. limited x (lines_at (length ends) (length numbers) bytes (end + 1))) b ∙ found.no_fault))
          (record {
            outcome_agrees = ap (λ x. question t allowance x n) k ∙ ap (question t allowance (length rs)) m;
            numbers_are = w.numbers_are ∙ over_sets (row rs) numbers (omega arith);
            ends_are = w.ends_are ∙ over_sets (ends_from 0 rs) ends (omega arith);
          })

-- ---- the byte past the limit or not read

module _ (failed : Bool) (input numbers ends : List ℕ) where
  pub parse_long : most_bytes < length input → parse failed input numbers ends ≡ parse_lines true (split 10 (take most_bytes input)) numbers ends
  unfolding parse
  parse_long k = rw (lt-ltb most_bytes (length input) k, or-true failed)

  pub parse_short : length input ≤ most_bytes → parse failed input numbers ends ≡ parse_lines failed (split 10 input) numbers ends
  unfolding parse
  parse_short k = rw (le-ltb most_bytes (length input) k, or-false failed, take_all most_bytes input k)
