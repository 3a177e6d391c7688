-- A run passed over along the parts of a certificate: its bins up to a gap's last copied one by one, an answer's bin passed over, and what is due from the
-- next part on. Assumes nothing.
use Prim.Native.Nat.{ℕ, suc, ◌+◌, ◌≤◌, ◌<◌}
use lib.ListN.{length, get_or, take, drop, set, drop_of_length-le}
use lib.Seq.{drop-cons}
use mathlib.Core.List.{List, [], ◌∷◌, ◌++◌}
use mathlib.Core.Path.{◌≡◌, refl, sym, ap, ◌∙◌}
use native.Mathlib.Numerals.{add-one}
use native.Mathlib.Omega.{arith}
use Rattle.field_read.specs.Held.{parts_held}
use Rattle.field_read.specs.Reading.{part_of}
use Rattle.field_read.specs.declared.Part as code
use Rattle.field_read.specs.declared.Part.TheVariants.{Answer, Gap}
use Rattle.model.proofs.From.{from_nil, from_pass, from_stop, rank_nil, rank_pass, rank_stop}
use Rattle.model.specs.Certificate.{Part, answer, gap}
use Rattle.model.specs.Runs.{from, rank, one}
use Rattle.insertion_rank.proofs.Passed.{passed_nil, drop_after}
use Rattle.insertion_rank.specs.Passed.{begins_with, passed_over}
use Rattle.row_fill.proofs.Keeping.{Keeping, keeping_start, keeping_end, keeping_full, keeping_put, keeping_on, keeping_cut}
use Rattle.row_fill.specs.Keeps.{Keeps}
use Rattle.std.specs.Prelude.{Ok, Err}
use Rattle.refusal.specs.declared.Reason.{Reason}
use Rattle.refusal.specs.declared.Reason.TheVariants.{AnswersFull}
use Rattle.query_difference.specs.Gaps.{in_gaps, Copies}
use Rattle.query_difference.specs.declared.Copied.{Copied}

-- ---- the bins up to a gap's last

abbrev up_to : ℕ → List ℕ → List ℕ
up_to last s = take (rank (suc last) s) s

-- The bins up to `last` before a place are written, and the run goes on there.
pub record Copying (run : List ℕ) (last place : ℕ) (row now : List ℕ) (count at n : ℕ) : Type 0 where
  pub onward : from (suc last) (drop at run) ≡ from (suc last) (drop place run)
  pub kept : Keeping (take count row ++ up_to last (drop place run)) row now n (up_to last (drop at run))

pub copying_start : (run : List ℕ) (last place : ℕ) (row : List ℕ) (count : ℕ) → count ≤ length row → Copying run last place row row count place count
copying_start run last place row count h = record { onward = refl; kept = keeping_start row count _ h }

module _ {run : List ℕ} {last place : ℕ} {row now : List ℕ} {count at n : ℕ} (c : Copying run last place row now count at n) where
  pub copying_end : length run ≤ at → Copies run (drop place run) last (take count row) row now (Ok (record { place = length run; count = n }))
  copying_end h =
      let d = drop_of_length-le run h in
      let l : length run ≤ length run = omega arith in
      let k : Keeping _ row now n [] = rw (d, rank_nil (suc last)) at c.kept in
      (drop_of_length-le run l ∙ (sym (from_nil (suc last)) ∙ (rw d at c.onward)), keeping_end k)

  module _ (h : at < length run) where
    front : drop at run ≡ get_or run at 0 ∷ drop (suc at) run
    front = drop-cons run at 0 h

    pub copying_stop : last < get_or run at 0 → Copies run (drop place run) last (take count row) row now (Ok (record { place = at; count = n }))
    copying_stop l =
        let k : Keeping _ row now n [] = rw (front, rank_stop (suc last) (get_or run at 0) (drop (suc at) run) l) at c.kept in
        let e : from (suc last) (drop at run) ≡ drop at run = rw front (from_stop (suc last) (get_or run at 0) (drop (suc at) run) l) in
        (sym e ∙ c.onward, keeping_end k)

    due : get_or run at 0 ≤ last → Keeping (take count row ++ up_to last (drop place run)) row now n (get_or run at 0 ∷ up_to last (drop (suc at) run))
    due l =
        let i : get_or run at 0 < suc last = omega arith in
        rw (front, rank_pass (suc last) (get_or run at 0) (drop (suc at) run) i) at c.kept

    pub copying_full : get_or run at 0 ≤ last → n ≡ length now → Copies run (drop place run) last (take count row) row now (Err AnswersFull)
    copying_full l e = keeping_full (due l) (e ∙ c.kept.same)

    pub copying_on : get_or run at 0 ≤ last → n < length now → Copying run last place row (set now n (get_or run at 0)) count (at + 1) (n + 1)
    copying_on l i =
        let s = c.kept.same in
        let p : get_or run at 0 < suc last = omega arith in
        rw (add-one at, add-one n)
        (record {
          onward = sym (rw front (from_pass (suc last) (get_or run at 0) (drop (suc at) run) p)) ∙ c.onward;
          kept = keeping_put (due l) (omega arith);
        })

-- ---- the parts

-- what is due from a place of the run and an offset of the certificate on, and a pass that has come there
abbrev due_from : List ℕ → List ℕ → ℕ → ℕ → List ℕ
due_from run certificate place at = in_gaps (parts_held (drop at certificate)) (drop place run)

pub record Passing (run certificate row now : List ℕ) (place at count : ℕ) : Type 0 where
  pub kept : Keeping (in_gaps (parts_held certificate) run) row now count (due_from run certificate place at)

pub passing_start : (run certificate row : List ℕ) → Passing run certificate row row 0 0 0
passing_start run certificate row = record { kept = keeping_start row 0 _ (omega arith) }

none_due : (ps : List Part) (s : List ℕ) → ps ≡ [] → in_gaps ps s ≡ []
unfolding in_gaps
none_due ps s e = rw e

run_passed : (ps : List Part) → in_gaps ps [] ≡ []
unfolding in_gaps
run_passed [] = refl
run_passed (gap f l m ∷ ps) = rw (rank_nil (suc l), from_nil (suc l)) (run_passed ps)
run_passed (answer v m ∷ ps) = rw (passed_nil v) (run_passed ps)

gap_due : (ps qs : List Part) {part : code.Part} {first last named : ℕ} (s : List ℕ) → ps ≡ part_of part ∷ qs → part ≡ Gap first last named
    → in_gaps ps s ≡ up_to last s ++ in_gaps qs (from (suc last) s)
unfolding in_gaps part_of
gap_due ps qs s e g = rw (e, g)

answer_due : (ps qs : List Part) {part : code.Part} {value named : ℕ} (s : List ℕ) → ps ≡ part_of part ∷ qs → part ≡ Answer value named
    → in_gaps ps s ≡ in_gaps qs (passed_over value s)
unfolding in_gaps part_of
answer_due ps qs s e g = rw (e, g)

module _ {run certificate row now : List ℕ} {place at count : ℕ} (k : Passing run certificate row now place at count) where
  pub passing_end : parts_held (drop at certificate) ≡ [] → Keeps (in_gaps (parts_held certificate) run) row now (Ok count)
  passing_end e = keeping_end (rw (none_due (parts_held (drop at certificate)) (drop place run) e) at k.kept)

  pub passing_done : length run ≤ place → Keeps (in_gaps (parts_held certificate) run) row now (Ok count)
  passing_done h =
      let k₀ : Keeping _ row now count (in_gaps (parts_held (drop at certificate)) []) = rw (drop_of_length-le run h) at k.kept in
      keeping_end (rw (run_passed (parts_held (drop at certificate))) at k₀)

  module _ {part : code.Part} (next : ℕ) (h : parts_held (drop at certificate) ≡ part_of part ∷ parts_held (drop next certificate)) where
    module _ {first last named : ℕ} (g : part ≡ Gap first last named) where
      abbrev later_due : List ℕ
      later_due = in_gaps (parts_held (drop next certificate)) (from (suc last) (drop place run))

      kept_gap : Keeping (in_gaps (parts_held certificate) run) row now count (up_to last (drop place run) ++ later_due)
      kept_gap = rw (gap_due (parts_held (drop at certificate)) (parts_held (drop next certificate)) (drop place run) h g) at k.kept

      pub passing_gap : {o : Copied} {row' : List ℕ} → Copies run (drop place run) last (take count now) now row' (Ok o)
          → Passing run certificate row row' o.place next o.count
      passing_gap {o} {row'} c = record { kept = rw c.0 (keeping_on (up_to last (drop place run)) later_due row' kept_gap c.1) }

      pub passing_full : {reason : Reason} {row' : List ℕ} → Copies run (drop place run) last (take count now) now row' (Err reason)
          → Keeps (in_gaps (parts_held certificate) run) row row' (Err reason)
      passing_full {reason} {row'} c = keeping_cut (up_to last (drop place run)) later_due row' kept_gap c

    pub passing_answer : {value named p : ℕ} → part ≡ Answer value named → p ≡ place + one (begins_with value (drop place run))
        → Passing run certificate row now p next count
    passing_answer {value} g e =
        let d = ap (λ i. drop i run) e ∙ drop_after value run place in
        record { kept = rw d (rw (answer_due (parts_held (drop at certificate)) (parts_held (drop next certificate)) (drop place run) h g) at k.kept) }
