-- An accepted question prints the lines of the whole certificate: what its buffer holds in the bytes returned are the parts that the walk wrote.
-- Assumes nothing.
use Prim.Native.Nat.{ℕ, ◌-◌, ◌^◌}
use lib.ListN.{length, take}
use lib.Seq.{take-length}
use mathlib.Core.List.{List, ◌++◌}
use mathlib.Core.Path.{◌≡◌, refl, ap, ◌∙◌, subst}
use native.Mathlib.Omega.{arith}
use Rattle.model.proofs.Checking.{Narrow, chosen_narrow}
use Rattle.model.proofs.Demands.{demand2}
use Rattle.model.proofs.FirstChecks.{first_passed, every_run}
use Rattle.model.specs.Certificate.{encode}
use Rattle.model.specs.Compared.{whole_certificate}
use Rattle.model.specs.Demands.{Fits, answers_in, parts_in, bytes_in, refused_by, Certified}
use Rattle.model.specs.Refusals.{Check, passed, refusal, first_checks, accepted, refused, checked_first, answered_by, query}
use Rattle.model.specs.Runs.{Run, past_bin, runs}
use Rattle.field_read.specs.Held.{parts_held}
use Rattle.hits_parts.specs.Parts.{part_lines}
use Rattle.hits_render.specs.Text.{done_line, rendered}
use Rattle.field_read.proofs.Held.{held_encode}

-- what a certified outcome prints
certified_prints : (rs : List Run) (t : ℕ) (answers certificate : List ℕ) (a n b d h : ℕ) → Narrow rs → Certified rs t 0 n answers (take b certificate)
    → rendered (accepted a n b d h) certificate ≡ part_lines (whole_certificate t rs) ++ done_line a n d h
unfolding rendered bytes_in
certified_prints rs t answers certificate a n b d h k c =
    let e = c.at_the_end refl in
    let whole = whole_certificate t rs in
    let i : take b certificate ≡ encode whole = c.written ∙ ap encode (ap (λ m. take m whole) e ∙ take-length whole) in
    let j : parts_held (take b certificate) ≡ whole = ap parts_held i ∙ held_encode whole k c.whole_true.covering c.whole_true.each in
    ap (λ ps. part_lines ps ++ done_line a n d h) j

-- An accepted question prints a line for each part of the whole certificate, and then its counts.
pub accepted_prints : (numbers ends : List ℕ) (t allowance : ℕ) (answers certificate : List ℕ) → Fits past_bin numbers → (a n b d h : ℕ)
    → (query numbers ends t allowance answers certificate).outcome ≡ accepted a n b d h
    → rendered (accepted a n b d h) (query numbers ends t allowance answers certificate).certificate
    ≡ part_lines (whole_certificate t (runs numbers ends)) ++ done_line a n d h
unfolding query answered_by checked_first refused_by parts_in answers_in bytes_in
accepted_prints numbers ends t allowance answers certificate f a n b d h o = go (first_checks numbers ends t) refl
  where
    go : (c : Check) → first_checks numbers ends t ≡ c
        → rendered (accepted a n b d h) (query numbers ends t allowance answers certificate).certificate
        ≡ part_lines (whole_certificate t (runs numbers ends)) ++ done_line a n d h
    go passed e =
        let k = chosen_narrow numbers ends (2 ^ length ends - 1) (first_passed numbers ends t e).few_runs in
        certified_prints (runs numbers ends) t _ _ a n b d h (subst Narrow (every_run numbers ends) k)
        (rw o at ((demand2 numbers ends t allowance answers certificate f).for_every e))
    go (refusal m p) e =
        let s : refused m p 0 0 0 0 ≡ accepted a n b d h = rw e at o in
        absurd (let z : ◌≡◌ {A = ℕ} 0 1 = cc in omega arith)
