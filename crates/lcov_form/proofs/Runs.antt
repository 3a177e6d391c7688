-- What holds of every run read: it fits the row, it rises, and it is the front of the section's covered lines, all of them where nothing is refused.
-- Assumes nothing.
use Prim.Native.Nat.{ℕ, suc, ◌+◌, ◌≤◌}
use borrow.Author.Tests.{lt-ltb}
use lib.ListN.{length, take}
use mathlib.Core.List.{List, [], ◌∷◌}
use mathlib.Core.Logic.{◌≢◌}
use mathlib.Core.Option.{none}
use mathlib.Core.Path.{◌≡◌, refl, sym, ap, ◌∙◌}
use native.Mathlib.Omega.{arith}
use Rattle.model.specs.Refusals.{Check, passed, refusal}
use Rattle.model.specs.Runs.{first_bin, from, unrisen_after, unrisen, unrisen_run}
use Rattle.model.proofs.FirstChecks.{after_next}
use Rattle.model.proofs.From.{from_nil}
use Rattle.model.proofs.Zeros.{others_kept, others_checked}
use Rattle.lcov_form.specs.Form.{Line, Section, ◌and_then◌, covered, passed_over, record_of}
use Rattle.lcov_form.specs.Reading.{stop, write, read_from, covered_in}
use Rattle.lcov_form.proofs.Steps.{by_lines}

pub run_fits : (size room n last : ℕ) (s : Section) → n ≤ room → n + length (read_from size room n last s).run ≤ room
unfolding stop write
run_fits size room =
    by_lines size room
    (λ n last s r. n ≤ room → n + length r.run ≤ room)
    (λ n last h. omega arith)
    (λ n last h. omega arith)
    (λ n last line rest e h. omega arith)
    (λ n last line rest r e i h. i h)
    (λ n last line rest x e k h. omega arith)
    (λ n last line rest x e k f h. omega arith)
    (λ n last line rest x r e k f i h. let m = i (omega arith) in omega (arith, m))

number_of : Check → ℕ
number_of passed = 0
number_of (refusal number place) = number

refused : {number place : ℕ} → refusal (suc number) place ≡ passed → ⊥
unfolding number_of
refused e = let z = ap number_of e in omega (arith, z)

numbers : {number place number' place' : ℕ} → refusal number place ≡ refusal number' place' → number ≡ number'
unfolding number_of
numbers e = ap number_of e

covered_on : (line : Line) (rest : Section) (x : ℕ) → record_of line.text ≡ covered x → covered_in (line and_then rest) ≡ x ∷ covered_in rest
unfolding covered_in
covered_on line rest x e = rw (e, covered_in)

covered_passed : (line : Line) (rest : Section) → record_of line.text ≡ passed_over → covered_in (line and_then rest) ≡ covered_in rest
unfolding covered_in
covered_passed line rest e = rw (e, covered_in)

pub run_front : (size room n last : ℕ) (s : Section) → (let r = read_from size room n last s in r.run ≡ take (length r.run) (covered_in s))
unfolding stop write
run_front size room =
    by_lines size room
    (λ n last s r. r.run ≡ take (length r.run) (covered_in s))
    (λ n last. refl)
    (λ n last. refl)
    (λ n last line rest e. refl)
    (λ n last line rest r e i. i ∙ ap (take (length r.run)) (sym (covered_passed line rest e)))
    (λ n last line rest x e k. refl)
    (λ n last line rest x e k f. refl)
    (λ n last line rest x r e k f i. ap (x ∷◌) i ∙ ap (take (suc (length r.run))) (sym (covered_on line rest x e)))

pub run_whole : (size room n last : ℕ) (s : Section) → (let r = read_from size room n last s in r.check ≡ passed → r.run ≡ covered_in s)
unfolding stop write covered_in
run_whole size room =
    by_lines size room
    (λ n last s r. r.check ≡ passed → r.run ≡ covered_in s)
    (λ n last p. refl)
    (λ n last p. absurd (refused p))
    (λ n last line rest e p. absurd (refused p))
    (λ n last line rest r e i p. i p ∙ sym (covered_passed line rest e))
    (λ n last line rest x e k p. absurd (refused p))
    (λ n last line rest x e k f p. absurd (refused p))
    (λ n last line rest x r e k f i p. ap (x ∷◌) (i p) ∙ sym (covered_on line rest x e))

pub run_rises : (size room n last : ℕ) (s : Section) (i : ℕ) → unrisen_after i last (read_from size room n last s).run ≡ none
unfolding stop write unrisen_after
run_rises size room =
    by_lines size room
    (λ n last s r. (i : ℕ) → unrisen_after i last r.run ≡ none)
    (λ n last i. refl)
    (λ n last i. refl)
    (λ n last line rest e i. refl)
    (λ n last line rest r e h i. h i)
    (λ n last line rest x e k i. refl)
    (λ n last line rest x e k f i. refl)
    (λ n last line rest x r e k f h i. rw (lt-ltb last x k, unrisen_after) (h (suc i)))

-- what rises after 0 is all bins, and rises from any place on
after_any : (i j x : ℕ) (s : List ℕ) → unrisen_after i x s ≡ none → unrisen_after j x s ≡ none
unfolding unrisen_after
after_any i j x [] e = refl
after_any i j x (y ∷ s) e =
    let n = after_next i x y s e in
    rw (lt-ltb x y n.0, unrisen_after) (after_any (suc i) (suc j) y s n.1)

pub all_bins : (s : List ℕ) → unrisen_after 0 0 s ≡ none → from first_bin s ≡ s
all_bins [] e = from_nil first_bin
all_bins (x ∷ s) e = others_kept x s (after_next 0 0 x s e).0

pub after_zero : (place : ℕ) (s : List ℕ) → unrisen_after 0 0 s ≡ none → unrisen_run place s ≡ none
unfolding from unrisen unrisen_run
after_zero place [] e = refl
after_zero place (x ∷ s) e = let n = after_next 0 0 x s e in others_checked place x s n.0 ∙ after_any 1 place x s n.1

-- a row with room for all covered lines is never too short
pub run_room : (size room n last : ℕ) (s : Section) → n + length (covered_in s) ≤ room → (place : ℕ) → (read_from size room n last s).check ≢ refusal 5 place
unfolding stop write
run_room size room =
    by_lines size room
    (λ n last s r. n + length (covered_in s) ≤ room → (place : ℕ) → r.check ≢ refusal 5 place)
    (λ n last h p e. refused (sym e))
    (λ n last h p e. absurd (let z = numbers e in omega (arith, z)))
    (λ n last line rest e h p q. absurd (let z = numbers q in omega (arith, z)))
    (λ n last line rest r e i h p. i (let z = ap length (covered_passed line rest e) in omega (arith, z, h)) p)
    (λ n last line rest x e k h p q. absurd (let z = numbers q in omega (arith, z)))
    (λ n last line rest x e k f h p q. absurd (let z = ap length (covered_on line rest x e) in omega (arith, z, h)))
    (λ n last line rest x r e k f i h p. i (let z = ap length (covered_on line rest x e) in omega (arith, z, h)) p)
