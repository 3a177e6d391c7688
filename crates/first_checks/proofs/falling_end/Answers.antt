-- `falling_end` finds the first end below the one before. Assumes nothing.
use Rattle.std.proofs.Common.{◌≡◌, ℕ, zero, suc, ◌+◌, ◌-◌, ◌<◌, ◌≤◌, List, [], ◌∷◌, length, get_or, drop, Option, None, Some, MatchOption, refl, sym, ap, ◌∙◌, arith, rules, tests}
use Rattle.std.proofs.Math.Option.{none, some}
use Rattle.std.proofs.lemmas.Iterator.{first_from_Range}
use borrow.Author.Tests.{le-ltb}
use mathlib.Core.Logic.{⊎_elim}
use Rattle.model.proofs.Tests.{lt_or_le}
use Rattle.model.specs.Refusals.{falls_from}
use Rattle.rising.specs.Found.{found_place}
use Rattle.first_checks.proofs.Laws.{falls_at, falls_on, falls_end}
use Rattle.first_checks.proofs.falling_end.Goals as goal

-- an end is not below the one before, and the first that is from index i on
abbrev Rises : List ℕ → ℕ → Type 0
Rises ends k = get_or ends (k - 1) 0 ≤ get_or ends k 0

abbrev falls : List ℕ → ℕ → Rattle.std.proofs.Math.Option.Option ℕ
falls ends i = falls_from (get_or ends (i - 1) 0) i (drop i ends)

falls_start : (ends : List ℕ) → falls_from 0 0 ends ≡ falls ends 1
unfolding falls_from
falls_start [] = refl
falls_start (x ∷ ends) = rw (le-ltb x 0 (omega arith), falls_from)

falls_past : (ends : List ℕ) (i n : ℕ) → 1 ≤ i → i + n ≤ length ends → ((k : ℕ) → i ≤ k → k < i + n → Rises ends k) → falls ends i ≡ falls ends (i + n)
falls_past ends i zero h l f = let z : i ≡ i + 0 = omega arith in ap (falls ends) z
falls_past ends i (suc n) h l f =
    let o : i + n ≡ i + n + 1 - 1 = omega arith in
    let z : i + n + 1 ≡ i + suc n = omega arith in
    falls_past ends i n h (omega arith) (λ k p q. f k p (omega arith))
    ∙ (falls_on (get_or ends (i + n - 1) 0) (i + n) ends (omega arith) (f (i + n) (omega arith) (omega arith))
    ∙ (ap (λ j. falls_from (get_or ends j 0) (i + n + 1) (drop (i + n + 1) ends)) o ∙ ap (falls ends) z))

falls_to : (ends : List ℕ) (j : ℕ) → 1 ≤ j → j ≤ length ends → ((k : ℕ) → 1 ≤ k → k < j → Rises ends k) → falls_from 0 0 ends ≡ falls ends j
falls_to ends j h l f =
    let e : 1 + (j - 1) ≡ j = omega arith in
    falls_start ends ∙ (falls_past ends 1 (j - 1) (omega arith) (omega arith) (λ k p q. f k p (omega arith)) ∙ ap (falls ends) e)

first : (ends : List ℕ) (found : Option ℕ)
    → MatchOption found ((k : ℕ) → 1 ≤ k → k < length ends → Rises ends k)
    (λ i. (1 ≤ i) × (i < length ends) × (get_or ends i 0 < get_or ends (i - 1) 0) × ((k : ℕ) → 1 ≤ k → k < i → Rises ends k))
    → found_place found ≡ falls_from 0 0 ends
first ends None f =
    sym
    (⊎_elim
    (λ (q : 0 < length ends). falls_to ends (length ends) q (omega arith) f ∙ falls_end (get_or ends (length ends - 1) 0) (length ends) ends (omega arith))
    (λ (q : length ends ≤ 0). falls_end 0 0 ends q)
    (lt_or_le 0 (length ends)))
first ends (Some i) f = sym (falls_to ends i f.0 (omega arith) f.3 ∙ falls_at (get_or ends (i - 1) 0) i ends f.1 f.2)

pub returns : goal.returns
returns c =
    let ends = c.args.ends.now in
    first ends c.find.result
    (first_from_Range _ _ _ c.find.result (λ k. get_or ends k 0 < get_or ends (k - 1) 0) (Rises ends) c.find.ensures.ran (λ x q k. search (rules, tests)) (λ x q k. search (rules, tests)))
