-- `misweighed` finds the first weight outside 1 to 255. Assumes nothing.
use Rattle.std.proofs.Common.{◌≡◌, ℕ, suc, add-one, Bool, true, false, ◌||◌, eqb, ltb, List, [], ◌∷◌, refl, ap, ◌∙◌, rules, tests}
use Rattle.std.specs.List.{position_from}
use Rattle.std.proofs.lemmas.Iterator.{YieldsList-from_slice}
use Rattle.std.proofs.lemmas.Iterator.Search.{position_from_yields_List}
use Rattle.std.proofs.lemmas.Iterator.Adapters.{position_from-zero}
use mathlib.Core.Logic.{⊎_elim}
use Rattle.model.proofs.Tests.{both}
use Rattle.model.specs.Refusals.{misweighed}
use Rattle.model.specs.Runs.{most_weight}
use Rattle.rising.specs.Found.{found_place}
use Rattle.first_checks.proofs.misweighed.Goals as goal

abbrev outside : ℕ → Bool
outside w = eqb w 0 || ltb most_weight w

first : (i : ℕ) (weights : List ℕ) → found_place (position_from outside i weights) ≡ misweighed i weights
unfolding misweighed
first i [] = refl
first i (w ∷ weights) =
    ⊎_elim (λ (e : outside w ≡ true). rw (e, misweighed))
    (λ (e : outside w ≡ false). rw (e, add-one i, misweighed) (first (suc i) weights))
    (both (outside w))

pub returns : goal.returns
returns c =
    let s = c.args.weights.now in
    let p = position_from_yields_List outside _ _ c.position.result c.position.ensures.ran (YieldsList-from_slice s cc) (λ x b q k. search (rules, tests)) in
    ap found_place (p ∙ position_from-zero outside s) ∙ first 0 s
