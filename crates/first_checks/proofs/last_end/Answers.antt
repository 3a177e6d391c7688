-- `last_end` gives the last end. Assumes nothing.
use Rattle.std.proofs.Common.{◌≡◌, ℕ, suc, ◌-◌, ◌<◌, ◌≤◌, List, [], ◌∷◌, length, get_or, Option, None, Some, MatchOption, Bor, refl, sym, ◌∙◌, arith, rules}
use Rattle.std.specs.List.{HoldsAt}
use Rattle.model.specs.Refusals.{last_end}
use Rattle.first_checks.proofs.last_end.Goals as goal

at_last : (b x : ℕ) (ends : List ℕ) → last_end b (x ∷ ends) ≡ get_or (x ∷ ends) (length ends) 0
unfolding last_end
at_last b x [] = refl
at_last b x (y ∷ ends) = at_last x y ends

last : (ends : List ℕ) (found : Option (Bor ℕ)) (r : ℕ)
    → MatchOption found (length ends ≤ 0) (λ x. (0 < length ends) × HoldsAt (λ y. x.now ≡ y) ends (length ends - 1))
    → MatchOption found (r ≡ 0) (λ x. r ≡ x.now) → r ≡ last_end 0 ends
unfolding last_end
last [] None r h e = e
last (x ∷ ends) None r h e = absurd (omega arith)
last [] (Some x) r h e = absurd (let k = h.0 in omega arith)
last (x ∷ ends) (Some y) r h e = let n : suc (length ends) - 1 ≡ length ends = omega arith in e ∙ ((rw n at (h.1 0)) ∙ sym (at_last 0 x ends))

pub returns : goal.returns
returns c = last c.args.ends.now c.last.result c.map_or.result c.last.ensures.item.3 (search rules)
