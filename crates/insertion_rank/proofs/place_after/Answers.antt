-- `place_after` meets its contract: the number at the place decides, if there is one. Assumes nothing.
use Rattle.std.proofs.Common.{◌≡◌, ℕ, ◌<◌, ◌≤◌, eqb, List, length, drop, Option, None, Some, MatchOption, Bor, sym, ◌∙◌, ap, arith}
use Rattle.std.specs.List.{HoldsAt}
use Rattle.std.specs.Option.{option_eq}
use Rattle.model.specs.Runs.{one}
use Rattle.insertion_rank.proofs.Passed.{begins_at, begins_end}
use Rattle.insertion_rank.specs.Passed.{begins_with}
use Rattle.insertion_rank.proofs.place_after.Goals as goal

begins : (s : List ℕ) (place : ℕ) (found : Option (Bor ℕ)) (v : Bor ℕ)
    → MatchOption found (length s ≤ place) (λ x. (place < length s) × HoldsAt (λ y. x.now ≡ y) s place)
    → option_eq (λ x y. eqb x.now y.now) found (Some v) ≡ begins_with v.now (drop place s)
begins s place None v h = sym (begins_end v.now s place h)
begins s place (Some x) v h = ap (λ y. eqb y v.now) (h.1 0) ∙ sym (begins_at v.now s place h.0)

pub returns-then-eq : goal.returns-then-eq
unfolding one
returns-then-eq c =
    let a = c.args in
    let e = c.if-eq.ensures ∙ begins a.list.now a.place c.get.result _ c.get.ensures.lookup.3 in
    rw (← e, one)

pub returns-else-eq : goal.returns-else-eq
unfolding one
returns-else-eq c =
    let a = c.args in
    let e = c.if-eq.ensures ∙ begins a.list.now a.place c.get.result _ c.get.ensures.lookup.3 in
    rw (← e, one) (omega arith)
