-- One turn of the loop that lowers the weight in play, and its last. Assumes nothing.
use Prim.Native.Nat.{ℕ, ◌+◌, ◌^◌, ◌≤◌, ◌<◌}
use lib.ListN.{length, get_or}
use lib.Pow.{pow_pos}
use mathlib.Core.List.{List}
use mathlib.Core.Path.{◌≡◌, ◌∙◌}
use native.Mathlib.Omega.{arith}
use Rattle.mask.proofs.Lowest.{cleared_here, cleared_other}
use Rattle.model.proofs.Masks.{below_only}
use Rattle.model.specs.Runs.{past_bin, bit}
use Rattle.walk_state.proofs.Moving.{Cleared}
use Rattle.walk_state.proofs.InPlay.{if_heads_is, if_heads_on, if_heads_end}
use Rattle.walk_state.specs.State.{runs_at, InPlay, lost_at}
use Rattle.walk_weight.specs.Lowering.{Lowerable, AllHave}
use Rattle.weights.specs.Named.{HasWeight}

module _ (numbers ends ws positions : List ℕ) (rest weight run : ℕ) (small : (i : ℕ) → get_or numbers i 0 < past_bin)
    (h : Lowerable numbers ends ws positions rest weight) (named : bit rest run ≡ 1) where
  pub index : run < length ends
  index = below_only rest (length ends) run h.only named

  pub weighed : HasWeight run ws
  weighed = record { within = λ p. let e = h.row p in let i = index in omega arith }

  module _ (rest' : ℕ) (gone : rest' + 2 ^ run ≡ rest) where
    cleared : Cleared rest rest' run
    cleared = record { here = named; gone = cleared_here rest rest' run named gone; kept = λ j n. cleared_other rest rest' run j named gone n }

    pub lost : lost_at ws run (get_or positions run 0) (get_or ends run 0) ≤ weight
    lost = let s = if_heads_on numbers ends ws positions rest rest' run small h.inside index cleared in let e = h.sum in omega arith

    pub lowerable_on : (weight' : ℕ) → weight' + lost_at ws run (get_or positions run 0) (get_or ends run 0) ≡ weight
        → Lowerable numbers ends ws positions rest' weight'
    lowerable_on weight' l =
        let s = if_heads_on numbers ends ws positions rest rest' run small h.inside index cleared in
        let e = h.sum in
        let p = pow_pos run in
        let o = h.only in
        record { few = h.few; inside = h.inside; only = omega arith; row = h.row; sum = omega arith }

pub lowerable_end : (numbers ends ws positions : List ℕ) (rest weight : ℕ) → Lowerable numbers ends ws positions rest weight → rest ≡ 0
    → InPlay numbers ends ws positions weight
lowerable_end numbers ends ws positions rest weight h e =
    record { row = h.row; sum = h.sum ∙ if_heads_end ws rest (runs_at 0 numbers positions ends) e }

-- where each of the runs has a head, nothing is to be lowered
pub all_have : (numbers ends ws positions : List ℕ) (named weight count kept : ℕ) → Lowerable numbers ends ws positions named weight
    → AllHave numbers ends positions named count kept → kept ≡ count → InPlay numbers ends ws positions weight
all_have numbers ends ws positions named weight count kept h a e =
    record { row = h.row; sum = h.sum ∙ if_heads_is ws named (runs_at 0 numbers positions ends) (a.each e) }
