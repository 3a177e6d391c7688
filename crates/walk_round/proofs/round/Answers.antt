-- `round` ends with the last gap where the weight that the state carries is too little, and goes on from the head up to which the runs weigh enough otherwise. Assumes
-- nothing.
use Prim.Native.Nat.{◌≤◌}
use native.Mathlib.Omega.{arith}
use Rattle.walk_round.proofs.Ending.{reach_ready, last_ready, ends_there, head_fits, advances}
use Rattle.walk_round.proofs.round.Goals as goal

pub last_gap-requires : goal.last_gap-requires
last_gap-requires c =
    let a = c.args in
    last_ready a.numbers.now a.ends.now a.weights.now a.positions.now a.keys.now a.answers.now a.certificate.now a.chosen a.threshold a.w
    c.requires.0 c.requires.1 c.requires.2

pub returns-then-w-threshold : goal.returns-then-w-threshold
returns-then-w-threshold c =
    let a = c.args in
    let both = ends_there a.numbers.now a.ends.now a.weights.now a.positions.now a.keys.now a.answers.now a.certificate.now a.chosen a.threshold a.w
    c.requires.0 c.requires.1 c.requires.2 c.last_gap.new.certificate c.last_gap.result c.if-w-threshold.true c.last_gap.ensures in
    record { goes = both.0; raises = both.1 }

-- enough is in play
enough : (c : goal.Else-w-threshold) → (let a = c.args in a.threshold ≤ a.w.weight)
enough c =
    omega (arith, c.if-w-threshold.false)

pub reached_head-v-requires : goal.reached_head-v-requires
reached_head-v-requires c =
    let a = c.args in
    reach_ready a.numbers.now a.ends.now a.weights.now a.positions.now a.keys.now a.answers.now a.certificate.now a.chosen a.threshold a.w
    c.requires.0 c.requires.1 c.requires.2 (enough c)

pub overflow_cast-v : goal.overflow_cast-v
overflow_cast-v c =
    let a = c.args in
    let b = head_fits a.numbers.now a.ends.now a.weights.now a.positions.now a.keys.now a.answers.now a.certificate.now a.chosen a.threshold a.w
    c.requires.0 c.requires.1 c.requires.2 c.reached_head-v.result c.reached_head-v.ensures in
    record { fits = omega arith }

pub advance-requires : goal.advance-requires
advance-requires c =
    let enough : (let a = c.args in a.threshold ≤ a.w.weight) =
    omega (arith, c.if-w-threshold.false) in
    let a = c.args in (
      c.requires.0,
      c.requires.1,
      c.requires.2,
      advances a.numbers.now a.ends.now a.weights.now a.positions.now a.keys.now a.answers.now a.certificate.now a.chosen a.threshold a.w
          c.requires.0 c.requires.1 c.requires.2 c.reached_head-v.result c.reached_head-v.ensures (enough),
    )
