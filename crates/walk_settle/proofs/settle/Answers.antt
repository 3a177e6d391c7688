-- `settle` writes the floor as an answer where the runs whose heads equal it weigh enough, and moves on. Assumes nothing.
use Prim.Native.Nat.{ℕ, ◌+◌, ◌*◌}
use lib.ListN.{drop}
use mathlib.Core.Path.{◌≡◌, ap, ◌∙◌}
use mathlib.Core.List.{List}
use native.Mathlib.Omega.{arith}
use Rattle.walk_keys.specs.Row.{below_count}
use Rattle.walk_settle.proofs.Passing.{front_asks}
use Rattle.walk_settle.proofs.Settling.{weighs_here, no_answer, answer_stops, stands_after, answer_passes}
use Rattle.walk_settle.proofs.settle.Goals as goal

pub front-here-requires : goal.front-here-requires
front-here-requires c =
    let a = c.args in
    front_asks a.numbers.now a.ends.now a.positions.now a.keys.now a.w.start c.requires.0.few c.requires.0.holds

-- how many runs stand at the floor
counted : (keys : List ℕ) (start : ℕ) {n floor bin : ℕ} → n ≡ below_count ((bin + 1) * 256) (drop start keys) → bin ≡ floor
    → n ≡ below_count ((floor + 1) * 256) (drop start keys)
counted keys start e f = e ∙ ap (λ x. below_count ((x + 1) * 256) (drop start keys)) f

pub weight_here-requires : goal.weight_here-requires
weight_here-requires f =
    let a = f.args in
    weighs_here a.numbers.now a.ends.now a.weights.now a.positions.now a.keys.now a.threshold a.w f.front-here.result.count
    f.front-here.result.named f.requires.0 (counted f.args.keys.now f.args.w.start f.front-here.ensures.0 f.from.ensures) f.front-here.ensures.1

pub returns-then-weight_here-threshold : goal.returns-then-weight_here-threshold
returns-then-weight_here-threshold c =
    let counts = counted c.args.keys.now c.args.w.start c.front-here.ensures.0 c.from.ensures in
    let a = c.args in
    let both = no_answer a.numbers.now a.ends.now a.weights.now a.positions.now a.keys.now a.threshold a.w c.front-here.result.count
    c.front-here.result.named c.requires.0 (counts) c.front-here.ensures.1 a.answers.now a.certificate.now c.weight_here.result c.weight_here.ensures
    c.requires.1 (omega (arith, c.if-weight_here-threshold.true, c.requires.0.some)) in
    record { goes = both.0; settles = both.1 }

pub pass-requires : goal.pass-requires
pass-requires c =
    let counts = counted c.args.keys.now c.args.w.start c.front-here.ensures.0 c.from.ensures in
    let a = c.args in
    stands_after a.numbers.now a.ends.now a.weights.now a.positions.now a.keys.now a.threshold a.w c.front-here.result.count
    c.front-here.result.named c.requires.0 (counts) c.front-here.ensures.1 a.answers.now a.certificate.now c.weight_here.result c.weight_here.ensures
    c.in-Ok.x c.write_answer.new.answers c.write_answer.new.certificate
    c.in-Ok.ensures

pub returns-in-Err : goal.returns-in-Err
returns-in-Err c =
    let counts = counted c.args.keys.now c.args.w.start c.front-here.ensures.0 c.from.ensures in
    let a = c.args in
    let both = answer_stops a.numbers.now a.ends.now a.weights.now a.positions.now a.keys.now a.threshold a.w c.front-here.result.count
    c.front-here.result.named c.requires.0 (counts) c.front-here.ensures.1 a.answers.now a.certificate.now c.weight_here.result c.weight_here.ensures
    c.in-Err.reason c.write_answer.new.answers c.write_answer.new.certificate c.if-weight_here-threshold.false
    c.in-Err.ensures in
    record { goes = both.0; settles = both.1 }

pub returns-in-Ok : goal.returns-in-Ok
returns-in-Ok c =
    let counts = counted c.args.keys.now c.args.w.start c.front-here.ensures.0 c.from.ensures in
    let a = c.args in
    let both = answer_passes a.numbers.now a.ends.now a.weights.now a.positions.now a.keys.now a.threshold a.w c.front-here.result.count
    c.front-here.result.named c.requires.0 (counts) c.front-here.ensures.1 a.answers.now a.certificate.now c.weight_here.result c.weight_here.ensures
    c.in-Ok.x c.write_answer.new.answers c.write_answer.new.certificate c.pass.new.positions c.pass.new.keys
    c.if-weight_here-threshold.false
    c.in-Ok.ensures c.pass.result c.pass.ensures in
    record { goes = both.0; settles = both.1 }
