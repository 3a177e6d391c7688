-- `weight_here` adds the weights of the runs that the mask names, or counts them where there are none. Assumes nothing.
use Rattle.std.proofs.Common.{◌∙◌, ap, rules, sym}
use Rattle.weights.specs.Named.{named_weight}
use Rattle.weights.proofs.Named.{no_weights, named_none}
use Rattle.walk_settle.proofs.weight_here.Goals as goal

pub returns-then-is_empty : goal.returns-then-is_empty
returns-then-is_empty c =
    let a = c.args in
    let n = no_weights a.weights.now (search rules) in
    c.requires.0 ∙ (sym (named_none a.named c.ranges.named.fits) ∙ ap (λ w. named_weight w a.named) (sym n))

pub named_weight-requires : goal.named_weight-requires
named_weight-requires c = (c.requires.1.few, c.requires.1.within (search rules))
