-- `weight_of` counts the runs that the mask names where the row has no weights, and adds their weights otherwise. Assumes nothing.
use borrow.Author.Rules.{rules}
use mathlib.Core.Path.{sym, ap, ◌∙◌}
use Rattle.weights.specs.Named.{named_weight}
use Rattle.weights.proofs.Named.{no_weights, named_none}
use Rattle.weights.proofs.weight_of.Goals as goal

pub returns-then-is_empty : goal.returns-then-is_empty
returns-then-is_empty c =
    let n = no_weights c.args.weights.now (search rules) in
    c.ones_of.ensures ∙ (sym (named_none c.args.mask c.ranges.mask.fits) ∙ ap (λ w. named_weight w c.args.mask) (sym n))
