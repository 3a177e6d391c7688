-- `sum` adds the weights up. Assumes nothing.
use borrow.Author.Rules.{rules}
use mathlib.Core.Path.{◌≡◌, ◌∙◌}
use Rattle.std.specs.List.{sum}
use Rattle.weights.proofs.Named.{sum_is}
use Rattle.weights.proofs.sum.Goals as goal

pub returns : goal.returns
returns c =
    let e : c.sum.result ≡ sum c.args.weights.now = search rules in e ∙ sum_is c.args.weights.now
