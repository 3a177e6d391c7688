-- `closes` compares a line with a text. Assumes nothing.
use Rattle.std.proofs.Common.{sym, ap, ◌∙◌}
use Rattle.std.specs.Cmp.Lexicographic.{pointwise}
use lib.Dec.{eqb}
use Rattle.lcov_form.specs.Form.{closes}
use Rattle.text_read.specs.Text.{bytes}
use Rattle.text_match.proofs.Matches.{same_is}
use Rattle.lcov_line.proofs.closes.Goals as goal

pub returns : goal.returns
unfolding closes bytes
returns c = c.eq.ensures ∙ (ap (pointwise eqb c.args.line.now) c.as_slice.ensures ∙ sym (same_is _ c.args.line.now))
