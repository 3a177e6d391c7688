-- `opens` compares a line with a text. Assumes nothing.
use Rattle.std.proofs.Common.{sym, ◌∙◌, ◌∷◌, []}
use Rattle.lcov_form.specs.Form.{opens}
use Rattle.text_read.specs.Text.{bytes}
use Rattle.text_match.proofs.Matches.{begins_starts}
use Rattle.lcov_line.proofs.opens.Goals as goal

pub returns : goal.returns
unfolding opens bytes
returns c = c.starts_with.ensures.value ∙ sym (begins_starts (83 ∷ 70 ∷ 58 ∷ []) c.args.line.now)
