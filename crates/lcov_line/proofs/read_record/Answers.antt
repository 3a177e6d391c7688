-- `read_record` gives the record that a line is. Assumes nothing.
use Rattle.std.proofs.Common.{[], ◌∷◌, sym, ap, ◌∙◌}
use Rattle.lcov_form.specs.Form.{values}
use Rattle.text_read.specs.Pieces.{split}
use Rattle.text_match.proofs.Matches.{begins_is}
use Rattle.lcov_form.proofs.Records.{data_record, other_record}
use Rattle.lcov_line.proofs.read_record.Goals as goal

pub returns-in-Some : goal.returns-in-Some
returns-in-Some c =
    let l = c.args.line.now in
    let e = c.in-Some.ensures.cases in
    c.read_values.ensures ∙ (ap (λ x. values (split 44 x)) e.1 ∙ sym (data_record l (begins_is (68 ∷ 65 ∷ 58 ∷ []) l ∙ e.0)))

pub returns-in-None : goal.returns-in-None
returns-in-None c = let l = c.args.line.now in sym (other_record l (begins_is (68 ∷ 65 ∷ 58 ∷ []) l ∙ c.in-None.ensures.cases))
