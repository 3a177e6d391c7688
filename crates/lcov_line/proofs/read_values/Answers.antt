-- `read_values` gives the record that follows `DA:`. Assumes nothing.
use Rattle.std.proofs.Common.{sym, ap, ◌∙◌, arith}
use mathlib.Core.Option.{some}
use Rattle.model.specs.Runs.{past_bin}
use Rattle.lcov_form.specs.Form.{counted}
use Rattle.text_read.specs.Numbers.{value}
use Rattle.lcov_form.proofs.Records.{piece}
use Rattle.lcov_line.proofs.Values.{count_inside, after_comma, comma_follows, no_comma, zero_line, large_line, line_counted}
use Rattle.lcov_line.proofs.read_values.Goals as goal
use Rattle.lcov_line.proofs.read_values.Goals.{then-line-eq0-via-then-line-eq0, then-line-eq0-via-else-line-eq0+then-line-ge-PAST_BIN}

pub slice_bounds-strip_prefix-count : goal.slice_bounds-strip_prefix-count
slice_bounds-strip_prefix-count c = count_inside c.args.text.now c.leading_digits-line.result c.leading_digits-line.ensures

pub slice_bounds-strip_prefix-start : goal.slice_bounds-strip_prefix-start
slice_bounds-strip_prefix-start c = let h = count_inside c.args.text.now c.leading_digits-line.result c.leading_digits-line.ensures in omega (arith, h)

pub returns-in_default : goal.returns-in_default
returns-in_default c = sym (no_comma c.args.text.now c.leading_digits-line.result c.leading_digits-line.ensures c.in_default.ensures.cases)

pub returns-then-line-eq0 : goal.returns-then-line-eq0
unfolding past_bin
returns-then-line-eq0 c =
    let t = c.args.text.now in
    let d = c.leading_digits-line in
    let h = comma_follows t d.result.count c.in-Some.ensures.cases.0 in
    elim c.then-line-eq0.branch [
      | then-line-eq0-via-then-line-eq0 w ↦ sym (zero_line t d.result d.ensures h.0 h.1 w.if-line-eq0.true)
      | then-line-eq0-via-else-line-eq0+then-line-ge-PAST_BIN w ↦ sym (large_line t d.result d.ensures h.0 h.1 w.if-line-ge-PAST_BIN.true)
    ]

pub returns : goal.returns
unfolding past_bin
returns c =
    let t = c.args.text.now in
    let d = c.leading_digits-line in
    let h = comma_follows t d.result.count c.in-Some.ensures.cases.0 in
    c.read_count.ensures
    ∙ (ap (λ x. counted (some d.result.value) (value (piece x))) (c.in-Some.ensures.cases.1 ∙ after_comma t d.result.count)
    ∙ sym (line_counted t d.result d.ensures h.0 h.1 c.if-line-eq0.false c.if-line-ge-PAST_BIN.false))
