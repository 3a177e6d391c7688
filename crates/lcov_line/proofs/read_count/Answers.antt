-- `read_count` gives the record by the digits of its count. Assumes nothing.
use Rattle.std.proofs.Common.{◌≡◌, ◌≢◌, Ok, take, sym, ap, ◌∙◌}
use mathlib.Core.Logic.{inl, inr, ⊎_elim}
use mathlib.Core.Option.{some}
use Rattle.model.proofs.Tests.{eq_or_ne}
use Rattle.lcov_form.specs.Form.{counted}
use Rattle.text_read.specs.Numbers.{value}
use Rattle.text_read.specs.Pieces.{until}
use Rattle.text_read.proofs.Values.{leading_zero, leading_above}
use Rattle.lcov_line.specs.Records.{record_is}
use Rattle.lcov_line.proofs.Values.{passes_over, covers, no_count, count_zero, count_above, piece_stands, piece_none, piece_empty}
use Rattle.lcov_line.proofs.read_count.Goals as goal
use Rattle.lcov_line.proofs.read_count.Goals.{else-end-text-via-then-end-text+else-text-end-ne44, else-end-text-via-else-end-text}

pub returns-then-end-eq0 : goal.returns-then-end-eq0
returns-then-end-eq0 c =
    let a = c.args in
    sym (ap (counted (some a.number)) (piece_empty a.text.now c.leading_digits-count.result c.leading_digits-count.ensures c.if-end-eq0.true) ∙ no_count a.number)

pub returns-then-text-end-ne44 : goal.returns-then-text-end-ne44
returns-then-text-end-ne44 c =
    let a = c.args in
    sym
    (ap (counted (some a.number)) (piece_none a.text.now c.leading_digits-count.result c.leading_digits-count.ensures c.if-end-text.true c.if-text-end-ne44.true)
    ∙ no_count a.number)

pub returns : goal.returns
returns c =
    let a = c.args in
    let d = c.leading_digits-count in
    let stands : until 44 a.text.now ≡ d.result.count =
    piece_stands a.text.now d.result d.ensures
    (elim c.else-end-text.branch [
      | else-end-text-via-then-end-text+else-text-end-ne44 w ↦ inl (w.if-end-text.true, w.if-text-end-ne44.false)
      | else-end-text-via-else-end-text w ↦ inr w.if-end-text.false
    ]) in
    let counts = ap (λ n. counted (some a.number) (value (take n a.text.now))) stands in
    ⊎_elim
    (λ (z : d.result.value ≡ 0).
    ap (λ o. record_is (Ok o)) c.then_some.ensures
    ∙ (passes_over a.number d.result.value z
    ∙ sym (counts ∙ (ap (counted (some a.number)) (leading_zero a.text.now d.result d.ensures c.if-end-eq0.false z) ∙ count_zero a.number c.requires))))
    (λ (z : d.result.value ≢ 0).
    let (n, p) = leading_above a.text.now d.result d.ensures z in
    ap (λ o. record_is (Ok o)) c.then_some.ensures
    ∙ (covers a.number d.result.value z ∙ sym (counts ∙ (ap (counted (some a.number)) p.0 ∙ count_above a.number n c.requires p.1))))
    (eq_or_ne d.result.value 0)
