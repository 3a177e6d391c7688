-- `ask_in` asks the question and prints what it comes to. Assumes nothing.
use Rattle.std.proofs.Common.{◌≡◌, length, ap, ◌∙◌, arith}
use mathlib.Core.Path.{subst}
use Rattle.std.specs.Prelude.{Some}
use Rattle.model.specs.Refusals.{query}
use Rattle.query.specs.Outcomes.{outcome_is}
use Rattle.hits_render.specs.Text.{rendered, Shows}
use Rattle.hits_ask.specs.Ask.{shown}
use Rattle.hits_ask.proofs.ask_in.Goals as goal

pub returns : goal.returns
unfolding shown
returns c =
    let a = c.args in
    let q = c.query-outcome in
    let r = q.ensures.returns in
    let e : rendered (outcome_is q.result) q.new.certificate ≡ shown (query a.numbers.now a.ends.now a.threshold a.allowance a.answers.now a.certificate.now) =
    λ i. rendered (r.outcome_agrees i) (r.certificate_is i) in
    let k : length q.new.certificate ≡ length a.certificate.now = q.auto.certificate in
    record {
      shows = subst (λ x. Shows x a.text.now c.render.new.text c.render.result) e c.render.ensures.shows;
      enough = λ h. c.render.ensures.enough (omega arith) ∙ ap (λ x. Some (length x)) e;
    }
