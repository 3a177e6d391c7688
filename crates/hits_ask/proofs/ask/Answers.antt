-- `ask` lends the program's buffers to the question. Assumes nothing.
use Rattle.std.proofs.Common.{length, ap, refl, ◌∙◌, arith}
use mathlib.Core.Path.{subst}
use Rattle.std.specs.Prelude.{Some}
use Rattle.model.specs.Demands.{Fits}
use Rattle.model.specs.Runs.{past_bin}
use Rattle.model.proofs.FirstChecks.{fits}
use Rattle.hits_render.specs.Text.{Shows}
use Rattle.hits_limits.specs.Limits.{most_text, answer_room, certificate_room}
use Rattle.hits_ask.proofs.Asking.{ask_text}
use Rattle.hits_ask.proofs.ask.Goals as goal

pub returns : goal.returns
unfolding most_text past_bin answer_room certificate_room
returns c =
    let a = c.args in
    let f : Fits past_bin a.numbers.now = fits past_bin a.numbers.now (λ i. omega (arith, c.type_inv.numbers i)) in
    let e = ask_text a.numbers.now a.ends.now a.threshold a.allowance _ _ f refl refl in
    record {
      shows = subst (λ x. Shows x a.text.now c.ask_in.new.text c.ask_in.result) e c.ask_in.ensures.shows;
      enough = λ h. c.ask_in.ensures.enough (omega arith) ∙ ap (λ x. Some (length x)) e;
    }
