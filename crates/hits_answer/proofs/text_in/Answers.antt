-- `text_in` reads the question and prints what it comes to, or prints the line at fault. Assumes nothing.
use Rattle.std.proofs.Common.{◌≤◌, length, sym, ap, ◌∙◌, arith, length-take-le}
use mathlib.Core.Path.{subst}
use Rattle.std.specs.Prelude.{Some}
use Rattle.hits_render.specs.Text.{Shows}
use Rattle.hits_limits.specs.Limits.{most_text}
use Rattle.hits_answer.proofs.Printing.{refusal_text, question_text, question_fits}
use Rattle.hits_answer.proofs.text_in.Goals as goal
use Rattle.hits_answer.proofs.text_in.Goals.{In-Ok}

-- the numbers and the runs of the question lie in the rows
rows : (c : In-Ok) → (c.in-Ok.question.count ≤ length c.parse.new.numbers) × (c.in-Ok.question.runs ≤ length c.parse.new.ends)
rows c = let a = c.args in question_fits a.failed a.input.now a.numbers.now a.ends.now _ _ _ _ _ _ c.in-Ok.ensures

pub slice_bounds-ask-end : goal.slice_bounds-ask-end
slice_bounds-ask-end c = (rows (goal.at.slice_bounds-ask-end c).In-Ok).0

pub slice_bounds-ask-end-in-Ok : goal.slice_bounds-ask-end-in-Ok
slice_bounds-ask-end-in-Ok c = sym (length-take-le c.in-Ok.question.count c.parse.new.numbers (rows (goal.at.slice_bounds-ask-end-in-Ok c).In-Ok).0)

pub slice_bounds-ask-end-in-Ok-2 : goal.slice_bounds-ask-end-in-Ok-2
slice_bounds-ask-end-in-Ok-2 c = (rows (goal.at.slice_bounds-ask-end-in-Ok-2 c).In-Ok).1

pub slice_bounds-ask-end-in-Ok-3 : goal.slice_bounds-ask-end-in-Ok-3
slice_bounds-ask-end-in-Ok-3 c = sym (length-take-le c.in-Ok.question.runs c.parse.new.ends (rows (goal.at.slice_bounds-ask-end-in-Ok-3 c).In-Ok).1)

pub returns-in-Ok : goal.returns-in-Ok
returns-in-Ok c =
    let a = c.args in
    let e = question_text a.failed a.input.now a.numbers.now a.ends.now _ _ _ _ _ _ c.requires.0 c.requires.1 c.in-Ok.ensures in
    record {
      shows = subst (λ x. Shows x a.text.now c.ask.new.text c.ask.result) e c.ask.ensures.shows;
      enough = λ h. c.ask.ensures.enough h ∙ ap (λ x. Some (length x)) e;
    }

pub returns-in-Err : goal.returns-in-Err
unfolding most_text
returns-in-Err c =
    let a = c.args in
    let e = refusal_text a.failed a.input.now a.numbers.now a.ends.now _ _ c.in-Err.field-0.0 c.requires.0 c.requires.1 c.in-Err.ensures in
    record {
      shows = subst (λ x. Shows x a.text.now c.refuse.new.text c.refuse.result) e c.refuse.ensures.shows;
      enough = λ h. c.refuse.ensures.enough (omega arith) ∙ ap (λ x. Some (length x)) e;
    }
