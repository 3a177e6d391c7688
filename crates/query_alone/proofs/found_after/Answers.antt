-- `found_after` writes the bins of run 0 that are no answer and tells how many, or that one more was due. Assumes nothing.
use Rattle.std.proofs.Common.{◌-◌, drop, get_or, subst, take}
use Rattle.std.specs.Prelude.{Ok, Err}
use Rattle.query.specs.Outcomes.{accepted_is, refused_is}
use Rattle.query_alone.proofs.Alone.{new_part, kept_front, found_all, found_full}
use Rattle.query_alone.specs.Others.{FoundAfter}
use Rattle.query_alone.proofs.found_after.Goals as goal

pub returns-in-Ok : goal.returns-in-Ok
returns-in-Ok c =
    let a = c.args in
    let run = take (get_or a.ends.now 0 0 - get_or a.firsts.now 0 0) (drop (get_or a.firsts.now 0 0) a.numbers.now) in
    let o = accepted_is c.accepted_at.result in
    subst (λ x. FoundAfter x a.certificate.now a.allowance a.w a.answers.now c.in_gaps.new.answers o) (new_part a.numbers.now a.ends.now a.firsts.now c.requires.0)
    (found_all run a.certificate.now a.allowance a.w a.answers.now c.in_gaps.new.answers o c.in-Ok.count
    (kept_front run a.certificate.now a.allowance a.w a.answers.now c.in_gaps.new.answers o (Ok c.in-Ok.count) c.in-Ok.ensures) c.accepted_at.ensures)

pub returns-in-Err : goal.returns-in-Err
returns-in-Err c =
    let a = c.args in
    let run = take (get_or a.ends.now 0 0 - get_or a.firsts.now 0 0) (drop (get_or a.firsts.now 0 0) a.numbers.now) in
    let o = refused_is c.refused_at.result in
    subst (λ x. FoundAfter x a.certificate.now a.allowance a.w a.answers.now c.in_gaps.new.answers o) (new_part a.numbers.now a.ends.now a.firsts.now c.requires.0)
    (found_full run a.certificate.now a.allowance a.w a.answers.now c.in_gaps.new.answers o c.in-Err.reason
    (kept_front run a.certificate.now a.allowance a.w a.answers.now c.in_gaps.new.answers o (Err c.in-Err.reason) c.in-Err.ensures) c.refused_at.ensures)
