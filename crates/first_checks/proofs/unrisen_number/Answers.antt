use Rattle.std.proofs.Common.{◌+◌, get_or, refl, sym, ◌∙◌}
use Rattle.first_checks.proofs.Laws.{Ordered, next_end, next_ordered, runs_at, runs_on, runs_end}
use Rattle.first_checks.proofs.unrisen_number.Goals as goal

pub loop-end-init : goal.loop-end-init
loop-end-init c =
    let o : Ordered c.args.numbers.now c.args.ends.now 0 0 = record { rise = c.requires.0; last = c.requires.1 } in
    record { ordered = o; inside = λ h. next_end c.args.numbers.now c.args.ends.now 0 0 h o; same = refl }

pub returns-in-Some : goal.returns-in-Some
returns-in-Some c =
    let a = c.args in
    sym (c.loop-end.invariant.same ∙ runs_at a.numbers.now a.ends.now c.loop-end.start c.loop-end.end-index c.in-Some.place c.loop-end-test.true (sym c.in-Some.ensures))

pub loop-end-preserved : goal.loop-end-preserved
loop-end-preserved c =
    let a = c.args in
    let l = c.loop-end in
    let h = c.loop-end-test.true in
    let end = get_or a.ends.now l.end-index 0 in
    let o = next_ordered a.numbers.now a.ends.now l.start l.end-index h l.invariant.ordered in
    record {
      ordered = o;
      inside = λ k. next_end a.numbers.now a.ends.now end (l.end-index + 1) k o;
      same = l.invariant.same ∙ runs_on a.numbers.now a.ends.now l.start l.end-index h (sym c.in_default.ensures);
    }

pub returns : goal.returns
returns c =
    let a = c.args in
    sym (c.loop-end.invariant.same ∙ runs_end a.numbers.now a.ends.now c.loop-end.start c.loop-end.end-index c.loop-end-test.false)
