use Rattle.std.proofs.Common.{◌+◌, ◌∙◌, sym, subst, arith}
use Rattle.walk_begin.proofs.Beginning.{set_on}
use Rattle.walk_begin.proofs.Standing.{begins_first, begins_end}
use Rattle.walk_begin.specs.Begin.{ChosenAt}
use Rattle.walk_begin.proofs.begin_each.Goals as goal
use Rattle.walk_begin.proofs.begin_each.Goals.{then-names_run, else-names_run}

pub loop-i-preserved : goal.loop-i-preserved
loop-i-preserved c =
    elim c.if-names_run.branch [
      | then-names_run w ↦
          subst (λ x. ChosenAt c.args.ends.now c.args.firsts.now c.args.chosen x (c.loop-i.i + 1)) (sym w.positions-is)
          (set_on c.loop-i.invariant (omega arith) _ (sym (begins_first c.args.chosen c.loop-i.i _ _ (sym c.names_run.ensures ∙ w.if-names_run.true))))
      | else-names_run w ↦
          subst (λ x. ChosenAt c.args.ends.now c.args.firsts.now c.args.chosen x (c.loop-i.i + 1)) (sym w.positions-is)
          (set_on c.loop-i.invariant (omega arith) _ (sym (begins_end c.args.chosen c.loop-i.i _ _ (sym c.names_run.ensures ∙ w.if-names_run.false))))
    ]
