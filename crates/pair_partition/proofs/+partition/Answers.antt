-- `partition` calls itself on the sides below and on those above. A call is handed one less than `nesting`, which is enough, since the shorter length falls by half.
-- What is written is told by `Keeping`. Assumes nothing.
use Rattle.std.proofs.Common.{◌++◌, take, arith, Ok}
use Rattle.refusal.specs.declared.Reason.TheVariants.{AnswersFull}
use Rattle.row_fill.specs.Keeps.{Keeps}
use Rattle.pair_partition.proofs.Sides.{found_below, below_entered, below_shorter, above_entered, above_shorter, halved_digits}
use Rattle.pair_partition.specs.Sides.{kept_as}
use Rattle.pair_partition.proofs.Writing.{lent_end, not_below, after_below, full_below, after_pivot, full_pivot, not_above, after_above}
use Rattle.pair_partition.proofs.+partition.Goals as goal
use Rattle.pair_partition.proofs.+partition.Goals.{then-min-gt0+in_ok-below, else-min-gt0}

pub overflow_sub-nesting : goal.overflow_sub-nesting
overflow_sub-nesting t c =
    let e = c.requires.0 in
    let h = c.split_sides-split.ensures.splits in
    let d = halved_digits e h _ _ (below_shorter e h) c.requires.2 in
    omega (arith, d.0)

-- the sides below are entered
pub partition-requires : goal.partition-requires
partition-requires t c =
    let e = c.requires.0 in
    let h = c.split_sides-split.ensures.splits in
    let d = halved_digits e h _ _ (below_shorter e h) c.requires.2 in
    (omega (arith, d.0, c.decreases), (below_entered e h (omega (arith, c.min.ensures, c.if-min-gt0.true)), c.requires.1, d.1))

pub returns-in_err-below : goal.returns-in_err-below
returns-in_err-below t c =
    rw c.from_residual.ensures
    (full_below c.requires.0 c.split_sides-split.ensures.splits c.args.answers.now c.args.count c.requires.1 c.partition.new.answers AnswersFull c.in_err-below.ensures)

pub put_pivot-requires : goal.put_pivot-requires
put_pivot-requires t c =
    let a = c.args in
    let e = c.requires.0 in
    let h = c.split_sides-split.ensures.splits in
    let b = c.if-min-gt0 in
    let kept : Keeps (take a.count a.answers.now ++ found_below e h) a.answers.now b.answers (Ok b.below) =
    elim b.branch [
      | then-min-gt0+in_ok-below w ↦ rw (w.answers-is, w.below-is) w.in_ok-below.ensures
      | else-min-gt0 w ↦
          rw (w.answers-is, w.below-is) (not_below e h a.answers.now a.count c.requires.1 (let q = w.if-min-gt0.false in omega (arith, c.min.ensures, q)))
    ] in
    let due = after_below e h a.answers.now a.count c.requires.1 b.answers b.below kept in
    omega (arith, due.same, due.within)

pub returns-in_err-kept : goal.returns-in_err-kept
returns-in_err-kept t c =
    let a = c.args in
    let e = c.requires.0 in
    let h = c.split_sides-split.ensures.splits in
    let b = c.if-min-gt0 in
    let kept : Keeps (take a.count a.answers.now ++ found_below e h) a.answers.now b.answers (Ok b.below) =
    elim b.branch [
      | then-min-gt0+in_ok-below w ↦ rw (w.answers-is, w.below-is) w.in_ok-below.ensures
      | else-min-gt0 w ↦
          rw (w.answers-is, w.below-is) (not_below e h a.answers.now a.count c.requires.1 (let q = w.if-min-gt0.false in omega (arith, c.min.ensures, q)))
    ] in
    let due = after_below e h a.answers.now a.count c.requires.1 b.answers b.below kept in
    rw c.from_residual-in_err-kept.ensures
    (full_pivot e h a.answers.now a.count c.requires.1 b.answers b.below due c.put_pivot.new.answers AnswersFull c.in_err-kept.ensures)

pub returns-then-min-eq0 : goal.returns-then-min-eq0
returns-then-min-eq0 t c =
    let a = c.args in
    let e = c.requires.0 in
    let h = c.split_sides-split.ensures.splits in
    let b = c.if-min-gt0 in
    let kept : Keeps (take a.count a.answers.now ++ found_below e h) a.answers.now b.answers (Ok b.below) =
    elim b.branch [
      | then-min-gt0+in_ok-below w ↦ rw (w.answers-is, w.below-is) w.in_ok-below.ensures
      | else-min-gt0 w ↦
          rw (w.answers-is, w.below-is) (not_below e h a.answers.now a.count c.requires.1 (let q = w.if-min-gt0.false in omega (arith, c.min.ensures, q)))
    ] in
    let due = after_below e h a.answers.now a.count c.requires.1 b.answers b.below kept in
    let past = after_pivot e h a.answers.now a.count c.requires.1 b.answers b.below due c.put_pivot.new.answers c.in_ok-kept.kept c.in_ok-kept.ensures in
    not_above e h a.answers.now a.count c.requires.1 past (omega (arith, c.min-2.ensures, c.if-min-eq0.true))

pub overflow_sub-nesting-2 : goal.overflow_sub-nesting-2
overflow_sub-nesting-2 t c =
    let e = c.requires.0 in
    let h = c.split_sides-split.ensures.splits in
    let d = halved_digits e h _ _ (above_shorter e h) c.requires.2 in
    omega (arith, d.0)

-- the sides above are entered
pub partition-requires-2 : goal.partition-requires-2
partition-requires-2 t c =
    let a = c.args in
    let e = c.requires.0 in
    let h = c.split_sides-split.ensures.splits in
    let b = c.if-min-gt0 in
    let kept : Keeps (take a.count a.answers.now ++ found_below e h) a.answers.now b.answers (Ok b.below) =
    elim b.branch [
      | then-min-gt0+in_ok-below w ↦ rw (w.answers-is, w.below-is) w.in_ok-below.ensures
      | else-min-gt0 w ↦
          rw (w.answers-is, w.below-is) (not_below e h a.answers.now a.count c.requires.1 (let q = w.if-min-gt0.false in omega (arith, c.min.ensures, q)))
    ] in
    let due = after_below e h a.answers.now a.count c.requires.1 b.answers b.below kept in
    let past = after_pivot e h a.answers.now a.count c.requires.1 b.answers b.below due c.put_pivot.new.answers c.in_ok-kept.kept c.in_ok-kept.ensures in
    let s = c.split_sides-split.result in
    let d = halved_digits e h _ _ (above_shorter e h) c.requires.2 in
    rw (lent_end s.first.above a.first.now, lent_end s.second.above a.second.now)
    (omega (arith, d.0, c.decreases), (above_entered e h (λ q. c.if-min-eq0.false (omega (arith, c.min-2.ensures, q))), omega (arith, past.same, past.within), d.1))

pub returns : goal.returns
returns t c =
    let a = c.args in
    let e = c.requires.0 in
    let h = c.split_sides-split.ensures.splits in
    let b = c.if-min-gt0 in
    let kept : Keeps (take a.count a.answers.now ++ found_below e h) a.answers.now b.answers (Ok b.below) =
    elim b.branch [
      | then-min-gt0+in_ok-below w ↦ rw (w.answers-is, w.below-is) w.in_ok-below.ensures
      | else-min-gt0 w ↦
          rw (w.answers-is, w.below-is) (not_below e h a.answers.now a.count c.requires.1 (let q = w.if-min-gt0.false in omega (arith, c.min.ensures, q)))
    ] in
    let due = after_below e h a.answers.now a.count c.requires.1 b.answers b.below kept in
    let past = after_pivot e h a.answers.now a.count c.requires.1 b.answers b.below due c.put_pivot.new.answers c.in_ok-kept.kept c.in_ok-kept.ensures in
    let s = c.split_sides-split.result in
    after_above e h a.answers.now a.count c.requires.1 past c.partition-2.new.answers (kept_as c.partition-2.result)
    (rw (lent_end s.first.above a.first.now, lent_end s.second.above a.second.now) at c.partition-2.ensures)
