use Prim.Native.Nat.{◌+◌}
use borrow.Author.Rules.{rules}
use lib.ListN.{length}
use native.Mathlib.Omega.{arith}
use Rattle.std.proofs.lemmas.List.{length_push}
use Rattle.std.proofs.lemmas.Iterator.Adapters.{YieldsList-from_rev_slice}
use Rattle.std.proofs.lemmas.Iterator.Consumers.{YieldsList-turn}
use Rattle.check_scan.proofs.Reaching.{reached_start, reached_fits, reached_on}
use Rattle.check_scan.proofs.reached.Goals as goal

pub loop-cursor-init : goal.loop-cursor-init
loop-cursor-init c =
    reached_start c.args.last c.args.cursors.now

pub overflow_mul-mask : goal.overflow_mul-mask
overflow_mul-mask c =
    let l = c.loop-cursor in
    let t = YieldsList-turn (YieldsList-from_rev_slice c.args.cursors.now cc) l.yielded _ l.yielded_by _ _ c.in-Some.field-0 c.in-Some.is c.next.ensures.steps in
    let m = reached_fits c.args.last c.args.cursors.now (length l.yielded) l.mask c.in-Some.field-0.now l.invariant t c.requires in
    search rules

pub overflow_add-mask : goal.overflow_add-mask
overflow_add-mask c =
    let l = c.loop-cursor in
    let t = YieldsList-turn (YieldsList-from_rev_slice c.args.cursors.now cc) l.yielded _ l.yielded_by _ _ c.in-Some.field-0 c.in-Some.is c.next.ensures.steps in
    let m = reached_fits c.args.last c.args.cursors.now (length l.yielded) l.mask c.in-Some.field-0.now l.invariant t c.requires in
    search rules

pub loop-cursor-preserved : goal.loop-cursor-preserved
loop-cursor-preserved c =
    let l = c.loop-cursor in
    let t = YieldsList-turn (YieldsList-from_rev_slice c.args.cursors.now cc) l.yielded _ l.yielded_by _ _ c.in-Some.field-0 c.in-Some.is c.next.ensures.steps in
    reached_on c.args.last c.args.cursors.now (length l.yielded) l.mask c.in-Some.field-0.now l.invariant t (c.from.result + 1) c.from-in-loop-cursor.result _ (omega arith)
    c.from-in-loop-cursor.ensures (length_push l.yielded c.in-Some.field-0)
