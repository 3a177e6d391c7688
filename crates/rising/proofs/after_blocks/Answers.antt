use Rattle.std.proofs.Common.{◌≡◌, ◌+◌, ◌-◌, sym, ◌∙◌, arith}
use Rattle.rising.proofs.Rising.{blocks_start, blocks_more}
use Rattle.rising.proofs.after_blocks.Goals as goal

pub loop-numbers-init : goal.loop-numbers-init
loop-numbers-init c = blocks_start c.args.list.now c.args.each

pub loop-numbers-preserved : goal.loop-numbers-preserved
loop-numbers-preserved c =
    let h = c.in-Some.ensures.lookup.0 in
    let i = c.loop-numbers.place in
    let e : i - 1 + 64 - (i - 1) ≡ 64 = omega arith in
    let f : i + 64 - i ≡ 64 = omega arith in
    blocks_more c.args.list.now c.args.each i c.loop-numbers.invariant h.1 (sym (rw (h.2, e, f) at c.falls.ensures) ∙ c.if-falls-each.false)
