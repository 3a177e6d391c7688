use Rattle.std.proofs.Common.{◌≡◌, ◌+◌, ◌-◌, ◌^◌, ◌∙◌, length, take, drop, get_or, ℕ, ap, arith}
use lib.Bits.{and_mask}
use Rattle.walk_keys.specs.Row.{label_sum}
use Rattle.walk_keys.proofs.Laws.{below_on, below_at, below_end, named_none, named_next, named_most, label_small}
use Rattle.walk_keys.proofs.front.Goals as goal

-- the sum with the key at hand
next : (c : goal.After-only_run-named) → (let a = c.args in
    c.loop-i.named + c.only_run-named.result ≡ label_sum (take (c.loop-i.i + 1 - a.start) (drop a.start a.keys.now)))
next c =
    let a = c.args in
    let e = c.only_run-named.ensures ∙ ap (λ (run : ℕ). 2 ^ run) (and_mask (get_or a.keys.now c.loop-i.i 0) 8) in
    let f = named_next a.keys.now a.start c.loop-i.i (omega arith) (omega arith) in
    omega arith

pub loop-i-init : goal.loop-i-init
loop-i-init c =
    record { counted = omega arith; summed = named_none c.args.start c.args.keys.now }

pub returns-then-limit-key : goal.returns-then-limit-key
returns-then-limit-key c =
    let e = below_at c.args.keys.now c.loop-i.i c.args.limit (omega arith) c.if-limit-key.true in
    (omega arith, c.loop-i.invariant.summed)

pub only_run-named-requires : goal.only_run-named-requires
only_run-named-requires c =
    label_small c.args.keys.now c.args.start c.loop-i.i c.requires.1 (omega arith) (omega arith)

pub overflow_add-named : goal.overflow_add-named
overflow_add-named c =
    let m = named_most (c.loop-i.i + 1 - c.args.start) (drop c.args.start c.args.keys.now) in
    let n = next c in
    record { fits = omega arith }

pub loop-i-preserved : goal.loop-i-preserved
loop-i-preserved c =
    let e = below_on c.args.keys.now c.loop-i.i c.args.limit (omega arith) c.if-limit-key.false in
    record { counted = omega arith; summed = next c }

pub returns : goal.returns
returns c =
    let all : c.loop-i.i ≡ length c.args.keys.now = omega arith in
    let e = below_end c.args.keys.now c.loop-i.i c.args.limit (omega arith) in
    let summed : c.loop-i.named ≡ label_sum (take (length c.args.keys.now - c.args.start) (drop c.args.start c.args.keys.now)) = rw all at c.loop-i.invariant.summed in
    (omega arith, summed)
