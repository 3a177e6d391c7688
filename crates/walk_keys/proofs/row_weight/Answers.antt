use Rattle.std.proofs.Common.{◌≡◌, ◌<◌, List, ℕ, length, drop, get_or, sym, bit_and, arith}
use Rattle.weights.proofs.Named.{no_weights}
use Rattle.walk_keys.specs.Row.{sum_of, key_weight, HaveWeights}
use Rattle.walk_keys.proofs.Laws.{row, row_is, run_within, weight_read, sum_on, sum_end}
use Rattle.walk_keys.proofs.Reaching.{row_counted}
use Rattle.walk_keys.proofs.row_weight.Goals as goal

-- the run of a key of the row has a weight
within : (keys : List ℕ) (start : ℕ) (weights : List ℕ) (i : ℕ) → HaveWeights weights (drop start keys) → 0 < length weights → i < length (row keys start)
    → bit_and (get_or (row keys start) i 0) 255 < length weights
within keys start weights i h p l =
    let have : HaveWeights weights (row keys start) = rw row_is h in
    run_within (row keys start) 0 weights i have p (omega arith) l

pub bounds-weights-key : goal.bounds-weights-key
bounds-weights-key c =
    let p : 0 < length c.args.weights.now = grind arith in
    within c.args.keys.now c.args.start c.args.weights.now c.loop-key.key-index c.requires.2 p (omega arith)

pub loop-key-preserved : goal.loop-key-preserved
loop-key-preserved c =
    let s = row c.args.keys.now c.args.start in
    let k = get_or s c.loop-key.key-index 0 in
    let p : 0 < length c.args.weights.now = grind arith in
    let l = within c.args.keys.now c.args.start c.args.weights.now c.loop-key.key-index c.requires.2 p (omega arith) in
    let b = c.type_inv.weights (bit_and k 255) in
    let w = weight_read c.args.weights.now k l in
    let n = sum_on (key_weight c.args.weights.now) s c.loop-key.key-index (omega arith) in
    record { same = omega arith; small = omega arith }

pub returns-then-is_empty : goal.returns-then-is_empty
returns-then-is_empty c =
    let s = drop c.args.start c.args.keys.now in
    let z : length c.args.weights.now ≡ 0 = grind arith in
    rw (row_is, no_weights c.args.weights.now z) (sym (row_counted s))

pub returns : goal.returns
returns c =
    let s = row c.args.keys.now c.args.start in
    let e = sum_end (key_weight c.args.weights.now) s c.loop-key.key-index (omega arith) in
    let all : c.loop-key.total ≡ sum_of (key_weight c.args.weights.now) s = omega arith in
    rw row_is at all
