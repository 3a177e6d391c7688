-- `reached_head` goes up the row where there are weights, and reads the t-th key where there are none, which the row has because its runs weigh as much as it has
-- keys. Assumes nothing.
use Rattle.std.proofs.Common.{◌≡◌, ◌≤◌, List, ℕ, length, drop, sym, ap, ◌∙◌, arith}
use lib.ListN.{length-drop}
use Rattle.weights.proofs.Named.{no_weights}
use Rattle.walk_keys.specs.Row.{sum_of, key_weight, reached_head}
use Rattle.walk_keys.proofs.Reaching.{nth_key, reached_nth, row_counted}
use Rattle.walk_keys.proofs.reached_head.Goals as goal

-- where there are no weights the row has a t-th key
many : (t : ℕ) (r ws : List ℕ) → length ws ≡ 0 → t ≤ sum_of (key_weight ws) r → t ≤ length r
many t r ws z h =
    let e = ap (λ w. sum_of (key_weight w) r) (no_weights ws z) ∙ row_counted r in
    omega arith

pub nth_head-requires : goal.nth_head-requires
nth_head-requires c =
    let z : length c.args.weights.now ≡ 0 = grind arith in
    let r = drop c.args.start c.args.keys.now in
    let m = many c.args.t r c.args.weights.now z c.requires.3 in
    let d = length-drop c.args.start c.args.keys.now in
    (c.requires.0, omega arith)

pub returns : goal.returns
returns c =
    let z : length c.args.weights.now ≡ 0 = grind arith in
    let r = drop c.args.start c.args.keys.now in
    let m = many c.args.t r c.args.weights.now z c.requires.3 in
    let e = c.nth_head.ensures in (
      ap (λ w. reached_head w c.args.t r) (no_weights c.args.weights.now z) ∙ (reached_nth c.args.t r c.requires.0 m ∙ sym e),
      nth_key c.args.t r c.nth_head.result c.requires.0 m e,
    )
