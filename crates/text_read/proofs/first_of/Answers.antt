use Rattle.std.proofs.Common.{◌≡◌, ◌≢◌, ℕ, ◌+◌, ◌≤◌, List, length, get_or, drop, length-drop, arith, rules, ap, ◌∙◌, unwrap_or, position, tests}
use Rattle.std.proofs.lemmas.Iterator.{YieldsList-from_slice}
use Rattle.std.proofs.lemmas.Iterator.Search.{position_from_yields_List}
use lib.Dec.{eqb}
use Rattle.text_read.specs.Pieces.{until}
use Rattle.text_read.proofs.Places.{until_is}
use Rattle.text_read.proofs.Pieces.{met_here, not_here, rest_is}
use Rattle.text_read.proofs.first_of.Goals as goal

-- the first bytes of a rest, none of them the separator
module _ (s : ℕ) (l : List ℕ) where
  none : until s l ≡ 0 + until s (drop 0 l)
  none = omega arith

  one : 4 ≤ length l → get_or l 0 0 ≢ s → until s l ≡ 1 + until s (drop 1 l)
  one h a = not_here s l 0 none (omega arith) 1 (omega arith) a

  two : 4 ≤ length l → get_or l 0 0 ≢ s → get_or l 1 0 ≢ s → until s l ≡ 2 + until s (drop 2 l)
  two h a b = not_here s l 1 (one h a) (omega arith) 2 (omega arith) b

  three : 4 ≤ length l → get_or l 0 0 ≢ s → get_or l 1 0 ≢ s → get_or l 2 0 ≢ s → until s l ≡ 3 + until s (drop 3 l)
  three h a b c = not_here s l 2 (two h a b) (omega arith) 3 (omega arith) c

  -- the bytes after four of them
  four : (passed : ℕ) (bytes after : List ℕ) → after ≡ drop 4 l → (passed + length l ≡ length bytes) × (until s bytes ≡ passed + until s l) → 4 ≤ length l
      → get_or l 0 0 ≢ s → get_or l 1 0 ≢ s → get_or l 2 0 ≢ s → get_or l 3 0 ≢ s → (passed + 4 + length after ≡ length bytes) × (until s bytes ≡ passed + 4 + until s after)
  four passed bytes after q i h a b c d =
      let e = not_here s l 3 (three h a b c) (omega arith) 4 (omega arith) d in
      let k = ap length q in
      let u = ap (until s) q in
      (omega (arith, k, length-drop 4 l), omega (arith, e, u))

pub returns-then-a-separator : goal.returns-then-a-separator
returns-then-a-separator c =
    let s = c.args.separator in
    let l = c.loop-rest.rest.now in
    let h = c.in-len4-up.len_at_least in
    let e = met_here s l 0 (none s l) (omega (arith, h)) c.if-a-separator.true in
    omega (arith, e)

pub returns-then-b-separator : goal.returns-then-b-separator
returns-then-b-separator c =
    let s = c.args.separator in
    let l = c.loop-rest.rest.now in
    let h = c.in-len4-up.len_at_least in
    let e = met_here s l 1 (one s l h c.if-a-separator.false) (omega (arith, h)) c.if-b-separator.true in
    omega (arith, e)

pub returns-then-c-separator : goal.returns-then-c-separator
returns-then-c-separator c =
    let s = c.args.separator in
    let l = c.loop-rest.rest.now in
    let h = c.in-len4-up.len_at_least in
    let e = met_here s l 2 (two s l h c.if-a-separator.false c.if-b-separator.false) (omega (arith, h)) c.if-c-separator.true in
    omega (arith, e)

pub returns-then-d-separator : goal.returns-then-d-separator
returns-then-d-separator c =
    let s = c.args.separator in
    let l = c.loop-rest.rest.now in
    let h = c.in-len4-up.len_at_least in
    let e = met_here s l 3 (three s l h c.if-a-separator.false c.if-b-separator.false c.if-c-separator.false) (omega (arith, h)) c.if-d-separator.true in
    omega (arith, e)

pub loop-rest-preserved : goal.loop-rest-preserved
loop-rest-preserved c =
    let l = c.loop-rest.rest.now in
    four c.args.separator l _ _ _ (rest_is l 4) c.loop-rest.invariant c.in-len4-up.len_at_least c.if-a-separator.false c.if-b-separator.false c.if-c-separator.false c.if-d-separator.false

pub returns : goal.returns
returns c =
    let s = c.args.separator in
    let l = c.loop-rest.rest.now in
    let p : c.position.result ≡ position (λ b. eqb b s) l =
    position_from_yields_List (λ b. eqb b s) _ _ c.position.result c.position.ensures.ran (YieldsList-from_slice l cc) (λ x b q k. search (rules, tests)) in
    let e = c.unwrap_or.ensures ∙ (ap (λ o. unwrap_or o (length l)) p ∙ until_is s l) in
    omega (arith, e)
