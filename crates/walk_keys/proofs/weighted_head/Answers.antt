use Rattle.std.proofs.Common.{◌≡◌, ◌+◌, ◌-◌, ◌<◌, ◌∙◌, length, drop, get_or, List, ℕ, sym, ap, refl, bit_and, arith, rules}
use Rattle.walk_keys.specs.Row.{key_weight, reached_head, HaveWeights}
use Rattle.walk_keys.proofs.Laws.{member_from, run_within, weight_read, sum_on, sum_left}
use Rattle.walk_keys.proofs.Reaching.{reached_at, reached_on}
use Rattle.walk_keys.proofs.weighted_head.Invariants.{Missing}
use Rattle.walk_keys.proofs.weighted_head.Goals as goal

-- a turn: the row has not ended, and the key's run has a weight
record Turn (keys weights : List ℕ) (i : ℕ) : Type 0 where
  within : i < length keys
  index : bit_and (get_or keys i 0) 255 < length weights
  read : get_or weights (bit_and (get_or keys i 0) 255) 0 ≡ key_weight weights (get_or keys i 0)

turn : (keys : List ℕ) (start : ℕ) (weights : List ℕ) (t missing i : ℕ) → 0 < length weights → HaveWeights weights (drop start keys)
    → Missing keys start weights t missing i → Turn keys weights i
turn keys start weights t missing i p h v =
    let w = v.wanted in
    let e = v.enough in
    let l = sum_left (key_weight weights) keys i (omega arith) in
    let r = run_within keys start weights i h p v.low l in
    record { within = l; index = r; read = weight_read weights (get_or keys i 0) r }

pub loop-missing-init : goal.loop-missing-init
loop-missing-init c =
    record { low = omega arith; wanted = c.requires.0; enough = c.requires.4; same = refl }

pub bounds-keys-i : goal.bounds-keys-i
bounds-keys-i c =
    (turn _ _ _ _ _ _ c.requires.2 c.requires.3 c.loop-missing.invariant).within

pub offset_bounds-keys-i : goal.offset_bounds-keys-i
offset_bounds-keys-i c =
    let l = (turn _ _ _ _ _ _ c.requires.2 c.requires.3 c.loop-missing.invariant).within in search rules

pub bounds-weights-key : goal.bounds-weights-key
bounds-weights-key c =
    (turn _ _ _ _ _ _ c.requires.2 c.requires.3 c.loop-missing.invariant).index

pub returns-then-missing-weight : goal.returns-then-missing-weight
returns-then-missing-weight c =
    let u = turn _ _ _ _ _ _ c.requires.2 c.requires.3 c.loop-missing.invariant in
    let w = u.read in (
      c.loop-missing.invariant.same ∙ reached_at _ _ _ _ u.within (omega arith),
      (_, member_from _ _ _ c.loop-missing.invariant.low u.within, refl),
    )

pub overflow_add-i : goal.overflow_add-i
overflow_add-i c =
    let l = (turn _ _ _ _ _ _ c.requires.2 c.requires.3 c.loop-missing.invariant).within in search rules

pub loop-missing-smaller : goal.loop-missing-smaller
loop-missing-smaller c =
    let l = (turn _ _ _ _ _ _ c.requires.2 c.requires.3 c.loop-missing.invariant).within in
    omega arith

pub loop-missing-preserved : goal.loop-missing-preserved
loop-missing-preserved c =
    let a = c.args in
    let i = c.loop-missing.i in
    let u = turn _ _ _ _ _ _ c.requires.2 c.requires.3 c.loop-missing.invariant in
    let w = u.read in
    let s = sum_on (key_weight a.weights.now) a.keys.now i u.within in
    record {
      low = omega arith;
      wanted = omega arith;
      enough = omega arith;
      same =
          c.loop-missing.invariant.same
          ∙ (reached_on a.weights.now c.loop-missing.missing a.keys.now i u.within (omega arith)
          ∙ ap (λ x. reached_head a.weights.now (c.loop-missing.missing - x) (drop (i + 1) a.keys.now)) (sym w));
    }
