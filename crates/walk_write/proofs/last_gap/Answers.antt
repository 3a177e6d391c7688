-- `last_gap` writes the last gap, which names the chosen runs that have no key in the row. Assumes nothing.
use Rattle.std.proofs.Common.{◌≡◌, ◌-◌, [], ◌∷◌, ◌∙◌, List, ℕ, arith, take, drop, refl, subst}
use Rattle.std.specs.Prelude.{Ok, Err}
use Rattle.model.specs.Certificate.{gap}
use Rattle.model.specs.Runs.{last_bin, past_bin}
use Rattle.model.specs.Walk.{wrote}
use Rattle.walk_keys.specs.Row.{no_key, label_sum, below_count}
use Rattle.walk_write.specs.Writes.{LastReady, Writes}
use Rattle.walk_write.specs.declared.State.{State}
use Rattle.walk_write.proofs.Rows.{whole_front}
use Rattle.walk_write.proofs.last_gap.Goals as goal

-- the runs of all keys are named
all_named : {chosen : ℕ} {keys certificate : List ℕ} {w : State} (count named : ℕ) → LastReady chosen keys certificate w → count ≡ below_count no_key (drop w.start keys)
    → named ≡ label_sum (take count (drop w.start keys)) → named ≡ label_sum (drop w.start keys)
all_named {keys = keys} {w = w} count named r e f = f ∙ whole_front no_key count (drop w.start keys) r.bins e

pub overflow_sub-chosen : goal.overflow_sub-chosen
unfolding no_key past_bin
overflow_sub-chosen c =
    let p = c.requires.named in
    let n = all_named c.front-headed.result.count c.front-headed.result.named c.requires c.front-headed.ensures.0 c.front-headed.ensures.1 in
    omega arith

pub returns-in-Ok : goal.returns-in-Ok
unfolding last_bin no_key past_bin
returns-in-Ok c =
    let a = c.args in
    let n = all_named c.front-headed.result.count c.front-headed.result.named c.requires c.front-headed.ensures.0 c.front-headed.ensures.1 in
    subst (λ x. Writes (wrote (gap a.w.floor last_bin (a.chosen - x)) ∷ []) a.w a.certificate.now c.gap_to.new.certificate (Ok c.in-Ok.x)) n c.in-Ok.ensures

pub returns-in-Err : goal.returns-in-Err
unfolding last_bin no_key past_bin
returns-in-Err c =
    let a = c.args in
    let n = all_named c.front-headed.result.count c.front-headed.result.named c.requires c.front-headed.ensures.0 c.front-headed.ensures.1 in
    (refl, subst (λ x. Writes (wrote (gap a.w.floor last_bin (a.chosen - x)) ∷ []) a.w a.certificate.now c.gap_to.new.certificate (Err c.in-Err.reason)) n c.in-Err.ensures)
