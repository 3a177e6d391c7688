-- One question of a call: from how its walk ended to what the call then comes to. Assumes nothing.
use Prim.Native.Nat.{ℕ, zero, suc, ◌+◌, ◌*◌, ◌≤◌, ◌<◌}
use lib.ListN.{length, get_or, drop, set, drop_of_length-le}
use lib.Seq.{drop-cons}
use mathlib.Core.List.{List, [], ◌∷◌}
use mathlib.Core.Logic.{◌≢◌}
use mathlib.Core.Path.{◌≡◌, refl, sym, ap, subst, ◌∙◌}
use native.Mathlib.Omega.{arith}
use Rattle.field_write.specs.Stored.{placed}
use Rattle.field_write.proofs.Placed.{placed_sets}
use Rattle.model.specs.Many.{refusal_in}
use Rattle.model.specs.Compared.{whole_walk}
use Rattle.model.specs.Refusals.{passed, list_checks, chosen_checks}
use Rattle.model.specs.Runs.{runs}
use Rattle.model.proofs.FirstChecks.{then_second}
use Rattle.query_progress.specs.Calls.{call_ended, call_onward}
use Rattle.query_progress.proofs.Calls.{Fits, after, Told, told, next_on, next_stop, next_fits, call_done}
use Rattle.walk_progress.specs.Progress.{probes_so, onward}
use Rattle.std.specs.Prelude.{Result, Ok, Err}
use Rattle.refusal.specs.Number.{number_of}
use Rattle.refusal.proofs.Number.{number_above}
use Rattle.walk_rounds.specs.Ends.{number_at, state_at}
use Rattle.walk_write.specs.declared.State.{State}
use Rattle.walk_write.specs.declared.Stopped.{Stopped}
use Rattle.walk_whole.proofs.Plain.{plain_asked}
use Rattle.walk_whole.specs.Whole.{counts_from, ComesTo}
use Rattle.walk_tally.specs.Tally.{undoubled}
use Rattle.walk_write.specs.Writes.{counts_of, ends_with}
use Rattle.query_each.specs.Questions.{counts_so, Fitted, Rows, from_question, end_of, totals_of, totals_after, goes_on, Asks, Answers}
use Rattle.query_each.specs.declared.Cut.{Cut}
use Rattle.query_each.specs.declared.Totals.{Totals}

-- two numbers written one after the other
pub told_so : (R : List ℕ) (q a b : ℕ) → 2 * q + 2 ≤ length R → set (set R (2 * q) a) (2 * q + 1) b ≡ placed R (2 * q) (a ∷ (b ∷ []))
told_so R q a b h =
    let e : 2 * q + 1 ≡ suc (2 * q) = omega arith in
    ap (λ n. set (set R (2 * q) a) n b) e ∙ placed_sets (a ∷ (b ∷ [])) R (2 * q) (omega arith)

-- the lists are among the first checks
pub lists_checked : (numbers ends : List ℕ) (m t : ℕ) → chosen_checks numbers ends m t ≡ passed → list_checks numbers ends ≡ passed
unfolding chosen_checks
lists_checked numbers ends m t e = then_second _ _ (then_second _ _ (then_second _ _ e))

module _ (numbers ends : List ℕ) (m u t q : ℕ) (w : Totals) (A B R A' B' : List ℕ) (t-is : u ≡ t) (room : 2 * q + 2 ≤ length R) (fitted : Fitted A B w) (e : Result State Stopped)
    (comes : ComesTo numbers ends [] m u w.answers w.bytes w.tally A B A' B' e) where
  -- the totals after it
  abbrev pub totals : Totals
  totals = totals_after w (state_at e)

  fits : (allowance : ℕ) → undoubled w.tally ≤ allowance → Fits allowance (counts_so allowance w) A B
  unfolding counts_so probes_so
  fits allowance l =
      let a = fitted.answered in
      let b = fitted.written in
      let p = fitted.parts in
      record { probes = omega arith; answers = omega arith; bytes = omega arith; parts = omega arith }

  ended_so : (allowance : ℕ) (h : undoubled w.tally ≤ allowance) (ms ts : List ℕ)
      → Told allowance q (counts_so allowance w) A B R (runs numbers ends) m u ms ts (fits allowance h) (number_at e) (counts_of allowance (state_at e)) A' B'
  unfolding counts_so ends_with counts_of counts_from
  ended_so allowance h ms ts =
      told allowance q (counts_so allowance w) A B R (runs numbers ends) m u ms ts (fits allowance h) (number_at e) (counts_of allowance (state_at e)) A' B'
      (ap (λ rs. onward allowance (counts_from allowance w.answers w.bytes w.tally) A B (whole_walk u rs)) (sym (plain_asked numbers ends m)) ∙ comes.as_asked allowance h)

  pub fitted_after : Fitted A' B' totals
  unfolding counts_so counts_of
  fitted_after =
      let l = fitted.allowed in
      let o = comes.left_then in
      let h : undoubled w.tally ≤ undoubled w.tally = omega arith in
      let f = next_fits (undoubled w.tally) q (counts_so (undoubled w.tally) w) A B R (runs numbers ends) m u [] [] (fits (undoubled w.tally) h) (number_at e)
      (counts_of (undoubled w.tally) (state_at e)) A' B' (ended_so (undoubled w.tally) h [] []) in
      record { answered = f.answers; written = f.bytes; parts = f.parts; allowed = omega arith }

  -- the threshold as it is lent
  asked_so : (allowance : ℕ) (ms ts : List ℕ)
      → call_onward allowance q (counts_so allowance w) A B R (runs numbers ends) (m ∷ ms) (t ∷ ts)
      ≡ call_onward allowance q (counts_so allowance w) A B R (runs numbers ends) (m ∷ ms) (u ∷ ts)
  asked_so allowance ms ts = ap (λ x. call_onward allowance q (counts_so allowance w) A B R (runs numbers ends) (m ∷ ms) (x ∷ ts)) (sym t-is)

  pub asks_on : (x : State) → e ≡ Ok x → (R' : List ℕ) → R' ≡ placed R (2 * q) (x.answers ∷ (x.bytes ∷ []))
      → Asks numbers ends m t q w A B R A' B' R' (Ok (totals_after w x))
  unfolding counts_so counts_of
  asks_on x i R' f =
      let p = ap state_at i in
      let left : undoubled x.tally ≤ undoubled w.tally = subst (λ (y : State). undoubled y.tally ≤ undoubled w.tally) p comes.left_then in
      record {
        left = left;
        fitted = subst (λ (y : State). Fitted A' B' (totals_after w y)) p fitted_after;
        comes_to = λ allowance h ms ts.
            asked_so allowance ms ts
            ∙ (next_on allowance q (counts_so allowance w) A B R (runs numbers ends) m u ms ts (fits allowance h) (number_at e) (counts_of allowance (state_at e)) A' B'
            (ended_so allowance h ms ts) (ap number_at i) room
            ∙ (λ k. call_onward allowance (suc q) (counts_so allowance (totals_after w (p k))) A' B' (placed R (2 * q) ((p k).answers ∷ ((p k).bytes ∷ []))) (runs numbers ends) ms ts)
            ∙ ap (λ y. call_onward allowance (suc q) (counts_so allowance (totals_after w x)) A' B' y (runs numbers ends) ms ts) (sym f));
      }

  pub asks_stopped : (s : Stopped) → e ≡ Err s
      → Asks numbers ends m t q w A B R A' B' R (Err (record { refusal = record { reason = s.reason; place = s.at.parts }; question = q; at = totals_after w s.at }))
  unfolding counts_so counts_of
  asks_stopped s i =
      let p = ap state_at i in
      record {
        left = subst (λ (y : State). undoubled y.tally ≤ undoubled w.tally) p comes.left_then;
        fitted = subst (λ (y : State). Fitted A' B' (totals_after w y)) p fitted_after;
        comes_to = λ allowance h ms ts.
            let n = number_above s.reason in
            asked_so allowance ms ts
            ∙ (next_stop allowance q (counts_so allowance w) A B R (runs numbers ends) m u ms ts (fits allowance h) (number_at e) (counts_of allowance (state_at e)) A' B'
            (ended_so allowance h ms ts) n.0 (ap number_at i ∙ n.1)
            ∙ (λ k. call_ended (refusal_in q (number_at (i k)) (p k).parts) (counts_so allowance (totals_after w (p k))) A' B' R));
      }

-- ---- the questions before index q are asked

pub record Asked (numbers ends masks thresholds : List ℕ) (w₀ : Totals) (A₀ B₀ R₀ A B R : List ℕ) (w : Totals) (q : ℕ) : Type 0 where
  pub fitted : Fitted A B w
  pub rows : Rows numbers ends masks thresholds R
  pub bound : q ≤ length masks
  pub left : undoubled w.tally ≤ undoubled w₀.tally
  pub same : (allowance : ℕ) → undoubled w₀.tally ≤ allowance
      → from_question allowance numbers ends masks thresholds 0 w₀ A₀ B₀ R₀ ≡ from_question allowance numbers ends masks thresholds q w A B R

pub asked_none : (numbers ends masks thresholds : List ℕ) (w : Totals) (A B R : List ℕ) → Fitted A B w
    → Rows numbers ends masks thresholds R → Asked numbers ends masks thresholds w A B R A B R w 0
asked_none numbers ends masks thresholds w A B R r s =
    record { fitted = r; rows = s; bound = omega arith; left = omega arith; same = λ allowance h. refl }

module _ (numbers ends masks thresholds : List ℕ) (w₀ : Totals) (A₀ B₀ R₀ A B R : List ℕ) (w : Totals) (q : ℕ)
    (h : Asked numbers ends masks thresholds w₀ A₀ B₀ R₀ A B R w q) where
  -- the questions from this one on
  from_here : q < length masks → (allowance : ℕ)
      → from_question allowance numbers ends masks thresholds q w A B R
      ≡ call_onward allowance q (counts_so allowance w) A B R (runs numbers ends) (get_or masks q 0 ∷ drop (suc q) masks) (get_or thresholds q 0 ∷ drop (suc q) thresholds)
  unfolding from_question
  from_here l allowance =
      let r = h.rows.rows in
      λ i. call_onward allowance q (counts_so allowance w) A B R (runs numbers ends) (drop-cons masks q 0 l i) (drop-cons thresholds q 0 (omega arith) i)

  pub asked_more : (A' B' R' : List ℕ) (w' : Totals) → q < length masks
      → Asks numbers ends (get_or masks q 0) (get_or thresholds q 0) q w A B R A' B' R' (Ok w')
      → length R' ≡ length R → Asked numbers ends masks thresholds w₀ A₀ B₀ R₀ A' B' R' w' (q + 1)
  unfolding from_question
  asked_more A' B' R' w' l a g =
      let m = h.left in
      let n = a.left in
      let o = h.rows.room in
      let i : suc q ≡ q + 1 = omega arith in
      record {
        fitted = a.fitted;
        rows = record { checked = h.rows.checked; rows = h.rows.rows; room = omega arith };
        bound = omega arith;
        left = omega arith;
        same = λ allowance b.
            h.same allowance b
            ∙ (from_here l allowance
            ∙ (a.comes_to allowance (omega arith) (drop (suc q) masks) (drop (suc q) thresholds)
            ∙ ap (λ x. from_question allowance numbers ends masks thresholds x w' A' B' R') i));
      }

  pub asked_stopped : (A' B' R' : List ℕ) (e : Cut) → q < length masks
      → Asks numbers ends (get_or masks q 0) (get_or thresholds q 0) q w A B R A' B' R' (Err e) → Answers numbers ends masks thresholds w₀ A₀ B₀ R₀ A' B' R' (Err e)
  asked_stopped A' B' R' e l a =
      let m = h.left in
      let k = a.left in
      record {
        left = omega arith;
        comes_to = λ allowance b.
            h.same allowance b
            ∙ (from_here l allowance ∙ a.comes_to allowance (omega arith) (drop (suc q) masks) (drop (suc q) thresholds));
      }

  pub asked_all : length masks ≤ q → Answers numbers ends masks thresholds w₀ A₀ B₀ R₀ A B R (Ok w)
  unfolding from_question
  asked_all l =
      record {
        left = h.left;
        comes_to = λ allowance b.
            h.same allowance b
            ∙ (ap (λ s. call_onward allowance q (counts_so allowance w) A B R (runs numbers ends) s (drop q thresholds)) (drop_of_length-le masks l)
            ∙ call_done allowance q (counts_so allowance w) A B R (runs numbers ends) (drop q thresholds));
      }
