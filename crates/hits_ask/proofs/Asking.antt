-- The text for a question is the same whatever stands in the buffers before. Assumes nothing.
use Prim.Native.Nat.{ℕ}
use lib.ListN.{length, replicate, length-replicate}
use mathlib.Core.List.{List}
use mathlib.Core.Path.{◌≡◌, refl, sym, ap, ◌∙◌}
use Rattle.model.specs.Certificate.{answers_of}
use Rattle.model.specs.Compared.{parts_of}
use Rattle.model.specs.Demands.{Fits}
use Rattle.model.specs.Refusals.{Check, passed, refusal, first_checks, Outcome, accepted, refused, cut_walk, answered_by, query, checked_first, answered_with, outcome_with}
use Rattle.model.specs.Runs.{past_bin, runs}
use Rattle.hits_limits.specs.Limits.{answer_room, certificate_room}
use Rattle.hits_render.proofs.Printed.{accepted_prints}
use Rattle.hits_render.specs.Text.{rendered}
use Rattle.hits_ask.specs.Ask.{shown, asked, text_for}

-- ---- the question

outcome_same : (numbers ends : List ℕ) (t allowance : ℕ) (a b c d : List ℕ) → length a ≡ length c → length b ≡ length d
    → (query numbers ends t allowance a b).outcome ≡ (query numbers ends t allowance c d).outcome
unfolding query answered_by checked_first answered_with outcome_with
outcome_same numbers ends t allowance a b c d e f = go (first_checks numbers ends t) refl
  where
    go : (k : Check) → first_checks numbers ends t ≡ k → (query numbers ends t allowance a b).outcome ≡ (query numbers ends t allowance c d).outcome
    go passed q = rw q (λ i. let w = cut_walk t (runs numbers ends) allowance (e i) (f i) in outcome_with (length (answers_of (parts_of w.events))) w)
    go (refusal n p) q = rw q

rendered_same : (numbers ends : List ℕ) (t allowance : ℕ) (a b c d : List ℕ) → Fits past_bin numbers → (o : Outcome)
    → (query numbers ends t allowance a b).outcome ≡ o → (query numbers ends t allowance c d).outcome ≡ o
    → rendered o (query numbers ends t allowance a b).certificate ≡ rendered o (query numbers ends t allowance c d).certificate
unfolding rendered
rendered_same numbers ends t allowance a b c d f (accepted x n y k h) e g =
    accepted_prints numbers ends t allowance a b f x n y k h e ∙ sym (accepted_prints numbers ends t allowance c d f x n y k h g)
rendered_same numbers ends t allowance a b c d f (refused x p y z k h) e g = refl

pub ask_text : (numbers ends : List ℕ) (t allowance : ℕ) (a b : List ℕ) → Fits past_bin numbers → length a ≡ answer_room → length b ≡ certificate_room
    → shown (query numbers ends t allowance a b) ≡ text_for numbers ends t allowance
unfolding text_for asked shown
ask_text numbers ends t allowance a b f e g =
    let c : List ℕ = replicate answer_room 0 in
    let d : List ℕ = replicate certificate_room 0 in
    let o = outcome_same numbers ends t allowance a b c d (e ∙ sym (length-replicate {A = ℕ} answer_room 0)) (g ∙ sym (length-replicate {A = ℕ} certificate_room 0)) in
    rendered_same numbers ends t allowance a b c d f (query numbers ends t allowance a b).outcome refl (sym o)
    ∙ ap (λ x. rendered x (query numbers ends t allowance c d).certificate) o
