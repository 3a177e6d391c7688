-- A part written or not, as the walk sees it. Assumes nothing.
use Prim.Native.Nat.{ℕ, ◌+◌, ◌-◌, ◌≤◌, ◌<◌}
use borrow.Author.Tests.{lt-ltb, le-ltb}
use lib.ListN.{length, set}
use mathlib.Core.List.{List, [], ◌∷◌, ◌++◌}
use mathlib.Core.Logic.{⊎_elim, ◌≢◌}
use mathlib.Core.Path.{◌≡◌, refl, sym, ap, ap₂, ◌∙◌, subst}
use Rattle.refusal.specs.Number.{number_of}
use native.Mathlib.Omega.{arith}
use Rattle.field_write.proofs.Stored.{stored_fits, stored_full, result_fits, result_full, stored_length}
use Rattle.field_write.specs.Stored.{placed, stored, stored_result}
use Rattle.std.specs.Prelude.{Result, Ok, Err}
use Rattle.refusal.specs.declared.Reason.{Reason}
use Rattle.refusal.specs.declared.Reason.TheVariants.{AnswersFull, CertificateFull}
use Rattle.model.specs.Certificate.{answer, gap, encode_part, size_of}
use Rattle.model.specs.Walk.{Event, wrote}
use Rattle.model.proofs.Tests.{lt_or_le}
use Rattle.walk_progress.specs.Progress.{counts_with, onward, ended, with_gap, with_answer, with_unwritten}
use Rattle.walk_progress.proofs.Progress.{size_gap, size_answer, onward_gap, gap_full, onward_answer, onward_unwritten, answers_full, answer_full}
use Rattle.walk_tally.specs.Tally.{halved_in, undoubled}
use Rattle.walk_write.specs.Writes.{counts_of, goes_on, ends_with, Fitted, after_part, Writes, gap_events, Answers}
use Rattle.walk_write.specs.declared.State.{State}

-- ---- a gap

pub gap_on : (w : State) (B B' : List ℕ) (last named bytes : ℕ) → w.bytes ≤ length B → w.parts ≤ w.bytes
    → Ok bytes ≡ stored_result B w.bytes (gap w.floor last named) → B' ≡ stored B w.bytes (gap w.floor last named)
    → Writes (wrote (gap w.floor last named) ∷ []) w B B' (Ok (after_part w w.answers bytes))
unfolding goes_on counts_of with_gap
gap_on w B B' last named bytes h p e f =
    let s = size_gap w.floor last named in
    ⊎_elim
    (λ (q : length B < w.bytes + size_of (gap w.floor last named)).
    let z : ◌≡◌ {A = Result ℕ Reason} (Ok bytes) (Err CertificateFull) = e ∙ result_full B w.bytes (gap w.floor last named) q in
    absurd (let y : ◌≡◌ {A = ℕ} 0 1 = cc in omega arith))
    (λ (q : w.bytes + size_of (gap w.floor last named) ≤ length B).
    let z : ◌≡◌ {A = Result ℕ Reason} (Ok bytes) (Ok (w.bytes + size_of (gap w.floor last named))) = e ∙ result_fits B w.bytes (gap w.floor last named) q in
    let b : bytes ≡ w.bytes + size_of (gap w.floor last named) = cc in
    let b₁₉ : w.bytes + 19 ≡ bytes = omega arith in
    let k : B' ≡ placed B w.bytes (encode_part (gap w.floor last named)) = f ∙ stored_fits B w.bytes (gap w.floor last named) q in
    let n = ap length f ∙ stored_length B w.bytes (gap w.floor last named) in (
      record { size = n; floor = refl; start = refl; answers = refl; tally = refl; weight = refl; written = omega arith; parts = omega arith },
      λ allowance A es.
          onward_gap allowance (counts_of allowance w) A B w.floor last named es (omega arith)
          ∙ (λ i. onward allowance (record { answers = w.answers; parts = w.parts + 1; bytes = b₁₉ i; doublings = allowance - undoubled w.tally; halvings = halved_in w.tally }) A (sym k i) es),
    ))
    (lt_or_le (length B) (w.bytes + size_of (gap w.floor last named)))

pub gap_stopped : (w : State) (B B' : List ℕ) (last named : ℕ) (r : Reason) → w.bytes ≤ length B → Err r ≡ stored_result B w.bytes (gap w.floor last named)
    → B' ≡ stored B w.bytes (gap w.floor last named) → Writes (wrote (gap w.floor last named) ∷ []) w B B' (Err r)
unfolding goes_on ends_with counts_of
gap_stopped w B B' last named r h e f =
    let s = size_gap w.floor last named in
    ⊎_elim
    (λ (q : length B < w.bytes + size_of (gap w.floor last named)).
    let z : ◌≡◌ {A = Result ℕ Reason} (Err r) (Err CertificateFull) = e ∙ result_full B w.bytes (gap w.floor last named) q in (
      (cc),
      f ∙ stored_full B w.bytes (gap w.floor last named) q,
      λ allowance A es. gap_full allowance (counts_of allowance w) A B w.floor last named es h (omega arith),
    ))
    (λ (q : w.bytes + size_of (gap w.floor last named) ≤ length B).
    let z : ◌≡◌ {A = Result ℕ Reason} (Err r) (Ok (w.bytes + size_of (gap w.floor last named))) = e ∙ result_fits B w.bytes (gap w.floor last named) q in
    absurd (let y : ◌≡◌ {A = ℕ} 0 1 = cc in omega arith))
    (lt_or_le (length B) (w.bytes + size_of (gap w.floor last named)))

-- ---- the gap before v, where there is one

gap_events_law : (f v named : ℕ) → f < v → gap_events f v named ≡ wrote (gap f (v - 1) named) ∷ []
unfolding gap_events
gap_events_law f v named h = rw (lt-ltb f v h, gap_events)

no_gap_events : (f v named : ℕ) → v ≤ f → gap_events f v named ≡ []
unfolding gap_events
no_gap_events f v named h = rw (le-ltb f v h, gap_events)

pub no_gap : (w : State) (B : List ℕ) (v named : ℕ) → w.bytes ≤ length B → w.parts ≤ w.bytes → v ≤ w.floor
    → Writes (gap_events w.floor v named) w B B (Ok w)
no_gap w B v named h p q = (
  record { size = refl; floor = refl; start = refl; answers = refl; tally = refl; weight = refl; written = h; parts = p },
  λ allowance A es. ap (λ x. goes_on allowance w A B (x ++ es)) (no_gap_events w.floor v named q),
)

pub some_gap : (w : State) (B B' : List ℕ) (v named : ℕ) (r : Result State Reason) → w.floor < v
    → Writes (wrote (gap w.floor (v - 1) named) ∷ []) w B B' r → Writes (gap_events w.floor v named) w B B' r
some_gap w B B' v named r q h = subst (λ x. Writes x w B B' r) (sym (gap_events_law w.floor v named q)) h

-- ---- an answer

-- the answer fits the certificate: so many bytes, and what is said of the walk with the field placed
module _ (w : State) (A A' B B' : List ℕ) (named bytes a : ℕ) (h : Fitted B w)
    (e : Ok bytes ≡ stored_result B w.bytes (answer w.floor named)) (f : B' ≡ stored B w.bytes (answer w.floor named)) where
  answer_goes : ((allowance : ℕ) (es : List Event) → w.bytes + 15 ≤ length B
      → goes_on allowance w A B (wrote (answer w.floor named) ∷ es)
      ≡ onward allowance (counts_with allowance a (w.parts + 1) (w.bytes + 15) w.tally) A' (placed B w.bytes (encode_part (answer w.floor named))) es)
      → Answers w named A B A' B' (Ok (after_part w a bytes))
  unfolding goes_on counts_of
  answer_goes g =
      let s = size_answer w.floor named in
      let p = h.parts in
      ⊎_elim
      (λ (q : length B < w.bytes + size_of (answer w.floor named)).
      let z : ◌≡◌ {A = Result ℕ Reason} (Ok bytes) (Err CertificateFull) = e ∙ result_full B w.bytes (answer w.floor named) q in
      absurd (let y : ◌≡◌ {A = ℕ} 0 1 = cc in omega arith))
      (λ (q : w.bytes + size_of (answer w.floor named) ≤ length B).
      let z : ◌≡◌ {A = Result ℕ Reason} (Ok bytes) (Ok (w.bytes + size_of (answer w.floor named))) = e ∙ result_fits B w.bytes (answer w.floor named) q in
      let b : bytes ≡ w.bytes + size_of (answer w.floor named) = cc in
      let b₁₅ : w.bytes + 15 ≡ bytes = omega arith in
      let k : B' ≡ placed B w.bytes (encode_part (answer w.floor named)) = f ∙ stored_fits B w.bytes (answer w.floor named) q in
      let n = ap length f ∙ stored_length B w.bytes (answer w.floor named) in (
        record { written = omega arith; parts = omega arith },
        refl,
        refl,
        refl,
        refl,
        λ allowance es.
            g allowance es (omega arith)
            ∙ (λ i. onward allowance (counts_with allowance a (w.parts + 1) (b₁₅ i) w.tally) A' (sym k i) es),
      ))
      (lt_or_le (length B) (w.bytes + size_of (answer w.floor named)))

pub answer_on : (w : State) (A B B' : List ℕ) (named bytes : ℕ) → Fitted B w → w.answers < length A
    → Ok bytes ≡ stored_result B w.bytes (answer w.floor named) → B' ≡ stored B w.bytes (answer w.floor named)
    → Answers w named A B (set A w.answers w.floor) B' (Ok (after_part w (w.answers + 1) bytes))
unfolding goes_on counts_of with_answer
answer_on w A B B' named bytes h x e f =
    answer_goes w A (set A w.answers w.floor) B B' named bytes (w.answers + 1) h e f
    (λ allowance es q. onward_answer allowance (counts_of allowance w) A B w.floor named es x q)

-- the walk is told not to write answers
pub answer_unwritten : (w : State) (A B B' : List ℕ) (named bytes : ℕ) → Fitted B w → w.answers ≢ length A → length A ≤ w.answers
    → Ok bytes ≡ stored_result B w.bytes (answer w.floor named) → B' ≡ stored B w.bytes (answer w.floor named)
    → Answers w named A B A B' (Ok (after_part w w.answers bytes))
unfolding goes_on counts_of with_unwritten
answer_unwritten w A B B' named bytes h n x e f =
    answer_goes w A A B B' named bytes w.answers h e f
    (λ allowance es q. onward_unwritten allowance (counts_of allowance w) A B w.floor named es (omega arith) q)

pub answer_stopped : (w : State) (A B B' : List ℕ) (named : ℕ) (r : Reason) → Fitted B w → w.answers ≢ length A
    → Err r ≡ stored_result B w.bytes (answer w.floor named) → B' ≡ stored B w.bytes (answer w.floor named) → Answers w named A B A B' (Err r)
unfolding goes_on ends_with counts_of
answer_stopped w A B B' named r h x e f =
    let s = size_answer w.floor named in
    ⊎_elim
    (λ (q : length B < w.bytes + size_of (answer w.floor named)).
    let z : ◌≡◌ {A = Result ℕ Reason} (Err r) (Err CertificateFull) = e ∙ result_full B w.bytes (answer w.floor named) q in
    let o : r ≡ CertificateFull = cc in
    let k : B' ≡ B = f ∙ stored_full B w.bytes (answer w.floor named) q in
    λ allowance es.
    answer_full allowance (counts_of allowance w) A B w.floor named es x h.written (omega arith)
    ∙ ap₂ (λ n y. ended n (counts_of allowance w) A y) (sym (ap number_of o)) (sym k))
    (λ (q : w.bytes + size_of (answer w.floor named) ≤ length B).
    let z : ◌≡◌ {A = Result ℕ Reason} (Err r) (Ok (w.bytes + size_of (answer w.floor named))) = e ∙ result_fits B w.bytes (answer w.floor named) q in
    absurd (let y : ◌≡◌ {A = ℕ} 0 1 = cc in omega arith))
    (lt_or_le (length B) (w.bytes + size_of (answer w.floor named)))

pub answers_stopped : (w : State) (A B : List ℕ) (named : ℕ) → w.answers ≡ length A → Answers w named A B A B (Err AnswersFull)
unfolding goes_on ends_with counts_of
answers_stopped w A B named e =
    λ allowance es. answers_full allowance (counts_of allowance w) A B w.floor named es e
