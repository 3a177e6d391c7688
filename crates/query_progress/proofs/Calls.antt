-- A call with many questions, one question at a time: a question that reaches its end is told in the result row, and the call goes on from there with what is
-- left; one that a refusal ends, ends the call. Assumes nothing.
use Prim.Native.Nat.{ℕ, suc, ◌+◌, ◌-◌, ◌*◌, ◌≤◌}
use lib.ListN.{length, drop, length-append}
use mathlib.Core.List.{List, [], ◌∷◌, ◌++◌, append-nil}
use mathlib.Core.Path.{◌≡◌, sym, ap, ◌∙◌, subst}
use native.Mathlib.Omega.{arith}
use Rattle.field_write.specs.Stored.{placed}
use Rattle.model.specs.Certificate.{answers_of, encode}
use Rattle.model.specs.Compared.{whole_walk, parts_of, doubling_probe, halving_probe, doublings_of, halvings_of}
use Rattle.model.specs.Many.{ManyCheck, all_passed, refusal_in, all_accepted, refused_in, left_after, walks, events_of, ending, reached, many_outcome, AnsweredMany, answered_many}
use Rattle.model.specs.Refusals.{Room, Ended, cut, refused, Answered, over}
use Rattle.model.specs.Runs.{Run, chosen}
use Rattle.model.specs.Walk.{Event}
use Rattle.model.proofs.Cutting.{Fitted, cut_fitted, cut_within, parts_bytes}
use Rattle.model.proofs.Events.{parts_append, cost_append, both_kinds}
use Rattle.model.proofs.Many.{answers_writing, bytes_writing, left_probes, walks_on, walks_stop, ending_on, ending_here, reached_on, reached_stop}
use Rattle.walk_progress.specs.Progress.{Counts, no_counts, probes_so, ended, counts_more, counts_after, room_with, room_at, onward}
use Rattle.walk_progress.proofs.Progress.{counts_same, counts_none, outcome_same, onward_writes, placed_on, placed_none, placed_keeps}
use Rattle.query_progress.specs.Calls.{call_outcome, call_ended, call_onward}

-- ---- the counts

counts_more_law : (c : Counts) (es ds : List Event) → counts_after c (es ++ ds) ≡ counts_after (counts_after c es) ds
unfolding counts_more doublings_of halvings_of
counts_more_law c es ds =
    let a = ap length (answers_writing.more es ds) ∙ length-append (answers_of (parts_of es)) (answers_of (parts_of ds)) in
    let p = ap length (parts_append es ds) ∙ length-append (parts_of es) (parts_of ds) in
    let b = ap length (bytes_writing.more es ds) ∙ length-append (encode (parts_of es)) (encode (parts_of ds)) in
    let k = cost_append doubling_probe es ds in
    let h = cost_append halving_probe es ds in
    counts_same (omega arith) (omega arith) (omega arith) (omega arith) (omega arith)

-- ---- one question

-- The counts fit the allowance and the buffers.
pub record Fits (allowance : ℕ) (c : Counts) (A B : List ℕ) : Type 0 where
  pub probes : probes_so c ≤ allowance
  pub answers : c.answers ≤ length A
  pub bytes : c.bytes ≤ length B
  pub parts : c.parts ≤ c.bytes

module _ (allowance q : ℕ) (c : Counts) (A B R : List ℕ) (rs : List Run) (m t : ℕ) (ms ts : List ℕ) (fits : Fits allowance c A B) where
  -- the walk of the next question, and what it leaves in the buffers
  abbrev walked : Ended
  walked = cut (room_at allowance c A B) (whole_walk t (chosen m rs))

  abbrev A₁ : List ℕ
  A₁ = placed A c.answers (answers_of (parts_of walked.events))

  abbrev B₁ : List ℕ
  B₁ = placed B c.bytes (encode (parts_of walked.events))

  room : Fitted (room_at allowance c A B) walked.events
  room = cut_fitted (room_at allowance c A B) (whole_walk t (chosen m rs))

  answers_size : length A₁ ≡ length A
  unfolding room_with
  answers_size =
      let r = room.answers in
      let f = fits.answers in
      placed_keeps A (answers_of (parts_of walked.events)) c.answers (omega arith)

  bytes_size : length B₁ ≡ length B
  unfolding room_with
  bytes_size =
      let r = room.bytes in
      let f = fits.bytes in
      placed_keeps B (encode (parts_of walked.events)) c.bytes (omega arith)

  room_after : left_after (room_at allowance c A B) walked.events ≡ room_at allowance (counts_after c walked.events) A₁ B₁
  unfolding room_with counts_more probes_so
  room_after =
      let k = both_kinds walked.events in
      let p = left_probes (room_at allowance c A B) walked.events in
      let a = room.answers_left in
      let b = room.bytes_left in
      let u = answers_size in
      let v = bytes_size in
      let d : (left_after (room_at allowance c A B) walked.events).probes
      ≡ allowance - (c.doublings + doublings_of walked.events + (c.halvings + halvings_of walked.events)) = omega arith in
      let e : (left_after (room_at allowance c A B) walked.events).answers ≡ length A₁ - (c.answers + length (answers_of (parts_of walked.events))) = omega arith in
      let f : (left_after (room_at allowance c A B) walked.events).bytes ≡ length B₁ - (c.bytes + length (encode (parts_of walked.events))) = omega arith in
      λ i. record { probes = d i; answers = e i; bytes = f i }

  -- the question reaches its end
  pub call_on : walked.refused ≡ 0 → 2 * q + 2 ≤ length R
      → call_onward allowance q c A B R rs (m ∷ ms) (t ∷ ts)
      ≡ call_onward allowance (suc q) (counts_after c walked.events) A₁ B₁
      (placed R (2 * q) ((c.answers + length (answers_of (parts_of walked.events))) ∷ ((c.bytes + length (encode (parts_of walked.events))) ∷ []))) rs ms ts
  unfolding call_onward events_of counts_more
  call_on z l =
      let ws = walks (left_after (room_at allowance c A B) walked.events) rs ms ts in
      let a' = c.answers + length (answers_of (parts_of walked.events)) in
      let b' = c.bytes + length (encode (parts_of walked.events)) in
      let f = fits.answers in
      let g = fits.bytes in
      let n : 2 * q + 2 ≡ 2 * suc q = omega arith in
      let e₁ : answers_of (parts_of (events_of (walked ∷ ws))) ≡ answers_of (parts_of walked.events) ++ answers_of (parts_of (events_of ws)) = answers_writing.more walked.events (events_of ws) in
      let e₂ : encode (parts_of (events_of (walked ∷ ws))) ≡ encode (parts_of walked.events) ++ encode (parts_of (events_of ws)) = bytes_writing.more walked.events (events_of ws) in
      let x : placed A c.answers (answers_of (parts_of (events_of (walked ∷ ws)))) ≡ placed A₁ a' (answers_of (parts_of (events_of ws))) =
      ap (placed A c.answers) e₁ ∙ sym (placed_on A (answers_of (parts_of walked.events)) (answers_of (parts_of (events_of ws))) c.answers f) in
      let y : placed B c.bytes (encode (parts_of (events_of (walked ∷ ws)))) ≡ placed B₁ b' (encode (parts_of (events_of ws))) =
      ap (placed B c.bytes) e₂ ∙ sym (placed_on B (encode (parts_of walked.events)) (encode (parts_of (events_of ws))) c.bytes g) in
      let w : placed R (2 * q) (reached c.answers c.bytes (walked ∷ ws)) ≡ placed (placed R (2 * q) (a' ∷ (b' ∷ []))) (2 * suc q) (reached a' b' ws) =
      ap (placed R (2 * q)) (reached_on c.answers c.bytes walked ws z)
      ∙ (sym (placed_on R (a' ∷ (b' ∷ [])) (reached a' b' ws) (2 * q) (omega arith)) ∙ ap (λ k. placed (placed R (2 * q) (a' ∷ (b' ∷ []))) k (reached a' b' ws)) n) in
      step (walks_on (room_at allowance c A B) rs m t ms ts z)
      ∙ ((λ i. call_ended (ending_on q walked ws z i) (counts_more_law c walked.events (events_of ws) i) (x i) (y i) (w i))
      ∙ onward_from room_after)
    where
      Comes : List Ended → AnsweredMany
      Comes vs =
          call_ended (ending q vs) (counts_after c (events_of vs)) (placed A c.answers (answers_of (parts_of (events_of vs))))
          (placed B c.bytes (encode (parts_of (events_of vs)))) (placed R (2 * q) (reached c.answers c.bytes vs))

      step : {vs us : List Ended} → vs ≡ us → Comes vs ≡ Comes us
      step e = ap Comes e

      Next : Room → AnsweredMany
      Next r =
          let vs = walks r rs ms ts in
          call_ended (ending (suc q) vs) (counts_after (counts_after c walked.events) (events_of vs))
          (placed A₁ (c.answers + length (answers_of (parts_of walked.events))) (answers_of (parts_of (events_of vs))))
          (placed B₁ (c.bytes + length (encode (parts_of walked.events))) (encode (parts_of (events_of vs))))
          (placed (placed R (2 * q) ((c.answers + length (answers_of (parts_of walked.events))) ∷ ((c.bytes + length (encode (parts_of walked.events))) ∷ []))) (2 * suc q)
          (reached (c.answers + length (answers_of (parts_of walked.events))) (c.bytes + length (encode (parts_of walked.events))) vs))

      onward_from : {r s : Room} → r ≡ s → Next r ≡ Next s
      onward_from e = ap Next e

  -- a refusal ends it
  pub call_stop : (n : ℕ) → walked.refused ≡ suc n
      → call_onward allowance q c A B R rs (m ∷ ms) (t ∷ ts)
      ≡ call_ended (refusal_in q (suc n) (length (parts_of walked.events))) (counts_after c walked.events) A₁ B₁ R
  unfolding call_onward events_of
  call_stop n z =
      let x : walked.events ++ [] ≡ walked.events = append-nil walked.events in
      ap Comes (walks_stop (room_at allowance c A B) rs m t ms ts n z)
      ∙ ((λ i. call_ended (ending_here q walked [] n z i) (counts_after c (x i)) (placed A c.answers (answers_of (parts_of (x i))))
      (placed B c.bytes (encode (parts_of (x i)))) (placed R (2 * q) (reached_stop c.answers c.bytes walked [] n z i)))
      ∙ ap (call_ended (refusal_in q (suc n) (length (parts_of walked.events))) (counts_after c walked.events) A₁ B₁) (placed_none R (2 * q)))
    where
      Comes : List Ended → AnsweredMany
      Comes vs =
          call_ended (ending q vs) (counts_after c (events_of vs)) (placed A c.answers (answers_of (parts_of (events_of vs))))
          (placed B c.bytes (encode (parts_of (events_of vs)))) (placed R (2 * q) (reached c.answers c.bytes vs))

  -- the counts after it
  pub fits_after : Fits allowance (counts_after c walked.events) A₁ B₁
  unfolding counts_more room_with probes_so
  fits_after =
      let j = both_kinds walked.events in
      let p = fits.probes in
      let a = fits.answers in
      let b = fits.bytes in
      let n = fits.parts in
      let u = answers_size in
      let v = bytes_size in
      let x = room.answers in
      let y = room.bytes in
      let k = cut_within (room_at allowance c A B) (whole_walk t (chosen m rs)) in
      let w = parts_bytes (parts_of walked.events) in
      record { probes = omega arith; answers = omega arith; bytes = omega arith; parts = omega arith }

  -- What is known of the walk's end by what the question comes to: the number and the counts of its own parts from 0 on, of all else from the call's start.
  pub record Told (number : ℕ) (d : Counts) (A' B' : List ℕ) : Type 0 where
    pub refused : walked.refused ≡ number
    pub answers : c.answers + length (answers_of (parts_of walked.events)) ≡ d.answers
    pub parts : length (parts_of walked.events) ≡ d.parts
    pub bytes : c.bytes + length (encode (parts_of walked.events)) ≡ d.bytes
    pub doublings : c.doublings + doublings_of walked.events ≡ d.doublings
    pub halvings : c.halvings + halvings_of walked.events ≡ d.halvings
    pub answers_are : A₁ ≡ A'
    pub bytes_are : B₁ ≡ B'

  pub told : (number : ℕ) (d : Counts) (A' B' : List ℕ)
      → onward allowance (record { answers = c.answers; parts = 0; bytes = c.bytes; doublings = c.doublings; halvings = c.halvings }) A B
      (whole_walk t (chosen m rs))
      ≡ ended number d A' B'
      → Told number d A' B'
  unfolding ended counts_more room_with probes_so
  told number d A' B' h =
      let c₀ : Counts = record { answers = c.answers; parts = 0; bytes = c.bytes; doublings = c.doublings; halvings = c.halvings } in
      let e = sym (onward_writes allowance c₀ A B (whole_walk t (chosen m rs)) fits.answers) ∙ h in
      let o = outcome_same walked.refused number _ d (ap (λ (x : Answered). x.outcome) e) in
      record {
        refused = o.0;
        answers = ap (λ (x : Counts). x.answers) o.1;
        parts = sym (omega arith) ∙ ap (λ (x : Counts). x.parts) o.1;
        bytes = ap (λ (x : Counts). x.bytes) o.1;
        doublings = ap (λ (x : Counts). x.doublings) o.1;
        halvings = ap (λ (x : Counts). x.halvings) o.1;
        answers_are = ap (λ (x : Answered). x.answers) e;
        bytes_are = ap (λ (x : Answered). x.certificate) e;
      }

  -- the counts after it, as they are told
  abbrev pub after : Counts → Counts
  after d = record { answers = d.answers; parts = c.parts + d.parts; bytes = d.bytes; doublings = d.doublings; halvings = d.halvings }

  module _ (number : ℕ) (d : Counts) (A' B' : List ℕ) (end : Told number d A' B') where
    counts_after_law : counts_after c walked.events ≡ after d
    unfolding counts_more
    counts_after_law = counts_same end.answers (ap (λ n. c.parts + n) end.parts) end.bytes end.doublings end.halvings

    pub next_on : number ≡ 0 → 2 * q + 2 ≤ length R
        → call_onward allowance q c A B R rs (m ∷ ms) (t ∷ ts)
        ≡ call_onward allowance (suc q) (after d) A' B' (placed R (2 * q) (d.answers ∷ (d.bytes ∷ []))) rs ms ts
    next_on e l =
        call_on (end.refused ∙ e) l
        ∙ λ i. call_onward allowance (suc q) (counts_after_law i) (end.answers_are i) (end.bytes_are i) (placed R (2 * q) (end.answers i ∷ (end.bytes i ∷ []))) rs ms ts

    pub next_stop : (n : ℕ) → number ≡ suc n
        → call_onward allowance q c A B R rs (m ∷ ms) (t ∷ ts) ≡ call_ended (refusal_in q number d.parts) (after d) A' B' R
    next_stop n e =
        call_stop n (end.refused ∙ e)
        ∙ λ i. call_ended (refusal_in q (sym e i) (end.parts i)) (counts_after_law i) (end.answers_are i) (end.bytes_are i) R

    pub next_fits : Fits allowance (after d) A' B'
    next_fits =
        subst (λ x. Fits allowance (after d) A' x) end.bytes_are
        (subst (λ x. Fits allowance (after d) x B₁) end.answers_are (subst (λ x. Fits allowance x A₁ B₁) counts_after_law fits_after))

-- ---- the call

-- no question is left
pub call_done : (allowance q : ℕ) (c : Counts) (A B R : List ℕ) (rs : List Run) (ts : List ℕ)
    → call_onward allowance q c A B R rs [] ts ≡ call_ended all_passed c A B R
unfolding call_onward walks events_of ending reached parts_of answers_of encode
call_done allowance q c A B R rs ts =
    λ i. call_ended all_passed (counts_none c i) (placed_none A c.answers i) (placed_none B c.bytes i) (placed_none R (2 * q) i)

placed_over : (l xs : List ℕ) → placed l 0 xs ≡ over xs l
unfolding placed over
placed_over l xs = let e : 0 + length xs ≡ length xs = omega arith in ap (λ n. xs ++ drop n l) e

-- the outcome of walks from the call's start
outcome_start : (d : ManyCheck) (es : List Event) → many_outcome d es ≡ call_outcome d (counts_after no_counts es)
unfolding many_outcome call_outcome counts_more no_counts
outcome_start all_passed es =
    let e₁ : length (answers_of (parts_of es)) ≡ 0 + length (answers_of (parts_of es)) = omega arith in
    let e₂ : length (parts_of es) ≡ 0 + length (parts_of es) = omega arith in
    let e₃ : length (encode (parts_of es)) ≡ 0 + length (encode (parts_of es)) = omega arith in
    let e₄ : doublings_of es ≡ 0 + doublings_of es = omega arith in
    let e₅ : halvings_of es ≡ 0 + halvings_of es = omega arith in
    λ i. all_accepted (e₁ i) (e₂ i) (e₃ i) (e₄ i) (e₅ i)
outcome_start (refusal_in q n p) es =
    let e₁ : length (answers_of (parts_of es)) ≡ 0 + length (answers_of (parts_of es)) = omega arith in
    let e₂ : length (parts_of es) ≡ 0 + length (parts_of es) = omega arith in
    let e₃ : length (encode (parts_of es)) ≡ 0 + length (encode (parts_of es)) = omega arith in
    let e₄ : doublings_of es ≡ 0 + doublings_of es = omega arith in
    let e₅ : halvings_of es ≡ 0 + halvings_of es = omega arith in
    λ i. refused_in q n p (e₁ i) (e₂ i) (e₃ i) (e₄ i) (e₅ i)

pub call_start : (allowance : ℕ) (A B R : List ℕ) (rs : List Run) (ms ts : List ℕ)
    → (let ws = walks (record { probes = allowance; answers = length A; bytes = length B }) rs ms ts in answered_many (ending 0 ws) ws A B R)
    ≡ call_onward allowance 0 no_counts A B R rs ms ts
unfolding call_onward answered_many call_ended room_with no_counts probes_so
call_start allowance A B R rs ms ts = Started ∙ ap Rest rooms
  where
    Rest : Room → AnsweredMany
    Rest r =
        let vs = walks r rs ms ts in
        call_ended (ending 0 vs) (counts_after no_counts (events_of vs)) (placed A 0 (answers_of (parts_of (events_of vs)))) (placed B 0 (encode (parts_of (events_of vs))))
        (placed R 0 (reached 0 0 vs))

    rooms : ◌≡◌ {A = Room} (record { probes = allowance; answers = length A; bytes = length B })
        (record { probes = allowance - (0 + 0); answers = length A - 0; bytes = length B - 0 })
    rooms =
        let e₁ : allowance ≡ allowance - (0 + 0) = omega arith in
        let e₂ : length A ≡ length A - 0 = omega arith in
        let e₃ : length B ≡ length B - 0 = omega arith in
        λ i. record { probes = e₁ i; answers = e₂ i; bytes = e₃ i }

    Started : (let ws = walks (record { probes = allowance; answers = length A; bytes = length B }) rs ms ts in answered_many (ending 0 ws) ws A B R)
        ≡ Rest (record { probes = allowance; answers = length A; bytes = length B })
    Started =
        let ws = walks (record { probes = allowance; answers = length A; bytes = length B }) rs ms ts in
        λ i. record {
          outcome = outcome_start (ending 0 ws) (events_of ws) i;
          answers = sym (placed_over A (answers_of (parts_of (events_of ws)))) i;
          certificate = sym (placed_over B (encode (parts_of (events_of ws)))) i;
          results = sym (placed_over R (reached 0 0 ws)) i;
        }
