-- A question under way, one event at a time: a part that fits is written and the question goes on from there, a probe that is allowed is counted, and a
-- check that fails ends it. Assumes nothing.
use Prim.Native.Nat.{ℕ, zero, suc, ◌+◌, ◌-◌, ◌≤◌, ◌<◌}
use borrow.Author.Tests.{eq-eqb, ne_eqb, le-ltb, lt-ltb, le-leb, lt-leb}
use lib.ListN.{length, take, drop, set, length-append}
use lib.Seq.{take-append_seam, drop-append-add, drop-drop, length-take-le, set_split}
use mathlib.Core.List.{List, [], ◌∷◌, ◌++◌, append_assoc, append-nil}
use mathlib.Core.Bool.{true, false}
use mathlib.Core.Logic.{⊎_elim, ◌≢◌}
use mathlib.Core.Path.{◌≡◌, refl, sym, ap, ◌∙◌}
use native.Mathlib.Omega.{arith}
use Rattle.field_write.proofs.Placed.{placed_length}
use Rattle.field_write.specs.Stored.{placed}
use Rattle.model.specs.Certificate.{answer, gap, answers_of, encode_part, encode, size_of}
use Rattle.model.specs.Compared.{whole_walk, parts_of, cost, doubling_probe, halving_probe, doublings_of, halvings_of, probes_of}
use Rattle.model.specs.Refusals.{met, after, Ended, cut, cut_walk, accepted, refused, over, outcome_with, answered_with}
use Rattle.model.specs.Runs.{Run}
use Rattle.model.specs.Walk.{Event, wrote}
use Rattle.model.proofs.Cutting.{cut_on, cut_here}
use Rattle.model.proofs.Encoding.{part_size}
use Rattle.model.proofs.Events.{cost_append, both_kinds}
use Rattle.model.proofs.Quiet.{Quiet, quiet_parts, spent, cut_quiet, Spent}
use Rattle.model.proofs.Tests.{lt_or_le}
use Rattle.walk_progress.specs.Progress.{Counts, no_counts, probes_so, outcome_at, ended, counts_more, counts_after, writes_answers, answers_written, places_for, room_with, room_at, finish, onward, with_answer, with_unwritten, with_gap, with_probes}

-- ---- placing one thing after another

pub placed_on : (l xs ys : List ℕ) (at : ℕ) → at ≤ length l → placed (placed l at xs) (at + length xs) ys ≡ placed l at (xs ++ ys)
unfolding placed
placed_on l xs ys at h =
    let n : length (take at l ++ xs) ≡ at + length xs = length-append (take at l) xs ∙ ap (λ k. k + length xs) (length-take-le at l h) in
    let d = length-append xs ys in
    let i : at + length xs + length ys ≡ at + length (xs ++ ys) = omega arith in
    let e : drop (at + length xs + length ys) (take at l ++ xs ++ drop (at + length xs) l) ≡ drop (at + length (xs ++ ys)) l =
    ap (λ k. drop (k + length ys) (take at l ++ xs ++ drop (at + length xs) l)) (sym n)
    ∙ (drop-append-add (take at l ++ xs) (drop (at + length xs) l) (length ys)
    ∙ (drop-drop (length ys) (at + length xs) l ∙ ap (λ k. drop k l) i)) in
    let f : take (at + length xs) (take at l ++ xs ++ drop (at + length xs) l) ≡ take at l ++ xs =
    ap (λ k. take k (take at l ++ xs ++ drop (at + length xs) l)) (sym n) ∙ take-append_seam (take at l ++ xs) (drop (at + length xs) l) in
    rw (e, f, append_assoc (take at l) xs ys)

pub placed_none : (l : List ℕ) (at : ℕ) → placed l at [] ≡ l
unfolding placed
placed_none l at = let e : at + 0 ≡ at = omega arith in rw (e, append-nil (take at l)) (lib.ListN.take-append-drop at l)

pub placed_one : (l : List ℕ) (at x : ℕ) → at < length l → placed l at (x ∷ []) ≡ set l at x
unfolding placed
placed_one l at x h =
    let e : at + 1 ≡ suc at = omega arith in
    rw (e, append_assoc (take at l) (x ∷ []) (drop (suc at) l)) (sym (set_split l at x h))

pub placed_keeps : (l xs : List ℕ) (at : ℕ) → at + length xs ≤ length l → length (placed l at xs) ≡ length l
placed_keeps l xs at h = placed_length xs l at h

pub size_gap : (f l m : ℕ) → size_of (gap f l m) ≡ 19
unfolding size_of
size_gap f l m = refl

pub size_answer : (v m : ℕ) → size_of (answer v m) ≡ 15
unfolding size_of
size_answer v m = refl

-- ---- answers that are written, and those that are not

module _ (c : Counts) (A : List ℕ) where
  module _ (h : c.answers ≤ length A) where
    pub written_all : (found : List ℕ) → answers_written c A found ≡ found
    unfolding answers_written writes_answers
    written_all found = rw (le-leb c.answers (length A) h, answers_written)

    pub places_left : (es : List Event) → places_for c A es ≡ length A - c.answers
    unfolding places_for writes_answers
    places_left es = rw (le-leb c.answers (length A) h, places_for)

  module _ (h : length A < c.answers) where
    pub written_none : (found : List ℕ) → answers_written c A found ≡ []
    unfolding answers_written writes_answers
    written_none found = rw (lt-leb c.answers (length A) h, answers_written)

    pub places_all : (es : List Event) → places_for c A es ≡ length (answers_of (parts_of es))
    unfolding places_for writes_answers
    places_all es = rw (lt-leb c.answers (length A) h, places_for)

  written_nil : answers_written c A [] ≡ []
  written_nil =
      ⊎_elim
      (λ (h : length A < c.answers). written_none h [])
      (λ (h : c.answers ≤ length A). written_all h [])
      (lt_or_le (length A) c.answers)

-- ---- what is still to come

pub counts_same : {a a' p p' b b' d d' h h' : ℕ} → a ≡ a' → p ≡ p' → b ≡ b' → d ≡ d' → h ≡ h'
    → ◌≡◌ {A = Counts} (record { answers = a; parts = p; bytes = b; doublings = d; halvings = h })
    (record { answers = a'; parts = p'; bytes = b'; doublings = d'; halvings = h' })
counts_same e f g k l i = record { answers = e i; parts = f i; bytes = g i; doublings = k i; halvings = l i }

-- an outcome tells the refusal's number and the counts
pub outcome_same : (n k : ℕ) (c d : Counts) → outcome_at n c ≡ outcome_at k d → (n ≡ k) × (c ≡ d)
unfolding outcome_at
outcome_same zero zero c d e =
    let a : c.answers ≡ d.answers = cc in
    let p : c.parts ≡ d.parts = cc in
    let b : c.bytes ≡ d.bytes = cc in
    let k : c.doublings ≡ d.doublings = cc in
    let h : c.halvings ≡ d.halvings = cc in
    (refl, counts_same a p b k h)
outcome_same zero (suc k) c d e = absurd (let z : ◌≡◌ {A = ℕ} 0 1 = cc in omega arith)
outcome_same (suc n) zero c d e = absurd (let z : ◌≡◌ {A = ℕ} 0 1 = cc in omega arith)
outcome_same (suc n) (suc k) c d e =
    let i : suc n ≡ suc k = cc in
    let a : c.answers ≡ d.answers = cc in
    let p : c.parts ≡ d.parts = cc in
    let b : c.bytes ≡ d.bytes = cc in
    let k : c.doublings ≡ d.doublings = cc in
    let h : c.halvings ≡ d.halvings = cc in
    (i, counts_same a p b k h)

-- nothing more is counted
pub counts_none : (c : Counts) → counts_after c [] ≡ c
unfolding counts_more parts_of answers_of encode doublings_of halvings_of cost
counts_none c = counts_same (omega arith) (omega arith) (omega arith) (omega arith) (omega arith)

finish_none : (c : Counts) (A B : List ℕ) (n : ℕ) → finish c A B (record { events = []; refused = n }) ≡ ended n c A B
unfolding finish ended parts_of answers_of encode
finish_none c A B n =
    rw (written_nil c A)
    (λ i. record { outcome = outcome_at n (counts_none c i); answers = placed_none A c.answers i; certificate = placed_none B c.bytes i })

pub onward_end : (allowance : ℕ) (c : Counts) (A B : List ℕ) → onward allowance c A B [] ≡ ended 0 c A B
unfolding onward cut
onward_end allowance c A B = finish_none c A B 0

-- a refusal at the next event
pub onward_stop : (allowance : ℕ) (c : Counts) (A B : List ℕ) (e : Event) (es : List Event) (n : ℕ)
    → met (room_with allowance c (places_for c A (e ∷ es)) B) e ≡ suc n → onward allowance c A B (e ∷ es) ≡ ended (suc n) c A B
unfolding onward
onward_stop allowance c A B e es n h = ap (finish c A B) (cut_here _ n e es h) ∙ finish_none c A B (suc n)

-- the next event is done: what was still to come is to come from the counts and buffers after it
onward_on : (allowance : ℕ) (c c' : Counts) (A A' B B' : List ℕ) (e : Event) (es : List Event) → met (room_with allowance c (places_for c A (e ∷ es)) B) e ≡ 0
    → after (room_with allowance c (places_for c A (e ∷ es)) B) e ≡ room_with allowance c' (places_for c' A' es) B'
    → ((ds : List Event) (n : ℕ) → finish c A B (record { events = e ∷ ds; refused = n }) ≡ finish c' A' B' (record { events = ds; refused = n }))
    → onward allowance c A B (e ∷ es) ≡ onward allowance c' A' B' es
unfolding onward
onward_on allowance c c' A A' B B' e es h i f =
    let room = room_with allowance c (places_for c A (e ∷ es)) B in
    ap (finish c A B) (cut_on room e es h)
    ∙ (f (cut (after room e) es).events (cut (after room e) es).refused
    ∙ ap (λ r. finish c' A' B' (cut r es)) i)

-- searches before what is done: only the probes of either kind grow
finish_quiet : (c : Counts) (A B : List ℕ) {ds : List Event} → Quiet ds → (es : List Event) (n : ℕ)
    → finish c A B (record { events = ds ++ es; refused = n })
    ≡ finish (with_probes (doublings_of ds) (halvings_of ds) c) A B (record { events = es; refused = n })
unfolding finish counts_more answers_written writes_answers with_probes doublings_of halvings_of
finish_quiet c A B {ds} q es n =
    let a = cost_append doubling_probe ds es in
    let b = cost_append halving_probe ds es in
    let j : c.doublings + doublings_of (ds ++ es) ≡ c.doublings + doublings_of ds + doublings_of es = omega arith in
    let k : c.halvings + halvings_of (ds ++ es) ≡ c.halvings + halvings_of ds + halvings_of es = omega arith in
    let found = answers_written c A (answers_of (parts_of es)) in
    rw (quiet_parts es q)
    (λ i.
    ended n
    (record {
      answers = c.answers + length found;
      parts = c.parts + length (parts_of es);
      bytes = c.bytes + length (encode (parts_of es));
      doublings = j i;
      halvings = k i;
    })
    (placed A c.answers found) (placed B c.bytes (encode (parts_of es))))

room_probed : (allowance : ℕ) (c : Counts) (places : ℕ) (B : List ℕ) (ds : List Event)
    → spent (room_with allowance c places B) (probes_of ds) ≡ room_with allowance (with_probes (doublings_of ds) (halvings_of ds) c) places B
unfolding spent room_with with_probes probes_so
room_probed allowance c places B ds =
    let b = both_kinds ds in
    let k : allowance - (c.doublings + c.halvings) - probes_of ds ≡ allowance - (c.doublings + doublings_of ds + (c.halvings + halvings_of ds)) = omega arith in
    λ i. record { probes = k i; answers = places; bytes = length B - c.bytes }

places_quiet : (c : Counts) (A : List ℕ) {ds : List Event} (es : List Event) → Quiet ds
    → places_for c A (ds ++ es) ≡ places_for (with_probes (doublings_of ds) (halvings_of ds) c) A es
unfolding places_for writes_answers with_probes
places_quiet c A es q =
    ap (λ ps. elim (writes_answers c A) [ true ↦ length A - c.answers | false ↦ length (answers_of ps) ]) (quiet_parts es q)

-- all their probes are allowed
pub onward_quiet : (allowance : ℕ) (c : Counts) (A B : List ℕ) {ds : List Event} (es : List Event) → Quiet ds → probes_so c + probes_of ds ≤ allowance
    → onward allowance c A B (ds ++ es) ≡ onward allowance (with_probes (doublings_of ds) (halvings_of ds) c) A B es
unfolding onward room_with
onward_quiet allowance c A B {ds} es q h =
    let places = places_for c A (ds ++ es) in
    let room = spent (room_with allowance c places B) (probes_of ds) in
    ap (finish c A B) (cut_quiet (room_with allowance c places B) es q (omega arith))
    ∙ (finish_quiet c A B q (cut room es).events (cut room es).refused
    ∙ (ap (λ x. finish (with_probes (doublings_of ds) (halvings_of ds) c) A B (cut x es)) (room_probed allowance c places B ds)
    ∙ ap (λ x. finish (with_probes (doublings_of ds) (halvings_of ds) c) A B (cut (room_with allowance (with_probes (doublings_of ds) (halvings_of ds) c) x B) es))
    (places_quiet c A es q)))

-- Their probes are more than are allowed: as many are made as are left.
pub onward_spent : (allowance : ℕ) (c : Counts) (A B : List ℕ) {ds : List Event} (es : List Event) (s : Spent (allowance - probes_so c) ds)
    → onward allowance c A B (ds ++ es) ≡ ended 7 (with_probes (doublings_of s.done) (halvings_of s.done) c) A B
unfolding onward room_with
onward_spent allowance c A B {ds} es s =
    ap (finish c A B) (s.is_cut (room_with allowance c (places_for c A (ds ++ es)) B) refl es)
    ∙ (ap (λ x. finish c A B (record { events = x; refused = 7 })) (sym (append-nil s.done))
    ∙ (finish_quiet c A B s.quiet [] 7 ∙ finish_none (with_probes (doublings_of s.done) (halvings_of s.done) c) A B 7))

-- where answers are written: the walk with what is left of their buffer
pub onward_writes : (allowance : ℕ) (c : Counts) (A B : List ℕ) (es : List Event) → c.answers ≤ length A
    → onward allowance c A B es
    ≡ (let e = cut (room_at allowance c A B) es in
    ended e.refused (counts_after c e.events) (placed A c.answers (answers_of (parts_of e.events))) (placed B c.bytes (encode (parts_of e.events))))
unfolding onward finish
onward_writes allowance c A B es h =
    rw (places_left c A h es, written_all c A h (answers_of (parts_of (cut (room_at allowance c A B) es).events))) refl

-- where none is: the walk with room for all of them
pub onward_silent : (allowance : ℕ) (c : Counts) (A B : List ℕ) (es : List Event) → length A < c.answers
    → onward allowance c A B es
    ≡ (let e = cut (room_with allowance c (length (answers_of (parts_of es))) B) es in
    ended e.refused (counts_more c 0 e.events) A (placed B c.bytes (encode (parts_of e.events))))
unfolding onward finish
onward_silent allowance c A B es h =
    let room = room_with allowance c (length (answers_of (parts_of es))) B in
    rw (places_all c A h es, written_none c A h (answers_of (parts_of (cut room es).events)), placed_none A c.answers) refl

-- ---- parts

-- a gap that fits
gap_finish : (c : Counts) (A B : List ℕ) (f l m : ℕ) → c.bytes ≤ length B → (ds : List Event) (n : ℕ)
    → finish c A B (record { events = wrote (gap f l m) ∷ ds; refused = n })
    ≡ finish (with_gap c) A (placed B c.bytes (encode_part (gap f l m))) (record { events = ds; refused = n })
unfolding finish counts_more answers_written writes_answers with_gap parts_of answers_of encode doublings_of halvings_of cost doubling_probe halving_probe
gap_finish c A B f l m h ds n =
    let z = part_size (gap f l m) in
    let w = length-append (encode_part (gap f l m)) (encode (parts_of ds)) in
    let s = size_gap f l m in
    let found = answers_written c A (answers_of (parts_of ds)) in
    let j : c.parts + suc (length (parts_of ds)) ≡ c.parts + 1 + length (parts_of ds) = omega arith in
    let k : c.bytes + length (encode_part (gap f l m) ++ encode (parts_of ds)) ≡ c.bytes + 19 + length (encode (parts_of ds)) = omega arith in
    let d : c.doublings + (0 + doublings_of ds) ≡ c.doublings + doublings_of ds = omega arith in
    let x : c.halvings + (0 + halvings_of ds) ≡ c.halvings + halvings_of ds = omega arith in
    let e : placed B c.bytes (encode_part (gap f l m) ++ encode (parts_of ds))
    ≡ placed (placed B c.bytes (encode_part (gap f l m))) (c.bytes + 19) (encode (parts_of ds)) =
    sym (placed_on B (encode_part (gap f l m)) (encode (parts_of ds)) c.bytes h)
    ∙ ap (λ x. placed (placed B c.bytes (encode_part (gap f l m))) (c.bytes + x) (encode (parts_of ds))) (z ∙ s) in
    λ i.
    ended n (record { answers = c.answers + length found; parts = j i; bytes = k i; doublings = d i; halvings = x i })
    (placed A c.answers found) (e i)

pub onward_gap : (allowance : ℕ) (c : Counts) (A B : List ℕ) (f l m : ℕ) (es : List Event) → c.bytes + 19 ≤ length B
    → onward allowance c A B (wrote (gap f l m) ∷ es) ≡ onward allowance (with_gap c) A (placed B c.bytes (encode_part (gap f l m))) es
unfolding met after room_with places_for writes_answers with_gap probes_so parts_of answers_of
onward_gap allowance c A B f l m es h =
    let z = part_size (gap f l m) in
    let s = size_gap f l m in
    let o : 19 ≤ length B - c.bytes = omega arith in
    let n = placed_keeps B (encode_part (gap f l m)) c.bytes (omega arith) in
    let k : length B - c.bytes - 19 ≡ length (placed B c.bytes (encode_part (gap f l m))) - (c.bytes + 19) = omega arith in
    onward_on allowance c (with_gap c) A A B (placed B c.bytes (encode_part (gap f l m))) (wrote (gap f l m)) es
    (rw (le-ltb (length B - c.bytes) 19 o, met))
    (λ i. record { probes = allowance - probes_so c; answers = places_for c A es; bytes = k i })
    (gap_finish c A B f l m (omega arith))

pub gap_full : (allowance : ℕ) (c : Counts) (A B : List ℕ) (f l m : ℕ) (es : List Event) → c.bytes ≤ length B → length B < c.bytes + 19
    → onward allowance c A B (wrote (gap f l m) ∷ es) ≡ ended 6 c A B
unfolding met room_with
gap_full allowance c A B f l m es g h =
    let o : length B - c.bytes < 19 = omega arith in
    onward_stop allowance c A B (wrote (gap f l m)) es 5 (rw (lt-ltb (length B - c.bytes) 19 o, met))

-- An answer that fits, a being the count of answers after it: what is written of it and of those after it.
module _ (c : Counts) (A A' B : List ℕ) (v m a : ℕ) where
  abbrev after_it : Counts
  after_it = record { answers = a; parts = c.parts + 1; bytes = c.bytes + 15; doublings = c.doublings; halvings = c.halvings }

  answer_finish : ((found : List ℕ) → c.answers + length (answers_written c A (v ∷ found)) ≡ a + length (answers_written after_it A' found))
      → ((found : List ℕ) → placed A c.answers (answers_written c A (v ∷ found)) ≡ placed A' a (answers_written after_it A' found))
      → c.bytes ≤ length B → (ds : List Event) (n : ℕ)
      → finish c A B (record { events = wrote (answer v m) ∷ ds; refused = n })
      ≡ finish after_it A' (placed B c.bytes (encode_part (answer v m))) (record { events = ds; refused = n })
  unfolding finish counts_more parts_of answers_of encode doublings_of halvings_of cost doubling_probe halving_probe
  answer_finish x u h ds n =
      let z = part_size (answer v m) in
      let w = length-append (encode_part (answer v m)) (encode (parts_of ds)) in
      let s = size_answer v m in
      let j : c.parts + suc (length (parts_of ds)) ≡ c.parts + 1 + length (parts_of ds) = omega arith in
      let k : c.bytes + length (encode_part (answer v m) ++ encode (parts_of ds)) ≡ c.bytes + 15 + length (encode (parts_of ds)) = omega arith in
      let d : c.doublings + (0 + doublings_of ds) ≡ c.doublings + doublings_of ds = omega arith in
      let y : c.halvings + (0 + halvings_of ds) ≡ c.halvings + halvings_of ds = omega arith in
      let e : placed B c.bytes (encode_part (answer v m) ++ encode (parts_of ds))
      ≡ placed (placed B c.bytes (encode_part (answer v m))) (c.bytes + 15) (encode (parts_of ds)) =
      sym (placed_on B (encode_part (answer v m)) (encode (parts_of ds)) c.bytes h)
      ∙ ap (λ x. placed (placed B c.bytes (encode_part (answer v m))) (c.bytes + x) (encode (parts_of ds))) (z ∙ s) in
      λ i. ended n (record { answers = x (answers_of (parts_of ds)) i; parts = j i; bytes = k i; doublings = d i; halvings = y i }) (u (answers_of (parts_of ds)) i) (e i)

  answer_onward : (allowance : ℕ) (es : List Event) → places_for c A (wrote (answer v m) ∷ es) ≢ 0
      → places_for c A (wrote (answer v m) ∷ es) - 1 ≡ places_for after_it A' es
      → ((found : List ℕ) → c.answers + length (answers_written c A (v ∷ found)) ≡ a + length (answers_written after_it A' found))
      → ((found : List ℕ) → placed A c.answers (answers_written c A (v ∷ found)) ≡ placed A' a (answers_written after_it A' found))
      → c.bytes + 15 ≤ length B
      → onward allowance c A B (wrote (answer v m) ∷ es) ≡ onward allowance after_it A' (placed B c.bytes (encode_part (answer v m))) es
  unfolding met after room_with probes_so
  answer_onward allowance es p j x u h =
      let z = part_size (answer v m) in
      let s = size_answer v m in
      let o : 15 ≤ length B - c.bytes = omega arith in
      let n = placed_keeps B (encode_part (answer v m)) c.bytes (omega arith) in
      let k : length B - c.bytes - 15 ≡ length (placed B c.bytes (encode_part (answer v m))) - (c.bytes + 15) = omega arith in
      onward_on allowance c after_it A A' B (placed B c.bytes (encode_part (answer v m))) (wrote (answer v m)) es
      (rw (ne_eqb (places_for c A (wrote (answer v m) ∷ es)) 0 p, met, le-ltb (length B - c.bytes) 15 o))
      (λ i. record { probes = allowance - probes_so c; answers = j i; bytes = k i })
      (answer_finish x u (omega arith))

-- it is written, and so are those after it
pub onward_answer : (allowance : ℕ) (c : Counts) (A B : List ℕ) (v m : ℕ) (es : List Event) → c.answers < length A → c.bytes + 15 ≤ length B
    → onward allowance c A B (wrote (answer v m) ∷ es)
    ≡ onward allowance (with_answer c) (set A c.answers v) (placed B c.bytes (encode_part (answer v m))) es
unfolding with_answer
onward_answer allowance c A B v m es g h =
    let y = lib.ListN.length-set A c.answers v in
    let l : c.answers ≤ length A = omega arith in
    let l' : c.answers + 1 ≤ length (set A c.answers v) = omega arith in
    let p = places_left c A l (wrote (answer v m) ∷ es) in
    let p' = places_left (with_answer c) (set A c.answers v) l' es in
    answer_onward c A (set A c.answers v) B v m (c.answers + 1) allowance es (omega arith) (omega arith)
    (λ found. rw (written_all c A l (v ∷ found), written_all (with_answer c) (set A c.answers v) l' found) (omega arith))
    (λ found.
    rw (written_all c A l (v ∷ found), written_all (with_answer c) (set A c.answers v) l' found)
    (sym (placed_on A (v ∷ []) found c.answers l) ∙ ap (λ x. placed x (c.answers + 1) found) (placed_one A c.answers v g)))
    h

-- none is written
pub onward_unwritten : (allowance : ℕ) (c : Counts) (A B : List ℕ) (v m : ℕ) (es : List Event) → length A < c.answers → c.bytes + 15 ≤ length B
    → onward allowance c A B (wrote (answer v m) ∷ es) ≡ onward allowance (with_unwritten c) A (placed B c.bytes (encode_part (answer v m))) es
unfolding with_unwritten parts_of answers_of
onward_unwritten allowance c A B v m es g h =
    let p = places_all c A g (wrote (answer v m) ∷ es) in
    let p' = places_all (with_unwritten c) A g es in
    answer_onward c A A B v m c.answers allowance es (omega arith) (omega arith)
    (λ found. rw (written_none c A g (v ∷ found), written_none (with_unwritten c) A g found) refl)
    (λ found. rw (written_none c A g (v ∷ found), written_none (with_unwritten c) A g found) refl)
    h

pub answers_full : (allowance : ℕ) (c : Counts) (A B : List ℕ) (v m : ℕ) (es : List Event) → c.answers ≡ length A
    → onward allowance c A B (wrote (answer v m) ∷ es) ≡ ended 5 c A B
unfolding met room_with
answers_full allowance c A B v m es g =
    let p = places_left c A (omega arith) (wrote (answer v m) ∷ es) in
    onward_stop allowance c A B (wrote (answer v m)) es 4 (rw (eq-eqb (places_for c A (wrote (answer v m) ∷ es)) 0 (omega arith), met))

pub answer_full : (allowance : ℕ) (c : Counts) (A B : List ℕ) (v m : ℕ) (es : List Event) → c.answers ≢ length A → c.bytes ≤ length B
    → length B < c.bytes + 15 → onward allowance c A B (wrote (answer v m) ∷ es) ≡ ended 6 c A B
unfolding met room_with parts_of answers_of
answer_full allowance c A B v m es g l h =
    let x : places_for c A (wrote (answer v m) ∷ es) ≢ 0 =
    ⊎_elim
    (λ (q : length A < c.answers). let p = places_all c A q (wrote (answer v m) ∷ es) in omega arith)
    (λ (q : c.answers ≤ length A). let p = places_left c A q (wrote (answer v m) ∷ es) in omega arith)
    (lt_or_le (length A) c.answers) in
    let o : length B - c.bytes < 15 = omega arith in
    onward_stop allowance c A B (wrote (answer v m)) es 5 (rw (ne_eqb (places_for c A (wrote (answer v m) ∷ es)) 0 x, met, lt-ltb (length B - c.bytes) 15 o))

-- ---- the start

zero_more : (n : ℕ) → n ≡ 0 + n
zero_more n = omega arith

pub over_placed : (xs l : List ℕ) → over xs l ≡ placed l 0 xs
unfolding over placed
over_placed xs l = let e : 0 + length xs ≡ length xs = omega arith in rw e

pub outcome_start : (a : ℕ) (es : List Event) (n : ℕ) → outcome_with a (record { events = es; refused = n }) ≡ outcome_at n (counts_more no_counts a es)
unfolding outcome_with outcome_at counts_more no_counts
outcome_start a es zero = λ i. accepted (zero_more a i) (zero_more (length (parts_of es)) i) (zero_more (length (encode (parts_of es))) i) (zero_more (doublings_of es) i) (zero_more (halvings_of es) i)
outcome_start a es (suc n) = λ i. refused (suc n) (zero_more (length (parts_of es)) i) (zero_more a i) (zero_more (length (encode (parts_of es))) i) (zero_more (doublings_of es) i) (zero_more (halvings_of es) i)

started : (e : Ended) (A B : List ℕ) → answered_with (answers_of (parts_of e.events)) e A B ≡ finish no_counts A B e
unfolding answered_with finish ended no_counts
started e A B =
    rw (written_all no_counts A (omega arith) (answers_of (parts_of e.events)))
    (λ i.
    record {
      outcome = outcome_start (length (answers_of (parts_of e.events))) e.events e.refused i;
      answers = over_placed (answers_of (parts_of e.events)) A i;
      certificate = over_placed (encode (parts_of e.events)) B i;
    })

pub room_start : (allowance places : ℕ) (B : List ℕ) → record { probes = allowance; answers = places; bytes = length B } ≡ room_with allowance no_counts places B
unfolding room_with no_counts probes_so
room_start allowance places B =
    let p : allowance ≡ allowance - (0 + 0) = omega arith in
    let b : length B ≡ length B - 0 = omega arith in
    λ i. record { probes = p i; answers = places; bytes = b i }

pub onward_start : (t : ℕ) (rs : List Run) (allowance : ℕ) (A B : List ℕ)
    → (let e = cut_walk t rs allowance (length A) (length B) in answered_with (answers_of (parts_of e.events)) e A B) ≡ onward allowance no_counts A B (whole_walk t rs)
unfolding onward cut_walk no_counts
onward_start t rs allowance A B =
    let q = places_left no_counts A (omega arith) (whole_walk t rs) in
    let p : length A ≡ places_for no_counts A (whole_walk t rs) = omega arith in
    started (cut (record { probes = allowance; answers = length A; bytes = length B }) (whole_walk t rs)) A B
    ∙ ap (λ room. finish no_counts A B (cut room (whole_walk t rs)))
    (room_start allowance (length A) B ∙ ap (λ x. room_with allowance no_counts x B) p)
