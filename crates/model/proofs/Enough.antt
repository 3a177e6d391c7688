-- Buffers that are always enough. A round leaves at least one number of some run behind it for good and writes at most a gap and an answer, 34 bytes, and
-- the last round writes one gap of 19 bytes. So for n numbers a walk writes at most n answers and 34 × n + 19 bytes, and with that much room refusals 5
-- and 6 never occur. Assumes nothing.
use Prim.Native.Nat.{ℕ, zero, suc, ◌+◌, ◌-◌, ◌*◌, ◌≤◌, ◌<◌}
use borrow.Author.Tests.{lt-ltb, le-ltb, lt-leb, eq-eqb, ne_eqb, eqb-true}
use lib.Dec.{leb, eqb}
use lib.ListN.{length, drop, length-take}
use mathlib.Core.Bool.{Bool, true, false}
use mathlib.Core.List.{List, [], ◌∷◌, Memᴰ}
use mathlib.Core.Logic.{◌⊎◌, inl, inr, ⊎_elim, ◌≢◌}
use mathlib.Core.Option.{Option, none, some}
use mathlib.Core.Path.{◌≡◌, refl, sym, ap, ◌∙◌, subst}
use native.Mathlib.Nat.{le_trans}
use native.Mathlib.Omega.{arith}
use Rattle.model.specs.Certificate.{Part, answer, gap, answers_of, encode, size_of}
use Rattle.model.specs.Compared.{whole_walk, parts_of}
use Rattle.model.specs.Demands.{Fits, refused_by}
use Rattle.model.specs.Refusals.{Check, passed, refusal, ◌then◌, refuse_if, refuse_at, falls_from, last_end, count_check, weights_check, threshold_check, threshold_checks, list_checks, first_checks, weighted_checks, Room, met, after, cut, cut_walk, Outcome, refused, Answered, outcome_with, answered_with, checked_first, answered_by, query, query_weighted}
use Rattle.model.specs.Runs.{Run, first_bin, past_bin, slice, from, runs_from, runs, weighted_run, weighted, total, one}
use Rattle.model.specs.Walk.{Event, sought, doubled, halved, wrote, head_of, head}
use Rattle.model.proofs.Count.{total_le, total_less, total_map, weight_some, weight_witness}
use Rattle.model.proofs.Cutting.{cut_on, cut_here, encoded}
use Rattle.model.proofs.Demands.{whole_walked}
use Rattle.model.proofs.Events.{parts_round}
use Rattle.model.proofs.FirstChecks.{Listed, first_passed, weighted_passed, fit, weighted_fit, not_fallen}
use Rattle.model.specs.Rows.{equal}
use Rattle.model.proofs.From.{from_pass, from_stop, from_nil, from_from, from_length, from_fewer, head_nil, head_cons}
use Rattle.model.proofs.Heads.{at_most}
use Rattle.model.proofs.Tests.{lt_or_le, eq_or_ne, one_most}
use Rattle.model.proofs.Truth.{Fit, weight_at}
use Rattle.model.proofs.Walking.{from_run, at, head_from, gap_at, answer_at, Walked, over, stop, pass, hit, hit_here}

-- ---- numbers left

-- the numbers of all runs from a floor on
unfoldable left : ℕ → List Run → ℕ
left f rs = total (λ r. length (from f r.bins)) rs

-- a run whose head is not above v either has v for its head or leaves a number behind on the way to v
head_passed : (v : ℕ) (s : List ℕ) → v < past_bin → length (from v s) + one (leb (head_of s) v) ≤ length s + one (eqb (head_of (from v s)) v)
unfolding one
head_passed v [] b = rw (from_nil v, head_nil, lt-leb past_bin v b) (omega arith)
head_passed v (x ∷ s) b =
    ⊎_elim
    (λ (h : x < v).
    let k = from_length v s in
    let m = one_most (leb (head_of (x ∷ s)) v) in
    rw (from_pass v x s h) (omega arith))
    (λ (h : v ≤ x).
    rw (from_stop v x s h, head_cons x s)
    (⊎_elim
    (λ (e : x ≡ v). rw (eq-eqb x v e) (let m = one_most (leb x v) in omega arith))
    (λ (e : x ≢ v). let i : v < x = omega arith in rw (lt-leb x v i) (omega arith))
    (eq_or_ne x v)))
    (lt_or_le x v)

-- a floor that rises leaves no more numbers, and fewer where a run leaves one behind
run_left : (f v : ℕ) (s : List ℕ) → f ≤ v → length (from v s) ≤ length (from f s)
run_left f v s l = rw (← from_from f v s l) (from_length v (from f s))

left_mono : (rs : List Run) (f v : ℕ) → f ≤ v → left v rs ≤ left f rs
unfolding left
left_mono rs f v l = total_le _ _ rs (λ r m. run_left f v r.bins l)

left_less : (rs : List Run) (f v : ℕ) → f ≤ v → (r : Run) → Memᴰ r rs → length (from v r.bins) < length (from f r.bins) → left v rs < left f rs
unfolding left
left_less rs f v l r m k = total_less _ _ rs (λ s n. run_left f v s.bins l) r m k

-- Where the runs whose heads are not above v weigh more than those that then have v for their head, some run leaves a number behind on the way to v.
left_moved : (rs : List Run) (f v : ℕ) → f ≤ v → v < past_bin → equal v (at v rs) < at_most v (at f rs) → left v rs < left f rs
unfolding at_most equal one
left_moved rs f v l b h =
    let p = weight_at (λ r. eqb (head r) v) v rs in
    let q = weight_at (λ r. leb (head r) v) f rs in
    let w = weight_witness (λ r. eqb (head (from_run v r)) v) (λ r. leb (head (from_run f r)) v) rs (omega arith) in
    let r = w.0 in
    let k : length (from v r.bins) + one (leb (head_of (from f r.bins)) v) ≤ length (from f r.bins) + one (eqb (head_of (from v r.bins)) v) =
    subst (λ s. length s + one (leb (head_of (from f r.bins)) v) ≤ length (from f r.bins) + one (eqb (head_of s) v)) (from_from f v r.bins l)
    (head_passed v (from f r.bins) b) in
    let i = ap one (ap (λ x. leb x v) (sym (head_from f r)) ∙ w.2) in
    let j = ap one (ap (λ x. eqb x v) (sym (head_from v r)) ∙ w.3) in
    left_less rs f v l r w.1 (omega arith)

-- past an answer some run leaves it behind
left_answered : (rs : List Run) (v : ℕ) → v < past_bin → 0 < equal v (at v rs) → left (suc v) rs < left v rs
unfolding equal one
left_answered rs v b h =
    let p = weight_at (λ r. eqb (head r) v) v rs in
    let w = weight_some (λ r. eqb (head (from_run v r)) v) rs (omega arith) in
    let r = w.0 in
    let e = eqb-true _ v w.2 in
    let s = head_from v r in
    let k = from_fewer v (suc v) r.bins (omega arith) b in
    let i = ap one (lt-ltb (head_of (from v r.bins)) (suc v) (omega arith)) in
    left_less rs v (suc v) (omega arith) r w.1 (omega arith)

-- ---- what a walk writes

-- the bytes of some parts
unfoldable sizes : List Part → ℕ
sizes [] = 0
sizes (p ∷ ps) = size_of p + sizes ps

record Needs (es : List Event) (n : ℕ) : Type 0 where
  answers : length (answers_of (parts_of es)) ≤ n
  bytes : sizes (parts_of es) ≤ 34 * n + 19

needs_parts : {es : List Event} {n : ℕ} (ps : List Part) → parts_of es ≡ ps → length (answers_of ps) ≤ n → sizes ps ≤ 34 * n + 19 → Needs es n
needs_parts ps e h k = record { answers = rw e h; bytes = rw e k }

walk_needs : {rs : List Run} {t f : ℕ} {es : List Event} → 0 < t → Walked rs t f es → Needs es (left f rs)
unfolding parts_of answers_of sizes size_of gap_at answer_at
walk_needs p (over e) = record { answers = omega arith; bytes = omega arith }
walk_needs p (stop l h) = record { answers = omega arith; bytes = omega arith }
walk_needs {rs} {f = f} p (pass {v = v} {es = es} l a q w) =
    let k = walk_needs p w in
    let n = a.enough in
    let m = left_moved rs f v (omega arith) a.bin (omega arith) in
    needs_parts _ (parts_round (gap_at rs f v (v - 1)) v (at f rs) es) (omega (arith, k.answers)) (omega (arith, k.bytes))
walk_needs {rs} {f = f} p (hit {v = v} {es = es} l a q w) =
    let k = walk_needs p w in
    let b = a.bin in
    let m = left_answered rs v b (omega arith) in
    let n = left_mono rs f v (omega arith) in
    needs_parts _ (parts_round (gap_at rs f v (v - 1)) v (at f rs) (wrote (answer_at rs v) ∷ es)) (omega (arith, k.answers)) (omega (arith, k.bytes))
walk_needs {rs} {f = f} p (hit_here {es = es} a q w) =
    let k = walk_needs p w in
    let m = left_answered rs f a.bin (omega arith) in
    record { answers = omega (arith, k.answers); bytes = omega (arith, k.bytes) }

-- ---- the runs have no more numbers than the row

pub runs_numbers : (i a j : ℕ) (numbers ends : List ℕ) → falls_from a j ends ≡ none
    → a + total (λ r. length r.bins) (runs_from i a numbers ends) ≤ last_end a ends
unfolding runs_from total last_end
runs_numbers i a j numbers [] h = omega arith
runs_numbers i a j numbers (e ∷ ends) h =
    let n = not_fallen a j e ends h in
    let k = runs_numbers (suc i) e (suc j) numbers ends n.1 in
    let l = length-take (e - a) (drop a numbers) in
    let b = from_length first_bin (slice numbers a e) in
    omega (arith, n.0)

left_most : (f : ℕ) (rs : List Run) → left f rs ≤ total (λ r. length r.bins) rs
unfolding left
left_most f rs = total_le _ _ rs (λ r m. from_length f r.bins)

-- ---- a walk with that much room

Roomy : Room → List Event → Type 0
Roomy room es = ((cut room es).refused ≡ 0) ⊎ ((cut room es).refused ≡ 7)

roomy_on : (room : Room) (e : Event) (es : List Event) → met room e ≡ 0 → Roomy (after room e) es → Roomy room (e ∷ es)
unfolding Roomy
roomy_on room e es i k = rw (cut_on room e es i) k

roomy_spent : (room : Room) (e : Event) (es : List Event) → met room e ≡ 7 → Roomy room (e ∷ es)
unfolding Roomy
roomy_spent room e es i = inr (ap (λ x. x.refused) (cut_here room 6 e es i))

cut_roomy : (room : Room) (es : List Event) → length (answers_of (parts_of es)) ≤ room.answers → sizes (parts_of es) ≤ room.bytes → Roomy room es
unfolding Roomy cut met after parts_of answers_of sizes size_of
cut_roomy room [] h k = inl refl
cut_roomy room (sought i ∷ es) h k = roomy_on room (sought i) es refl (cut_roomy room es h k)
cut_roomy room (doubled i ∷ es) h k =
    ⊎_elim
    (λ (e : room.probes ≡ 0). roomy_spent room (doubled i) es (rw (eq-eqb room.probes 0 e, met)))
    (λ (e : room.probes ≢ 0). roomy_on room (doubled i) es (rw (ne_eqb room.probes 0 e, met)) (cut_roomy (after room (doubled i)) es h k))
    (eq_or_ne room.probes 0)
cut_roomy room (halved i ∷ es) h k =
    ⊎_elim
    (λ (e : room.probes ≡ 0). roomy_spent room (halved i) es (rw (eq-eqb room.probes 0 e, met)))
    (λ (e : room.probes ≢ 0). roomy_on room (halved i) es (rw (ne_eqb room.probes 0 e, met)) (cut_roomy (after room (halved i)) es h k))
    (eq_or_ne room.probes 0)
cut_roomy room (wrote (answer v m) ∷ es) h k =
    let n : room.answers ≢ 0 = omega arith in
    let l : 15 ≤ room.bytes = omega arith in
    roomy_on room (wrote (answer v m)) es (rw (ne_eqb room.answers 0 n, le-ltb room.bytes 15 l, met))
    (cut_roomy (after room (wrote (answer v m))) es (omega arith) (omega arith))
cut_roomy room (wrote (gap f l m) ∷ es) h k =
    let n : 19 ≤ room.bytes = omega arith in
    roomy_on room (wrote (gap f l m)) es (rw (le-ltb room.bytes 19 n, met))
    (cut_roomy (after room (wrote (gap f l m))) es h (omega arith))

sizes_bytes : (ps : List Part) → sizes ps ≡ length (encode ps)
unfolding sizes encode
sizes_bytes [] = refl
sizes_bytes (p ∷ ps) = let i = sizes_bytes ps in let n = encoded p ps in omega arith

-- Of a walk over any runs: it writes at most n answers and 34 × n + 19 bytes, where the runs have at most n numbers.
pub walk_small : {rs : List Run} {t : ℕ} → Fit rs t → (n : ℕ) → total (λ r. length r.bins) rs ≤ n
    → (length (answers_of (parts_of (whole_walk t rs))) ≤ n) × (length (encode (parts_of (whole_walk t rs))) ≤ 34 * n + 19)
walk_small {rs} {t} g n l =
    let k = walk_needs g.some (whole_walked g) in
    let m = left_most first_bin rs in
    let s = sizes_bytes (parts_of (whole_walk t rs)) in
    (omega (arith, k.answers), omega (arith, k.bytes))

-- With that much room it is ended by 7 or by nothing.
pub walk_room : (room : Room) (es : List Event) → length (answers_of (parts_of es)) ≤ room.answers → length (encode (parts_of es)) ≤ room.bytes
    → ((cut room es).refused ≡ 0) ⊎ ((cut room es).refused ≡ 7)
unfolding Roomy
walk_room room es a b = let s = sizes_bytes (parts_of es) in cut_roomy room es a (omega arith)

-- an ended walk that 5 and 6 did not end is refused as 7 only
pub ended_roomy : (x : ℕ) (es : List Event) (r n p a b d h : ℕ) → (r ≡ 0) ⊎ (r ≡ 7) → outcome_with x (record { events = es; refused = r }) ≡ refused n p a b d h → n ≡ 7
unfolding outcome_with
ended_roomy x es zero n p a b d h k o = absurd (let z : ◌≡◌ {A = ℕ} 0 1 = cc in omega arith)
ended_roomy x es (suc r) n p a b d h k o =
    let e : suc r ≡ n = cc in
    ⊎_elim (λ (i : suc r ≡ 0). absurd (omega arith)) (λ (i : suc r ≡ 7). omega arith) k

-- ---- the first checks refuse by certain numbers

pub record Door (by : ℕ → Type 0) (c : Check) : Type 0 where
  pub numbers : (n p : ℕ) → c ≡ refusal n p → by n

module _ (by : ℕ → Type 0) where
  pub door_passed : (c : Check) → c ≡ passed → Door by c
  door_passed c e = record { numbers = λ n p q. absurd (let z : ◌≡◌ {A = ℕ} 0 1 = cc in omega arith) }

  pub door_then : (a b : Check) → Door by a → Door by b → Door by (a then b)
  unfolding ◌then◌
  door_then passed b g h = h
  door_then (refusal n p) b g h = g

  pub door_if : (b : Bool) (n p : ℕ) → by n → Door by (refuse_if b n p)
  unfolding refuse_if
  door_if true n p h = record { numbers = λ m q e. let i : n ≡ m = cc in subst by i h }
  door_if false n p h = door_passed passed refl

  pub door_at : (n : ℕ) (o : Option ℕ) → by n → Door by (refuse_at n o)
  unfolding refuse_at
  door_at n (some p) h = record { numbers = λ m q e. let i : n ≡ m = cc in subst by i h }
  door_at n none h = door_passed passed refl

  door_lists : (numbers ends : List ℕ) → by 3 → by 4 → Door by (list_checks numbers ends)
  unfolding list_checks
  door_lists numbers ends h k = door_then _ _ (door_at 3 _ h) (door_then _ _ (door_if _ 3 _ h) (door_at 4 _ k))

  door : (most : ℕ) (numbers ends : List ℕ) (t : ℕ) → by 1 → by 2 → by 3 → by 4 → Door by (threshold_checks most numbers ends t)
  unfolding count_check threshold_check
  door most numbers ends t a b c d = door_then _ _ (door_if _ 1 _ a) (door_then _ _ (door_if _ 2 _ b) (door_lists numbers ends c d))

  door_weighted : (numbers ends weights : List ℕ) (wanted : ℕ) → by 1 → by 17 → by 2 → by 3 → by 4 → Door by (weighted_checks numbers ends weights wanted)
  unfolding weighted_checks count_check weights_check threshold_check
  door_weighted numbers ends weights wanted a w b c d =
      door_then _ _ (door_if _ 1 _ a)
      (door_then _ _ (door_then _ _ (door_if _ 17 _ w) (door_at 17 _ w)) (door_then _ _ (door_if _ 2 _ b) (door_lists numbers ends c d)))

-- A call passes its first checks or is refused by one of their numbers.
refused_at_door : (by : ℕ → Type 0) (c : Check) (x : Answered) (answers certificate : List ℕ) → Door by c
    → (c ≡ passed) ⊎ (by (refused_by (checked_first c x answers certificate).outcome))
unfolding checked_first refused_by
refused_at_door by passed x answers certificate h = inl refl
refused_at_door by (refusal n p) x answers certificate h = inr (h.numbers n p refl)

-- One with a threshold passes them or is refused by 1 to 4.
abbrev pub AtDoor : ℕ → Type 0
AtDoor n = (1 ≤ n) × (n ≤ 4)

pub passed_or_door : (most : ℕ) (numbers ends : List ℕ) (t : ℕ) (x : Answered) (answers certificate : List ℕ)
    → (threshold_checks most numbers ends t ≡ passed) ⊎ (AtDoor (refused_by (checked_first (threshold_checks most numbers ends t) x answers certificate).outcome))
passed_or_door most numbers ends t x answers certificate =
    refused_at_door AtDoor _ x answers certificate
    (door AtDoor most numbers ends t (omega arith, omega arith) (omega arith, omega arith) (omega arith, omega arith) (omega arith, omega arith))

pub passed_or_refused : (numbers ends : List ℕ) (t allowance : ℕ) (answers certificate : List ℕ)
    → (first_checks numbers ends t ≡ passed) ⊎ (AtDoor (refused_by (query numbers ends t allowance answers certificate).outcome))
unfolding query answered_by first_checks
passed_or_refused numbers ends t allowance answers certificate = passed_or_door (length ends) numbers ends t _ answers certificate

-- If, then, one that passes is refused as 7 only, any refusal is 1, 2, 3, 4 or 7.
pub door_or_spent : {A : Type 0} (o : Outcome) → A ⊎ (AtDoor (refused_by o)) → (A → (n p a b d h : ℕ) → o ≡ refused n p a b d h → n ≡ 7)
    → (n p a b d h : ℕ) → o ≡ refused n p a b d h → (AtDoor n) ⊎ (n ≡ 7)
unfolding refused_by
door_or_spent o c f n p a b d h e = ⊎_elim (λ k. inr (f k n p a b d h e)) (λ k. inl (subst AtDoor (ap refused_by e) k)) c

-- The first checks do not refuse by 7, with a threshold or with weights.
pub NotSpent : Check → Type 0
NotSpent c = Door (λ n. n ≢ 7) c

pub threshold_not_spent : (most : ℕ) (numbers ends : List ℕ) (t : ℕ) → NotSpent (threshold_checks most numbers ends t)
unfolding NotSpent
threshold_not_spent most numbers ends t = door _ most numbers ends t (omega arith) (omega arith) (omega arith) (omega arith)

pub weighted_not_spent : (numbers ends weights : List ℕ) (wanted : ℕ) → NotSpent (weighted_checks numbers ends weights wanted)
unfolding NotSpent
weighted_not_spent numbers ends weights wanted = door_weighted _ numbers ends weights wanted (omega arith) (omega arith) (omega arith) (omega arith) (omega arith)

-- So only a call that passes them may be refused as 7.
pub unspent_by : (c : Check) (x : Answered) (answers certificate : List ℕ) → NotSpent c → (c ≡ passed → refused_by x.outcome ≢ 7)
    → refused_by (checked_first c x answers certificate).outcome ≢ 7
unfolding NotSpent checked_first refused_by
unspent_by passed x answers certificate d h = h refl
unspent_by (refusal n p) x answers certificate d h = d.numbers n p refl

-- ---- the law

-- the runs of lists that pass have no more numbers than the row
pub listed_numbers : (numbers ends : List ℕ) → Listed numbers ends → total (λ r. length r.bins) (runs numbers ends) ≤ length numbers
unfolding runs
listed_numbers numbers ends p =
    let n = runs_numbers 0 0 0 numbers ends p.ends_rise in
    let z = p.ends_last in
    omega arith

-- the same with weights: these add no numbers
pub weighted_numbers : (numbers ends weights : List ℕ) → Listed numbers ends → total (λ r. length r.bins) (weighted weights (runs numbers ends)) ≤ length numbers
unfolding weighted weighted_run
weighted_numbers numbers ends weights p =
    let n = listed_numbers numbers ends p in
    let e = total_map (λ r. length r.bins) (weighted_run weights) (runs numbers ends) in
    omega arith

-- A question over runs of at most n numbers with room for n answers and 34 × n + 19 bytes: where it passes its first checks it is accepted or refused as 7.
room_enough_by : (c : Check) (rs : List Run) (t n allowance : ℕ) (answers certificate : List ℕ) → n ≤ length answers → 34 * n + 19 ≤ length certificate
    → Fit rs t → total (λ r. length r.bins) rs ≤ n → c ≡ passed → (x p a b d h : ℕ)
    → (answered_by c rs t allowance answers certificate).outcome ≡ refused x p a b d h → x ≡ 7
unfolding answered_by checked_first answered_with cut_walk
room_enough_by c rs t n allowance answers certificate room bytes g l e x p a b d h o =
    let k = walk_small g n l in
    let w = walk_room (record { probes = allowance; answers = length answers; bytes = length certificate }) (whole_walk t rs) (le_trans k.0 room) (le_trans k.1 bytes) in
    let ended = cut_walk t rs allowance (length answers) (length certificate) in
    ended_roomy _ ended.events ended.refused x p a b d h w (rw e at o)

module _ (numbers ends : List ℕ) (allowance : ℕ) (answers certificate : List ℕ) (fits : Fits past_bin numbers)
    (room : length numbers ≤ length answers) (bytes : 34 * length numbers + 19 ≤ length certificate) where
  -- A question that passes the first checks is accepted or refused as 7: refusals 5 and 6 never occur.
  pub room_enough : (t : ℕ) → first_checks numbers ends t ≡ passed → (n p a b d h : ℕ)
      → (query numbers ends t allowance answers certificate).outcome ≡ refused n p a b d h → n ≡ 7
  unfolding query
  room_enough t e =
      room_enough_by _ (runs numbers ends) t (length numbers) allowance answers certificate room bytes (fit numbers ends t fits e)
      (listed_numbers numbers ends (first_passed numbers ends t e).lists) e

  pub weighted_room_enough : (weights : List ℕ) (wanted : ℕ) → weighted_checks numbers ends weights wanted ≡ passed → (n p a b d h : ℕ)
      → (query_weighted numbers ends weights wanted allowance answers certificate).outcome ≡ refused n p a b d h → n ≡ 7
  unfolding query_weighted
  weighted_room_enough weights wanted e =
      room_enough_by _ (weighted weights (runs numbers ends)) wanted (length numbers) allowance answers certificate room bytes
      (weighted_fit numbers ends weights wanted fits e) (weighted_numbers numbers ends weights (weighted_passed numbers ends weights wanted e).lists) e

  -- Of any question with a threshold that is refused the number is 1, 2, 3, 4 or 7.
  pub refused_numbers : (t n p a b d h : ℕ) → (query numbers ends t allowance answers certificate).outcome ≡ refused n p a b d h
      → (AtDoor n) ⊎ (n ≡ 7)
  refused_numbers t = door_or_spent _ (passed_or_refused numbers ends t allowance answers certificate) (room_enough t)
