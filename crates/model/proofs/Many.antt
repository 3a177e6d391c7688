-- A call with many questions. Each walk is the whole walk of its question's chosen runs cut by what the walks before it left; all but the last reach their
-- end; the result row tells where each one's answers and bytes end in the buffers. Assumes nothing.
use Prim.Native.Nat.{ℕ, zero, suc, ◌+◌, ◌-◌, ◌*◌, ◌≤◌, ◌<◌}
use borrow.Author.Tests.{lt-ltb, le-ltb, eq-eqb, ne_eqb}
use lib.ListN.{length, get_or, take, drop, length-append, get_or-append}
use lib.Seq.{take-append_seam, drop-append-add}
use mathlib.Core.List.{List, [], ◌∷◌, ◌++◌, append_assoc}
use mathlib.Core.Logic.{⊎_elim, ◌≢◌}
use mathlib.Core.Path.{◌≡◌, refl, sym, ap, ◌∙◌, subst}
use native.Mathlib.Omega.{arith}
use Rattle.model.specs.Certificate.{Part, answer, gap, answers_of, encode_part, encode}
use Rattle.model.specs.Compared.{whole_walk, parts_of, cost, probes_of}
use Rattle.model.specs.Many.{ManyCheck, all_passed, refusal_in, left_after, walks, events_of, ending, reached, many_outcome}
use Rattle.model.specs.ManyDemands.{all_answers, all_bytes, finished_of, begun_of, ended_by, parts_of_question, end_in, start_in, own_in, walk_of, sum_to}
use Rattle.model.specs.Refusals.{Room, after, Ended, cut, over}
use Rattle.model.specs.Runs.{Run, slice, chosen}
use Rattle.model.specs.Walk.{Event}
use Rattle.model.proofs.Cutting.{after_probes}
use Rattle.model.proofs.Events.{parts_append, cost_append}
use Rattle.model.proofs.Tests.{lt_or_le, eq_or_ne}

-- a question that was not begun
abbrev pub unbegun : Ended
unbegun = record { events = []; refused = 0 }

-- ---- sums

pub sum_suc : (n : ℕ) (f : ℕ → ℕ) → sum_to (suc n) f ≡ sum_to n f + f n
unfolding sum_to
sum_suc zero f = omega arith
sum_suc (suc n) f = let i = sum_suc n (λ q. f (suc q)) in omega arith

pub sum_same : (n : ℕ) (f g : ℕ → ℕ) → ((q : ℕ) → q < n → f q ≡ g q) → sum_to n f ≡ sum_to n g
unfolding sum_to
sum_same zero f g h = refl
sum_same (suc n) f g h =
    let i = sum_same n (λ q. f (suc q)) (λ q. g (suc q)) (λ q l. h (suc q) (omega arith)) in
    let j = h 0 (omega arith) in
    omega arith

pub sum_le : (n : ℕ) (f g : ℕ → ℕ) → ((q : ℕ) → q < n → f q ≤ g q) → sum_to n f ≤ sum_to n g
unfolding sum_to
sum_le zero f g h = omega arith
sum_le (suc n) f g h =
    let i = sum_le n (λ q. f (suc q)) (λ q. g (suc q)) (λ q l. h (suc q) (omega arith)) in
    let j = h 0 (omega arith) in
    omega arith

pub sum_more : (n k : ℕ) (f : ℕ → ℕ) → n ≤ k → sum_to n f ≤ sum_to k f
unfolding sum_to
sum_more zero k f h = omega arith
sum_more (suc n) zero f h = absurd (omega arith)
sum_more (suc n) (suc k) f h = let i = sum_more n k (λ q. f (suc q)) (omega arith) in omega arith

-- ---- what walks write, one after another

-- what some events write: parts, answers or bytes
pub record Writing {A : Type 0} (wr : List Event → List A) : Type 0 where
  pub nothing : wr [] ≡ []
  pub more : (es ds : List Event) → wr (es ++ ds) ≡ wr es ++ wr ds

answers_append : (ps qs : List Part) → answers_of (ps ++ qs) ≡ answers_of ps ++ answers_of qs
unfolding answers_of
answers_append [] qs = refl
answers_append (answer v m ∷ ps) qs = ap (λ l. v ∷ l) (answers_append ps qs)
answers_append (gap f l m ∷ ps) qs = answers_append ps qs

encode_append : (ps qs : List Part) → encode (ps ++ qs) ≡ encode ps ++ encode qs
unfolding encode
encode_append [] qs = refl
encode_append (p ∷ ps) qs = ap (λ l. encode_part p ++ l) (encode_append ps qs) ∙ sym (append_assoc (encode_part p) (encode ps) (encode qs))

pub answers_writing : Writing (λ es. answers_of (parts_of es))
unfolding answers_of parts_of
answers_writing = record { nothing = refl; more = λ es ds. ap answers_of (parts_append es ds) ∙ answers_append (parts_of es) (parts_of ds) }

pub bytes_writing : Writing (λ es. encode (parts_of es))
unfolding encode parts_of
bytes_writing = record { nothing = refl; more = λ es ds. ap encode (parts_append es ds) ∙ encode_append (parts_of es) (parts_of ds) }

pub parts_writing : Writing parts_of
unfolding parts_of
parts_writing = record { nothing = refl; more = parts_append }

module _ {A : Type 0} (wr : List Event → List A) (w : Writing wr) where
  -- all that is written
  pub all_size : (ws : List Ended) → length (wr (events_of ws)) ≡ sum_to (length ws) (λ i. length (wr (walk_of ws i)))
  unfolding events_of sum_to walk_of
  all_size [] = ap length w.nothing
  all_size (e ∷ es) =
      let i = all_size es in
      let a = ap length (w.more e.events (events_of es)) in
      let b = length-append (wr e.events) (wr (events_of es)) in
      omega arith

module _ (wr : List Event → List ℕ) (w : Writing wr) where
  -- and what question q writes of it
  pub own_slice : (ws : List Ended) (rest : List ℕ) (q : ℕ) → q < length ws
      → slice (wr (events_of ws) ++ rest) (sum_to q (λ i. length (wr (walk_of ws i)))) (sum_to (suc q) (λ i. length (wr (walk_of ws i)))) ≡ wr (walk_of ws q)
  unfolding events_of sum_to walk_of
  own_slice [] rest q h = absurd (omega arith)
  own_slice (e ∷ es) rest zero h =
      let n : length (wr e.events) + 0 - 0 ≡ length (wr e.events) = omega arith in
      rw (n, w.more e.events (events_of es), append_assoc (wr e.events) (wr (events_of es)) rest)
      (take-append_seam (wr e.events) (wr (events_of es) ++ rest))
  own_slice (e ∷ es) rest (suc q) h =
      let i = own_slice es rest q (omega arith) in
      let a = length (wr e.events) in
      let b = sum_to q (λ j. length (wr (walk_of es j))) in
      let c = sum_to (suc q) (λ j. length (wr (walk_of es j))) in
      let d : a + c - (a + b) ≡ c - b = omega arith in
      rw (w.more e.events (events_of es), append_assoc (wr e.events) (wr (events_of es)) rest)
      ((λ k. take (d k) (drop-append-add (wr e.events) (wr (events_of es) ++ rest) b k)) ∙ i)

pub all_cost : (c : Event → ℕ) (ws : List Ended) → cost c (events_of ws) ≡ sum_to (length ws) (λ i. cost c (walk_of ws i))
unfolding events_of sum_to walk_of cost
all_cost c [] = refl
all_cost c (e ∷ es) = let i = all_cost c es in let a = cost_append c e.events (events_of es) in omega arith

-- ---- the walks

pub left_probes : (room : Room) (es : List Event) → (left_after room es).probes ≡ room.probes - probes_of es
unfolding left_after probes_of cost
left_probes room [] = omega arith
left_probes room (e ∷ es) = let i = left_probes (after room e) es in let a = after_probes room e in omega arith

-- a walk that reaches its end, and one that a refusal ends
pub walks_on : (room : Room) (rs : List Run) (m t : ℕ) (ms ts : List ℕ) → (cut room (whole_walk t (chosen m rs))).refused ≡ 0
    → walks room rs (m ∷ ms) (t ∷ ts)
    ≡ cut room (whole_walk t (chosen m rs)) ∷ walks (left_after room (cut room (whole_walk t (chosen m rs))).events) rs ms ts
unfolding walks
walks_on room rs m t ms ts e = rw (e, walks)

pub walks_stop : (room : Room) (rs : List Run) (m t : ℕ) (ms ts : List ℕ) (n : ℕ) → (cut room (whole_walk t (chosen m rs))).refused ≡ suc n
    → walks room rs (m ∷ ms) (t ∷ ts) ≡ cut room (whole_walk t (chosen m rs)) ∷ []
unfolding walks
walks_stop room rs m t ms ts n e = rw (e, walks)

-- a number is 0 or another
pub zero_or : (n : ℕ) {A : Type 0} → (n ≡ 0 → A) → ((k : ℕ) → n ≡ suc k → A) → A
zero_or zero f g = f refl
zero_or (suc k) f g = g k refl

-- Question q as it is begun: with what is left of the call's allowance after the probes of those before it.
pub record Asked (room : Room) (rs : List Run) (ms ts : List ℕ) (ws : List Ended) (q : ℕ) : Type 0 where
  pub left : Room
  pub is : get_or ws q unbegun ≡ cut left (whole_walk (get_or ts q 0) (chosen (get_or ms q 0) rs))
  pub probes : left.probes ≡ room.probes - sum_to q (λ i. probes_of (walk_of ws i))

asked_next : (room : Room) (rs : List Run) (m t : ℕ) (ms ts : List ℕ) (e : Ended) (ws : List Ended) (q : ℕ)
    → Asked (left_after room e.events) rs ms ts ws q → Asked room rs (m ∷ ms) (t ∷ ts) (e ∷ ws) (suc q)
unfolding sum_to walk_of
asked_next room rs m t ms ts e ws q a =
    let p = left_probes room e.events in
    let b = a.probes in
    record { left = a.left; is = a.is; probes = omega arith }

pub asked : (room : Room) (rs : List Run) (ms ts : List ℕ) (q : ℕ) → q < length (walks room rs ms ts) → Asked room rs ms ts (walks room rs ms ts) q
unfolding walks sum_to
asked room rs [] ts q h = absurd (omega arith)
asked room rs (m ∷ ms) [] q h = absurd (omega arith)
asked room rs (m ∷ ms) (t ∷ ts) zero h = record { left = room; is = refl; probes = omega arith }
asked room rs (m ∷ ms) (t ∷ ts) (suc q) h =
    let e = cut room (whole_walk t (chosen m rs)) in
    zero_or e.refused
    (λ i.
    subst (λ ws. Asked room rs (m ∷ ms) (t ∷ ts) ws (suc q)) (sym (walks_on room rs m t ms ts i))
    (asked_next room rs m t ms ts e (walks (left_after room e.events) rs ms ts) q
    (asked (left_after room e.events) rs ms ts q (omega (arith, ap length (walks_on room rs m t ms ts i))))))
    (λ k i. absurd (omega (arith, ap length (walks_stop room rs m t ms ts k i))))

-- How the walks of n questions end, the first of them being question i's: all reach their end, or the last is ended by a refusal.
pub data Ending (i : ℕ) (ws : List Ended) (n : ℕ) : ManyCheck → Type 0 where
  finished : length ws ≡ n → ((q : ℕ) → q < length ws → (get_or ws q unbegun).refused ≡ 0) → Ending i ws n all_passed
  stopped : (j k x : ℕ) → k ≡ i + j → length ws ≡ suc j → suc j ≤ n → ((q : ℕ) → q < j → (get_or ws q unbegun).refused ≡ 0) → (get_or ws j unbegun).refused ≡ suc x
      → Ending i ws n (refusal_in k (suc x) (length (parts_of (walk_of ws j))))

pub ending_on : (i : ℕ) (e : Ended) (es : List Ended) → e.refused ≡ 0 → ending i (e ∷ es) ≡ ending (suc i) es
unfolding ending
ending_on i e es h = rw (h, ending)

pub ending_here : (i : ℕ) (e : Ended) (es : List Ended) (n : ℕ) → e.refused ≡ suc n → ending i (e ∷ es) ≡ refusal_in i (suc n) (length (parts_of e.events))
unfolding ending
ending_here i e es n h = rw (h, ending)

first_too : (e : Ended) (ws : List Ended) (n : ℕ) → e.refused ≡ 0 → ((q : ℕ) → q < n → (get_or ws q unbegun).refused ≡ 0)
    → (q : ℕ) → q < suc n → (get_or (e ∷ ws) q unbegun).refused ≡ 0
first_too e ws n h f zero l = h
first_too e ws n h f (suc q) l = f q (omega arith)

ending_after : (i : ℕ) (e : Ended) (ws : List Ended) (n : ℕ) (c : ManyCheck) → e.refused ≡ 0 → Ending (suc i) ws n c → Ending i (e ∷ ws) (suc n) c
unfolding walk_of
ending_after i e ws n c h (finished l f) = finished (ap suc l) (first_too e ws (length ws) h f)
ending_after i e ws n c h (stopped j k x d l m f g) =
    let d' : k ≡ i + suc j = omega arith in
    let l' : length (e ∷ ws) ≡ suc (suc j) = ap suc l in
    let m' : suc (suc j) ≤ suc n = omega arith in
    stopped (suc j) k x d' l' m' (first_too e ws j h f) g

ending_first : (i : ℕ) (e : Ended) (n x : ℕ) → e.refused ≡ suc x → Ending i (e ∷ []) (suc n) (refusal_in i (suc x) (length (parts_of e.events)))
unfolding walk_of
ending_first i e n x h =
    let d : i ≡ i + 0 = omega arith in
    let k : 1 ≤ suc n = omega arith in
    stopped 0 i x d refl k (λ q l. absurd (omega arith)) h

pub walks_end : (i : ℕ) (room : Room) (rs : List Run) (ms ts : List ℕ) → length ms ≡ length ts
    → Ending i (walks room rs ms ts) (length ms) (ending i (walks room rs ms ts))
unfolding walks ending
walks_end i room rs [] ts h = finished refl (λ q l. absurd (omega arith))
walks_end i room rs (m ∷ ms) [] h = absurd (omega arith)
walks_end i room rs (m ∷ ms) (t ∷ ts) h =
    let e = cut room (whole_walk t (chosen m rs)) in
    let next = walks (left_after room e.events) rs ms ts in
    zero_or e.refused
    (λ z.
    subst (λ ws. Ending i ws (suc (length ms)) (ending i ws)) (sym (walks_on room rs m t ms ts z))
    (subst (Ending i (e ∷ next) (suc (length ms))) (sym (ending_on i e next z))
    (ending_after i e next (length ms) (ending (suc i) next) z (walks_end (suc i) (left_after room e.events) rs ms ts (omega arith)))))
    (λ k z.
    subst (λ ws. Ending i ws (suc (length ms)) (ending i ws)) (sym (walks_stop room rs m t ms ts k z))
    (subst (Ending i (e ∷ []) (suc (length ms))) (sym (ending_here i e [] k z)) (ending_first i e (length ms) k z)))

-- ---- the result row

pub reached_on : (a b : ℕ) (e : Ended) (es : List Ended) → e.refused ≡ 0
    → reached a b (e ∷ es)
    ≡ (a + length (answers_of (parts_of e.events))) ∷ ((b + length (encode (parts_of e.events)))
    ∷ reached (a + length (answers_of (parts_of e.events))) (b + length (encode (parts_of e.events))) es)
unfolding reached
reached_on a b e es h = rw (h, reached)

pub reached_stop : (a b : ℕ) (e : Ended) (es : List Ended) (n : ℕ) → e.refused ≡ suc n → reached a b (e ∷ es) ≡ []
unfolding reached
reached_stop a b e es n h = rw (h, reached)

-- what it tells of question q, where that and those before it are finished
pub record Told (a b : ℕ) (ws : List Ended) (q : ℕ) : Type 0 where
  pub answers : get_or (reached a b ws) (2 * q + 0) 0 ≡ a + sum_to (suc q) (λ i. length (answers_of (parts_of (walk_of ws i))))
  pub bytes : get_or (reached a b ws) (2 * q + 1) 0 ≡ b + sum_to (suc q) (λ i. length (encode (parts_of (walk_of ws i))))
  pub inside : 2 * q + 1 < length (reached a b ws)

told_first : (a b : ℕ) (e : Ended) (es : List Ended) → e.refused ≡ 0 → Told a b (e ∷ es) 0
unfolding sum_to walk_of
told_first a b e es h =
    let r = reached_on a b e es h in
    let x = length (answers_of (parts_of e.events)) in
    let y = length (encode (parts_of e.events)) in
    record {
      answers = ap (λ l. get_or l 0 0) r ∙ omega arith;
      bytes = ap (λ l. get_or l 1 0) r ∙ omega arith;
      inside = omega (arith, ap length r);
    }

told_next : (a b : ℕ) (e : Ended) (es : List Ended) (q : ℕ) → e.refused ≡ 0
    → Told (a + length (answers_of (parts_of e.events))) (b + length (encode (parts_of e.events))) es q → Told a b (e ∷ es) (suc q)
unfolding sum_to walk_of
told_next a b e es q h t =
    let r = reached_on a b e es h in
    let n₀ : 2 * suc q + 0 ≡ suc (suc (2 * q + 0)) = omega arith in
    let n₁ : 2 * suc q + 1 ≡ suc (suc (2 * q + 1)) = omega arith in
    let u = t.answers in
    let v = t.bytes in
    let w = t.inside in
    record {
      answers = (λ k. get_or (r k) (n₀ k) 0) ∙ (u ∙ omega arith);
      bytes = (λ k. get_or (r k) (n₁ k) 0) ∙ (v ∙ omega arith);
      inside = omega (arith, ap length r);
    }

pub told : (a b : ℕ) (ws : List Ended) (q : ℕ) → q < length ws → ((i : ℕ) → i < suc q → (get_or ws i unbegun).refused ≡ 0) → Told a b ws q
told a b [] q l h = absurd (omega arith)
told a b (e ∷ es) zero l h = told_first a b e es (h 0 (omega arith))
told a b (e ∷ es) (suc q) l h =
    told_next a b e es q (h 0 (omega arith))
    (told (a + length (answers_of (parts_of e.events))) (b + length (encode (parts_of e.events))) es q (omega arith) (λ i k. h (suc i) (omega arith)))

-- ---- what the outcome of a call tells of a question that was begun

end_told : (results : List ℕ) (n all j q : ℕ) → q < n → end_in results n all j q ≡ get_or results (2 * q + j) 0
unfolding end_in
end_told results n all j q h = rw (lt-ltb q n h, end_in)

end_all : (results : List ℕ) (n all j q : ℕ) → n ≤ q → end_in results n all j q ≡ all
unfolding end_in
end_all results n all j q h = rw (le-ltb q n h, end_in)

over_is : (written buffer : List ℕ) → over written buffer ≡ written ++ drop (length written) buffer
unfolding over
over_is written buffer = refl

module _ (ws : List Ended) (n : ℕ) where
  pub begun_all : (c : ManyCheck) → Ending 0 ws n c → begun_of n (many_outcome c (events_of ws)) ≡ length ws
  unfolding begun_of many_outcome
  begun_all all_passed (finished l f) = sym l
  begun_all (refusal_in i y p) (stopped j k x d l m f g) = omega arith

  -- the refusal that ended it
  pub ended_by_law : (c : ManyCheck) → Ending 0 ws n c → (q : ℕ) → q < length ws → ended_by (many_outcome c (events_of ws)) q ≡ (get_or ws q unbegun).refused
  unfolding ended_by many_outcome
  ended_by_law all_passed (finished l f) q h = sym (f q h)
  ended_by_law (refusal_in i y p) (stopped j k x d l m f g) q h =
      ⊎_elim
      (λ (e : q ≡ k). let z : q ≡ j = omega arith in rw (eq-eqb q k e, ended_by) (sym (ap (λ o. (get_or ws o unbegun).refused) z ∙ g)))
      (λ (e : q ≢ k). rw (ne_eqb q k e, ended_by) (sym (f q (omega arith))))
      (eq_or_ne q k)

  -- its parts
  pub own_parts : (c : ManyCheck) → Ending 0 ws n c → (q : ℕ) → q < length ws → (whole : ℕ)
      → ((get_or ws q unbegun).refused ≡ 0 → length (parts_of (walk_of ws q)) ≡ whole)
      → parts_of_question (many_outcome c (events_of ws)) whole q ≡ length (parts_of (walk_of ws q))
  unfolding parts_of_question many_outcome
  own_parts all_passed (finished l f) q h whole w = sym (w (f q h))
  own_parts (refusal_in i y p) (stopped j k x d l m f g) q h whole w =
      ⊎_elim
      (λ (e : q ≡ k). let z : j ≡ q = omega arith in rw (eq-eqb q k e, parts_of_question) (ap (λ o. length (parts_of (walk_of ws o))) z))
      (λ (e : q ≢ k). rw (ne_eqb q k e, parts_of_question) (sym (w (f q (omega arith)))))
      (eq_or_ne q k)

  -- where its answers and its bytes end
  pub answers_end : (c : ManyCheck) (results : List ℕ) → Ending 0 ws n c → (q : ℕ) → q < length ws
      → end_in (over (reached 0 0 ws) results) (finished_of n (many_outcome c (events_of ws))) (all_answers (many_outcome c (events_of ws))) 0 q
      ≡ sum_to (suc q) (λ i. length (answers_of (parts_of (walk_of ws i))))
  unfolding finished_of all_answers many_outcome over
  answers_end all_passed results (finished l f) q h =
      let t = told 0 0 ws q h (λ i k. f i (omega arith)) in
      let b = t.inside in
      end_told (over (reached 0 0 ws) results) n _ 0 q (omega arith)
      ∙ (get_or-append (reached 0 0 ws) _ 0 (2 * q + 0) (omega arith) ∙ (t.answers ∙ omega arith))
  answers_end (refusal_in i y p) results (stopped j k x d l m f g) q h =
      ⊎_elim
      (λ (e : q < k).
      let t = told 0 0 ws q h (λ u o. f u (omega arith)) in
      let b = t.inside in
      end_told (over (reached 0 0 ws) results) k _ 0 q e
      ∙ (get_or-append (reached 0 0 ws) _ 0 (2 * q + 0) (omega arith) ∙ (t.answers ∙ omega arith)))
      (λ (e : k ≤ q).
      let z : length ws ≡ suc q = omega arith in
      end_all (over (reached 0 0 ws) results) k _ 0 q e
      ∙ (all_size (λ es. answers_of (parts_of es)) answers_writing ws ∙ ap (λ u. sum_to u (λ o. length (answers_of (parts_of (walk_of ws o))))) z))
      (lt_or_le q k)

  pub bytes_end : (c : ManyCheck) (results : List ℕ) → Ending 0 ws n c → (q : ℕ) → q < length ws
      → end_in (over (reached 0 0 ws) results) (finished_of n (many_outcome c (events_of ws))) (all_bytes (many_outcome c (events_of ws))) 1 q
      ≡ sum_to (suc q) (λ i. length (encode (parts_of (walk_of ws i))))
  unfolding finished_of all_bytes many_outcome over
  bytes_end all_passed results (finished l f) q h =
      let t = told 0 0 ws q h (λ i k. f i (omega arith)) in
      let b = t.inside in
      end_told (over (reached 0 0 ws) results) n _ 1 q (omega arith)
      ∙ (get_or-append (reached 0 0 ws) _ 0 (2 * q + 1) (omega arith) ∙ (t.bytes ∙ omega arith))
  bytes_end (refusal_in i y p) results (stopped j k x d l m f g) q h =
      ⊎_elim
      (λ (e : q < k).
      let t = told 0 0 ws q h (λ u o. f u (omega arith)) in
      let b = t.inside in
      end_told (over (reached 0 0 ws) results) k _ 1 q e
      ∙ (get_or-append (reached 0 0 ws) _ 0 (2 * q + 1) (omega arith) ∙ (t.bytes ∙ omega arith)))
      (λ (e : k ≤ q).
      let z : length ws ≡ suc q = omega arith in
      end_all (over (reached 0 0 ws) results) k _ 1 q e
      ∙ (all_size (λ es. encode (parts_of es)) bytes_writing ws ∙ ap (λ u. sum_to u (λ o. length (encode (parts_of (walk_of ws o))))) z))
      (lt_or_le q k)

  -- where they start
  pub answers_start : (c : ManyCheck) (results : List ℕ) → Ending 0 ws n c → (q : ℕ) → q < length ws
      → start_in (over (reached 0 0 ws) results) (finished_of n (many_outcome c (events_of ws))) (all_answers (many_outcome c (events_of ws))) 0 q
      ≡ sum_to q (λ i. length (answers_of (parts_of (walk_of ws i))))
  unfolding start_in sum_to
  answers_start c results e zero h = refl
  answers_start c results e (suc q) h = answers_end c results e q (omega arith)

  pub bytes_start : (c : ManyCheck) (results : List ℕ) → Ending 0 ws n c → (q : ℕ) → q < length ws
      → start_in (over (reached 0 0 ws) results) (finished_of n (many_outcome c (events_of ws))) (all_bytes (many_outcome c (events_of ws))) 1 q
      ≡ sum_to q (λ i. length (encode (parts_of (walk_of ws i))))
  unfolding start_in sum_to
  bytes_start c results e zero h = refl
  bytes_start c results e (suc q) h = bytes_end c results e q (omega arith)

  -- so these are its own
  pub own_answers : (c : ManyCheck) (answers results : List ℕ) → Ending 0 ws n c → (q : ℕ) → q < length ws
      → own_in (over (answers_of (parts_of (events_of ws))) answers) (over (reached 0 0 ws) results) (finished_of n (many_outcome c (events_of ws)))
      (all_answers (many_outcome c (events_of ws))) 0 q
      ≡ answers_of (parts_of (walk_of ws q))
  unfolding own_in
  own_answers c answers results e q h =
      (λ k. slice (over (answers_of (parts_of (events_of ws))) answers) (answers_start c results e q h k) (answers_end c results e q h k))
      ∙ rw (over_is (answers_of (parts_of (events_of ws))) answers) (own_slice (λ es. answers_of (parts_of es)) answers_writing ws _ q h)

  pub own_bytes : (c : ManyCheck) (certificate results : List ℕ) → Ending 0 ws n c → (q : ℕ) → q < length ws
      → own_in (over (encode (parts_of (events_of ws))) certificate) (over (reached 0 0 ws) results) (finished_of n (many_outcome c (events_of ws)))
      (all_bytes (many_outcome c (events_of ws))) 1 q
      ≡ encode (parts_of (walk_of ws q))
  unfolding own_in
  own_bytes c certificate results e q h =
      (λ k. slice (over (encode (parts_of (events_of ws))) certificate) (bytes_start c results e q h k) (bytes_end c results e q h k))
      ∙ rw (over_is (encode (parts_of (events_of ws))) certificate) (own_slice (λ es. encode (parts_of es)) bytes_writing ws _ q h)
