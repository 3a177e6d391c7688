-- Probes. One search makes fewer than 2 × digits probes, a round that searches writes a gap, and a round searches a run once at most; so in a run of n
-- numbers a walk makes at most 2 × parts × digits n probes. A search moves its run on by at least one number, so it makes at most 2 × n × digits n as
-- well. Every probe is some run's, so their number is the sum over the runs. Assumes nothing.
use Prim.Native.Nat.{ℕ, zero, suc, ◌+◌, ◌*◌, ◌≤◌, ◌<◌}
use borrow.Author.Tests.{lt-ltb, le-ltb, eq-eqb, ne_eqb}
use lib.Dec.{ltb, eqb}
use lib.ListN.{length, replicate}
use mathlib.Core.List.Memᴰ
use mathlib.Core.List.{List, [], ◌∷◌, ◌++◌, Memᴰ}
use mathlib.Core.Logic.{⊎_elim, ◌≢◌}
use mathlib.Core.Path.{◌≡◌, refl, sym, ap, ◌∙◌}
use native.Mathlib.Nat.{mul-le-mul_left}
use native.Mathlib.Omega.{arith}
use Rattle.model.specs.Certificate.{Part}
use Rattle.model.specs.Compared.{parts_of, cost, doubling_probe, halving_probe, probe, in_run, probes_in, digits}
use Rattle.model.specs.Runs.{Run, past_bin, from, total, one}
use Rattle.model.specs.Walk.{Event, sought, doubled, halved, wrote, head_of, head, seek, search_in, searches}
use Rattle.model.proofs.Count.{total_map, total_zero, total_add, total_times}
use Rattle.model.proofs.Digits.{digits_mono}
use Rattle.model.proofs.Events.{cost_append, cost_replicate, cost_searches, parts_wrote, parts_round}
use Rattle.model.specs.Rows.{Rise}
use Rattle.model.proofs.From.{rise_from, from_length, from_fewer, head_nil, head_cons}
use Rattle.model.proofs.Masks.{Ascending, ascending_first, ascending_rest, ascending_least}
use Rattle.model.proofs.Searching.{sought_right}
use Rattle.model.proofs.Tests.{lt_or_le, one_most}
use Rattle.model.proofs.Truth.{Fit, ascending_at}
use Rattle.model.proofs.Walking.{Rising, rising_tail, from_run, at, Walked, over, stop, pass, hit, hit_here}

-- a search that is made, and one that is not
pub search_made : (v : ℕ) (r : Run) → head r < v
    → search_in v r ≡ sought r.label ∷ (replicate (seek v r.bins).doublings (doubled r.label) ++ replicate (seek v r.bins).halvings (halved r.label))
unfolding search_in
search_made v r h = rw (lt-ltb (head r) v h, search_in)

pub search_none : (v : ℕ) (r : Run) → v ≤ head r → search_in v r ≡ []
unfolding search_in
search_none v r h = rw (le-ltb (head r) v h, search_in)

-- what a search costs, given what its beginning and its probes cost
pub search_cost : (c : Event → ℕ) (v i j k : ℕ) (r : Run) → c (sought r.label) ≡ i → c (doubled r.label) ≡ j → c (halved r.label) ≡ k → head r < v
    → cost c (search_in v r) ≡ i + ((seek v r.bins).doublings * j + (seek v r.bins).halvings * k)
unfolding cost
search_cost c v i j k r e₀ e₁ e₂ h =
    let d = (seek v r.bins).doublings in
    let n = (seek v r.bins).halvings in
    let a = cost_append c (replicate d (doubled r.label)) (replicate n (halved r.label)) in
    let b₁ = cost_replicate c d (doubled r.label) ∙ ap (λ (x : ℕ). d * x) e₁ in
    let b₂ = cost_replicate c n (halved r.label) ∙ ap (λ (x : ℕ). n * x) e₂ in
    rw (search_made v r h) (omega arith)

two_digits : (v : ℕ) {a : ℕ} (s : List ℕ) → Rise a s → v ≤ past_bin → head_of s < v → (seek v s).doublings + (seek v s).halvings ≤ 2 * digits (length s)
two_digits v [] g b h = let e = head_nil in absurd (omega arith)
two_digits v (x ∷ s) g b h =
    let e = head_cons x s in
    let k = sought_right v x s g (omega arith) in
    omega (arith, k.doublings, k.halvings)

-- The probes of a search in its own run, none where the head is not below v; and those in any other run.
own_search : (v : ℕ) (r : Run) {a : ℕ} → Rise a r.bins → v ≤ past_bin
    → probes_in r.label (search_in v r) ≤ one (ltb (head_of r.bins) v) * (2 * digits (length r.bins))
unfolding probes_in in_run probe doubling_probe halving_probe cost head one
own_search v r g b =
    ⊎_elim
    (λ (h : head r < v).
    let e : one (eqb r.label r.label) ≡ 1 = ap one (eq-eqb r.label r.label refl) in
    let c = search_cost (in_run r.label probe) v 0 1 1 r (omega arith) (omega arith) (omega arith) h in
    let k = two_digits v r.bins g b h in
    rw (lt-ltb (head_of r.bins) v h) (omega arith))
    (λ (h : v ≤ head r). rw (search_none v r h) (omega arith))
    (lt_or_le (head r) v)

other_search : (v i : ℕ) (r : Run) → i ≢ r.label → probes_in i (search_in v r) ≡ 0
unfolding probes_in in_run probe doubling_probe halving_probe cost one
other_search v i r n =
    ⊎_elim
    (λ (h : head r < v).
    let e : one (eqb i r.label) ≡ 0 = ap one (ne_eqb i r.label n) in
    let c = search_cost (in_run i probe) v 0 0 0 r (omega arith) (omega arith) (omega arith) h in
    omega arith)
    (λ (h : v ≤ head r). rw (search_none v r h))
    (lt_or_le (head r) v)

-- the probes in a run in one round
from_search : (v f : ℕ) {a : ℕ} (r : Run) → Rise a r.bins → v ≤ past_bin
    → probes_in r.label (search_in v (from_run f r)) ≤ one (ltb (head_of (from f r.bins)) v) * (2 * digits (length r.bins))
unfolding from_run
from_search v f r g b =
    let k = own_search v (from_run f r) (rise_from f r.bins g) b in
    let d = mul-le-mul_left (one (ltb (head_of (from f r.bins)) v)) (digits_mono (from_length f r.bins)) in
    omega arith

round_total : (v f : ℕ) {a : ℕ} (rs : List Run) → Ascending a rs → Rising rs → v ≤ past_bin → (r : Run) → Memᴰ r rs
    → total (λ q. probes_in r.label (search_in v (from_run f q))) rs ≤ one (ltb (head_of (from f r.bins)) v) * (2 * digits (length r.bins))
unfolding total from_run
round_total v f [] l g b r m = absurd (Memᴰ.not-nil m)
round_total v f {a} (s ∷ rs) l g b r m =
    let e = ascending_first l in
    ⊎_elim
    (λ (i : r ≡ s).
    let j = ap (λ (x : Run). x.label) i in
    let k = from_search v f r (g.each r m) b in
    let same = ap (λ (x : Run). probes_in r.label (search_in v (from_run f x))) i in
    let z = total_zero (λ q. probes_in r.label (search_in v (from_run f q))) rs
    (λ q n. let w = ascending_least rs (ascending_rest l) q n in other_search v r.label (from_run f q) (omega arith)) in
    omega arith)
    (λ (n : Memᴰ r rs).
    let w = ascending_least rs (ascending_rest l) r n in
    let z = other_search v r.label (from_run f s) (omega arith) in
    let k = round_total v f rs (ascending_rest l) (rising_tail g) b r n in
    omega arith)
    (Memᴰ.cases_cons m)

round_probes : (v f : ℕ) {rs : List Run} {t : ℕ} → Fit rs t → v ≤ past_bin → (r : Run) → Memᴰ r rs
    → probes_in r.label (searches v (at f rs)) ≤ one (ltb (head_of (from f r.bins)) v) * (2 * digits (length r.bins))
unfolding probes_in at
round_probes v f {rs} g b r m =
    let c = cost_searches (in_run r.label probe) v (at f rs) in
    let d = total_map (λ q. cost (in_run r.label probe) (search_in v q)) (from_run f) rs in
    let k = round_total v f rs g.labels g.rising b r m in
    omega arith

-- In a run a walk makes at most 2 × digits probes for each search, at most one search for each part that it writes, and at most one for each number
-- that the run has from the floor on.
pub record Probed (r : Run) (f : ℕ) (es : List Event) : Type 0 where
  pub made : ℕ
  pub probes : probes_in r.label es ≤ made * (2 * digits (length r.bins))
  pub parts : made ≤ length (parts_of es)
  pub numbers : made ≤ length (from f r.bins)

-- an answer, and a part with the searches after it, before the rest of a walk
probed_answer : {r : Run} {v : ℕ} {es : List Event} (p : Part) → v < past_bin → Probed r (suc v) es → Probed r v (wrote p ∷ es)
unfolding probes_in cost in_run
probed_answer {r} {v} {es} p b i =
    let n = from_fewer v (suc v) r.bins (omega arith) (omega arith) in
    record { made = i.made; probes = omega arith; parts = rw (parts_wrote p es) (omega arith); numbers = omega arith }

probed_round : {rs : List Run} {t f v : ℕ} {es : List Event} (p : Part) → Fit rs t → f ≤ v → v ≤ past_bin → (r : Run) → Memᴰ r rs → Probed r v es
    → Probed r f (wrote p ∷ (searches v (at f rs) ++ es))
unfolding probes_in cost in_run
probed_round {rs} {f = f} {v = v} {es = es} p g l b r m i =
    let k = round_probes v f g b r m in
    let c = cost_append (in_run r.label probe) (searches v (at f rs)) es in
    let n = from_fewer f v r.bins l b in
    let o = one_most (ltb (head_of (from f r.bins)) v) in
    record {
      made = one (ltb (head_of (from f r.bins)) v) + i.made;
      probes = omega arith;
      parts = rw (parts_round p v (at f rs) es) (omega arith);
      numbers = omega arith;
    }

pub walk_probes : {rs : List Run} {t f : ℕ} {es : List Event} → Fit rs t → Walked rs t f es → (r : Run) → Memᴰ r rs → Probed r f es
unfolding probes_in cost in_run
walk_probes g (over e) r m = record { made = 0; probes = omega arith; parts = omega arith; numbers = omega arith }
walk_probes g (stop l h) r m = record { made = 0; probes = omega arith; parts = omega arith; numbers = omega arith }
walk_probes g (pass l a q w) r m = let b = a.bin in probed_round _ g (omega arith) (omega arith) r m (walk_probes g w r m)
walk_probes g (hit l a q w) r m =
    let b = a.bin in probed_round _ g (omega arith) (omega arith) r m (probed_answer _ b (walk_probes g w r m))
walk_probes g (hit_here a q w) r m = probed_answer _ a.bin (walk_probes g w r m)

-- ---- the sum over the runs

-- What is done is done in one of the runs, unless it writes a part: so its costs in the runs are its cost together, whatever is counted of it.
pub record Owned (rs : List Run) (es : List Event) : Type 0 where
  pub each : (e : Event) → Memᴰ e es → (c : Event → ℕ) → ((p : Part) → c (wrote p) ≡ 0) → total (λ r. in_run r.label c e) rs ≡ c e

one_label : {a : ℕ} (rs : List Run) → Ascending a rs → (q : Run) → Memᴰ q rs → total (λ r. one (eqb r.label q.label)) rs ≡ 1
unfolding total one
one_label [] l q m = absurd (Memᴰ.not-nil m)
one_label (s ∷ rs) l q m =
    let e = ascending_first l in
    ⊎_elim
    (λ (i : q ≡ s).
    let j : s.label ≡ q.label = sym (ap (λ (x : Run). x.label) i) in
    let z = total_zero (λ r. one (eqb r.label q.label)) rs
    (λ r n. let w = ascending_least rs (ascending_rest l) r n in ap one (ne_eqb r.label q.label (omega arith))) in
    let k = ap one (eq-eqb s.label q.label j) in
    omega arith)
    (λ (n : Memᴰ q rs).
    let w = ascending_least rs (ascending_rest l) q n in
    let k = ap one (ne_eqb s.label q.label (omega arith)) in
    let i = one_label rs (ascending_rest l) q n in
    omega arith)
    (Memᴰ.cases_cons m)

replicate_mem : (n : ℕ) (x e : Event) → Memᴰ e (replicate n x) → e ≡ x
replicate_mem zero x e m = absurd (Memᴰ.not-nil m)
replicate_mem (suc n) x e m = ⊎_elim (λ i. i) (λ k. replicate_mem n x e k) (Memᴰ.cases_cons m)

-- what is done in one run, n being its cost
owned_run : {a : ℕ} (rs : List Run) → Ascending a rs → (q : Run) → Memᴰ q rs → (n : ℕ) → total (λ r. one (eqb r.label q.label) * n) rs ≡ n
owned_run rs l q m n =
    let e : 1 * n ≡ n = omega arith in total_times (λ r. one (eqb r.label q.label)) n rs ∙ (ap (λ x. x * n) (one_label rs l q m) ∙ e)

searches_mem : (v : ℕ) (rs : List Run) (e : Event) → Memᴰ e (searches v rs) → (q : Run) × Memᴰ q rs × Memᴰ e (search_in v q)
unfolding searches
searches_mem v [] e m = absurd (Memᴰ.not-nil m)
searches_mem v (r ∷ rs) e m =
    ⊎_elim
    (λ n. (r, Memᴰ.head refl, n))
    (λ n. let t = searches_mem v rs e n in (t.0, Memᴰ.tail t.1, t.2))
    (Memᴰ.append_cases (search_in v r) m)

module _ (c : Event → ℕ) (silent : (p : Part) → c (wrote p) ≡ 0) where
  owned_event : (rs : List Run) (e e' : Event) → e ≡ e' → total (λ r. in_run r.label c e') rs ≡ c e' → total (λ r. in_run r.label c e) rs ≡ c e
  owned_event rs e e' i h = rw i h

  owned_search : {a : ℕ} (rs : List Run) → Ascending a rs → (v : ℕ) (q : Run) → Memᴰ q rs → (e : Event) → Memᴰ e (search_in v q)
      → total (λ r. in_run r.label c e) rs ≡ c e
  unfolding in_run
  owned_search rs l v q m e n =
      ⊎_elim
      (λ (h : head q < v).
      ⊎_elim
      (λ (i : e ≡ sought q.label). owned_event rs e (sought q.label) i (owned_run rs l q m (c (sought q.label))))
      (λ k.
      ⊎_elim
      (λ o. owned_event rs e (doubled q.label) (replicate_mem (seek v q.bins).doublings (doubled q.label) e o)
      (owned_run rs l q m (c (doubled q.label))))
      (λ o. owned_event rs e (halved q.label) (replicate_mem (seek v q.bins).halvings (halved q.label) e o)
      (owned_run rs l q m (c (halved q.label))))
      (Memᴰ.append_cases (replicate (seek v q.bins).doublings (doubled q.label)) k))
      (Memᴰ.cases_cons (rw (search_made v q h) at n)))
      (λ (h : v ≤ head q). absurd (Memᴰ.not-nil (rw (search_none v q h) at n)))
      (lt_or_le (head q) v)

  labels_at : (f : ℕ) (e : Event) (rs : List Run) → total (λ r. in_run r.label c e) (at f rs) ≡ total (λ r. in_run r.label c e) rs
  unfolding at from_run
  labels_at f e rs = total_map _ (from_run f) rs

  owned_searches : {rs : List Run} {t : ℕ} (v f : ℕ) → Fit rs t → (e : Event) → Memᴰ e (searches v (at f rs))
      → total (λ r. in_run r.label c e) rs ≡ c e
  owned_searches {rs} v f g e m =
      let s = searches_mem v (at f rs) e m in
      sym (labels_at f e rs) ∙ owned_search (at f rs) (ascending_at f g.labels) v s.0 s.1 e s.2

  owned_part : (rs : List Run) (e : Event) (p : Part) → e ≡ wrote p → total (λ r. in_run r.label c e) rs ≡ c e
  unfolding in_run
  owned_part rs e p i = owned_event rs e (wrote p) i (total_zero _ rs (λ r k. refl) ∙ sym (silent p))

  walk_owned : {rs : List Run} {t f : ℕ} {es : List Event} → Fit rs t → Walked rs t f es → (e : Event) → Memᴰ e es
      → total (λ r. in_run r.label c e) rs ≡ c e
  walk_owned g (over i) e m = absurd (Memᴰ.not-nil m)
  walk_owned {rs} g (stop l h) e m = ⊎_elim (λ i. owned_part rs e _ i) (λ n. absurd (Memᴰ.not-nil n)) (Memᴰ.cases_cons m)
  walk_owned {rs} {f = f} g (pass {v = v} l a q w) e m =
      ⊎_elim
      (λ i. owned_part rs e _ i)
      (λ n. ⊎_elim (λ k. owned_searches v f g e k) (λ k. walk_owned g w e k) (Memᴰ.append_cases (searches v (at f rs)) n))
      (Memᴰ.cases_cons m)
  walk_owned {rs} {f = f} g (hit {v = v} l a q w) e m =
      ⊎_elim
      (λ i. owned_part rs e _ i)
      (λ n.
      ⊎_elim
      (λ k. owned_searches v f g e k)
      (λ k. ⊎_elim (λ i. owned_part rs e _ i) (λ o. walk_owned g w e o) (Memᴰ.cases_cons k))
      (Memᴰ.append_cases (searches v (at f rs)) n))
      (Memᴰ.cases_cons m)
  walk_owned {rs} g (hit_here a q w) e m = ⊎_elim (λ i. owned_part rs e _ i) (λ n. walk_owned g w e n) (Memᴰ.cases_cons m)

pub owned : {rs : List Run} {t f : ℕ} {es : List Event} → Fit rs t → Walked rs t f es → Owned rs es
owned g w = record { each = λ e m c h. walk_owned c h g w e m }

pub sum_owned : (c : Event → ℕ) → ((p : Part) → c (wrote p) ≡ 0) → (rs : List Run) (es : List Event) → Owned rs es
    → total (λ r. cost (in_run r.label c) es) rs ≡ cost c es
unfolding cost
sum_owned c silent rs [] h = total_zero _ rs (λ r m. refl)
sum_owned c silent rs (e ∷ es) h =
    let i = sum_owned c silent rs es (record { each = λ d m. h.each d (Memᴰ.tail m) }) in
    let a = total_add (λ r. in_run r.label c e) (λ r. cost (in_run r.label c) es) rs in
    let k = h.each e (Memᴰ.head refl) c silent in
    omega arith
