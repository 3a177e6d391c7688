-- The walk as a derivation. At each round's start every run stands at its numbers from the floor on (`at`), so every head is at least the floor
-- and every number before a position is below it. `Walked` lists the ways a walk from a floor can go, with what is known at each; every walk
-- with rounds enough goes one of them. Assumes nothing.
use Prim.Native.Nat.{ℕ, zero, suc, ◌+◌, ◌-◌, ◌≤◌, ◌<◌}
use borrow.Author.Tests.{le-leb, lt-ltb, le-ltb, lt-leb, eq-eqb, ne_eqb, leb-true}
use lib.Dec.{ltb, leb, eqb}
use mathlib.Core.List.Memᴰ
use mathlib.Core.List.{List, [], ◌∷◌, ◌++◌, map, Memᴰ}
use mathlib.Core.Logic.{◌⊎◌, ⊎_elim, ◌≢◌}
use mathlib.Core.Path.{◌≡◌, refl, sym, ap, ap₂, ◌∙◌, subst}
use native.Mathlib.Omega.{arith}
use Rattle.model.specs.Certificate.{Part, answer, gap}
use Rattle.model.specs.Runs.{Run, first_bin, last_bin, past_bin, from, weight_of, weight_of_all, mask}
use Rattle.model.specs.Walk.{Event, wrote, head_of, head, enough_head, search_in, searches, searched, moved_on, settle, round, walk}
use Rattle.model.proofs.Count.{total_map, weight_le}
use Rattle.model.specs.Rows.{Rise, equal}
use Rattle.model.proofs.From.{rise_from, from_from, from_all, from_nil, head_nil, head_cons, head_least, head_bin, from_past_head, from_other_head}
use Rattle.model.proofs.Heads.{Heads, at_most, below, enough_past, enough_ge, enough_reached, enough_few}
use Rattle.model.proofs.Searching.{sought_right}
use Rattle.model.proofs.Tests.{lt_or_le, eq_or_ne}

pub past_last : past_bin ≡ suc last_bin
unfolding past_bin last_bin
past_last = refl

-- runs whose bins rise
pub record Rising (rs : List Run) : Type 0 where
  pub each : (r : Run) → Memᴰ r rs → Rise first_bin r.bins

pub rising_tail : {r : Run} {rs : List Run} → Rising (r ∷ rs) → Rising rs
rising_tail g = record { each = λ s m. g.each s (Memᴰ.tail m) }

-- a run, and all runs, at their numbers from f on
unfoldable pub from_run : ℕ → Run → Run
from_run f r = record { label = r.label; weight = r.weight; bins = from f r.bins }

unfoldable pub at : ℕ → List Run → List Run
at f rs = map (from_run f) rs

pub map_same : (f g : Run → Run) (rs : List Run) → ((r : Run) → Memᴰ r rs → f r ≡ g r) → map f rs ≡ map g rs
map_same f g [] h = refl
map_same f g (r ∷ rs) h = ap₂ ◌∷◌ (h r (Memᴰ.head refl)) (map_same f g rs (λ s m. h s (Memᴰ.tail m)))

pub map_map : (f g : Run → Run) (rs : List Run) → map f (map g rs) ≡ map (λ r. f (g r)) rs
map_map f g [] = refl
map_map f g (r ∷ rs) = ap (λ l. f (g r) ∷ l) (map_map f g rs)

pub map_mem : (f : Run → Run) (rs : List Run) (q : Run) → Memᴰ q (map f rs) → (r : Run) × Memᴰ r rs × (q ≡ f r)
map_mem f [] q m = absurd (Memᴰ.not-nil m)
map_mem f (r ∷ rs) q m =
    ⊎_elim
    (λ e. (r, Memᴰ.head refl, e))
    (λ n. let t = map_mem f rs q n in (t.0, Memᴰ.tail t.1, t.2))
    (Memᴰ.cases_cons m)

pub at_weight : (f : ℕ) (rs : List Run) → weight_of_all (at f rs) ≡ weight_of_all rs
unfolding at weight_of_all from_run
at_weight f rs = total_map (λ r. r.weight) (from_run f) rs

pub head_from : (f : ℕ) (r : Run) → head (from_run f r) ≡ head_of (from f r.bins)
unfolding head from_run
head_from f r = refl

pub at_start : (f : ℕ) (rs : List Run) → f ≤ first_bin → Rising rs → at f rs ≡ rs
unfolding at from_run
at_start f [] l g = refl
at_start f (r ∷ rs) l g =
    ap₂ ◌∷◌
    (λ i. record { label = r.label; weight = r.weight; bins = from_all f l (g.each r (Memᴰ.head refl)) i })
    (at_start f rs l (rising_tail g))

pub at_heads : (f : ℕ) (rs : List Run) → Rising rs → Heads (at f rs)
unfolding at
at_heads f rs g =
    record {
      small = λ q m.
          let s = map_mem (from_run f) rs q m in
          let b = head_bin (rise_from f s.0.bins (g.each s.0 s.1)) in
          let e = head_from f s.0 in
          let k = ap head s.2 in
          omega arith;
    }

pub at_least : (f : ℕ) (rs : List Run) → Rising rs → f ≤ past_bin → (q : Run) → Memᴰ q (at f rs) → f ≤ head q
unfolding at
at_least f rs g l q m =
    let s = map_mem (from_run f) rs q m in
    let b = head_least (rise_from f s.0.bins (g.each s.0 s.1)) l in
    let e = head_from f s.0 in
    let k = ap head s.2 in
    omega arith

-- a search moves a run to its numbers from v on, and so does no search where the head is not below v
pub searched_bins : (v l w : ℕ) {a : ℕ} (s : List ℕ) → Rise a s → v ≤ past_bin
    → searched v (record { label = l; weight = w; bins = s }) ≡ record { label = l; weight = w; bins = from v s }
unfolding searched head
searched_bins v l w [] g h =
    rw (le-ltb (head_of []) v (rw head_nil h), searched) (λ i. record { label = l; weight = w; bins = sym (from_nil v) i })
searched_bins v l w (x ∷ s) g h =
    ⊎_elim
    (λ (q : x < v).
    rw (lt-ltb (head_of (x ∷ s)) v (rw (head_cons x s) q), searched)
    (λ i. record { label = l; weight = w; bins = (sought_right v x s g q).moved i }))
    (λ (q : v ≤ x).
    rw (le-ltb (head_of (x ∷ s)) v (rw (head_cons x s) q), searched)
    (λ i. record { label = l; weight = w; bins = sym (Rattle.model.proofs.From.from_stop v x s q) i }))
    (lt_or_le x v)

pub searched_at : (f v : ℕ) (rs : List Run) → Rising rs → f ≤ v → v ≤ past_bin → map (searched v) (at f rs) ≡ at v rs
unfolding at from_run
searched_at f v rs g l h =
    map_map (searched v) (from_run f) rs
    ∙ map_same _ _ rs
    (λ r m.
    searched_bins v r.label r.weight (from f r.bins) (rise_from f r.bins (g.each r m)) h
    ∙ λ i. record { label = r.label; weight = r.weight; bins = from_from f v r.bins l i })

-- past an answer v every run is at its numbers from v + 1 on
moved_bins : (v l w : ℕ) (s : List ℕ) → Rise v s → v < past_bin
    → moved_on v (record { label = l; weight = w; bins = s }) ≡ record { label = l; weight = w; bins = from (suc v) s }
unfolding moved_on head
moved_bins v l w s g h =
    ⊎_elim
    (λ (q : head_of s ≡ v). rw (eq-eqb (head_of s) v q, moved_on) (λ i. record { label = l; weight = w; bins = from_past_head g q h i }))
    (λ (q : head_of s ≢ v). rw (ne_eqb (head_of s) v q, moved_on) (λ i. record { label = l; weight = w; bins = sym (from_other_head g q) i }))
    (eq_or_ne (head_of s) v)

pub moved_at : (v : ℕ) (rs : List Run) → Rising rs → v < past_bin → map (moved_on v) (at v rs) ≡ at (suc v) rs
unfolding at from_run
moved_at v rs g h =
    map_map (moved_on v) (from_run v) rs
    ∙ map_same _ _ rs
    (λ r m.
    moved_bins v r.label r.weight (from v r.bins) (rise_from v r.bins (g.each r m)) h
    ∙ λ i. record { label = r.label; weight = r.weight; bins = from_from v (suc v) r.bins (omega arith) i })

-- v is the least head at the floor f such that the runs whose heads are not above it weigh enough
pub record Ahead (rs : List Run) (t f v : ℕ) : Type 0 where
  pub least : enough_head t (at f rs) ≡ v
  pub floor : f ≤ v
  pub bin : v < past_bin
  pub enough : t ≤ at_most v (at f rs)
  pub few : below v (at f rs) < t

-- the parts that a round writes
unfoldable pub gap_at : List Run → ℕ → ℕ → ℕ → Part
gap_at rs f v last = gap f last (mask (λ r. leb v (head r)) (at f rs))

unfoldable pub answer_at : List Run → ℕ → Part
answer_at rs v = answer v (mask (λ r. eqb (head r) v) (at v rs))

-- The ways that a walk from a floor f goes: it is over; the runs with a head weigh too little; it passes v with no answer there; it finds v an answer, after a gap or
-- at the floor itself.
pub data Walked (rs : List Run) (t : ℕ) : ℕ → List Event → Type 0 where
  over : {f : ℕ} → f ≡ past_bin → Walked rs t f []
  stop : {f : ℕ} → f < past_bin → below past_bin (at f rs) < t → Walked rs t f (wrote (gap_at rs f past_bin last_bin) ∷ [])
  pass : {f v : ℕ} {es : List Event} → f < v → Ahead rs t f v → equal v (at v rs) < t → Walked rs t v es
      → Walked rs t f (wrote (gap_at rs f v (v - 1)) ∷ (searches v (at f rs) ++ es))
  hit : {f v : ℕ} {es : List Event} → f < v → Ahead rs t f v → t ≤ equal v (at v rs) → Walked rs t (suc v) es
      → Walked rs t f (wrote (gap_at rs f v (v - 1)) ∷ (searches v (at f rs) ++ (wrote (answer_at rs v) ∷ es)))
  hit_here : {f : ℕ} {es : List Event} → Ahead rs t f f → t ≤ equal f (at f rs) → Walked rs t (suc f) es
      → Walked rs t f (wrote (answer_at rs f) ∷ es)

-- where every head is at least the floor, a search for the floor is none
pub no_searches : (v : ℕ) (rs : List Run) → ((r : Run) → Memᴰ r rs → v ≤ head r) → searches v rs ≡ []
unfolding searches search_in
no_searches v [] h = refl
no_searches v (r ∷ rs) h =
    rw (le-ltb (head r) v (h r (Memᴰ.head refl)), search_in) (no_searches v rs (λ s m. h s (Memᴰ.tail m)))

pub all_equal : (f : ℕ) (rs : List Run) → ((r : Run) → Memᴰ r rs → f ≤ head r) → at_most f rs ≤ equal f rs
unfolding at_most equal
all_equal f rs h =
    weight_le _ _ rs (λ r m q. let i = leb-true (head r) f q in let j = h r m in eq-eqb (head r) f (omega arith))

-- the ways that a round goes on, after the searches
pub settled_hit : (next : ℕ → List Run → List Event) (t v : ℕ) (rs : List Run) → t ≤ equal v (at v rs) → v < last_bin
    → settle next t v (at v rs) ≡ wrote (answer_at rs v) ∷ next (suc v) (map (moved_on v) (at v rs))
unfolding settle equal answer_at
settled_hit next t v rs h l =
    let n : v ≢ last_bin = omega arith in
    rw (le-leb t (weight_of (λ r. eqb (head r) v) (at v rs)) h, ne_eqb v last_bin n, settle)

pub settled_last : (next : ℕ → List Run → List Event) (t v : ℕ) (rs : List Run) → t ≤ equal v (at v rs) → v ≡ last_bin
    → settle next t v (at v rs) ≡ wrote (answer_at rs v) ∷ []
unfolding settle equal answer_at
settled_last next t v rs h l =
    rw (le-leb t (weight_of (λ r. eqb (head r) v) (at v rs)) h, eq-eqb v last_bin l, settle)

pub settled_pass : (next : ℕ → List Run → List Event) (t v : ℕ) (rs : List Run) → equal v (at v rs) < t
    → settle next t v (at v rs) ≡ next v (at v rs)
unfolding settle equal
settled_pass next t v rs h = rw (lt-leb t (weight_of (λ r. eqb (head r) v) (at v rs)) h, settle)

-- a round where the runs with a head weigh too little, and one where they weigh enough
pub round_stop : (next : ℕ → List Run → List Event) (t f : ℕ) (rs : List Run) → below past_bin (at f rs) < t
    → round next t f (at f rs) ≡ wrote (gap_at rs f past_bin last_bin) ∷ []
unfolding round below gap_at
round_stop next t f rs h = rw (lt-ltb (weight_of (λ r. ltb (head r) past_bin) (at f rs)) t h, round)

pub round_gap : (next : ℕ → List Run → List Event) (t f : ℕ) (rs : List Run) → t ≤ below past_bin (at f rs) → f < enough_head t (at f rs)
    → round next t f (at f rs)
    ≡ wrote (gap_at rs f (enough_head t (at f rs)) (enough_head t (at f rs) - 1))
    ∷ (searches (enough_head t (at f rs)) (at f rs) ++ settle next t (enough_head t (at f rs)) (map (searched (enough_head t (at f rs))) (at f rs)))
unfolding round below gap_at
round_gap next t f rs h l =
    rw (le-ltb (weight_of (λ r. ltb (head r) past_bin) (at f rs)) t h, round) (rw (lt-ltb f (enough_head t (at f rs)) l))

pub round_here : (next : ℕ → List Run → List Event) (t f : ℕ) (rs : List Run) → t ≤ below past_bin (at f rs) → enough_head t (at f rs) ≡ f
    → round next t f (at f rs) ≡ searches f (at f rs) ++ settle next t f (map (searched f) (at f rs))
unfolding round below
round_here next t f rs h e =
    rw (le-ltb (weight_of (λ r. ltb (head r) past_bin) (at f rs)) t h, round) (rw (e, le-ltb f f (omega arith)))

-- that head at a floor, where the runs with a head weigh enough
ahead : (rs : List Run) (t f : ℕ) → Rising rs → 0 < t → t ≤ weight_of_all rs → f < past_bin → t ≤ below past_bin (at f rs)
    → Ahead rs t f (enough_head t (at f rs))
ahead rs t f g p k l h =
    let few = enough_few t (at f rs) p in
    let small = enough_past t (at f rs) in
    let size = at_weight f rs in
    record {
      least = refl;
      floor = enough_ge t f (at f rs) (omega arith) (at_least f rs g (omega arith));
      bin = before_past (enough_head t (at f rs)) small few;
      enough = enough_reached t (at f rs) (at_heads f rs g) (omega arith);
      few = few;
    }
  where
    before_past : (v : ℕ) → v ≤ past_bin → below v (at f rs) < t → v < past_bin
    before_past v l' q =
        ⊎_elim
        (λ (u : v < past_bin). u)
        (λ (u : past_bin ≤ v). let e : v ≡ past_bin = omega arith in let w = ap (λ x. below x (at f rs)) e in absurd (omega arith))
        (lt_or_le v past_bin)

-- after an answer: the walk is over, or goes on from the next bin
answered : (rs : List Run) (t n u : ℕ) → Rising rs → u < past_bin → t ≤ equal u (at u rs)
    → (suc u < past_bin → Walked rs t (suc u) (walk n t (suc u) (at (suc u) rs)))
    → (es : List Event) × (settle (walk n t) t u (at u rs) ≡ wrote (answer_at rs u) ∷ es) × Walked rs t (suc u) es
answered rs t n u g l q next =
    let e = past_last in
    ⊎_elim
    (λ (i : suc u < past_bin). (
      walk n t (suc u) (at (suc u) rs),
      settled_hit (walk n t) t u rs q (omega arith) ∙ ap (λ x. wrote (answer_at rs u) ∷ walk n t (suc u) x) (moved_at u rs g l),
      next i,
    ))
    (λ (i : past_bin ≤ suc u).
    let j : u ≡ last_bin = omega arith in
    let k : suc u ≡ past_bin = omega arith in
    ([], settled_last (walk n t) t u rs q j, over k))
    (lt_or_le (suc u) past_bin)

-- Every walk goes one of the ways, with as many rounds as there are bins from its floor on.
pub walked : (rs : List Run) (t : ℕ) → Rising rs → 0 < t → t ≤ weight_of_all rs → (n f : ℕ) → f < past_bin → past_bin ≤ f + n
    → Walked rs t f (walk n t f (at f rs))
unfolding walk
walked rs t g p k zero f l m = absurd (omega arith)
walked rs t g p k (suc n) f l m =
    ⊎_elim
    (λ (h : below past_bin (at f rs) < t). rw (round_stop (walk n t) t f rs h) (stop l h))
    (λ (h : t ≤ below past_bin (at f rs)). rounds (ahead rs t f g p k l h) h (λ v i j. walked rs t g p k n v i j))
    (lt_or_le (below past_bin (at f rs)) t)
  where
    v : ℕ
    v = enough_head t (at f rs)

    Next : Type 0
    Next = (u : ℕ) → u < past_bin → past_bin ≤ u + n → Walked rs t u (walk n t u (at u rs))

    here : Ahead rs t f v → v ≡ f → t ≤ below past_bin (at f rs) → Next → Walked rs t f (round (walk n t) t f (at f rs))
    here a e h next =
        let a' : Ahead rs t f f = subst (λ x. Ahead rs t f x) e a in
        let heads = at_least f rs g (omega arith) in
        let q : t ≤ equal f (at f rs) = omega (arith, all_equal f (at f rs) heads, a'.enough) in
        let s = answered rs t n f g l q (λ i. next (suc f) i (omega arith)) in
        rw (round_here (walk n t) t f rs h e, no_searches f (at f rs) heads, searched_at f f rs g (omega arith) (omega arith), s.1)
        (hit_here a' q s.2)

    beyond : Ahead rs t f v → f < v → t ≤ below past_bin (at f rs) → Next → Walked rs t f (round (walk n t) t f (at f rs))
    beyond a i h next =
        let j : v < past_bin = a.bin in
        let e = searched_at f v rs g (omega arith) (omega arith) in
        rw (round_gap (walk n t) t f rs h i, e)
        (⊎_elim
        (λ (q : equal v (at v rs) < t).
        rw (settled_pass (walk n t) t v rs q) (pass i a q (next v j (omega arith))))
        (λ (q : t ≤ equal v (at v rs)).
        let s = answered rs t n v g j q (λ w. next (suc v) w (omega arith)) in
        rw s.1 (hit i a q s.2))
        (lt_or_le (equal v (at v rs)) t))

    rounds : Ahead rs t f v → t ≤ below past_bin (at f rs) → Next → Walked rs t f (round (walk n t) t f (at f rs))
    rounds a h next =
        ⊎_elim (λ (q : f < v). beyond a q h next) (λ (q : v ≤ f). here a (omega (arith, a.floor)) h next) (lt_or_le f v)
