-- The parts of a walk are true and cover the bins from its floor on. A gap names the runs whose head is not below v, and those whose head is weigh less than t;
-- an answer names the runs whose head it is. Assumes nothing.
use Prim.Native.Nat.{ℕ, suc, ◌-◌, ◌≤◌, ◌<◌}
use borrow.Author.Tests.{lt-ltb, le-ltb, le-leb, lt-leb, leb-true, eqb-true}
use lib.Dec.{ltb, leb, eqb}
use mathlib.Core.Bool.{Bool, true, false, not}
use mathlib.Core.List.Memᴰ
use mathlib.Core.List.{List, [], ◌∷◌, Memᴰ}
use mathlib.Core.Logic.{⊎_elim}
use mathlib.Core.Path.{◌≡◌, refl, sym, ap, ◌∙◌, subst}
use native.Mathlib.Omega.{arith}
use Rattle.model.specs.Certificate.{Part, first_of, last_of, Covers, covered, covers, NamesOnly, TrueGap, TrueAnswer, TruePart, gap_true, answer_true}
use Rattle.model.specs.Compared.{parts_of}
use Rattle.model.specs.Runs.{Run, last_bin, past_bin, from, weight_of, weight_of_all, mask, names}
use Rattle.model.specs.Walk.{Event, head, head_of, wrote}
use Rattle.model.proofs.Count.{weight_map, weight_eq}
use Rattle.model.proofs.Events.{parts_wrote, parts_nil, parts_round}
use Rattle.model.specs.Rows.{equal}
use Rattle.model.proofs.Heads.{below}
use Rattle.model.proofs.From.{rise_from, mem_from, from_mem, head_below_mem, head_mem}
use Rattle.model.proofs.Masks.{Ascending, ascending_nil, ascending_cons, mask_bit, names_mask}
use Rattle.model.proofs.Tests.{lt_or_le}
use Rattle.model.proofs.Walking.{Rising, map_mem, from_run, at, head_from, past_last, gap_at, answer_at, Walked, over, stop, pass, hit, hit_here}

-- runs that rise, their labels too, with a threshold that they can meet
pub record Fit (rs : List Run) (t : ℕ) : Type 0 where
  pub rising : Rising rs
  pub labels : Ascending 0 rs
  pub some : 0 < t
  pub met : t ≤ weight_of_all rs

pub ascending_at : (f : ℕ) {a : ℕ} {rs : List Run} → Ascending a rs → Ascending a (at f rs)
unfolding at from_run
ascending_at f ascending_nil = ascending_nil
ascending_at f (ascending_cons e l) = ascending_cons e (ascending_at f l)

pub mem_at : (f : ℕ) {r : Run} {rs : List Run} → Memᴰ r rs → Memᴰ (from_run f r) (at f rs)
unfolding at
mem_at f (Memᴰ.head e) = Memᴰ.head (ap (from_run f) e)
mem_at f (Memᴰ.tail m) = Memᴰ.tail (mem_at f m)

-- what the mask of a test at a floor says of a run, and that it names no others
named : (p : Run → Bool) (f : ℕ) (rs : List Run) → Ascending 0 rs → (r : Run) → Memᴰ r rs → names (mask p (at f rs)) r ≡ p (from_run f r)
unfolding names from_run
named p f rs l r m = names_mask p (at f rs) (ascending_at f l) (from_run f r) (mem_at f m)

only_at : (p : Run → Bool) (f : ℕ) (rs : List Run) → Ascending 0 rs → NamesOnly (mask p (at f rs)) rs
unfolding at from_run
only_at p f rs l i e =
    let t = mask_bit p (at f rs) (ascending_at f l) i e in
    let s = map_mem (from_run f) rs t.0 t.1 in
    (s.0, s.1, sym (ap (λ (x : Run). x.label) s.2) ∙ t.2)

pub not_below : (h v : ℕ) → leb v h ≡ not (ltb h v)
not_below h v =
    ⊎_elim
    (λ (q : h < v). rw (lt-ltb h v q, lt-leb v h q))
    (λ (q : v ≤ h). rw (le-ltb h v q, le-leb v h q))
    (lt_or_le h v)

-- what the runs that pass a test at a floor weigh
pub weight_at : (p : Run → Bool) (f : ℕ) (rs : List Run) → weight_of p (at f rs) ≡ weight_of (λ r. p (from_run f r)) rs
unfolding at from_run
weight_at p f rs = weight_map p (from_run f) rs (λ r. refl)

below_not : (h v : ℕ) → not (leb v h) ≡ ltb h v
below_not h v =
    ⊎_elim
    (λ (q : h < v). rw (lt-ltb h v q, lt-leb v h q))
    (λ (q : v ≤ h). rw (le-ltb h v q, le-leb v h q))
    (lt_or_le h v)

pub gap_is_true : (rs : List Run) (t f v last : ℕ) → Fit rs t → below v (at f rs) < t → last < v → TrueGap rs t f last (mask (λ r. leb v (head r)) (at f rs))
unfolding below
gap_is_true rs t f v last g few l =
    let rest = weight_at (λ r. ltb (head r) v) f rs in
    let same = weight_eq (λ r. not (names (mask (λ s. leb v (head s)) (at f rs)) r)) (λ r. ltb (head (from_run f r)) v) rs
    (λ r m. ap not (named (λ s. leb v (head s)) f rs g.labels r m) ∙ below_not (head (from_run f r)) v) in
    record {
      only = only_at _ f rs g.labels;
      unnamed = omega arith;
      misses = λ r m e x n h k.
          let high : v ≤ head (from_run f r) = leb-true v _ (sym (named (λ s. leb v (head s)) f rs g.labels r m) ∙ e) in
          let low = head_below_mem (rise_from f r.bins (g.rising.each r m)) (mem_from f r.bins h n) in
          let same = head_from f r in
          omega arith;
    }

pub answer_is_true : (rs : List Run) (t v : ℕ) → Fit rs t → v < past_bin → t ≤ equal v (at v rs)
    → TrueAnswer rs t v (mask (λ r. eqb (head r) v) (at v rs))
unfolding equal
answer_is_true rs t v g b h =
    let held = weight_at (λ r. eqb (head r) v) v rs in
    let same = weight_eq (names (mask (λ s. eqb (head s) v) (at v rs))) (λ r. eqb (head (from_run v r)) v) rs
    (λ r m. named (λ s. eqb (head s) v) v rs g.labels r m) in
    record {
      only = only_at _ v rs g.labels;
      enough = omega arith;
      has = λ r m e.
          let same : head_of (from v r.bins) ≡ v =
          sym (head_from v r) ∙ eqb-true _ v (sym (named (λ s. eqb (head s) v) v rs g.labels r m) ∙ e) in
          from_mem v r.bins (subst (λ (x : ℕ). Memᴰ x (from v r.bins)) same (head_mem (from v r.bins) (omega arith)));
    }

-- a part of a walk: from where it starts, with what it needs to be true
gap_part : (rs : List Run) (t f v last : ℕ) → Fit rs t → below v (at f rs) < t → last < v → TruePart rs t (gap_at rs f v last)
unfolding gap_at
gap_part rs t f v last g few l = gap_true (gap_is_true rs t f v last g few l)

answer_part : (rs : List Run) (t v : ℕ) → Fit rs t → v < past_bin → t ≤ equal v (at v rs) → TruePart rs t (answer_at rs v)
unfolding answer_at
answer_part rs t v g b h = answer_true (answer_is_true rs t v g b h)

cover_gap : (rs : List Run) (f v last : ℕ) (ps : List Part) → f ≤ last → Covers (suc last) ps → Covers f (gap_at rs f v last ∷ ps)
unfolding gap_at first_of last_of
cover_gap rs f v last ps h c = covers refl h c

cover_answer : (rs : List Run) (v : ℕ) (ps : List Part) → Covers (suc v) ps → Covers v (answer_at rs v ∷ ps)
unfolding answer_at first_of last_of
cover_answer rs v ps c = let h : v ≤ v = omega arith in covers refl h c

pub walk_covers : {rs : List Run} {t f : ℕ} {es : List Event} → Walked rs t f es → Covers f (parts_of es)
walk_covers (over e) = rw parts_nil (covered e)
walk_covers {rs} {f = f} (stop l h) =
    let e = past_last in
    rw (parts_wrote (gap_at rs f past_bin last_bin) [], parts_nil) (cover_gap rs f past_bin last_bin [] (omega arith) (covered (omega arith)))
walk_covers {rs} {f = f} (pass {v = v} {es = es} l a q w) =
    let e : suc (v - 1) ≡ v = omega arith in
    rw (parts_round (gap_at rs f v (v - 1)) v (at f rs) es)
    (cover_gap rs f v (v - 1) (parts_of es) (omega arith) (rw e (walk_covers w)))
walk_covers {rs} {f = f} (hit {v = v} {es = es} l a q w) =
    let e : suc (v - 1) ≡ v = omega arith in
    rw (parts_round (gap_at rs f v (v - 1)) v (at f rs) (wrote (answer_at rs v) ∷ es), parts_wrote (answer_at rs v) es)
    (cover_gap rs f v (v - 1) (answer_at rs v ∷ parts_of es) (omega arith) (rw e (cover_answer rs v (parts_of es) (walk_covers w))))
walk_covers {rs} {f = f} (hit_here {es = es} a q w) =
    rw (parts_wrote (answer_at rs f) es) (cover_answer rs f (parts_of es) (walk_covers w))

pub walk_true : {rs : List Run} {t f : ℕ} {es : List Event} → Fit rs t → Walked rs t f es → (p : Part) → Memᴰ p (parts_of es) → TruePart rs t p
walk_true g (over e) p m = absurd (Memᴰ.not-nil (rw parts_nil at m))
walk_true {rs} {t} {f = f} g (stop l h) p m =
    let e = past_last in
    ⊎_elim
    (λ (i : p ≡ gap_at rs f past_bin last_bin). rw i (gap_part rs t f past_bin last_bin g h (omega arith)))
    (λ n. absurd (Memᴰ.not-nil n))
    (Memᴰ.cases_cons (rw (parts_wrote (gap_at rs f past_bin last_bin) [], parts_nil) at m))
walk_true {rs} {t} {f = f} g (pass {v = v} {es = es} l a q w) p m =
    ⊎_elim
    (λ (i : p ≡ gap_at rs f v (v - 1)). rw i (gap_part rs t f v (v - 1) g a.few (omega arith)))
    (λ n. walk_true g w p n)
    (Memᴰ.cases_cons (rw (parts_round (gap_at rs f v (v - 1)) v (at f rs) es) at m))
walk_true {rs} {t} {f = f} g (hit {v = v} {es = es} l a q w) p m =
    ⊎_elim
    (λ (i : p ≡ gap_at rs f v (v - 1)). rw i (gap_part rs t f v (v - 1) g a.few (omega arith)))
    (λ n. ⊎_elim
    (λ (i : p ≡ answer_at rs v). rw i (answer_part rs t v g a.bin q))
    (λ k. walk_true g w p k)
    (Memᴰ.cases_cons n))
    (Memᴰ.cases_cons
    (rw (parts_round (gap_at rs f v (v - 1)) v (at f rs) (wrote (answer_at rs v) ∷ es), parts_wrote (answer_at rs v) es) at m))
walk_true {rs} {t} {f = f} g (hit_here {es = es} a q w) p m =
    ⊎_elim
    (λ (i : p ≡ answer_at rs f). rw i (answer_part rs t f g a.bin q))
    (λ k. walk_true g w p k)
    (Memᴰ.cases_cons (rw (parts_wrote (answer_at rs f) es) at m))
