-- A rising list from a bound on (`Rise`), its numbers from v on (`from`), and where these begin (`rank`). A run's state in the walk is `from` of its
-- list: the search moves to it, and a step past a head does. Assumes nothing.
use Prim.Native.Nat.{ℕ, zero, suc, ◌+◌, ◌≤◌, ◌<◌}
use borrow.Author.Tests.{lt-ltb, le-ltb, eq-eqb, ne_eqb}
use lib.Dec.{ltb}
use lib.ListN.{length, get_or, drop}
use mathlib.Core.Bool.{true}
use mathlib.Core.List.Memᴰ
use mathlib.Core.List.{List, [], ◌∷◌, Memᴰ}
use mathlib.Core.Logic.{◌⊎◌, ⊎_elim, ◌≢◌}
use mathlib.Core.Path.{◌≡◌, refl, sym, ◌∙◌}
use native.Mathlib.Omega.{arith}
use Rattle.model.specs.Runs.{past_bin, from, rank, one, holds}
use Rattle.model.specs.Walk.{head_of}
use Rattle.model.proofs.Tests.{lt_or_le, eq_or_ne, true_false, one_most}
use Rattle.model.specs.Rows.{Rise, rise_nil, rise_cons}

pub rise_least : {a x : ℕ} {s : List ℕ} → Rise a s → Memᴰ x s → a ≤ x
rise_least rise_nil m = absurd (Memᴰ.not-nil m)
rise_least {x = y} (rise_cons l u r) m = ⊎_elim (λ e. omega arith) (λ n. let h = rise_least r n in omega arith) (Memᴰ.cases_cons m)

pub rise_bin : {a x : ℕ} {s : List ℕ} → Rise a s → Memᴰ x s → x < past_bin
rise_bin rise_nil m = absurd (Memᴰ.not-nil m)
rise_bin {x = y} (rise_cons l u r) m = ⊎_elim (λ e. omega arith) (λ n. rise_bin r n) (Memᴰ.cases_cons m)

pub rise_head_bin : {a x : ℕ} {s : List ℕ} → Rise a (x ∷ s) → x < past_bin
rise_head_bin (rise_cons l u r) = u

pub rise_tail : {a x : ℕ} {s : List ℕ} → Rise a (x ∷ s) → Rise (suc x) s
rise_tail (rise_cons l u r) = r

pub from_pass : (v x : ℕ) (s : List ℕ) → x < v → from v (x ∷ s) ≡ from v s
unfolding from
from_pass v x s h = rw (lt-ltb x v h, from)

pub from_stop : (v x : ℕ) (s : List ℕ) → v ≤ x → from v (x ∷ s) ≡ x ∷ s
unfolding from
from_stop v x s h = rw (le-ltb x v h, from)

pub from_nil : (v : ℕ) → from v [] ≡ []
unfolding from
from_nil v = refl

pub rank_pass : (v x : ℕ) (s : List ℕ) → x < v → rank v (x ∷ s) ≡ suc (rank v s)
unfolding rank
rank_pass v x s h = rw (lt-ltb x v h, rank)

pub rank_stop : (v x : ℕ) (s : List ℕ) → v ≤ x → rank v (x ∷ s) ≡ 0
unfolding rank
rank_stop v x s h = rw (le-ltb x v h, rank)

pub rank_nil : (v : ℕ) → rank v [] ≡ 0
unfolding rank
rank_nil v = refl

pub drop_rank : (v : ℕ) (s : List ℕ) → drop (rank v s) s ≡ from v s
drop_rank v [] = rw (rank_nil v, from_nil v)
drop_rank v (x ∷ s) =
    ⊎_elim
    (λ h. rw (rank_pass v x s h, from_pass v x s h) (drop_rank v s))
    (λ h. rw (rank_stop v x s h, from_stop v x s h))
    (lt_or_le x v)

pub rank_le : (v : ℕ) (s : List ℕ) → rank v s ≤ length s
rank_le v [] = rw (rank_nil v) (omega arith)
rank_le v (x ∷ s) =
    ⊎_elim (λ h. rw (rank_pass v x s h) (let i = rank_le v s in omega arith)) (λ h. rw (rank_stop v x s h) (omega arith)) (lt_or_le x v)

-- what stands before the rank is below v
pub below_rank : (v : ℕ) (s : List ℕ) (i : ℕ) → i < rank v s → get_or s i 0 < v
below_rank v [] i h = let e = rank_nil v in absurd (omega arith)
below_rank v (x ∷ s) zero h = ⊎_elim (λ l. l) (λ l. let e = rank_stop v x s l in absurd (omega arith)) (lt_or_le x v)
below_rank v (x ∷ s) (suc i) h =
    ⊎_elim
    (λ l. let e = rank_pass v x s l in below_rank v s i (omega arith))
    (λ l. let e = rank_stop v x s l in absurd (omega arith))
    (lt_or_le x v)

-- a number below v at the rank is before it
pub rank_on : (v : ℕ) (s : List ℕ) (i : ℕ) → i ≤ rank v s → i < length s → get_or s i 0 < v → i < rank v s
rank_on v [] i h l b = absurd (omega arith)
rank_on v (x ∷ s) zero h l b = let e = rank_pass v x s b in omega arith
rank_on v (x ∷ s) (suc i) h l b =
    ⊎_elim
    (λ q. let e = rank_pass v x s q in let r = rank_on v s i (omega arith) (omega arith) b in omega arith)
    (λ q. let e = rank_stop v x s q in absurd (omega arith))
    (lt_or_le x v)

-- from, rising, and membership
pub rise_from : (v : ℕ) {a : ℕ} (s : List ℕ) → Rise a s → Rise v (from v s)
rise_from v [] r = rw (from_nil v) rise_nil
rise_from v (x ∷ s) r =
    ⊎_elim
    (λ p. rw (from_pass v x s p) (rise_from v s (rise_tail r)))
    (λ p. rw (from_stop v x s p) (rise_cons p (rise_head_bin r) (rise_tail r)))
    (lt_or_le x v)

pub from_from : (f v : ℕ) (s : List ℕ) → f ≤ v → from v (from f s) ≡ from v s
from_from f v [] h = rw (from_nil f)
from_from f v (x ∷ s) h =
    ⊎_elim
    (λ p. let q : x < v = omega arith in rw (from_pass f x s p, from_pass v x s q) (from_from f v s h))
    (λ p. rw (from_stop f x s p))
    (lt_or_le x f)

pub from_all : (v : ℕ) {a : ℕ} {s : List ℕ} → v ≤ a → Rise a s → from v s ≡ s
from_all v h rise_nil = from_nil v
from_all v h (rise_cons {x = x} {s = s} l u r) = from_stop v x s (omega arith)

pub from_mem : (v : ℕ) {x : ℕ} (s : List ℕ) → Memᴰ x (from v s) → Memᴰ x s
from_mem v [] m = rw (from_nil v) at m
from_mem v (y ∷ s) m =
    ⊎_elim
    (λ p. Memᴰ.tail (from_mem v s (rw (from_pass v y s p) at m)))
    (λ p. rw (from_stop v y s p) at m)
    (lt_or_le y v)

pub mem_from : (v : ℕ) {x : ℕ} (s : List ℕ) → v ≤ x → Memᴰ x s → Memᴰ x (from v s)
mem_from v [] h m = absurd (Memᴰ.not-nil m)
mem_from v {x} (y ∷ s) h m =
    ⊎_elim
    (λ p. rw (from_pass v y s p)
    (⊎_elim (λ e. absurd (omega arith)) (λ n. mem_from v s h n) (Memᴰ.cases_cons m)))
    (λ p. rw (from_stop v y s p) m)
    (lt_or_le y v)

pub from_length : (v : ℕ) (s : List ℕ) → length (from v s) ≤ length s
from_length v [] = rw (from_nil v) (omega arith)
from_length v (x ∷ s) =
    ⊎_elim
    (λ p. rw (from_pass v x s p) (let i = from_length v s in omega arith))
    (λ p. rw (from_stop v x s p) (omega arith))
    (lt_or_le x v)

-- heads
pub head_cons : (x : ℕ) (s : List ℕ) → head_of (x ∷ s) ≡ x
unfolding head_of
head_cons x s = refl

pub head_nil : head_of [] ≡ past_bin
unfolding head_of
head_nil = refl

pub head_least : {a : ℕ} {s : List ℕ} → Rise a s → a ≤ past_bin → a ≤ head_of s
head_least rise_nil h = rw head_nil h
head_least (rise_cons {x = x} {s = s} l u r) h = rw (head_cons x s) l

pub head_bin : {a : ℕ} {s : List ℕ} → Rise a s → head_of s ≤ past_bin
head_bin rise_nil = rw head_nil (omega arith)
head_bin (rise_cons {x = x} {s = s} l u r) = rw (head_cons x s) (omega arith)

pub head_below_mem : {a x : ℕ} {s : List ℕ} → Rise a s → Memᴰ x s → head_of s ≤ x
head_below_mem rise_nil m = absurd (Memᴰ.not-nil m)
head_below_mem {x = y} (rise_cons {x = x} {s = s} l u r) m =
    rw (head_cons x s) (⊎_elim (λ e. omega arith) (λ n. let h = rise_least r n in omega arith) (Memᴰ.cases_cons m))

pub head_mem : (s : List ℕ) → head_of s < past_bin → Memᴰ (head_of s) s
head_mem [] h = let e = head_nil in absurd (omega arith)
head_mem (x ∷ s) h = Memᴰ.head (head_cons x s)

-- a list whose head is below v has fewer numbers from v on, and so has one that stands at its numbers from f on
head_fewer : (v : ℕ) (s : List ℕ) → v ≤ past_bin → length (from v s) + one (ltb (head_of s) v) ≤ length s
unfolding one
head_fewer v [] h = rw (from_nil v, head_nil, le-ltb past_bin v h) (omega arith)
head_fewer v (x ∷ s) h =
    rw (head_cons x s)
    (⊎_elim
    (λ p. let i = from_length v s in let m = one_most (ltb x v) in rw (from_pass v x s p) (omega arith))
    (λ p. rw (from_stop v x s p, le-ltb x v p) (omega arith))
    (lt_or_le x v))

pub from_fewer : (f v : ℕ) (s : List ℕ) → f ≤ v → v ≤ past_bin → length (from v s) + one (ltb (head_of (from f s)) v) ≤ length (from f s)
from_fewer f v s h k = rw (← from_from f v s h) (head_fewer v (from f s) k)

-- past its head v a list is at its numbers from v + 1 on; a list with another head is there already
pub from_past_head : {v : ℕ} {s : List ℕ} → Rise v s → head_of s ≡ v → v < past_bin → drop 1 s ≡ from (suc v) s
from_past_head {v} rise_nil e h = let n = head_nil in absurd (omega arith)
from_past_head {v} (rise_cons {x = x} {s = s} l u r) e h =
    let i : x ≡ v = sym (head_cons x s) ∙ e in
    let j : suc v ≤ suc x = omega arith in
    sym (from_pass (suc v) x s (omega arith) ∙ from_all (suc v) j r)

pub from_other_head : {v : ℕ} {s : List ℕ} → Rise v s → head_of s ≢ v → from (suc v) s ≡ s
from_other_head {v} rise_nil e = from_nil (suc v)
from_other_head {v} (rise_cons {x = x} {s = s} l u r) e =
    let n : x ≢ v = λ q. e (head_cons x s ∙ q) in
    from_stop (suc v) x s (omega arith)

-- `holds` is membership
pub holds_mem : (x : ℕ) (s : List ℕ) → holds x s ≡ true → Memᴰ x s
unfolding holds
holds_mem x [] e = true_false e refl
holds_mem x (y ∷ s) e =
    ⊎_elim
    (λ q. Memᴰ.head q)
    (λ q. Memᴰ.tail (holds_mem x s (rw (ne_eqb x y q, holds) at e)))
    (eq_or_ne x y)

pub mem_holds : (x : ℕ) (s : List ℕ) → Memᴰ x s → holds x s ≡ true
unfolding holds
mem_holds x [] m = absurd (Memᴰ.not-nil m)
mem_holds x (y ∷ s) m =
    ⊎_elim
    (λ q. rw (eq-eqb x y q, holds))
    (λ q. rw (ne_eqb x y q, holds)
    (⊎_elim (λ e. absurd (q e)) (λ n. mem_holds x s n) (Memᴰ.cases_cons m)))
    (eq_or_ne x y)
