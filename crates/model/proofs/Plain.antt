-- Where every run weighs 1, as it does where no weights are given: what runs weigh is how many they are, a gap that leaves out runs of less weight than t names at
-- least k − t + 1 of k runs, and the head up to which runs weigh t is the t-th smallest. Assumes nothing.
use Prim.Native.Nat.{ℕ, zero, suc, ◌+◌, ◌-◌, ◌*◌, ◌≤◌, ◌<◌}
use borrow.Author.Tests.{le-leb, lt-leb}
use lib.Count.{ones}
use lib.Dec.{leb}
use lib.ListN.{length, get_or}
use mathlib.Core.Bool.{Bool, true, false, not}
use mathlib.Core.List.Memᴰ
use mathlib.Core.List.{List, [], ◌∷◌, Memᴰ}
use mathlib.Core.Logic.{⊎_elim}
use mathlib.Core.Path.{◌≡◌, refl, sym, ap, ◌∙◌}
use native.Mathlib.Nat.{mul-one}
use native.Mathlib.Omega.{arith}
use Rattle.model.specs.Certificate.{NamesOnly}
use Rattle.model.specs.Plain.{count, not_above, Counted}
use Rattle.model.specs.Rows.{Ordered, ordered_nil, ordered_cons}
use Rattle.model.specs.Runs.{Run, runs_from, runs, total, one, weight_of, weight_of_all, names, chosen}
use Rattle.model.specs.Walk.{head}
use Rattle.model.proofs.Chosen.{chosen_mem}
use Rattle.model.proofs.Count.{total_eq, weight_not}
use Rattle.model.proofs.Heads.{Heads, at_most, enough_first}
use Rattle.model.proofs.Masks.{Ascending, ones_names}
use Rattle.model.proofs.Ordered.{ordered_at}
use Rattle.model.proofs.Tests.{both}

-- every run weighs 1
pub record Plain (rs : List Run) : Type 0 where
  pub each : (r : Run) → Memᴰ r rs → r.weight ≡ 1

pub runs_plain : (i a : ℕ) (numbers ends : List ℕ) → Plain (runs_from i a numbers ends)
unfolding runs_from
runs_plain i a numbers [] = record { each = λ r m. absurd (Memᴰ.not-nil m) }
runs_plain i a numbers (e ∷ ends) =
    let others = runs_plain (suc i) e numbers ends in
    record { each = λ r m. ⊎_elim (λ q. ap (λ (x : Run). x.weight) q) (λ n. others.each r n) (Memᴰ.cases_cons m) }

pub all_plain : (numbers ends : List ℕ) → Plain (runs numbers ends)
unfolding runs
all_plain numbers ends = runs_plain 0 0 numbers ends

pub chosen_plain : (m : ℕ) {rs : List Run} → Plain rs → Plain (chosen m rs)
chosen_plain m {rs} g = record { each = λ r n. g.each r (chosen_mem m rs n).0 }

pub plain_weight : {rs : List Run} → Plain rs → (p : Run → Bool) → weight_of p rs ≡ count p rs
unfolding weight_of count
plain_weight {rs} g p = total_eq _ _ rs (λ r m. ap (λ w. one (p r) * w) (g.each r m) ∙ mul-one (one (p r)))

pub plain_all : {rs : List Run} → Plain rs → weight_of_all rs ≡ length rs
unfolding weight_of_all total
plain_all {rs} g = total_eq _ (λ r. 1) rs (λ r m. g.each r m) ∙ each_one rs
  where
    each_one : (ss : List Run) → total (λ r. 1) ss ≡ length ss
    each_one [] = refl
    each_one (s ∷ ss) = let i = each_one ss in omega arith

none_above : (h : ℕ) {a : ℕ} {s : List ℕ} → h < a → Ordered a s → not_above h s ≡ 0
unfolding not_above one
none_above h l ordered_nil = refl
none_above h l (ordered_cons {x = x} m o) = let i = none_above h (omega arith) o in rw (lt-leb x h (omega arith)) (omega arith)

-- of numbers in rising order the i-th: more than i are not above it, and at most i are not above a smaller number
nth_enough : {a : ℕ} (s : List ℕ) → Ordered a s → (i : ℕ) → i < length s → i < not_above (get_or s i 0) s
unfolding not_above one
nth_enough [] o i l = absurd (omega arith)
nth_enough (x ∷ s) o zero l = rw (le-leb x x (omega arith)) (omega arith)
nth_enough (x ∷ s) (ordered_cons m o) (suc i) l =
    let j = nth_enough s o i (omega arith) in
    rw (le-leb x (get_or s i 0) (ordered_at s o i (omega arith))) (omega arith)

nth_least : {a : ℕ} (s : List ℕ) → Ordered a s → (i h : ℕ) → i < length s → h < get_or s i 0 → not_above h s ≤ i
unfolding not_above one
nth_least [] o i h l m = absurd (omega arith)
nth_least (x ∷ s) (ordered_cons p o) zero h l m =
    let j = none_above h m o in rw (lt-leb x h m) (omega arith)
nth_least (x ∷ s) (ordered_cons p o) (suc i) h l m =
    let j = nth_least s o i h (omega arith) m in
    ⊎_elim (λ (e : leb x h ≡ true). rw e (omega arith)) (λ (e : leb x h ≡ false). rw e (omega arith)) (both (leb x h))

-- So weights are numbers of runs, in all that is said of them.
pub counted : {rs : List Run} → Plain rs → Ascending 0 rs → Counted rs
unfolding at_most
counted {rs} g l =
    record {
      weigh = plain_weight g;
      all = plain_all g;
      gap = λ t m p k only.
          let split = weight_not (names m) (λ r. not (names m r)) rs (λ r n. refl) in
          let named = plain_weight g (names m) in
          let bits = ones_names m rs l only in
          let size = plain_all g in
          (λ h. omega arith, λ h. omega arith);
      answer = λ t m only.
          let named = plain_weight g (names m) in
          let bits = ones_names m rs l only in
          (λ h. omega arith, λ h. omega arith);
      tth = λ small t hs k o e same.
          let size = plain_all g in
          let v = get_or hs t 0 in
          let weigh : (h : ℕ) → weight_of (λ r. leb (head r) h) rs ≡ count (λ r. leb (head r) h) rs = λ h. plain_weight g (λ r. leb (head r) h) in
          enough_first (suc t) v rs (record { small = small }) (omega arith) (omega arith)
          (omega (arith, weigh v, same v, nth_enough hs o t (omega arith)))
          (λ h q. omega (arith, weigh h, same h, nth_least hs o t h (omega arith) q));
    }
