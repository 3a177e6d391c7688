-- The runs that a mask chooses: which they are, how many, their labels, and when a sum, a map or the searches over them are those over all runs.
-- Assumes nothing.
use Prim.Native.Nat.{ℕ, suc, ◌+◌, ◌-◌, ◌*◌, ◌^◌, ◌≤◌, ◌<◌}
use lib.Count.{ones}
use lib.Dec.{eqb}
use lib.ListN.{length}
use mathlib.Core.Bool.{Bool, true, false}
use mathlib.Core.List.{List, [], ◌∷◌, ◌++◌, map, Memᴰ}
use mathlib.Core.Logic.{⊎_elim}
use mathlib.Core.Path.{◌≡◌, refl, sym, ap, ◌∙◌}
use native.Mathlib.Nat.{zero-mul}
use native.Mathlib.Omega.{arith}
use Rattle.model.specs.Certificate.{NamesOnly}
use Rattle.model.specs.Plain.{count}
use Rattle.model.specs.Runs.{Run, total, one, weight_of, weight_of_all, mask, mask_of_all, bit, names, chosen}
use Rattle.model.specs.Walk.{head, search_in, searches}
use Rattle.model.proofs.Bounds.{search_none}
use Rattle.model.proofs.Masks.{Labelled, label_first, label_rest, Ascending, ascending_nil, ascending_cons, ascending_first, ascending_rest, ascending_from, ascending, below_only, mask_names, ones_names, mask_of_all_law, all_named}
use Rattle.model.proofs.Tests.{both, lt_or_le}
use Rattle.model.proofs.Walking.{Rising}

pub chosen_nil : (m : ℕ) → chosen m [] ≡ []
unfolding chosen
chosen_nil m = refl

pub chosen_in : (m : ℕ) (r : Run) (rs : List Run) → names m r ≡ true → chosen m (r ∷ rs) ≡ r ∷ chosen m rs
unfolding chosen
chosen_in m r rs e = rw (e, chosen)

pub chosen_out : (m : ℕ) (r : Run) (rs : List Run) → names m r ≡ false → chosen m (r ∷ rs) ≡ chosen m rs
unfolding chosen
chosen_out m r rs e = rw (e, chosen)

-- a chosen run is one of all, and is named; and the other way round
pub chosen_mem : (m : ℕ) (rs : List Run) {r : Run} → Memᴰ r (chosen m rs) → Memᴰ r rs × (names m r ≡ true)
chosen_mem m [] n = absurd (mathlib.Core.List.Memᴰ.not-nil (rw (chosen_nil m) at n))
chosen_mem m (s ∷ rs) {r} n =
    ⊎_elim
    (λ (e : names m s ≡ true).
    ⊎_elim
    (λ (i : r ≡ s). (mathlib.Core.List.Memᴰ.head i, ap (names m) i ∙ e))
    (λ (k : Memᴰ r (chosen m rs)). let t = chosen_mem m rs k in (mathlib.Core.List.Memᴰ.tail t.0, t.1))
    (mathlib.Core.List.Memᴰ.cases_cons (rw (chosen_in m s rs e) at n)))
    (λ (e : names m s ≡ false). let t = chosen_mem m rs (rw (chosen_out m s rs e) at n) in (mathlib.Core.List.Memᴰ.tail t.0, t.1))
    (both (names m s))

pub mem_chosen : (m : ℕ) (rs : List Run) {r : Run} → Memᴰ r rs → names m r ≡ true → Memᴰ r (chosen m rs)
mem_chosen m [] n q = absurd (mathlib.Core.List.Memᴰ.not-nil n)
mem_chosen m (s ∷ rs) {r} n q =
    ⊎_elim
    (λ (i : r ≡ s). rw (chosen_in m s rs (ap (names m) (sym i) ∙ q)) (mathlib.Core.List.Memᴰ.head i))
    (λ (k : Memᴰ r rs).
    ⊎_elim
    (λ (e : names m s ≡ true). rw (chosen_in m s rs e) (mathlib.Core.List.Memᴰ.tail (mem_chosen m rs k q)))
    (λ (e : names m s ≡ false). rw (chosen_out m s rs e) (mem_chosen m rs k q))
    (both (names m s)))
    (mathlib.Core.List.Memᴰ.cases_cons n)

-- labels and rising
pub chosen_ascending : (m : ℕ) {a : ℕ} (rs : List Run) → Ascending a rs → Ascending a (chosen m rs)
chosen_ascending m [] l = rw (chosen_nil m) ascending_nil
chosen_ascending m (r ∷ rs) l =
    let f = ascending_first l in
    let i = chosen_ascending m rs (ascending_rest l) in
    ⊎_elim
    (λ (e : names m r ≡ true). rw (chosen_in m r rs e) (ascending_cons f i))
    (λ (e : names m r ≡ false). rw (chosen_out m r rs e) (ascending_from (omega arith) i))
    (both (names m r))

pub chosen_rising : (m : ℕ) (rs : List Run) → Rising rs → Rising (chosen m rs)
chosen_rising m rs g = record { each = λ r n. g.each r (chosen_mem m rs n).0 }

-- all runs chosen
pub chosen_every : (m : ℕ) (rs : List Run) → ((r : Run) → Memᴰ r rs → names m r ≡ true) → chosen m rs ≡ rs
chosen_every m [] h = chosen_nil m
chosen_every m (r ∷ rs) h =
    chosen_in m r rs (h r (mathlib.Core.List.Memᴰ.head refl)) ∙ ap (λ l. r ∷ l) (chosen_every m rs (λ s n. h s (mathlib.Core.List.Memᴰ.tail n)))

pub chosen_all : (rs : List Run) → Labelled 0 rs → chosen (2 ^ length rs - 1) rs ≡ rs
chosen_all rs l = chosen_every (2 ^ length rs - 1) rs (all_named rs l)

-- a sum over the chosen runs is the sum over all where the others add nothing
pub chosen_total : (m : ℕ) (g : Run → ℕ) (rs : List Run) → ((r : Run) → Memᴰ r rs → names m r ≡ false → g r ≡ 0) → total g (chosen m rs) ≡ total g rs
unfolding total
chosen_total m g [] h = ap (total g) (chosen_nil m)
chosen_total m g (r ∷ rs) h =
    let i = chosen_total m g rs (λ s n e. h s (mathlib.Core.List.Memᴰ.tail n) e) in
    ⊎_elim
    (λ (e : names m r ≡ true). rw (chosen_in m r rs e) (omega arith))
    (λ (e : names m r ≡ false). let z = h r (mathlib.Core.List.Memᴰ.head refl) e in rw (chosen_out m r rs e) (omega arith))
    (both (names m r))

-- and never more
pub chosen_total_le : (m : ℕ) (g : Run → ℕ) (rs : List Run) → total g (chosen m rs) ≤ total g rs
unfolding total
chosen_total_le m g [] = let e = ap (total g) (chosen_nil m) in omega arith
chosen_total_le m g (r ∷ rs) =
    let i = chosen_total_le m g rs in
    ⊎_elim
    (λ (e : names m r ≡ true). rw (chosen_in m r rs e) (omega arith))
    (λ (e : names m r ≡ false). rw (chosen_out m r rs e) (omega arith))
    (both (names m r))

-- nothing is added where a run does not pass a test
one_none : (b : Bool) (n : ℕ) → b ≡ false → one b * n ≡ 0
unfolding one
one_none b n e = rw e (zero-mul n)

pub chosen_weight : (m : ℕ) (p : Run → Bool) (rs : List Run) → ((r : Run) → Memᴰ r rs → names m r ≡ false → p r ≡ false)
    → weight_of p (chosen m rs) ≡ weight_of p rs
unfolding weight_of
chosen_weight m p rs h = chosen_total m (λ r. one (p r) * r.weight) rs (λ r n e. one_none (p r) r.weight (h r n e))

-- what all of them weigh: what those that the mask names do
pub chosen_all_weight : (m : ℕ) (rs : List Run) → weight_of_all (chosen m rs) ≡ weight_of (names m) rs
unfolding weight_of_all weight_of total one
chosen_all_weight m [] = ap (total (λ r. r.weight)) (chosen_nil m)
chosen_all_weight m (r ∷ rs) =
    let i = chosen_all_weight m rs in
    ⊎_elim
    (λ (e : names m r ≡ true). rw (chosen_in m r rs e, e) (omega arith))
    (λ (e : names m r ≡ false). rw (chosen_out m r rs e, e) (omega arith))
    (both (names m r))

pub chosen_mask : (m : ℕ) (p : Run → Bool) (rs : List Run) → ((r : Run) → Memᴰ r rs → names m r ≡ false → p r ≡ false)
    → mask p (chosen m rs) ≡ mask p rs
unfolding mask
chosen_mask m p rs h = chosen_total m (λ r. one (p r) * 2 ^ r.label) rs (λ r n e. one_none (p r) (2 ^ r.label) (h r n e))

-- the number of the chosen, and the mask that names them all
pub chosen_length : (m : ℕ) (rs : List Run) → length (chosen m rs) ≡ count (names m) rs
unfolding count total one
chosen_length m [] = ap length (chosen_nil m)
chosen_length m (r ∷ rs) =
    let i = chosen_length m rs in
    ⊎_elim
    (λ (e : names m r ≡ true). rw (chosen_in m r rs e, e) (omega arith))
    (λ (e : names m r ≡ false). rw (chosen_out m r rs e, e) (omega arith))
    (both (names m r))

sum_chosen : (m : ℕ) (rs : List Run) → mask (λ r. true) (chosen m rs) ≡ mask (names m) rs
unfolding mask total one
sum_chosen m [] = ap (mask (λ r. true)) (chosen_nil m)
sum_chosen m (r ∷ rs) =
    let i = sum_chosen m rs in
    ⊎_elim
    (λ (e : names m r ≡ true). rw (chosen_in m r rs e, e) (omega arith))
    (λ (e : names m r ≡ false). rw (chosen_out m r rs e, e) (omega arith))
    (both (names m r))

-- a mask below 2 ^ k names only runs of k
label_here : {a : ℕ} (rs : List Run) → Labelled a rs → (i : ℕ) → a ≤ i → i < a + length rs → (r : Run) × Memᴰ r rs × (r.label ≡ i)
label_here [] l i h k = absurd (omega arith)
label_here {a} (r ∷ rs) l i h k =
    let e = label_first l in
    ⊎_elim
    (λ (q : a < i). let t = label_here rs (label_rest l) i (omega arith) (omega arith) in (t.0, mathlib.Core.List.Memᴰ.tail t.1, t.2))
    (λ (q : i ≤ a). (r, mathlib.Core.List.Memᴰ.head refl, omega arith))
    (lt_or_le a i)

pub names_of_all : (m : ℕ) (rs : List Run) → Labelled 0 rs → m < 2 ^ length rs → NamesOnly m rs
names_of_all m rs l h i e = label_here rs l i (omega arith) (let b = below_only m (length rs) i h e in omega arith)

pub ones_chosen : (m : ℕ) (rs : List Run) → Labelled 0 rs → m < 2 ^ length rs → length (chosen m rs) ≡ ones m
ones_chosen m rs l h = chosen_length m rs ∙ sym (ones_names m rs (ascending l) (names_of_all m rs l h))

pub all_chosen_mask : (m : ℕ) (rs : List Run) → Labelled 0 rs → m < 2 ^ length rs → mask_of_all (chosen m rs) ≡ m
all_chosen_mask m rs l h = mask_of_all_law (chosen m rs) ∙ (sum_chosen m rs ∙ mask_names m rs (ascending l) (names_of_all m rs l h))

-- what moves runs and keeps their labels may come before the choice or after it
pub chosen_map : (m : ℕ) (f : Run → Run) (rs : List Run) → ((r : Run) → (f r).label ≡ r.label) → map f (chosen m rs) ≡ chosen m (map f rs)
unfolding names
chosen_map m f [] h = ap (map f) (chosen_nil m) ∙ sym (chosen_nil m)
chosen_map m f (r ∷ rs) h =
    let i = chosen_map m f rs h in
    let s : names m (f r) ≡ names m r = ap (λ x. eqb (bit m x) 1) (h r) in
    ⊎_elim
    (λ (e : names m r ≡ true). rw (chosen_in m r rs e, chosen_in m (f r) (map f rs) (s ∙ e)) (ap (λ l. f r ∷ l) i))
    (λ (e : names m r ≡ false). rw (chosen_out m r rs e, chosen_out m (f r) (map f rs) (s ∙ e)) i)
    (both (names m r))

-- no run is searched that has no head below v
pub chosen_searches : (m v : ℕ) (rs : List Run) → ((r : Run) → Memᴰ r rs → names m r ≡ false → v ≤ head r) → searches v (chosen m rs) ≡ searches v rs
unfolding searches
chosen_searches m v [] h = ap (searches v) (chosen_nil m)
chosen_searches m v (r ∷ rs) h =
    let i = chosen_searches m v rs (λ s n e. h s (mathlib.Core.List.Memᴰ.tail n) e) in
    ⊎_elim
    (λ (e : names m r ≡ true). rw (chosen_in m r rs e) (ap (λ l. search_in v r ++ l) i))
    (λ (e : names m r ≡ false). rw (chosen_out m r rs e, search_none v r (h r (mathlib.Core.List.Memᴰ.head refl) e)) i)
    (both (names m r))
