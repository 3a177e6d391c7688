-- A rising run's first number from a bin on decides whether the run contradicts a part that names it; and whether any run does. Assumes nothing.
use Prim.Native.Nat.{ℕ, zero, suc, ◌+◌, ◌≤◌, ◌<◌}
use borrow.Author.Tests.{eq-eqb, ne_eqb, le-leb, lt-leb}
use lib.Dec.{leb, eqb}
use lib.ListN.{length, drop, drop_of_length-le}
use lib.Pow.{pow_pos}
use lib.Seq.{drop-cons}
use mathlib.Core.Bool.{Bool, true, false, ◌||◌, not}
use mathlib.Core.List.{List, ◌∷◌, Memᴰ}
use mathlib.Core.Logic.{⊎_elim, ◌≢◌}
use mathlib.Core.Path.{◌≡◌, refl, sym, ap, ◌∙◌, subst}
use native.Mathlib.Nat.{div-eq_of_lt}
use native.Mathlib.Omega.{arith}
use Rattle.model.proofs.Checking.{within_none, within_some}
use Rattle.model.specs.Rows.{Rise}
use Rattle.model.proofs.From.{rise_from, head_mem, from_mem, mem_from, head_below_mem, head_least, holds_mem, mem_holds}
use Rattle.model.proofs.Masks.{bit_of}
use Rattle.model.proofs.Tests.{both, lt_or_le, eq_or_ne, true_false}
use Rattle.model.specs.Certificate.{Part}
use Rattle.model.specs.Between.{within}
use Rattle.model.specs.Refusals.{contradicts, any_contradicts}
use Rattle.model.specs.Runs.{Run, first_bin, past_bin, from, runs, runs_from, holds, bit, names}
use Rattle.model.specs.Walk.{head_of}
use Rattle.check_cursor.specs.Cursors.{start_of, bins_of, run_at, head_in}
use Rattle.check_scan.specs.Scan.{clash, claim}

-- ---- the first number from f on decides

holds_head : (f : ℕ) {a : ℕ} (s : List ℕ) → Rise a s → f < past_bin → eqb (head_of (from f s)) f ≡ holds f s
holds_head f s r h =
    ⊎_elim
    (λ (e : head_of (from f s) ≡ f).
    eq-eqb (head_of (from f s)) f e
    ∙ sym (mem_holds f s (from_mem f s (subst (λ x. Memᴰ x (from f s)) e (head_mem (from f s) (omega arith))))))
    (λ (n : head_of (from f s) ≢ f).
    ne_eqb (head_of (from f s)) f n
    ∙ ⊎_elim
    (λ (q : holds f s ≡ true).
    let a = head_below_mem (rise_from f s r) (mem_from f s (omega arith) (holds_mem f s q)) in
    let b = head_least (rise_from f s r) (omega arith) in
    absurd (n (omega arith)))
    (λ (q : holds f s ≡ false). sym q)
    (both (holds f s)))
    (eq_or_ne (head_of (from f s)) f)

within_head : (f l : ℕ) {a : ℕ} (s : List ℕ) → Rise a s → f < past_bin → l < past_bin → leb (head_of (from f s)) l ≡ not (eqb (length (within f l s)) 0)
within_head f l s r h k =
    ⊎_elim
    (λ (q : l < head_of (from f s)).
    let z =
    within_none f l s (λ x m i j. let a = head_below_mem (rise_from f s r) (mem_from f s i m) in absurd (omega arith)) in
    lt-leb (head_of (from f s)) l q ∙ rw (eq-eqb (length (within f l s)) 0 z))
    (λ (q : head_of (from f s) ≤ l).
    let b = head_least (rise_from f s r) (omega arith) in
    let m = head_mem (from f s) (omega arith) in
    let w = within_some f l s (head_of (from f s)) (from_mem f s m) b q in
    let n : length (within f l s) ≢ 0 = omega arith in
    le-leb (head_of (from f s)) l q ∙ rw (ne_eqb (length (within f l s)) 0 n))
    (lt_or_le l (head_of (from f s)))

named_clash : (held : Bool) (f l m : ℕ) {a : ℕ} (r : Run) → Rise a r.bins → f < past_bin → l < past_bin → names m r ≡ true
    → clash held f l (head_of (from f r.bins)) ≡ contradicts (claim held f l m) r
unfolding clash claim contradicts
named_clash true f l m r i h k n = rw n (ap not (holds_head f r.bins i h))
named_clash false f l m r i h k n = rw n (within_head f l r.bins i h k)

pub unnamed : (held : Bool) (f l m : ℕ) (r : Run) → names m r ≡ false → false ≡ contradicts (claim held f l m) r
unfolding claim contradicts
unnamed true f l m r n = rw n
unnamed false f l m r n = rw n

-- ---- the runs that a mask names

pub bit_none : (i : ℕ) → bit 0 i ≡ 0
bit_none i = let p = pow_pos i in bit_of 0 i ∙ rw (div-eq_of_lt p)

named_one : (m : ℕ) (r : Run) → bit m r.label ≡ 1 → names m r ≡ true
unfolding names
named_one m r e = eq-eqb (bit m r.label) 1 e

named_none : (m : ℕ) (r : Run) → bit m r.label ≢ 1 → names m r ≡ false
unfolding names
named_none m r n = ne_eqb (bit m r.label) 1 n

-- a named run whose first number from f on is x
pub named_says : (numbers ends : List ℕ) (held : Bool) (f l m i x : ℕ) → Rise first_bin (bins_of numbers ends i) → f < past_bin → l < past_bin → bit m i ≡ 1
    → head_in numbers ends i f ≡ x → clash held f l x ≡ contradicts (claim held f l m) (run_at numbers ends i)
named_says numbers ends held f l m i x r a b n e =
    ap (clash held f l) (sym e) ∙ named_clash held f l m (run_at numbers ends i) r a b (named_one m (run_at numbers ends i) n)

pub unnamed_agrees : (numbers ends : List ℕ) (held : Bool) (f l m i : ℕ) → bit m i ≢ 1 → contradicts (claim held f l m) (run_at numbers ends i) ≡ false
unnamed_agrees numbers ends held f l m i n = sym (unnamed held f l m (run_at numbers ends i) (named_none m (run_at numbers ends i) n))

-- a run with no number up to l agrees with a gap up to l
pub clash_above : (held : Bool) (f l x : ℕ) → held ≡ false → l < x → clash held f l x ≡ false
unfolding clash
clash_above true f l x e h = true_false refl e
clash_above false f l x e h = lt-leb x l h

-- ---- the runs one after another

unfoldable rest_at : List ℕ → List ℕ → ℕ → List Run
rest_at numbers ends i = runs_from i (start_of ends i) numbers (drop i ends)

rest_cons : (numbers ends : List ℕ) (i : ℕ) → i < length ends → rest_at numbers ends i ≡ run_at numbers ends i ∷ rest_at numbers ends (suc i)
unfolding rest_at runs_from
rest_cons numbers ends i l = rw (drop-cons ends i 0 l)

any_rest : (numbers ends : List ℕ) (p : Part) (i : ℕ) → i < length ends
    → any_contradicts p (rest_at numbers ends i) ≡ (contradicts p (run_at numbers ends i) || any_contradicts p (rest_at numbers ends (suc i)))
unfolding any_contradicts
any_rest numbers ends p i l = rw (rest_cons numbers ends i l)

any_end : (numbers ends : List ℕ) (p : Part) (i : ℕ) → length ends ≤ i → any_contradicts p (rest_at numbers ends i) ≡ false
unfolding any_contradicts rest_at runs_from
any_end numbers ends p i l = rw (drop_of_length-le ends l)

all_runs : (numbers ends : List ℕ) (p : Part) → any_contradicts p (runs numbers ends) ≡ any_contradicts p (rest_at numbers ends 0)
unfolding rest_at runs
all_runs numbers ends p = refl

none_from : (numbers ends : List ℕ) (p : Part) → ((i : ℕ) → i < length ends → contradicts p (run_at numbers ends i) ≡ false) → (n i : ℕ)
    → length ends ≤ n + i → any_contradicts p (rest_at numbers ends i) ≡ false
none_from numbers ends p h zero i l = any_end numbers ends p i (omega arith)
none_from numbers ends p h (suc n) i l =
    ⊎_elim
    (λ (q : i < length ends). any_rest numbers ends p i q ∙ rw (h i q) (none_from numbers ends p h n (suc i) (omega arith)))
    (λ (q : length ends ≤ i). any_end numbers ends p i q)
    (lt_or_le i (length ends))

or_true : (a b : Bool) → b ≡ true → (a || b) ≡ true
or_true true b e = refl
or_true false b e = e

some_from : (numbers ends : List ℕ) (p : Part) (j : ℕ) → j < length ends → contradicts p (run_at numbers ends j) ≡ true → (n i : ℕ) → n + i ≡ j
    → any_contradicts p (rest_at numbers ends i) ≡ true
some_from numbers ends p j l h zero i e =
    let w : j ≡ i = omega arith in
    any_rest numbers ends p i (omega arith) ∙ rw (subst (λ x. contradicts p (run_at numbers ends x) ≡ true) w h)
some_from numbers ends p j l h (suc n) i e =
    any_rest numbers ends p i (omega arith)
    ∙ or_true (contradicts p (run_at numbers ends i)) (any_contradicts p (rest_at numbers ends (suc i))) (some_from numbers ends p j l h n (suc i) (omega arith))

pub none_contradicts : (numbers ends : List ℕ) (p : Part) → ((i : ℕ) → i < length ends → contradicts p (run_at numbers ends i) ≡ false)
    → false ≡ any_contradicts p (runs numbers ends)
none_contradicts numbers ends p h = sym (all_runs numbers ends p ∙ none_from numbers ends p h (length ends) 0 (omega arith))

pub one_contradicts : (numbers ends : List ℕ) (p : Part) (i : ℕ) → i < length ends → contradicts p (run_at numbers ends i) ≡ true
    → true ≡ any_contradicts p (runs numbers ends)
one_contradicts numbers ends p i l h = sym (all_runs numbers ends p ∙ some_from numbers ends p i l h i 0 (omega arith))
