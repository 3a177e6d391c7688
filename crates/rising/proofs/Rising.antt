-- The numbers that are not above the one before, from a place on: none in a block, the next one, the end. Assumes nothing.
use Prim.Native.Nat.{ℕ, zero, suc, ◌+◌, ◌-◌, ◌≤◌, ◌<◌}
use borrow.Author.Tests.{lt-ltb, le-ltb, lt-leb, le-leb}
use lib.Dec.{leb}
use lib.ListN.{length, get_or, take, drop, length-drop, drop_of_length-le}
use lib.Seq.{drop-cons, take_all}
use mathlib.Core.Bool.{Bool, true, false, cond}
use mathlib.Core.List.{List, [], ◌∷◌}
use mathlib.Core.Logic.{⊎_elim}
use mathlib.Core.Option.{none, some}
use mathlib.Core.Path.{◌≡◌, refl, sym, ap, ap₂, ◌∙◌}
use native.Mathlib.Numerals.{add-one}
use Rattle.std.proofs.Common.{add-suc, zero-add}
use Rattle.std.proofs.lemmas.List.Sums.{sum_by-cons}
use native.Mathlib.Omega.{arith}
use Rattle.model.specs.Runs.{first_bin, slice, from, rank, one, unrisen_after, unrisen, unrisen_run}
use Rattle.std.proofs.lemmas.List.Recursion.{is_position_or_len}
use Rattle.std.specs.List.{zip, sum_by, position_or_len}
use Rattle.rising.specs.Rising.{unrisen_from, block, fall, falls_in, AfterBlocks}
use Rattle.model.proofs.From.{drop_rank, below_rank, rank_on, rank_le, rank_nil, rank_pass, rank_stop}
use Rattle.model.proofs.Tests.{lt_or_le, one_most}

-- ---- the numbers of a run

pub unrisen_start : (a : ℕ) (s : List ℕ) → unrisen a s ≡ unrisen_from a 1 s
unfolding unrisen_from unrisen unrisen_after
unrisen_start a [] = refl
unrisen_start a (x ∷ s) = let e : a + 1 - 1 ≡ a = omega arith in rw e

-- after z zeros the numbers of a run are compared
pub unrisen_run_law : (a z : ℕ) (s : List ℕ) → z ≡ rank first_bin s → unrisen_run a s ≡ unrisen (a + z) (slice s z (length s))
unfolding unrisen_run
unrisen_run_law a z s e =
    let n = length-drop z s in
    let t : slice s z (length s) ≡ drop z s = take_all (length s - z) (drop z s) (omega arith) in
    let f : slice s z (length s) ≡ from first_bin s = t ∙ (ap (λ x. drop x s) e ∙ drop_rank first_bin s) in
    sym (λ d. unrisen (a + e d) (f d))

one_is : (b : Bool) → one b ≡ cond b 1 0
unfolding one
one_is true = refl
one_is false = refl

pub falls_most : (s : List ℕ) (i n : ℕ) → falls_in s i n ≤ n
unfolding falls_in
falls_most s i zero = omega arith
falls_most s i (suc n) =
    let j = falls_most s i n in
    let k = one_most (leb (get_or s (i + n) 0) (get_or s (i + n - 1) 0)) in
    omega arith

-- A block after a 0 in which no number is above the one before is all zeros.
pub zeros_on : (s : List ℕ) (i n : ℕ) → 1 ≤ i → i ≤ rank first_bin s → i + n ≤ length s → falls_in s i n ≡ n → i + n ≤ rank first_bin s
unfolding falls_in one first_bin
zeros_on s i zero h r l e = omega arith
zeros_on s i (suc n) h r l e =
    let m = falls_most s i n in
    ⊎_elim
    (λ (q : get_or s (i + n - 1) 0 < get_or s (i + n) 0).
    absurd (let t = rw (lt-leb (get_or s (i + n) 0) (get_or s (i + n - 1) 0) q) at e in omega arith))
    (λ (q : get_or s (i + n) 0 ≤ get_or s (i + n - 1) 0).
    let f : falls_in s i n ≡ n = (let t = rw (le-leb (get_or s (i + n) 0) (get_or s (i + n - 1) 0) q) at e in omega arith) in
    let k = zeros_on s i n h r (omega arith) f in
    let b = below_rank first_bin s (i + n - 1) (omega arith) in
    let o = rank_on first_bin s (i + n) k (omega arith) (omega arith) in
    omega arith)
    (lt_or_le (get_or s (i + n - 1) 0) (get_or s (i + n) 0))

module _ (a : ℕ) (s : List ℕ) (i : ℕ) (h : 1 ≤ i) where
  pub unrisen_stop : i < length s → get_or s i 0 ≤ get_or s (i - 1) 0 → unrisen_from a i s ≡ some (a + i)
  unfolding unrisen_from unrisen_after
  unrisen_stop l q =
      let e : suc (a + i - 1) ≡ a + i = omega arith in rw (drop-cons s i 0 l, le-ltb (get_or s (i - 1) 0) (get_or s i 0) q, unrisen_after, e)

  pub unrisen_on : i < length s → get_or s (i - 1) 0 < get_or s i 0 → unrisen_from a i s ≡ unrisen_from a (i + 1) s
  unfolding unrisen_from unrisen_after
  unrisen_on l q =
      let e : a + (i + 1) - 1 ≡ a + i = omega arith in
      let f : suc (a + i - 1) ≡ a + i = omega arith in
      let g : i + 1 - 1 ≡ i = omega arith in
      rw (e, g, add-one i, drop-cons s i 0 l, lt-ltb (get_or s (i - 1) 0) (get_or s i 0) q, unrisen_after, f)

-- n numbers of which none is not above the one before are passed over
pub falls_none : (s : List ℕ) (i n : ℕ) → 1 ≤ i → i + n ≤ length s → falls_in s i n ≡ 0 → (a : ℕ) → unrisen_from a i s ≡ unrisen_from a (i + n) s
unfolding falls_in one
falls_none s i zero h l e a = let z : i ≡ i + 0 = omega arith in ap (λ x. unrisen_from a x s) z
falls_none s i (suc n) h l e a =
    let z : i + n + 1 ≡ i + suc n = omega arith in
    ⊎_elim
    (λ (q : get_or s (i + n - 1) 0 < get_or s (i + n) 0).
    let f : falls_in s i n ≡ 0 = (let t = rw (lt-leb (get_or s (i + n) 0) (get_or s (i + n - 1) 0) q) at e in omega arith) in
    falls_none s i n h (omega arith) f a ∙ (unrisen_on a s (i + n) (omega arith) (omega arith) q ∙ ap (λ x. unrisen_from a x s) z))
    (λ (q : get_or s (i + n) 0 ≤ get_or s (i + n - 1) 0).
    absurd (let t = rw (le-leb (get_or s (i + n) 0) (get_or s (i + n - 1) 0) q) at e in omega arith))
    (lt_or_le (get_or s (i + n - 1) 0) (get_or s (i + n) 0))

pub falls_first : (s : List ℕ) (i : ℕ) → falls_in s i 0 ≡ 0
unfolding falls_in
falls_first s i = refl

pub falls_more : (s : List ℕ) (i m n : ℕ) → falls_in s i (m + n) ≡ falls_in s i m + falls_in s (i + m) n
unfolding falls_in
falls_more s i m zero = let e : m + 0 ≡ m = omega arith in rw e (omega arith)
falls_more s i m (suc n) =
    let j = falls_more s i m n in
    let e : i + (m + n) ≡ i + m + n = omega arith in
    rw (add-suc m n, falls_in, e) (omega arith)

falls_one : (s : List ℕ) (a b : ℕ) → b ≡ a + 1 → falls_in s b 1 ≡ fall (get_or s a 0, get_or s b 0)
unfolding falls_in one
falls_one s a b e =
    let d : b + 0 ≡ b = omega arith in
    let p : b - 1 ≡ a = omega arith in
    rw (d, p) (zero-add (one (leb (get_or s b 0) (get_or s a 0))) ∙ one_is (leb (get_or s b 0) (get_or s a 0)))

-- the numbers of a block, each beside the one before
pub falls_zip : (s : List ℕ) (i n : ℕ) → i + n < length s → sum_by fall (zip (take n (drop i s)) (take n (drop (i + 1) s))) ≡ falls_in s (i + 1) n
falls_zip s i zero l = sym (falls_first s (i + 1))
falls_zip s i (suc n) l =
    let a : drop i s ≡ get_or s i 0 ∷ drop (i + 1) s = rw (add-one i) (drop-cons s i 0 (omega arith)) in
    let b : drop (i + 1) s ≡ get_or s (i + 1) 0 ∷ drop (i + 1 + 1) s = rw (add-one (i + 1)) (drop-cons s (i + 1) 0 (omega arith)) in
    let e : suc n ≡ 1 + n = omega arith in
    ap₂ (λ x y. sum_by fall (zip (take (suc n) x) (take (suc n) y))) a b
    ∙ (sum_by-cons fall (get_or s i 0, get_or s (i + 1) 0) (zip (take n (drop (i + 1) s)) (take n (drop (i + 1 + 1) s)))
    ∙ (ap₂ ◌+◌ (sym (falls_one s i (i + 1) refl)) (falls_zip s (i + 1) n (omega arith))
    ∙ (sym (falls_more s (i + 1) 1 n) ∙ ap (falls_in s (i + 1)) (sym e))))

pub unrisen_end : (a : ℕ) (s : List ℕ) (i : ℕ) → length s ≤ i → unrisen_from a i s ≡ none
unfolding unrisen_from unrisen_after
unrisen_end a s i h = rw (drop_of_length-le s h)

-- ---- blocks that are alike

pub blocks_start : (s : List ℕ) (each : ℕ) → AfterBlocks s each 1
blocks_start s each = let f = falls_first s 1 in record { low = omega arith; inside = omega arith; share = omega arith }

pub blocks_more : (s : List ℕ) (each i : ℕ) → AfterBlocks s each i → i + block ≤ length s
    → sum_by fall (zip (take block (drop (i - 1) s)) (take block (drop i s))) ≡ each → AfterBlocks s each (i + block)
blocks_more s each i b l e =
    let h = b.low in
    let m = falls_more s 1 (i - 1) block in
    let z = falls_zip s (i - 1) block (omega arith) in
    let o : i - 1 + 1 ≡ i = omega arith in
    let p : 1 + (i - 1) ≡ i = omega arith in
    let q : i + block - 1 ≡ i - 1 + block = omega arith in
    let f : falls_in s (1 + (i - 1)) block ≡ each = rw p (sym (rw o at z) ∙ e) in
    record { low = omega arith; inside = omega arith; share = rw q (omega (arith, b.share)) }

-- where no number of them is above the one before, a list that begins with a 0 has only zeros there
pub blocks_zeros : (s : List ℕ) (i : ℕ) → AfterBlocks s block i → 0 < rank first_bin s → i ≤ rank first_bin s
blocks_zeros s i b h =
    let k = rank_le first_bin s in
    let z = zeros_on s 1 (i - 1) (omega arith) (omega arith) (omega (arith, b.inside)) (omega (arith, b.share)) in
    omega (arith, b.low)

-- and where each is, none of them is the first that is not
blocks_risen : (a : ℕ) (s : List ℕ) (i : ℕ) → AfterBlocks s 0 i → unrisen a s ≡ unrisen_from a i s
blocks_risen a s i b =
    let e : 1 + (i - 1) ≡ i = omega (arith, b.low) in
    unrisen_start a s
    ∙ ⊎_elim
    (λ (q : 0 < length s).
    falls_none s 1 (i - 1) (omega arith) (omega (arith, b.inside)) (omega (arith, b.share)) a ∙ ap (λ j. unrisen_from a j s) e)
    (λ (q : length s ≤ 0). let f : 1 ≡ i = omega (arith, b.low, b.inside) in ap (λ j. unrisen_from a j s) f)
    (lt_or_le 0 (length s))

-- n numbers that are each above the one before are passed over
abbrev pub Above : List ℕ → ℕ → Type 0
Above s k = get_or s (k - 1) 0 < get_or s k 0

above_on : (a : ℕ) (s : List ℕ) (i n : ℕ) → 1 ≤ i → i + n ≤ length s → ((k : ℕ) → i ≤ k → k < i + n → Above s k) → unrisen_from a i s ≡ unrisen_from a (i + n) s
above_on a s i zero h l f = let z : i ≡ i + 0 = omega arith in ap (λ x. unrisen_from a x s) z
above_on a s i (suc n) h l f =
    let z : i + n + 1 ≡ i + suc n = omega arith in
    above_on a s i n h (omega arith) (λ k p q. f k p (omega arith))
    ∙ (unrisen_on a s (i + n) (omega arith) (omega arith) (f (i + n) (omega arith) (omega arith)) ∙ ap (λ x. unrisen_from a x s) z)

above_to : (a : ℕ) (s : List ℕ) (i j : ℕ) → 1 ≤ i → i ≤ j → j ≤ length s → ((k : ℕ) → i ≤ k → k < j → Above s k) → unrisen_from a i s ≡ unrisen_from a j s
above_to a s i j h l m f =
    let e : i + (j - i) ≡ j = omega arith in
    above_on a s i (j - i) h (omega arith) (λ k p q. f k p (omega arith)) ∙ ap (λ x. unrisen_from a x s) e

-- the first that is not, where one is looked for after the blocks
module _ (a : ℕ) (s : List ℕ) (i : ℕ) (b : AfterBlocks s 0 i) where
  pub first_none : ((k : ℕ) → i ≤ k → k < length s → Above s k) → none ≡ unrisen a s
  first_none f =
      sym (blocks_risen a s i b
      ∙ ⊎_elim
      (λ (q : i < length s). above_to a s i (length s) b.low (omega arith) (omega arith) f ∙ unrisen_end a s (length s) (omega arith))
      (λ (q : length s ≤ i). unrisen_end a s i q)
      (lt_or_le i (length s)))

  pub first_some : (j : ℕ) → i ≤ j → j < length s → get_or s j 0 ≤ get_or s (j - 1) 0 → ((k : ℕ) → i ≤ k → k < j → Above s k)
      → some (a + j) ≡ unrisen a s
  first_some j l u q f =
      sym (blocks_risen a s i b ∙ (above_to a s i j b.low l (omega arith) f ∙ unrisen_stop a s j (omega (arith, b.low)) u q))

-- ---- the zeros that are left

rank_from : (v z : ℕ) (s : List ℕ) → z ≤ rank v s → z + rank v (drop z s) ≡ rank v s
rank_from v zero s h = zero-add (rank v s)
rank_from v (suc z) [] h = let e = rank_nil v in absurd (omega arith)
rank_from v (suc z) (x ∷ s) h =
    ⊎_elim
    (λ q. let e = rank_pass v x s q in let r = rank_from v z s (omega arith) in omega arith)
    (λ q. let e = rank_stop v x s q in absurd (omega arith))
    (lt_or_le x v)

rank_first : (v : ℕ) (s : List ℕ) → rank v s ≡ position_or_len (leb v) s
rank_first v s = is_position_or_len (rank v) (leb v) (rank_nil v) (λ x t. ⊎_elim (λ q. rw (lt-leb v x q) (rank_pass v x t q ∙ omega arith)) (λ q. rw (le-leb v x q) (rank_stop v x t q)) (lt_or_le x v)) s

-- where z of them are passed, the rest stand before the first bin
pub zeros_left : (z : ℕ) (s : List ℕ) → z ≤ rank first_bin s → z + position_or_len (leb 1) (drop z s) ≡ rank first_bin s
unfolding first_bin
zeros_left z s h = rw (← rank_first 1 (drop z s)) (rank_from 1 z s h)
