-- Exactness: in any true certificate a bin is an answer exactly when the runs that hold it weigh at least t, and the answers rise. Assumes nothing.
use Prim.Native.Nat.{ℕ, suc, ◌≤◌, ◌<◌}
use borrow.Author.Tests.{lt-ltb}
use mathlib.Core.Bool.{true, false}
use mathlib.Core.List.Memᴰ
use mathlib.Core.List.{List, [], ◌∷◌, Memᴰ}
use mathlib.Core.Logic.{⊎_elim}
use mathlib.Core.Option.{none}
use mathlib.Core.Path.{◌≡◌, refl}
use native.Mathlib.Omega.{arith}
use Rattle.model.specs.Certificate.{Part, answer, gap, first_of, last_of, answers_of, Covers, TrueGap, TrueAnswer, TruePart, gap_true, answer_true, TrueCertificate}
use Rattle.model.specs.Demands.{Exact}
use Rattle.model.specs.Runs.{Run, first_bin, past_bin, unrisen_after, unrisen, holds, weight_of, names}
use Rattle.model.proofs.Count.{weight_disjoint, weight_le, weight_some}
use Rattle.model.proofs.Fewest.{covers_nil, covers_first, covers_order, covers_rest, gap_names}
use Rattle.model.proofs.From.{holds_mem, mem_holds, rise_least, rise_bin}
use Rattle.model.proofs.Tests.{both, lt_or_le}
use Rattle.model.proofs.Truth.{Fit}

-- what the runs that hold a bin weigh
unfoldable pub held : ℕ → List Run → ℕ
held x rs = weight_of (λ r. holds x r.bins) rs

-- the runs that hold a bin in a true gap weigh less than t
gap_few : {rs : List Run} {t f l m : ℕ} (x : ℕ) → TrueGap rs t f l m → f ≤ x → x ≤ l → held x rs < t
unfolding held
gap_few {rs} {m = m} x p i j =
    let n = gap_names p in
    let d = weight_disjoint (λ r. holds x r.bins) (names m) rs (λ r k h. unnamed r k h) in
    omega arith
  where
    unnamed : (r : Run) → Memᴰ r rs → holds x r.bins ≡ true → names m r ≡ false
    unnamed r k h =
        ⊎_elim
        (λ (y : names m r ≡ true). absurd (p.misses r k y x (holds_mem x r.bins h) i j))
        (λ (y : names m r ≡ false). y)
        (both (names m r))

answer_held : {rs : List Run} {t v m : ℕ} → TrueAnswer rs t v m → t ≤ held v rs
unfolding held
answer_held {rs} {v = v} {m = m} p =
    let n = p.enough in
    let c = weight_le (names m) (λ r. holds v r.bins) rs (λ r k h. mem_holds v r.bins (p.has r k h)) in
    omega arith

-- the runs that hold an answer weigh t
answers_held : {rs : List Run} {t : ℕ} → Fit rs t → (ps : List Part) → ((p : Part) → Memᴰ p ps → TruePart rs t p) → (x : ℕ)
    → Memᴰ x (answers_of ps) → t ≤ held x rs
unfolding answers_of
answers_held g [] h x m = absurd (Memᴰ.not-nil m)
answers_held {rs} {t} g (answer v n ∷ ps) h x m =
    ⊎_elim
    (λ (e : x ≡ v). rw e (of_part (h (answer v n) (Memᴰ.head refl))))
    (λ k. answers_held g ps (λ q l. h q (Memᴰ.tail l)) x k)
    (Memᴰ.cases_cons m)
  where
    inner : {p : Part} → TruePart rs t p → p ≡ answer v n → t ≤ held v rs
    inner (gap_true q) e = absurd (let z : ◌≡◌ {A = ℕ} 0 1 = cc in omega arith)
    inner (answer_true {v = u} {m = w} q) e = let i : u ≡ v = cc in rw (← i) (answer_held q)

    of_part : TruePart rs t (answer v n) → t ≤ held v rs
    of_part q = inner q refl
answers_held g (gap f l n ∷ ps) h x m = answers_held g ps (λ q k. h q (Memᴰ.tail k)) x m

-- a bin held by runs that weigh t is an answer
tail_answers : (p : Part) (ps : List Part) (x : ℕ) → Memᴰ x (answers_of ps) → Memᴰ x (answers_of (p ∷ ps))
unfolding answers_of
tail_answers (answer v n) ps x m = Memᴰ.tail m
tail_answers (gap f l n) ps x m = m

here_answers : {rs : List Run} {t : ℕ} {p : Part} (ps : List Part) (x : ℕ) → Fit rs t → TruePart rs t p → first_of p ≤ x → x ≤ last_of p → t ≤ held x rs
    → Memᴰ x (answers_of (p ∷ ps))
unfolding answers_of first_of last_of
here_answers ps x g (gap_true q) i j h = let n = gap_few x q i j in absurd (omega arith)
here_answers ps x g (answer_true {v = v} q) i j h = let e : x ≡ v = omega arith in Memᴰ.head e

held_answers : {rs : List Run} {t : ℕ} → Fit rs t → (b : ℕ) (ps : List Part) → Covers b ps → ((p : Part) → Memᴰ p ps → TruePart rs t p) → (x : ℕ)
    → b ≤ x → x < past_bin → t ≤ held x rs → Memᴰ x (answers_of ps)
held_answers g b [] c h x l u k = let e = covers_nil c in absurd (omega arith)
held_answers g b (p ∷ ps) c h x l u k =
    let e = covers_first c in
    ⊎_elim
    (λ (q : last_of p < x). tail_answers p ps x (held_answers g (suc (last_of p)) ps (covers_rest c) (λ o m. h o (Memᴰ.tail m)) x q u k))
    (λ (q : x ≤ last_of p). here_answers ps x g (h p (Memᴰ.head refl)) (omega arith) q k)
    (lt_or_le (last_of p) x)

-- the answers rise
answers_after : (i x : ℕ) (b : ℕ) (ps : List Part) → Covers b ps → x < b → unrisen_after i x (answers_of ps) ≡ none
unfolding unrisen_after answers_of first_of last_of
answers_after i x b [] c l = refl
answers_after i x b (answer v n ∷ ps) c l =
    let e = covers_first c in
    let h : x < v = omega arith in
    rw (lt-ltb x v h, unrisen_after) (answers_after (suc i) v (suc v) ps (covers_rest c) (omega arith))
answers_after i x b (gap f g n ∷ ps) c l =
    let e = covers_first c in
    let h = covers_order c in
    answers_after i x (suc g) ps (covers_rest c) (omega arith)

answers_rise : (b : ℕ) (ps : List Part) → Covers b ps → unrisen 0 (answers_of ps) ≡ none
unfolding unrisen answers_of first_of last_of
answers_rise b [] c = refl
answers_rise b (answer v n ∷ ps) c = answers_after 0 v (suc v) ps (covers_rest c) (omega arith)
answers_rise b (gap f g n ∷ ps) c = answers_rise (suc g) ps (covers_rest c)

-- The answers of any true certificate are exact.
pub exact : {rs : List Run} {t : ℕ} {ps : List Part} → Fit rs t → TrueCertificate rs t ps → Exact rs t (answers_of ps)
unfolding held
exact {rs} {t} {ps} g c =
    record {
      all = λ x. (
        answers_held g ps c.each x,
        λ h.
            let p = g.some in
            let s = weight_some (λ r. holds x r.bins) rs (omega arith) in
            let m = holds_mem x s.0.bins s.2 in
            let r = g.rising.each s.0 s.1 in
            held_answers g first_bin ps c.covering c.each x (rise_least r m) (rise_bin r m) h,
      );
      rising = answers_rise first_bin ps c.covering;
    }
