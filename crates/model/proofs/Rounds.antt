-- The walk is over after at most as many rounds as its certificate has parts: each round writes a part. So any number of rounds from there on gives
-- the whole walk. Assumes nothing.
use Prim.Native.Nat.{ℕ, zero, suc, ◌+◌, ◌-◌, ◌≤◌, ◌<◌}
use borrow.Author.Tests.{leb-true, lt-ltb}
use lib.Dec.{ltb, leb}
use lib.ListN.{length}
use mathlib.Core.List.{List, [], ◌∷◌, ◌++◌, map}
use mathlib.Core.Logic.{⊎_elim}
use mathlib.Core.Path.{◌≡◌, refl, sym, ap, ◌∙◌}
use native.Mathlib.Omega.{arith}
use Rattle.model.specs.Compared.{whole_walk, parts_of, whole_certificate}
use Rattle.model.specs.Runs.{Run, first_bin, last_bin, past_bin}
use Rattle.model.specs.Walk.{Event, wrote, head, enough_head, searches, searched, settle, walk}
use Rattle.model.proofs.Count.{weight_le}
use Rattle.model.proofs.Demands.{whole_walked}
use Rattle.model.proofs.Events.{parts_wrote, parts_round}
use Rattle.model.specs.Rows.{equal}
use Rattle.model.proofs.Heads.{at_most, below}
use Rattle.model.proofs.Tests.{lt_or_le}
use Rattle.model.proofs.Truth.{Fit}
use Rattle.model.proofs.Walking.{Rising, at, at_least, at_start, searched_at, moved_at, past_last, Ahead, gap_at, answer_at, Walked, over, stop, pass, hit, hit_here, no_searches, settled_hit, settled_last, settled_pass, round_stop, round_gap, round_here}

-- a walk that is at its end has nothing left to do
nothing_left : {rs : List Run} {t f : ℕ} {es : List Event} → Walked rs t f es → f ≡ past_bin → es ≡ []
nothing_left (over e) i = refl
nothing_left (stop l h) i = absurd (omega arith)
nothing_left (pass l a q w) i = let b = a.bin in absurd (omega arith)
nothing_left (hit l a q w) i = let b = a.bin in absurd (omega arith)
nothing_left (hit_here a q w) i = let b = a.bin in absurd (omega arith)

heads_left : {rs : List Run} {t f v : ℕ} → Ahead rs t f v → t ≤ below past_bin (at f rs)
unfolding at_most below
heads_left {rs} {t} {f} {v} a =
    let b = a.bin in
    let e = a.enough in
    let i = weight_le (λ r. leb (head r) v) (λ r. ltb (head r) past_bin) (at f rs)
    (λ r m q. let j = leb-true (head r) v q in lt-ltb (head r) past_bin (omega arith)) in
    omega arith

-- the rest of a round that finds an answer
after_answer : (rs : List Run) (t n v : ℕ) (es : List Event) → Rising rs → v < past_bin → t ≤ equal v (at v rs) → Walked rs t (suc v) es
    → (suc v < past_bin → walk n t (suc v) (at (suc v) rs) ≡ es) → settle (walk n t) t v (at v rs) ≡ wrote (answer_at rs v) ∷ es
after_answer rs t n v es g b q w next =
    let e = past_last in
    ⊎_elim
    (λ (i : suc v < past_bin).
    settled_hit (walk n t) t v rs q (omega arith) ∙ ap (λ l. wrote (answer_at rs v) ∷ l) (ap (walk n t (suc v)) (moved_at v rs g b) ∙ next i))
    (λ (i : past_bin ≤ suc v).
    let j : v ≡ last_bin = omega arith in
    settled_last (walk n t) t v rs q j ∙ ap (λ l. wrote (answer_at rs v) ∷ l) (sym (nothing_left w (omega arith))))
    (lt_or_le (suc v) past_bin)

-- a round that writes a gap before v
to_gap : (rs : List Run) (t n f v : ℕ) → Rising rs → Ahead rs t f v → f < v
    → walk (suc n) t f (at f rs) ≡ wrote (gap_at rs f v (v - 1)) ∷ (searches v (at f rs) ++ settle (walk n t) t v (at v rs))
unfolding walk
to_gap rs t n f v g a l =
    let b = a.bin in
    let e = a.least in
    let h : f < enough_head t (at f rs) = omega arith in
    round_gap (walk n t) t f rs (heads_left a) h
    ∙ (ap (λ x. wrote (gap_at rs f x (x - 1)) ∷ (searches x (at f rs) ++ settle (walk n t) t x (map (searched x) (at f rs)))) e
    ∙ ap (λ x. wrote (gap_at rs f v (v - 1)) ∷ (searches v (at f rs) ++ settle (walk n t) t v x)) (searched_at f v rs g (omega arith) (omega arith)))

enough_rounds : {rs : List Run} {t f : ℕ} {es : List Event} → Rising rs → Walked rs t f es → (n : ℕ) → length (parts_of es) ≤ n → f < past_bin
    → walk n t f (at f rs) ≡ es
unfolding walk
enough_rounds g (over e) n l b = absurd (omega arith)
enough_rounds {rs} {f = f} g (stop i h) zero l b =
    let p = ap length (parts_wrote (gap_at rs f past_bin last_bin) []) in absurd (omega arith)
enough_rounds {rs} {t} {f} g (stop i h) (suc n) l b = round_stop (walk n t) t f rs h
enough_rounds {rs} {f = f} g (pass {v = v} {es = es} i a q w) zero l b =
    let p = ap length (parts_round (gap_at rs f v (v - 1)) v (at f rs) es) in absurd (omega arith)
enough_rounds {rs} {t} {f} g (pass {v = v} {es = es} i a q w) (suc n) l b =
    let p = ap length (parts_round (gap_at rs f v (v - 1)) v (at f rs) es) in
    let k = enough_rounds g w n (omega arith) a.bin in
    to_gap rs t n f v g a i
    ∙ ap (λ x. wrote (gap_at rs f v (v - 1)) ∷ (searches v (at f rs) ++ x)) (settled_pass (walk n t) t v rs q ∙ k)
enough_rounds {rs} {f = f} g (hit {v = v} {es = es} i a q w) zero l b =
    let p = ap length (parts_round (gap_at rs f v (v - 1)) v (at f rs) (wrote (answer_at rs v) ∷ es)) in absurd (omega arith)
enough_rounds {rs} {t} {f} g (hit {v = v} {es = es} i a q w) (suc n) l b =
    let p = ap length (parts_round (gap_at rs f v (v - 1)) v (at f rs) (wrote (answer_at rs v) ∷ es)) in
    let o = ap length (parts_wrote (answer_at rs v) es) in
    to_gap rs t n f v g a i
    ∙ ap (λ x. wrote (gap_at rs f v (v - 1)) ∷ (searches v (at f rs) ++ x))
    (after_answer rs t n v es g a.bin q w (λ c. enough_rounds g w n (omega arith) c))
enough_rounds {rs} {f = f} g (hit_here {es = es} a q w) zero l b =
    let p = ap length (parts_wrote (answer_at rs f) es) in absurd (omega arith)
enough_rounds {rs} {t} {f} g (hit_here {es = es} a q w) (suc n) l b =
    let p = ap length (parts_wrote (answer_at rs f) es) in
    round_here (walk n t) t f rs (heads_left a) a.least
    ∙ (rw (no_searches f (at f rs) (at_least f rs g (omega arith)), searched_at f f rs g (omega arith) (omega arith))
    (after_answer rs t n f es g b q w (λ c. enough_rounds g w n (omega arith) c)))

first_bin_law : first_bin < past_bin
unfolding first_bin past_bin
first_bin_law = omega arith

pub over_within_parts : {rs : List Run} {t : ℕ} → Fit rs t → (n : ℕ) → length (whole_certificate t rs) ≤ n → walk n t first_bin rs ≡ whole_walk t rs
unfolding whole_certificate
over_within_parts {rs} {t} g n l =
    ap (walk n t first_bin) (sym (at_start first_bin rs (omega arith) g.rising)) ∙ enough_rounds g.rising (whole_walked g) n l first_bin_law
