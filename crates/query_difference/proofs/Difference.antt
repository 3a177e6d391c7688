-- Along parts that cover the bins, what lies in the gaps of a rising list is what is no answer: later answers lie above a gap's last, and an answer is not
-- above the first bin that is left of the list. Assumes nothing.
use Prim.Native.Nat.{ℕ, suc, ◌≤◌, ◌<◌}
use borrow.Author.Tests.{eq-eqb, ne_eqb}
use lib.ListN.{take}
use mathlib.Core.Bool.{true, false}
use mathlib.Core.List.Memᴰ
use mathlib.Core.List.{List, [], ◌∷◌, ◌++◌, Memᴰ}
use mathlib.Core.Logic.{⊎_elim, ◌≢◌}
use mathlib.Core.Path.{◌≡◌, refl, sym, ap, ◌∙◌}
use native.Mathlib.Omega.{arith}
use Rattle.model.proofs.Fewest.{covers_nil, covers_first, covers_order, covers_rest}
use Rattle.model.proofs.From.{rise_head_bin, rise_tail, rise_least, rise_from, from_nil, from_pass, from_stop, rank_nil, rank_pass, rank_stop, holds_mem}
use Rattle.model.proofs.Tests.{both, lt_or_le, eq_or_ne}
use Rattle.model.specs.Alone.{without}
use Rattle.model.proofs.Alone.{without_held, without_new}
use Rattle.model.specs.Certificate.{Part, answer, gap, first_of, last_of, answers_of, Covers}
use Rattle.model.specs.Rows.{Rise}
use Rattle.model.specs.Runs.{from, rank, holds, past_bin}
use Rattle.insertion_rank.proofs.Passed.{passed_nil, passed_same, passed_other, passed_above}
use Rattle.insertion_rank.specs.Passed.{passed_over}
use Rattle.query_difference.specs.Gaps.{in_gaps}

-- ---- what is no answer

holds_here : (x v : ℕ) (answers : List ℕ) → x ≡ v → holds x (v ∷ answers) ≡ true
unfolding holds
holds_here x v answers e = rw (eq-eqb x v e, holds)

holds_there : (x v : ℕ) (answers : List ℕ) → x ≢ v → holds x (v ∷ answers) ≡ holds x answers
unfolding holds
holds_there x v answers e = rw (ne_eqb x v e, holds)

-- ---- a gap

-- the answers of parts that cover the bins from b on are not below b
answers_least : {b : ℕ} (ps : List Part) → Covers b ps → (x : ℕ) → Memᴰ x (answers_of ps) → b ≤ x
unfolding answers_of first_of last_of
answers_least [] c x m = absurd (Memᴰ.not-nil m)
answers_least (gap f l n ∷ ps) c x m =
    let e = covers_first c in
    let o = covers_order c in
    let i = answers_least ps (covers_rest c) x m in
    omega arith
answers_least (answer v n ∷ ps) c x m =
    let e = covers_first c in
    ⊎_elim (λ (i : x ≡ v). omega arith) (λ k. let i = answers_least ps (covers_rest c) x k in omega arith) (Memᴰ.cases_cons m)

none_below : {b : ℕ} (ps : List Part) → Covers b ps → (x : ℕ) → x < b → holds x (answers_of ps) ≡ false
none_below ps c x h =
    ⊎_elim
    (λ q. let i = answers_least ps c x (holds_mem x (answers_of ps) q) in absurd (omega arith))
    (λ q. q)
    (both (holds x (answers_of ps)))

without_below : {b : ℕ} (ps : List Part) → Covers b ps → (s : List ℕ)
    → without (answers_of ps) s ≡ take (rank b s) s ++ without (answers_of ps) (from b s)
without_below {b} ps c [] = rw (rank_nil b, from_nil b)
without_below {b} ps c (x ∷ s) =
    ⊎_elim
    (λ (h : x < b).
    rw (rank_pass b x s h, from_pass b x s h, without_new (answers_of ps) x s (none_below ps c x h)) (ap (λ l. x ∷ l) (without_below ps c s)))
    (λ (h : b ≤ x). rw (rank_stop b x s h, from_stop b x s h))
    (lt_or_le x b)

-- ---- an answer

without_above : (v : ℕ) (answers : List ℕ) {a : ℕ} (s : List ℕ) → v < a → Rise a s → without (v ∷ answers) s ≡ without answers s
unfolding without
without_above v answers [] h r = refl
without_above v answers (x ∷ s) h r =
    let l = rise_least r (Memᴰ.head refl) in
    let n : x ≢ v = omega arith in
    let i = without_above v answers s (omega arith) (rise_tail r) in
    let h = holds_there x v answers n in
    ⊎_elim
    (λ q. without_held (v ∷ answers) x s (h ∙ q) ∙ (i ∙ sym (without_held answers x s q)))
    (λ q. without_new (v ∷ answers) x s (h ∙ q) ∙ (ap (λ l. x ∷ l) i ∙ sym (without_new answers x s q)))
    (both (holds x answers))

-- past an answer only that is gone of a list that rises from it on
without_answer : (v : ℕ) (answers s : List ℕ) → Rise v s → without answers (passed_over v s) ≡ without (v ∷ answers) s
unfolding without
without_answer v answers [] r = ap (without answers) (passed_nil v)
without_answer v answers (x ∷ s) r =
    ⊎_elim
    (λ (e : x ≡ v).
    rw (passed_same v x s e, without_held (v ∷ answers) x s (holds_here x v answers e)) (sym (without_above v answers s (omega arith) (rise_tail r))))
    (λ (e : x ≢ v).
    let q : Rise (suc v) (x ∷ s) = rw (passed_other v x s e) at (passed_above v (x ∷ s) r) in
    rw (passed_other v x s e) (sym (without_above v answers (x ∷ s) (omega arith) q)))
    (eq_or_ne x v)

-- ---- the parts

rise_none : (s : List ℕ) → Rise past_bin s → s ≡ []
rise_none [] r = refl
rise_none (x ∷ s) r = let l = rise_least r (Memᴰ.head refl) in let h = rise_head_bin r in absurd (omega arith)

pub gaps_without : (b : ℕ) (ps : List Part) (s : List ℕ) → Covers b ps → Rise b s → in_gaps ps s ≡ without (answers_of ps) s
unfolding in_gaps answers_of first_of last_of without
gaps_without b [] s c r = rw (rise_none s (rw (covers_nil c) at r))
gaps_without b (gap f l m ∷ ps) s c r =
    rw (gaps_without (suc l) ps (from (suc l) s) (covers_rest c) (rise_from (suc l) s r)) (sym (without_below ps (covers_rest c) s))
gaps_without b (answer v m ∷ ps) s c r =
    let q : Rise v s = rw (← (covers_first c)) at r in
    gaps_without (suc v) ps (passed_over v s) (covers_rest c) (passed_above v s q) ∙ without_answer v (answers_of ps) s q
