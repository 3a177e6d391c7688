-- The checker accepts bytes if they are the encoding of a true certificate and only then. Each field that it settles is a true part that starts at
-- the next uncovered bin, and each such part passes its tests. Assumes nothing.
use Prim.Native.Nat.{ℕ, zero, suc, ◌+◌, ◌-◌, ◌^◌, ◌≤◌, ◌<◌}
use borrow.Author.Tests.{eq-eqb, ne_eqb, le-ltb, le-leb, lt-leb, eqb-true, ltb-false, leb-false, not-false}
use lib.Bits.{bit_and}
use lib.Dec.{ltb, leb, eqb}
use lib.ListN.{length, length-append}
use mathlib.Core.Bool.{true, false, ◌&&◌, ◌||◌, not}
use mathlib.Core.List.Memᴰ
use mathlib.Core.List.{List, [], ◌∷◌, ◌++◌, Memᴰ}
use mathlib.Core.Logic.{⊎_elim, ◌≢◌}
use mathlib.Core.Path.{◌≡◌, refl, sym, ap, ◌∙◌, subst}
use native.Mathlib.Omega.{arith}
use Rattle.model.specs.Certificate.{Part, answer, gap, first_of, last_of, mask_of, answers_of, encode_part, encode, size_of, Reading, unreadable, read, read_field, Covers, covered, covers, NamesOnly, TrueGap, TrueAnswer, TruePart, gap_true, answer_true, TrueCertificate}
use Rattle.model.specs.Demands.{Fits, Accepts}
use Rattle.model.specs.Between.{within}
use Rattle.model.specs.Refusals.{Check, passed, refusal, ◌then◌, refuse_if, first_checks, weighted_checks, chosen_checks, Verdict, valid, invalid, misplaced, names_other, misnamed, contradicts, any_contradicts, check_part, counted, at_end, check_from, judged, check, check_chosen, check_weighted}
use Rattle.model.specs.Runs.{Run, first_bin, past_bin, runs, weighted, weight_of, mask, mask_of_all, bit, names, chosen, most_runs, mask_bits}
use Rattle.model.proofs.Encoding.{InRange, read_back, part_size, size_pos, read_field_law}
use Rattle.model.proofs.Fewest.{covers_nil, covers_first, covers_order, covers_rest}
use Rattle.model.proofs.Chosen.{chosen_mem, chosen_ascending}
use Rattle.model.proofs.Digits.{below_pow}
use Rattle.model.proofs.FirstChecks.{then_first, then_second, refuse_if_law, first_passed, weighted_passed, chosen_passed, all_labelled, all_length, every_run}
use Rattle.model.proofs.From.{holds_mem, mem_holds}
use Rattle.model.proofs.Masks.{Labelled, label_below, Ascending, ascending, only_below, and_all, and_bit, names_mask, mask_bit, mask_of_all_law}
use Rattle.model.proofs.Tests.{both, lt_or_le, eq_or_ne, or_false, and_false, true_false}
use Rattle.model.proofs.Weighted.{weighted_labelled, weighted_length}

-- ---- what the tests say

-- numbers from the first to the last
pub within_none : (f l : ℕ) (s : List ℕ) → ((x : ℕ) → Memᴰ x s → f ≤ x → x ≤ l → ⊥) → length (within f l s) ≡ 0
unfolding within
within_none f l [] h = refl
within_none f l (y ∷ s) h =
    let i = within_none f l s (λ x m. h x (Memᴰ.tail m)) in
    ⊎_elim
    (λ (q : y < f). rw (lt-leb f y q, within) i)
    (λ (q : f ≤ y).
    ⊎_elim
    (λ (o : l < y). rw (le-leb f y q, lt-leb y l o, within) i)
    (λ (o : y ≤ l). absurd (h y (Memᴰ.head refl) q o))
    (lt_or_le l y))
    (lt_or_le y f)

pub within_some : (f l : ℕ) (s : List ℕ) (x : ℕ) → Memᴰ x s → f ≤ x → x ≤ l → 0 < length (within f l s)
unfolding within
within_some f l [] x m i j = absurd (Memᴰ.not-nil m)
within_some f l (y ∷ s) x m i j =
    ⊎_elim
    (λ (q : (leb f y && leb y l) ≡ true). rw (q, within) (omega arith))
    (λ (q : (leb f y && leb y l) ≡ false).
    rw (q, within)
    (⊎_elim
    (λ (e : x ≡ y).
    let c : f ≤ y = omega arith in
    let d : y ≤ l = omega arith in
    let w : (leb f y && leb y l) ≡ true = rw (le-leb f y c, le-leb y l d) in
    true_false w q)
    (λ n. within_some f l s x n i j)
    (Memᴰ.cases_cons m)))
    (both (leb f y && leb y l))

-- what it means that a mask names no other run
only_others : (rs : List Run) (m : ℕ) → Ascending 0 rs → names_other rs m ≡ false → NamesOnly m rs
unfolding names_other
only_others rs m l e i b =
    let z = eqb-true (bit_and m (mask_of_all rs)) m (not-false _ e) in
    let t = mask_bit (λ r. true) rs l i (ap (λ x. bit x i) (sym (mask_of_all_law rs)) ∙ and_bit m (mask_of_all rs) i z b) in
    (t.0, t.1, t.2)

others_only : (rs : List Run) (m : ℕ) → Ascending 0 rs → NamesOnly m rs → names_other rs m ≡ false
unfolding names_other names
others_only rs m l h =
    rw (eq-eqb (bit_and m (mask_of_all rs)) m
    (and_all m m (mask_of_all rs) (below_pow m)
    (λ i b.
    let t = h i b in
    let n = names_mask (λ r. true) rs l t.0 t.1 in
    ap (λ x. bit x i) (mask_of_all_law rs) ∙ (ap (bit (mask (λ r. true) rs)) (sym t.2) ∙ eqb-true _ 1 n))))

any_false : (p : Part) (rs : List Run) → any_contradicts p rs ≡ false → (r : Run) → Memᴰ r rs → contradicts p r ≡ false
unfolding any_contradicts
any_false p [] e r m = absurd (Memᴰ.not-nil m)
any_false p (s ∷ rs) e r m =
    let d = or_false (contradicts p s) (any_contradicts p rs) e in
    ⊎_elim (λ (i : r ≡ s). rw i d.0) (λ n. any_false p rs d.1 r n) (Memᴰ.cases_cons m)

none_any : (p : Part) (rs : List Run) → ((r : Run) → Memᴰ r rs → contradicts p r ≡ false) → any_contradicts p rs ≡ false
unfolding any_contradicts
none_any p [] h = refl
none_any p (s ∷ rs) h = rw (h s (Memᴰ.head refl), none_any p rs (λ r m. h r (Memᴰ.tail m)))

-- ---- a part that passes 10 and 11 is true, and a true part passes them

passed_true : (rs : List Run) (t : ℕ) (p : Part) → Ascending 0 rs → misnamed rs t p ≡ false → any_contradicts p rs ≡ false → TruePart rs t p
unfolding misnamed contradicts
passed_true rs t (answer v m) l e h =
    let d = or_false (names_other rs m) (ltb (weight_of (names m) rs) t) e in
    answer_true (record {
      only = only_others rs m l d.0;
      enough = ltb-false (weight_of (names m) rs) t d.1;
      has = λ r k n. holds_mem v r.bins (not-false _ (and_false _ _ (any_false (answer v m) rs h r k) n));
    })
passed_true rs t (gap f l m) a e h =
    let d = or_false (names_other rs m) (leb t (weight_of (λ r. not (names m r)) rs)) e in
    gap_true (record {
      only = only_others rs m a d.0;
      unnamed = leb-false t (weight_of (λ r. not (names m r)) rs) d.1;
      misses = λ r k n x q i j.
          let z = eqb-true (length (within f l r.bins)) 0 (not-false _ (and_false _ _ (any_false (gap f l m) rs h r k) n)) in
          let w = within_some f l r.bins x q i j in
          absurd (omega arith);
    })

true_named : {rs : List Run} {t : ℕ} {p : Part} → Ascending 0 rs → TruePart rs t p → misnamed rs t p ≡ false
unfolding misnamed
true_named {rs} {t} a (gap_true {m = m} q) = rw (others_only rs m a q.only) (lt-leb t (weight_of (λ r. not (names m r)) rs) q.unnamed)
true_named {rs} {t} a (answer_true {m = m} q) = rw (others_only rs m a q.only) (le-ltb (weight_of (names m) rs) t q.enough)

answer_agrees : (rs : List Run) (t v m : ℕ) → TrueAnswer rs t v m → (r : Run) → Memᴰ r rs → contradicts (answer v m) r ≡ false
unfolding contradicts
answer_agrees rs t v m q r k =
    ⊎_elim
    (λ (n : names m r ≡ true). rw (n, mem_holds v r.bins (q.has r k n)))
    (λ (n : names m r ≡ false). rw n)
    (both (names m r))

gap_agrees : (rs : List Run) (t f l m : ℕ) → TrueGap rs t f l m → (r : Run) → Memᴰ r rs → contradicts (gap f l m) r ≡ false
unfolding contradicts
gap_agrees rs t f l m q r k =
    ⊎_elim
    (λ (n : names m r ≡ true). rw (n, eq-eqb (length (within f l r.bins)) 0 (within_none f l r.bins (q.misses r k n))))
    (λ (n : names m r ≡ false). rw n)
    (both (names m r))

true_agrees : {rs : List Run} {t : ℕ} {p : Part} → TruePart rs t p → any_contradicts p rs ≡ false
true_agrees {rs} {t} (gap_true {f = f} {l = l} {m = m} q) = none_any (gap f l m) rs (gap_agrees rs t f l m q)
true_agrees {rs} {t} (answer_true {v = v} {m = m} q) = none_any (answer v m) rs (answer_agrees rs t v m q)

-- ---- one field

-- What a part that the checker settles is.
record Settled (rs : List Run) (t b : ℕ) (p : Part) : Type 0 where
  first : first_of p ≡ b
  order : first_of p ≤ last_of p
  is_true : TruePart rs t p

settled : (rs : List Run) (t b at : ℕ) (p : Part) → Ascending 0 rs → check_part rs t b at p ≡ passed → Settled rs t b p
unfolding check_part misplaced
settled rs t b at p l e =
    let c₁ = refuse_if_law _ 9 at (then_first _ _ e) in
    let e₂ = then_second _ _ e in
    let c₂ = refuse_if_law _ 10 at (then_first _ _ e₂) in
    let c₃ = refuse_if_law _ 11 at (then_second _ _ e₂) in
    let d₁ = or_false (not (eqb (first_of p) b)) (ltb (last_of p) (first_of p) || eqb b past_bin) c₁ in
    let d₂ = or_false (ltb (last_of p) (first_of p)) (eqb b past_bin) d₁.1 in
    record {
      first = eqb-true (first_of p) b (not-false _ d₁.0);
      order = ltb-false (last_of p) (first_of p) d₂.0;
      is_true = passed_true rs t p l c₂ c₃;
    }

settles : (rs : List Run) (t b at : ℕ) (p : Part) → Ascending 0 rs → first_of p ≡ b → first_of p ≤ last_of p → b ≢ past_bin → TruePart rs t p → check_part rs t b at p ≡ passed
unfolding check_part misplaced ◌then◌ refuse_if
settles rs t b at p a e l n h =
    rw (eq-eqb (first_of p) b e, le-ltb (last_of p) (first_of p) l, ne_eqb b past_bin n, true_named a h, true_agrees h)

-- ---- the whole

-- one more part
counted_valid : (p : Part) (v : Verdict) (a n : ℕ) → counted p v ≡ valid a n
    → (c : ℕ) × (k : ℕ) × (v ≡ valid c k) × (n ≡ suc k) × ((ps : List Part) → c ≡ length (answers_of ps) → a ≡ length (answers_of (p ∷ ps)))
unfolding counted answers_of
counted_valid (answer x m) (valid c k) a n e = (c, k, refl, cc, λ ps h. let i : a ≡ suc c = cc in i ∙ ap suc h)
counted_valid (answer x m) (invalid y z b k) a n e = absurd (let w : ◌≡◌ {A = ℕ} 0 1 = cc in omega arith)
counted_valid (gap f l m) (valid c k) a n e = (c, k, refl, cc, λ ps h. let i : a ≡ c = cc in i ∙ h)
counted_valid (gap f l m) (invalid y z b k) a n e = absurd (let w : ◌≡◌ {A = ℕ} 0 1 = cc in omega arith)

valid_counted : (p : Part) (ps : List Part) → counted p (valid (length (answers_of ps)) (length ps)) ≡ valid (length (answers_of (p ∷ ps))) (length (p ∷ ps))
unfolding counted answers_of
valid_counted (answer x m) ps = refl
valid_counted (gap f l m) ps = refl

-- What an accepted tail of a certificate is, from the bin b on.
pub record Tail (rs : List Run) (t b : ℕ) (bytes : List ℕ) (a n : ℕ) : Type 0 where
  pub parts : List Part
  pub covering : Covers b parts
  pub each : (p : Part) → Memᴰ p parts → TruePart rs t p
  pub same : bytes ≡ encode parts
  pub answers : a ≡ length (answers_of parts)
  pub number : n ≡ length parts

end_valid : (rs : List Run) (t b at a n : ℕ) → at_end b at ≡ valid a n → Tail rs t b [] a n
unfolding at_end encode answers_of
end_valid rs t b at a n e =
    ⊎_elim
    (λ (q : b ≡ past_bin).
    let i : valid 0 0 ≡ valid a n = rw (eq-eqb b past_bin q, at_end) at e in
    record {
      parts = [];
      covering = covered q;
      each = λ p m. absurd (Memᴰ.not-nil m);
      same = refl;
      answers = cc;
      number = cc;
    })
    (λ (q : b ≢ past_bin).
    let i : invalid 9 at 0 0 ≡ valid a n = rw (ne_eqb b past_bin q, at_end) at e in
    absurd (let w : ◌≡◌ {A = ℕ} 0 1 = cc in omega arith))
    (eq_or_ne b past_bin)

-- the steps of the checker
pub check_read : (fuel : ℕ) (rs : List Run) (t b at x : ℕ) (bytes rest : List ℕ) (p : Part) → read_field (x ∷ bytes) ≡ read p rest → check_part rs t b at p ≡ passed
    → check_from (suc fuel) rs t b at (x ∷ bytes) ≡ counted p (check_from fuel rs t (suc (last_of p)) (at + size_of p) rest)
unfolding check_from
check_read fuel rs t b at x bytes rest p e h = rw (e, check_from, h)

-- a field, then an accepted tail
field_tail : (rs : List Run) (t b a n : ℕ) (bytes rest : List ℕ) (p : Part) → Fits 256 bytes → read_field bytes ≡ read p rest → Settled rs t b p
    → (v : Verdict) → counted p v ≡ valid a n → ((c k : ℕ) → v ≡ valid c k → Fits 256 rest → Tail rs t (suc (last_of p)) rest c k) → Tail rs t b bytes a n
unfolding encode
field_tail rs t b a n bytes rest p h e s v i next =
    let f = read_field_law bytes rest p h e in
    let c = counted_valid p v a n i in
    let r = next c.0 c.1 c.2 f.tail in
    record {
      parts = p ∷ r.parts;
      covering = covers s.first s.order r.covering;
      each = λ q m. ⊎_elim (λ (j : q ≡ p). rw j s.is_true) (λ k. r.each q k) (Memᴰ.cases_cons m);
      same = f.whole ∙ ap (λ l. encode_part p ++ l) r.same;
      answers = c.4 r.parts r.answers;
      number = c.3 ∙ ap suc r.number;
    }

-- only true certificates are accepted
accepted_true : (fuel : ℕ) (rs : List Run) (t b at : ℕ) (bytes : List ℕ) (a n : ℕ) → Ascending 0 rs → length bytes ≤ fuel → Fits 256 bytes
    → check_from fuel rs t b at bytes ≡ valid a n → Tail rs t b bytes a n
unfolding check_from
accepted_true zero rs t b at [] a n o l h e = end_valid rs t b at a n e
accepted_true zero rs t b at (x ∷ bytes) a n o l h e = absurd (omega arith)
accepted_true (suc fuel) rs t b at [] a n o l h e = end_valid rs t b at a n e
accepted_true (suc fuel) rs t b at (x ∷ bytes) a n o l h e =
    reading (read_field (x ∷ bytes)) refl
    (λ p rest k c i f. accepted_true fuel rs t (suc (last_of p)) (at + size_of p) rest c k o (shorter p rest i) f)
  where
    shorter : (p : Part) (rest : List ℕ) → read_field (x ∷ bytes) ≡ read p rest → length rest ≤ fuel
    shorter p rest i =
        let w = ap length (read_field_law (x ∷ bytes) rest p h i).whole in
        let z = length-append (encode_part p) rest in
        let s = part_size p in
        let y = size_pos p in
        omega arith

    Next : Type 0
    Next = (p : Part) (rest : List ℕ) (k c : ℕ) → read_field (x ∷ bytes) ≡ read p rest → Fits 256 rest
        → check_from fuel rs t (suc (last_of p)) (at + size_of p) rest ≡ valid c k → Tail rs t (suc (last_of p)) rest c k

    checking : (p : Part) (rest : List ℕ) (o : Check) → read_field (x ∷ bytes) ≡ read p rest → check_part rs t b at p ≡ o → Next → Tail rs t b (x ∷ bytes) a n
    checking p rest passed i j next =
        field_tail rs t b a n (x ∷ bytes) rest p h i (settled rs t b at p o j) (check_from fuel rs t (suc (last_of p)) (at + size_of p) rest)
        (sym (check_read fuel rs t b at x bytes rest p i j) ∙ e)
        (λ c k w f. next p rest k c i f w)
    checking p rest (refusal m place) i j next =
        let w : invalid m place 0 0 ≡ valid a n = rw (i, check_from, j) at e in
        absurd (let z : ◌≡◌ {A = ℕ} 0 1 = cc in omega arith)

    reading : (r : Reading) → read_field (x ∷ bytes) ≡ r → Next → Tail rs t b (x ∷ bytes) a n
    reading (unreadable k) i next =
        let w : invalid k at 0 0 ≡ valid a n = rw (i, check_from) at e in
        absurd (let z : ◌≡◌ {A = ℕ} 0 1 = cc in omega arith)
    reading (read p rest) i next = checking p rest (check_part rs t b at p) i refl next

-- ---- every true certificate is accepted

covers_past : (b : ℕ) (ps : List Part) → Covers b ps → b ≤ past_bin
covers_past b [] c = let e = covers_nil c in omega arith
covers_past b (p ∷ ps) c =
    let e = covers_first c in
    let l = covers_order c in
    let i = covers_past (suc (last_of p)) ps (covers_rest c) in
    omega arith

past_bytes : past_bin ≡ 256 ^ 4
unfolding past_bin
past_bytes = refl

-- runs that a mask has bits for
pub record Narrow (rs : List Run) : Type 0 where
  pub each : (r : Run) → Memᴰ r rs → r.label < mask_bits

only_narrow : (m : ℕ) (rs : List Run) → Narrow rs → NamesOnly m rs → m < 2 ^ mask_bits
only_narrow m rs n h = only_below m mask_bits (λ i e. let t = h i e in let b = n.each t.0 t.1 in omega (arith, t.2))

true_mask : {rs : List Run} {t : ℕ} {p : Part} → Narrow rs → TruePart rs t p → mask_of p < 2 ^ mask_bits
unfolding mask_of
true_mask {rs} n (gap_true {m = m} q) = only_narrow m rs n q.only
true_mask {rs} n (answer_true {m = m} q) = only_narrow m rs n q.only

pub in_range : {rs : List Run} {t b : ℕ} {p : Part} {ps : List Part} → Covers b (p ∷ ps) → TruePart rs t p → Narrow rs → InRange p
in_range {rs} {p = p} {ps = ps} c h k =
    let i = covers_past (suc (last_of p)) ps (covers_rest c) in
    let l = covers_order c in
    let e = past_bytes in
    let m = true_mask k h in
    record { first = omega arith; last = omega arith; named = omega arith }

-- a field has a first byte
encode_cons : (p : Part) → (x : ℕ) × (l : List ℕ) × (encode_part p ≡ x ∷ l)
unfolding encode_part Rattle.model.specs.Certificate.field
encode_cons (answer v m) = (1, _, refl)
encode_cons (gap f l m) = (2, _, refl)

end_here : (fuel : ℕ) (rs : List Run) (t b at : ℕ) → b ≡ past_bin → check_from fuel rs t b at [] ≡ valid 0 0
unfolding check_from at_end
end_here zero rs t b at e = rw (eq-eqb b past_bin e, at_end)
end_here (suc fuel) rs t b at e = rw (eq-eqb b past_bin e, at_end)

true_accepted : (fuel : ℕ) (rs : List Run) (t b at : ℕ) (ps : List Part) → Ascending 0 rs → Narrow rs → Covers b ps → ((p : Part) → Memᴰ p ps → TruePart rs t p)
    → length (encode ps) ≤ fuel → check_from fuel rs t b at (encode ps) ≡ valid (length (answers_of ps)) (length ps)
unfolding encode answers_of
true_accepted zero rs t b at [] a k c h l = end_here zero rs t b at (covers_nil c)
true_accepted (suc fuel) rs t b at [] a k c h l = end_here (suc fuel) rs t b at (covers_nil c)
true_accepted zero rs t b at (p ∷ ps) a k c h l =
    let z = length-append (encode_part p) (encode ps) in
    let s = part_size p in
    let y = size_pos p in
    absurd (omega arith)
true_accepted (suc fuel) rs t b at (p ∷ ps) a k c h l =
    let q = h p (Memᴰ.head refl) in
    let d = encode_cons p in
    let e = read_back p (encode ps) (in_range c q k) in
    let z = length-append (encode_part p) (encode ps) in
    let s = part_size p in
    let y = size_pos p in
    let u = covers_past (suc (last_of p)) ps (covers_rest c) in
    let o = covers_order c in
    let f = covers_first c in
    let n : b ≢ past_bin = omega arith in
    let w = settles rs t b at p a f o n q in
    let i = true_accepted fuel rs t (suc (last_of p)) (at + size_of p) ps a k (covers_rest c) (λ r m. h r (Memᴰ.tail m)) (omega arith) in
    rw d.2 (check_read fuel rs t b at d.0 (d.1 ++ encode ps) (encode ps) p (rw d.2 at e) w ∙ (ap (counted p) i ∙ valid_counted p ps))

whole_accepted : (rs : List Run) (t : ℕ) (ps : List Part) → Ascending 0 rs → Narrow rs → TrueCertificate rs t ps
    → check_from (length (encode ps)) rs t first_bin 0 (encode ps) ≡ valid (length (answers_of ps)) (length ps)
whole_accepted rs t ps l n c = true_accepted (length (encode ps)) rs t first_bin 0 ps l n c.covering c.each (omega arith)

-- Of runs whose labels rise and have a bit in a mask, the checker accepts a certificate if it is true and only then.
judges : (rs : List Run) (t : ℕ) (certificate : List ℕ) → Ascending 0 rs → Narrow rs → Fits 256 certificate
    → Accepts rs t certificate (check_from (length certificate) rs t first_bin 0 certificate)
judges rs t certificate l n h =
    record {
      only_true = λ a c i.
          let r = accepted_true (length certificate) rs t first_bin 0 certificate a c l (omega arith) h i in
          (r.parts, record { covering = r.covering; each = r.each }, r.same, r.answers, r.number);
      every_true = λ ps c i. rw i (whole_accepted rs t ps l n c);
    }

-- runs labelled from 0 on, of which there are at most 64
labels_narrow : (rs : List Run) → Labelled 0 rs → length rs ≤ most_runs → Narrow rs
labels_narrow rs l k = record { each = λ r o. let b = label_below rs l r o in omega arith }

chosen_labels : (numbers ends : List ℕ) (m : ℕ) → Ascending 0 (chosen m (runs numbers ends))
chosen_labels numbers ends m = chosen_ascending m (runs numbers ends) (ascending (all_labelled numbers ends))

pub chosen_narrow : (numbers ends : List ℕ) (m : ℕ) → length ends ≤ most_runs → Narrow (chosen m (runs numbers ends))
chosen_narrow numbers ends m k =
    let n = all_length numbers ends in
    let all = labels_narrow (runs numbers ends) (all_labelled numbers ends) (omega arith) in
    record { each = λ r o. all.each r (chosen_mem m (runs numbers ends) o).0 }

-- Every true certificate of the chosen runs is accepted. (That its bytes are below 256 need not be told.)
pub chosen_accepted : (numbers ends : List ℕ) (m t : ℕ) (ps : List Part) → chosen_checks numbers ends m t ≡ passed
    → TrueCertificate (chosen m (runs numbers ends)) t ps → check_chosen numbers ends m t (encode ps) ≡ valid (length (answers_of ps)) (length ps)
unfolding check_chosen judged
chosen_accepted numbers ends m t ps e c =
    rw (e, judged)
    (whole_accepted (chosen m (runs numbers ends)) t ps (chosen_labels numbers ends m) (chosen_narrow numbers ends m (chosen_passed numbers ends m t e).few_runs) c)

-- Demand 2 for the checker, for lists, a mask and a threshold that pass the first checks: it accepts a certificate if it is true of the chosen runs and only
-- then.
pub accepts_chosen : (numbers ends : List ℕ) (m t : ℕ) (certificate : List ℕ) → Fits 256 certificate → chosen_checks numbers ends m t ≡ passed
    → Accepts (chosen m (runs numbers ends)) t certificate (check_chosen numbers ends m t certificate)
unfolding check_chosen judged
accepts_chosen numbers ends m t certificate h e =
    rw (e, judged)
    (judges (chosen m (runs numbers ends)) t certificate (chosen_labels numbers ends m)
    (chosen_narrow numbers ends m (chosen_passed numbers ends m t e).few_runs) h)

-- And for all runs.
pub accepts : (numbers ends : List ℕ) (t : ℕ) (certificate : List ℕ) → Fits 256 certificate → first_checks numbers ends t ≡ passed
    → Accepts (runs numbers ends) t certificate (check numbers ends t certificate)
unfolding check judged
accepts numbers ends t certificate h e =
    rw (e, judged)
    (judges (runs numbers ends) t certificate (ascending (all_labelled numbers ends))
    (subst Narrow (every_run numbers ends) (chosen_narrow numbers ends (2 ^ length ends - 1) (first_passed numbers ends t e).few_runs)) h)

-- And for all runs with weights.
pub accepts_weighted : (numbers ends weights : List ℕ) (wanted : ℕ) (certificate : List ℕ) → Fits 256 certificate → weighted_checks numbers ends weights wanted ≡ passed
    → Accepts (weighted weights (runs numbers ends)) wanted certificate (check_weighted numbers ends weights wanted certificate)
unfolding check_weighted judged
accepts_weighted numbers ends weights wanted certificate h e =
    let l = weighted_labelled weights (all_labelled numbers ends) in
    let n = all_length numbers ends in
    let w = weighted_length weights (runs numbers ends) in
    let k = (weighted_passed numbers ends weights wanted e).few_runs in
    rw (e, judged)
    (judges (weighted weights (runs numbers ends)) wanted certificate (ascending l) (labels_narrow (weighted weights (runs numbers ends)) l (omega arith)) h)
