-- The refusals that the program can print: 12 of an input that is not a question, and of a question 1, 2, 4 or 7. The ends that an input gives never
-- fall and the last is the number of numbers, so 3 does not occur; and for so few numbers the buffers are enough, so 5 and 6 do not. Assumes nothing.
use Prim.Native.Nat.{ℕ, zero, suc, ◌+◌, ◌-◌, ◌*◌, ◌/◌, ◌%◌, ◌≤◌, ◌<◌}
use borrow.Author.Tests.{leb-true, ltb-false, lt-ltb, le-ltb, eq-eqb, ne_eqb}
use lib.Dec.{leb, ltb, eqb}
use lib.ListN.{length, take, replicate, length-replicate, length-append}
use mathlib.Core.Bool.{Bool, true, false, ◌||◌, not}
use mathlib.Core.List.Memᴰ
use mathlib.Core.List.{List, [], ◌∷◌, ◌++◌, append_assoc}
use mathlib.Core.Logic.{◌⊎◌, inl, inr, ⊎_elim, ◌≢◌}
use mathlib.Core.Option.{Option, none, some}
use mathlib.Core.Path.{◌≡◌, refl, sym, ap, ◌∙◌, subst}
use native.Mathlib.Omega.{arith}
use Rattle.model.specs.Certificate.{Part, answer, gap}
use Rattle.model.specs.Demands.{Fits}
use Rattle.model.specs.Refusals.{Check, passed, refusal, refuse_if, refuse_at, falls_from, last_end, count_check, threshold_check, list_checks, first_checks, Outcome, accepted, refused, answered_by, checked_first, query}
use Rattle.model.specs.Runs.{last_bin, past_bin, most_numbers, runs}
use Rattle.model.proofs.Enough.{Door, door_passed, door_then, door_if, door_at, room_enough}
use Rattle.model.proofs.Tests.{lt_or_le, or_false}
use Rattle.hits_input.specs.Input as text
use Rattle.hits_limits.specs.Limits.{most_bytes, input_runs, input_numbers, answer_room, certificate_room}
use Rattle.text_write.specs.Decimal.{decimal_in, decimal}
use Rattle.text_lines.specs.Lines.{numbers_after, line}
use Rattle.field_read.specs.Held.{parts_held}
use Rattle.hits_parts.specs.Parts.{part_line, part_lines}
use Rattle.hits_render.specs.Text.{done_line, refuse_line, rendered}
use Rattle.hits_ask.specs.Ask.{shown, asked, text_for}
use Rattle.hits_parse.proofs.Parsing.{ends_length}
use Rattle.hits_answer.specs.Hits.{parsed, hits}
use Rattle.hits_printed.specs.Refusals.{Printable}
use Rattle.hits_answer.proofs.Printing.{take_over, refused_not, prints_refusal, prints_question}
use Rattle.text_read.specs.Numbers.{value, number}
use Rattle.text_read.specs.Pieces.{split}

-- ---- every number of an input has 32 bits

fits_nil : {w : ℕ} → Fits w []
fits_nil = record { each = λ x m. absurd (Memᴰ.not-nil m) }

fits_cons : {w x : ℕ} {s : List ℕ} → x < w → Fits w s → Fits w (x ∷ s)
fits_cons {w} {x} h k =
    record { each = λ y m. ⊎_elim (λ (e : y ≡ x). rw e h) (λ n. k.each y n) (Memᴰ.cases_cons m) }

fits_append : {w : ℕ} (r s : List ℕ) → Fits w r → Fits w s → Fits w (r ++ s)
fits_append [] s h k = k
fits_append (x ∷ r) s h k =
    fits_cons (h.each x (Memᴰ.head refl)) (fits_append r s (record { each = λ y m. h.each y (Memᴰ.tail m) }) k)

taken : (c : Bool) (n x : ℕ) → elim c [ true ↦ some n | false ↦ none ] ≡ some x → (c ≡ true) × (n ≡ x)
taken true n x e = (refl, cc)
taken false n x e = absurd (let z : ◌≡◌ {A = ℕ} 0 1 = cc in omega arith)

bin_of : (o : Option ℕ) (x : ℕ) → elim o [ none ↦ none | some n ↦ elim (leb n last_bin) [ true ↦ some n | false ↦ none ] ] ≡ some x → x < past_bin
unfolding last_bin past_bin
bin_of none x e = absurd (let z : ◌≡◌ {A = ℕ} 0 1 = cc in omega arith)
bin_of (some n) x e =
    let t = taken (leb n last_bin) n x e in
    let k = leb-true n last_bin t.0 in
    let i : n ≡ x = t.1 in
    omega arith

number_bin : (word : List ℕ) (x : ℕ) → number word ≡ some x → x < past_bin
unfolding number
number_bin word x e = bin_of (value word) x e

before_bins : (o : Option ℕ) (os : Option (List ℕ)) (xs : List ℕ) → ((x : ℕ) → o ≡ some x → x < past_bin)
    → ((ys : List ℕ) → os ≡ some ys → Fits past_bin ys) → text.before o os ≡ some xs → Fits past_bin xs
unfolding text.before
before_bins none os xs h k e = absurd (let z : ◌≡◌ {A = ℕ} 0 1 = cc in omega arith)
before_bins (some x) none xs h k e = absurd (let z : ◌≡◌ {A = ℕ} 0 1 = cc in omega arith)
before_bins (some x) (some ys) xs h k e = let q : x ∷ ys ≡ xs = cc in subst (Fits past_bin) q (fits_cons (h x refl) (k ys refl))

words_bins : (words : List (List ℕ)) (xs : List ℕ) → text.numbers_of words ≡ some xs → Fits past_bin xs
unfolding text.numbers_of
words_bins [] xs e = let q : [] ≡ xs = cc in subst (Fits past_bin) q fits_nil
words_bins (word ∷ words) xs e = before_bins (number word) (text.numbers_of words) xs (number_bin word) (words_bins words) e

run_bins : (line run : List ℕ) → text.run_of line ≡ some run → Fits past_bin run
unfolding text.run_of
run_bins [] run e = let q : [] ≡ run = cc in subst (Fits past_bin) q fits_nil
run_bins (b ∷ line) run e = words_bins (split 32 (b ∷ line)) run e

-- ---- the runs of an input

-- After n numbers, those of the runs are within a limit, and are bins.
record Kept (limit n : ℕ) (rs : List (List ℕ)) : Type 0 where
  few : n + length (text.row rs) ≤ limit
  bins : Fits past_bin (text.row rs)

kept_none : {limit n : ℕ} {rs : List (List ℕ)} → n ≤ limit → text.runs_are [] ≡ text.runs_are rs → Kept limit n rs
unfolding text.row
kept_none {limit} {n} {rs} h e = let q : [] ≡ rs = cc in subst (Kept limit n) q (record { few = omega arith; bins = fits_nil })

kept_run : {limit n : ℕ} (run : List ℕ) (rs : List (List ℕ)) → Fits past_bin run → Kept limit (n + length run) rs → Kept limit n (run ∷ rs)
unfolding text.row
kept_run run rs h k =
    let l = length-append run (text.row rs) in
    record { few = omega (arith, k.few); bins = fits_append run (text.row rs) h k.bins }

kept_with : {limit n : ℕ} (run : List ℕ) (l : text.Lines) (rs : List (List ℕ)) → Fits past_bin run
    → ((qs : List (List ℕ)) → l ≡ text.runs_are qs → Kept limit (n + length run) qs) → text.run_before run l ≡ text.runs_are rs → Kept limit n rs
unfolding text.run_before
kept_with {limit} {n} run (text.runs_are qs) rs h k e = let q : run ∷ qs ≡ rs = cc in subst (Kept limit n) q (kept_run run qs h (k qs refl))
kept_with run (text.fault_at line) rs h k e = absurd (let z : ◌≡◌ {A = ℕ} 0 1 = cc in omega arith)

kept_lines : (limits : text.Limits) (i n : ℕ) (ls rs : List (List ℕ)) → n ≤ limits.numbers → text.lines_from limits i n ls ≡ text.runs_are rs
    → Kept limits.numbers n rs
unfolding text.lines_from
kept_lines limits i n [] rs h e = kept_none h e
kept_lines limits i n (line ∷ []) rs h e = go (eqb (length line) 0) e
  where
    go : (b : Bool) → elim b [ true ↦ text.runs_are [] | false ↦ text.fault_at (i + 2) ] ≡ text.runs_are rs → Kept limits.numbers n rs
    go true k = kept_none h k
    go false k = absurd (let z : ◌≡◌ {A = ℕ} 0 1 = cc in omega arith)
kept_lines limits i n (line ∷ next ∷ ls) rs h e =
    go (text.run_of line) refl (λ m qs k q. kept_lines limits (suc i) m (next ∷ ls) qs k q)
  where
    More : Type 0
    More = (m : ℕ) (qs : List (List ℕ)) → m ≤ limits.numbers → text.lines_from limits (suc i) m (next ∷ ls) ≡ text.runs_are qs → Kept limits.numbers m qs

    fault : text.fault_at (i + 2) ≡ text.runs_are rs → Kept limits.numbers n rs
    fault k = absurd (let z : ◌≡◌ {A = ℕ} 0 1 = cc in omega arith)

    one : (run : List ℕ) → Fits past_bin run → More → (b : Bool) → (leb limits.runs i || ltb limits.numbers (n + length run)) ≡ b
        → elim b [ true ↦ text.fault_at (i + 2) | false ↦ text.run_before run (text.lines_from limits (suc i) (n + length run) (next ∷ ls)) ] ≡ text.runs_are rs
        → Kept limits.numbers n rs
    one run f more true q k = fault k
    one run f more false q k =
        let l = ltb-false limits.numbers (n + length run) (or_false (leb limits.runs i) (ltb limits.numbers (n + length run)) q).1 in
        kept_with run (text.lines_from limits (suc i) (n + length run) (next ∷ ls)) rs f (λ qs r. more (n + length run) qs l r) k

    go : (o : Option (List ℕ)) → text.run_of line ≡ o → More → Kept limits.numbers n rs
    go none q more = fault (rw (q, text.lines_from) at e)
    go (some run) q more =
        one run (run_bins line run q) more (leb limits.runs i || ltb limits.numbers (n + length run)) refl (rw (q, text.lines_from) at e)

-- ---- the ends of an input

ends_rise : (b i : ℕ) (rs : List (List ℕ)) → falls_from b i (text.ends_from b rs) ≡ none
unfolding falls_from text.ends_from
ends_rise b i [] = refl
ends_rise b i (r ∷ rs) =
    let h : b ≤ b + length r = omega arith in
    rw (le-ltb (b + length r) b h, falls_from) (ends_rise (b + length r) (suc i) rs)

ends_last : (b : ℕ) (rs : List (List ℕ)) → last_end b (text.ends_from b rs) ≡ b + length (text.row rs)
unfolding last_end text.ends_from text.row
ends_last b [] = omega arith
ends_last b (r ∷ rs) =
    let h = ends_last (b + length r) rs in
    let l = length-append r (text.row rs) in
    omega arith

-- ---- the question of an input

-- A question's numbers and ends are those of some runs, at most as many numbers as there is room for, each of them a bin.
record Runs (p : text.Result) (limit runs count : ℕ) : Type 0 where
  rs : List (List ℕ)
  numbers_are : take count p.numbers ≡ text.row rs
  ends_are : take runs p.ends ≡ text.ends_from 0 rs
  kept : Kept limit 0 rs

limited_runs : (more : Bool) (l : text.Lines) (rs : List (List ℕ)) → text.limited more l ≡ text.runs_are rs → l ≡ text.runs_are rs
unfolding text.limited
limited_runs false l rs e = e
limited_runs true (text.runs_are qs) rs e = absurd (let z : ◌≡◌ {A = ℕ} 0 1 = cc in omega arith)
limited_runs true (text.fault_at line) rs e = absurd (let z : ◌≡◌ {A = ℕ} 0 1 = cc in omega arith)

result_runs : (h : text.Heading) (l : text.Lines) (a b : List ℕ) (limit t allowance n m : ℕ) → ((rs : List (List ℕ)) → l ≡ text.runs_are rs → Kept limit 0 rs)
    → (text.result_of h l a b).outcome ≡ text.question t allowance n m → Runs (text.result_of h l a b) limit n m
unfolding text.result_of
result_runs text.no_heading l a b limit t x n m k e = refused_not e
result_runs (text.heading u v) (text.fault_at line) a b limit t x n m k e = refused_not e
result_runs (text.heading u v) (text.runs_are rs) a b limit t x n m k e =
    let q : m ≡ length (text.row rs) = cc in
    let i : n ≡ length rs = cc in
    let j = ends_length 0 rs in
    record {
      rs = rs;
      numbers_are = take_over m (text.row rs) a q;
      ends_are = take_over n (text.ends_from 0 rs) b (omega arith);
      kept = k rs refl;
    }

lines_runs : (more : Bool) (ls : List (List ℕ)) (a b : List ℕ) (t allowance n m : ℕ) → (text.parse_lines more ls a b).outcome ≡ text.question t allowance n m
    → Runs (text.parse_lines more ls a b) (length a) n m
unfolding text.parse_lines text.result_of
lines_runs more [] a b t x n m e = refused_not e
lines_runs more (l ∷ []) a b t x n m e = refused_not e
lines_runs more (l ∷ next ∷ ls) a b t x n m e =
    let limits : text.Limits = record { runs = length b; numbers = length a } in
    let none_yet : 0 ≤ length a = omega arith in
    result_runs (text.heading_of l) (text.limited more (text.lines_from limits 0 0 (next ∷ ls))) a b (length a) t x n m
    (λ rs q. kept_lines limits 0 0 (next ∷ ls) rs none_yet (limited_runs more (text.lines_from limits 0 0 (next ∷ ls)) rs q)) e

parse_runs : (failed : Bool) (input a b : List ℕ) (t allowance n m : ℕ) → (text.parse failed input a b).outcome ≡ text.question t allowance n m
    → Runs (text.parse failed input a b) (length a) n m
unfolding text.parse
parse_runs failed input a b t x n m e = lines_runs (failed || ltb most_bytes (length input)) (split 10 (take most_bytes input)) a b t x n m e

parsed_runs : (failed : Bool) (input : List ℕ) (t allowance n m : ℕ) → (parsed failed input).outcome ≡ text.question t allowance n m → Runs (parsed failed input) input_numbers n m
unfolding parsed
parsed_runs failed input t x n m e =
    subst (λ k. Runs (text.parse failed input (replicate input_numbers 0) (replicate input_runs 0)) k n m) (length-replicate {A = ℕ} input_numbers 0)
    (parse_runs failed input (replicate input_numbers 0) (replicate input_runs 0) t x n m e)

-- ---- the first checks of such a question refuse by 1, 2 or 4

OfThese : ℕ → Type 0
OfThese n = (n ≡ 1) ⊎ ((n ≡ 2) ⊎ (n ≡ 4))

none_falls : (o : Option ℕ) → o ≡ none → refuse_at 3 o ≡ passed
unfolding refuse_at
none_falls o e = rw (e, refuse_at)

none_left : (last count p : ℕ) → last ≡ count → count ≤ input_numbers → refuse_if (not (eqb last count) || ltb most_numbers count) 3 p ≡ passed
unfolding refuse_if input_numbers
none_left last count p e h =
    let l : count ≤ most_numbers = omega arith in
    rw (eq-eqb last count e, le-ltb most_numbers count l)

door : (rs : List (List ℕ)) (t : ℕ) → length (text.row rs) ≤ input_numbers → Door OfThese (first_checks (text.row rs) (text.ends_from 0 rs) t)
unfolding first_checks count_check threshold_check list_checks OfThese
door rs t h =
    let l : last_end 0 (text.ends_from 0 rs) ≡ length (text.row rs) = let k = ends_last 0 rs in omega arith in
    door_then OfThese _ _ (door_if OfThese _ 1 _ (inl refl))
    (door_then OfThese _ _ (door_if OfThese _ 2 _ (inr (inl refl)))
    (door_then OfThese _ _ (door_passed OfThese _ (none_falls (falls_from 0 0 (text.ends_from 0 rs)) (ends_rise 0 0 rs)))
    (door_then OfThese _ _ (door_passed OfThese _ (none_left (last_end 0 (text.ends_from 0 rs)) (length (text.row rs)) (length (text.ends_from 0 rs)) l h))
    (door_at OfThese 4 _ (inr (inr refl))))))

-- ---- the laws

runs_refused : (rs : List (List ℕ)) (t allowance : ℕ) (answers certificate : List ℕ) → Kept input_numbers 0 rs → length answers ≡ answer_room → length certificate ≡ certificate_room
    → (n p a b d h : ℕ) → (query (text.row rs) (text.ends_from 0 rs) t allowance answers certificate).outcome ≡ refused n p a b d h → OfThese n ⊎ (n ≡ 7)
unfolding query answered_by checked_first input_numbers answer_room certificate_room
runs_refused rs t allowance answers certificate k e f n p a b d h o = go (first_checks (text.row rs) (text.ends_from 0 rs) t) refl
  where
    few : length (text.row rs) ≤ input_numbers
    few = omega (arith, k.few)

    room : length (text.row rs) ≤ length answers
    room = omega (arith, k.few)

    bytes : 34 * length (text.row rs) + 19 ≤ length certificate
    bytes = omega (arith, k.few)

    go : (c : Check) → first_checks (text.row rs) (text.ends_from 0 rs) t ≡ c → OfThese n ⊎ (n ≡ 7)
    go passed g = inr (room_enough (text.row rs) (text.ends_from 0 rs) allowance answers certificate k.bins room bytes t g n p a b d h o)
    go (refusal m r) g =
        let s : refused m r 0 0 0 0 ≡ refused n p a b d h = rw g at o in
        let i : m ≡ n = cc in
        inl ((door rs t few).numbers n r (g ∙ ap (λ x. refusal x r) i))

-- A question that an input gives is refused as 1, 2, 4 or 7 only.
pub refusals : (failed : Bool) (input : List ℕ) (t allowance runs count : ℕ) → (parsed failed input).outcome ≡ text.question t allowance runs count → (n p a b d h : ℕ)
    → (asked (take count (parsed failed input).numbers) (take runs (parsed failed input).ends) t allowance).outcome ≡ refused n p a b d h
    → (n ≡ 1) ⊎ ((n ≡ 2) ⊎ ((n ≡ 4) ⊎ (n ≡ 7)))
unfolding asked OfThese
refusals failed input t allowance runs count e n p a b d h o =
    let r = parsed_runs failed input t allowance runs count e in
    let s : (asked (take count (parsed failed input).numbers) (take runs (parsed failed input).ends) t allowance).outcome
    ≡ (asked (text.row r.rs) (text.ends_from 0 r.rs) t allowance).outcome =
    λ i. (asked (r.numbers_are i) (r.ends_are i) t allowance).outcome in
    ⊎_elim
    (λ (k : OfThese n). ⊎_elim (λ i. inl i) (λ k. ⊎_elim (λ i. inr (inl i)) (λ i. inr (inr (inl i))) k) k)
    (λ i. inr (inr (inr i)))
    (runs_refused r.rs t allowance (replicate answer_room 0) (replicate certificate_room 0) r.kept (length-replicate {A = ℕ} answer_room 0) (length-replicate {A = ℕ} certificate_room 0) n p a b d h (sym s ∙ o))

-- An input that is not a question is refused as 12.
result_fault : (h : text.Heading) (l : text.Lines) (a b : List ℕ) (n p : ℕ) → (text.result_of h l a b).outcome ≡ text.refused n p → n ≡ 12
unfolding text.result_of
result_fault text.no_heading l a b n p e = cc
result_fault (text.heading u v) (text.fault_at line) a b n p e = cc
result_fault (text.heading u v) (text.runs_are rs) a b n p e = refused_not (sym e)

lines_fault : (more : Bool) (ls : List (List ℕ)) (a b : List ℕ) (n p : ℕ) → (text.parse_lines more ls a b).outcome ≡ text.refused n p → n ≡ 12
unfolding text.parse_lines
lines_fault more [] a b n p e = result_fault text.no_heading (text.runs_are []) a b n p e
lines_fault more (l ∷ []) a b n p e = result_fault text.no_heading (text.runs_are []) a b n p e
lines_fault more (l ∷ next ∷ ls) a b n p e =
    result_fault (text.heading_of l) (text.limited more (text.lines_from (record { runs = length b; numbers = length a }) 0 0 (next ∷ ls))) a b n p e

pub fault : (failed : Bool) (input : List ℕ) (n p : ℕ) → (parsed failed input).outcome ≡ text.refused n p → n ≡ 12
unfolding parsed text.parse
fault failed input n p e = lines_fault (failed || ltb most_bytes (length input)) (split 10 (take most_bytes input)) (replicate input_numbers 0) (replicate input_runs 0) n p e

-- An answer is printed, or a refusal by 1, 2, 4, 7 or 12.
data Prints (text : List ℕ) : Type 0 where
  an_answer : (answers parts bytes doublings halvings : ℕ) (certificate : List ℕ) → text ≡ rendered (accepted answers parts bytes doublings halvings) certificate → Prints text
  a_refusal : (number place : ℕ) → Printable number → text ≡ refuse_line number place → Prints text

prints : (failed : Bool) (input : List ℕ) → Prints (hits failed input)
unfolding Printable text_for shown rendered
prints failed input = go (parsed failed input).outcome refl
  where
    told : (t allowance runs count : ℕ) → (parsed failed input).outcome ≡ text.question t allowance runs count → (o : Outcome)
        → (asked (take count (parsed failed input).numbers) (take runs (parsed failed input).ends) t allowance).outcome ≡ o → Prints (hits failed input)
    told t allowance runs count e (accepted a n b d h) o =
        let x = asked (take count (parsed failed input).numbers) (take runs (parsed failed input).ends) t allowance in
        an_answer a n b d h x.certificate (prints_question failed input t allowance runs count e ∙ ap (λ y. rendered y x.certificate) o)
    told t allowance runs count e (refused n p a b d h) o =
        let x = asked (take count (parsed failed input).numbers) (take runs (parsed failed input).ends) t allowance in
        a_refusal n p
        (⊎_elim (λ i. inl i) (λ k. inr (⊎_elim (λ i. inl i) (λ k. inr (⊎_elim (λ i. inl i) (λ i. inr (inl i)) k)) k))
        (refusals failed input t allowance runs count e n p a b d h o))
        (prints_question failed input t allowance runs count e ∙ ap (λ y. rendered y x.certificate) o)

    go : (o : text.Outcome) → (parsed failed input).outcome ≡ o → Prints (hits failed input)
    go (text.refused n p) e = a_refusal n p (inr (inr (inr (inr (fault failed input n p e))))) (prints_refusal failed input n p e)
    go (text.question t allowance runs count) e = told t allowance runs count e _ refl

-- ---- the line of a refusal tells its number

-- the value of the digits before a space
unfoldable value_of : ℕ → List ℕ → ℕ
value_of v [] = v
value_of v (b ∷ s) = elim (eqb b 32) [ true ↦ v | false ↦ value_of (v * 10 + (b - 48)) s ]

value_digit : (v d : ℕ) (s : List ℕ) → value_of v ((48 + d) ∷ s) ≡ value_of (v * 10 + d) s
unfolding value_of
value_digit v d s =
    let n : 48 + d ≢ 32 = omega arith in
    let e : v * 10 + (48 + d - 48) ≡ v * 10 + d = omega arith in
    rw (ne_eqb (48 + d) 32 n, value_of) (ap (λ x. value_of x s) e)

value_decimal : (fuel x : ℕ) (s : List ℕ) → x < fuel → value_of 0 (decimal_in fuel x ++ s) ≡ value_of x s
unfolding decimal_in
value_decimal zero x s h = absurd (omega arith)
value_decimal (suc fuel) x s h =
    ⊎_elim
    (λ (l : x < 10).
    let e : 0 * 10 + x ≡ x = omega arith in
    rw (lt-ltb x 10 l, decimal_in) (value_digit 0 x s ∙ ap (λ y. value_of y s) e))
    (λ (l : 10 ≤ x).
    let e : x / 10 * 10 + x % 10 ≡ x = omega arith in
    rw (le-ltb x 10 l, decimal_in)
    (ap (value_of 0) (append_assoc (decimal_in fuel (x / 10)) ((48 + x % 10) ∷ []) s)
    ∙ value_decimal fuel (x / 10) ((48 + x % 10) ∷ s) (omega arith)
    ∙ value_digit (x / 10) (x % 10) s
    ∙ ap (λ y. value_of y s) e))
    (lt_or_le x 10)

value_word : (x : ℕ) (s : List ℕ) → value_of 0 (decimal x ++ (32 ∷ s)) ≡ x
unfolding decimal value_of
value_word x s = value_decimal (suc x) x (32 ∷ s) (omega arith)

same_number : (n p m r : ℕ) → refuse_line n p ≡ refuse_line m r → n ≡ m
unfolding refuse_line line numbers_after
same_number n p m r e =
    let w : decimal n ++ (32 ∷ (decimal p ++ (10 ∷ []))) ≡ decimal m ++ (32 ∷ (decimal r ++ (10 ∷ []))) = cc in
    sym (value_word n (decimal p ++ (10 ∷ []))) ∙ ap (value_of 0) w ∙ value_word m (decimal r ++ (10 ∷ []))

-- an answer begins with another word
answer_not : {A : Type 0} (ps : List Part) (a n d h m p : ℕ) → part_lines ps ++ done_line a n d h ≡ refuse_line m p → A
unfolding part_lines part_line done_line refuse_line line
answer_not [] a n d h m p e = let z : ◌≡◌ {A = ℕ} 100 114 = cc in absurd (omega arith)
answer_not (answer v w ∷ ps) a n d h m p e = let z : ◌≡◌ {A = ℕ} 104 114 = cc in absurd (omega arith)
answer_not (gap f l w ∷ ps) a n d h m p e = let z : ◌≡◌ {A = ℕ} 103 114 = cc in absurd (omega arith)

-- Whatever the input is: if the line of a refusal is printed for it, the number is 1, 2, 4, 7 or 12, never 3, 5 or 6.
pub printed_refusals : (failed : Bool) (input : List ℕ) (n p : ℕ) → hits failed input ≡ refuse_line n p → Printable n
unfolding rendered
printed_refusals failed input n p e = go (prints failed input)
  where
    go : Prints (hits failed input) → Printable n
    go (an_answer a m b d h certificate k) = answer_not (parts_held (take b certificate)) a m d h n p (sym k ∙ e)
    go (a_refusal m r h k) = subst Printable (same_number m r n p (sym k ∙ e)) h
