-- A walk that a refusal ends is the first part of the whole walk: its parts are the first parts, it makes no more probes, and it is whole where no
-- refusal ends it. An allowance that covers the whole walk's probes is never spent, and places for all its answers are enough. Assumes nothing.
use Prim.Native.Nat.{ℕ, zero, suc, ◌+◌, ◌-◌, ◌≤◌, ◌<◌}
use borrow.Author.Tests.{eq-eqb, ne_eqb, lt-ltb}
use lib.Dec.{eqb, ltb}
use lib.ListN.{length, take, length-append}
use lib.Seq.{take-append_seam}
use mathlib.Core.Bool.{Bool, true, false}
use mathlib.Core.List.Memᴰ
use mathlib.Core.List.{List, [], ◌∷◌, ◌++◌, Memᴰ}
use mathlib.Core.Logic.{⊎_elim, ◌≢◌}
use mathlib.Core.Path.{◌≡◌, refl, sym, ap, ◌∙◌, subst}
use native.Mathlib.Omega.{arith}
use Rattle.model.specs.Certificate.{Part, answer, gap, answers_of, encode_part, encode, size_of}
use Rattle.model.specs.Compared.{parts_of, cost, doubling_probe, halving_probe, probe, probes_of}
use Rattle.model.specs.Many.{left_after}
use Rattle.model.specs.Refusals.{Room, met, after, cut}
use Rattle.model.specs.Walk.{Event, sought, doubled, halved, wrote}
use Rattle.model.proofs.Events.{cost_append, parts_append}
use Rattle.model.proofs.Encoding.{part_size, size_pos}
use Rattle.model.proofs.Tests.{both, lt_or_le, eq_or_ne}

-- the step equations of a cut
pub cut_on : (room : Room) (e : Event) (es : List Event) → met room e ≡ 0
    → cut room (e ∷ es) ≡ (let rest = cut (after room e) es in record { events = e ∷ rest.events; refused = rest.refused })
unfolding cut
cut_on room e es h = rw (h, cut)

pub cut_here : (room : Room) (n : ℕ) (e : Event) (es : List Event) → met room e ≡ suc n → cut room (e ∷ es) ≡ record { events = []; refused = suc n }
unfolding cut
cut_here room n e es h = rw (h, cut)

-- a refusal is met or none is
pub met_or_not : (room : Room) (e : Event) {A : Type 0} → (met room e ≡ 0 → A) → ((n : ℕ) → met room e ≡ suc n → A) → A
met_or_not room e {A} f g = go (met room e) refl
  where
    go : (n : ℕ) → met room e ≡ n → A
    go zero h = f h
    go (suc n) h = g n h

-- what was done is the first part of the whole
pub cut_first : (room : Room) (es : List Event) → (rest : List Event) × (es ≡ (cut room es).events ++ rest)
unfolding cut
cut_first room [] = ([], refl)
cut_first room (e ∷ es) =
    let t = cut_first (after room e) es in
    met_or_not room e
    (λ h. (t.0, rw (cut_on room e es h) (ap (λ l. e ∷ l) t.1)))
    (λ n h. (e ∷ es, rw (cut_here room n e es h)))

-- and all of it where no refusal ends it
pub cut_whole : (room : Room) (es : List Event) → (cut room es).refused ≡ 0 → (cut room es).events ≡ es
unfolding cut
cut_whole room [] h = refl
cut_whole room (e ∷ es) h =
    met_or_not room e
    (λ i. rw (cut_on room e es i) (ap (λ l. e ∷ l) (cut_whole (after room e) es (rw (cut_on room e es i) at h))))
    (λ n i. let z : suc n ≡ 0 = rw (cut_here room n e es i) at h in absurd (omega arith))

pub cut_parts : (room : Room) (es : List Event) → take (length (parts_of (cut room es).events)) (parts_of es) ≡ parts_of (cut room es).events
cut_parts room es =
    let t = cut_first room es in
    let d = (cut room es).events in
    ap (λ l. take (length (parts_of d)) l) (ap parts_of t.1 ∙ parts_append d t.0) ∙ take-append_seam (parts_of d) (parts_of t.0)

pub cut_few : (room : Room) (es : List Event) → length (parts_of (cut room es).events) ≤ length (parts_of es)
cut_few room es =
    let t = cut_first room es in
    let d = (cut room es).events in
    let e = ap length (ap parts_of t.1 ∙ parts_append d t.0) in
    omega (arith, e, lib.ListN.length-append (parts_of d) (parts_of t.0))

pub cut_cost : (c : Event → ℕ) (room : Room) (es : List Event) → cost c (cut room es).events ≤ cost c es
cut_cost c room es =
    let t = cut_first room es in
    let e = ap (cost c) t.1 in
    let a = cost_append c (cut room es).events t.0 in
    omega arith

pub cut_mem : (room : Room) (es : List Event) (e : Event) → Memᴰ e (cut room es).events → Memᴰ e es
cut_mem room es e m = let t = cut_first room es in subst (λ l. Memᴰ e l) (sym t.1) (Memᴰ.append_left t.0 m)

-- A refusal does not end a walk if the room is such that no event meets it, and stays so.
cut_never : (n : ℕ) (Enough : Room → List Event → Type 0) → n ≢ 0
    → ((room : Room) (e : Event) (es : List Event) → Enough room (e ∷ es) → met room e ≢ n)
    → ((room : Room) (e : Event) (es : List Event) → Enough room (e ∷ es) → Enough (after room e) es)
    → (room : Room) (es : List Event) → Enough room es → (cut room es).refused ≢ n
unfolding cut
cut_never n Enough z never on room [] h e = z (sym e)
cut_never n Enough z never on room (x ∷ es) h e =
    met_or_not room x
    (λ i. cut_never n Enough z never on (after room x) es (on room x es h) (rw (cut_on room x es i) at e))
    (λ k i. never room x es h (i ∙ rw (cut_here room k x es i) at e))

-- ---- the allowance

-- a refusal at an event is 7 only where a probe is due and none is left
met_seven : (room : Room) (e : Event) → met room e ≡ 7 → (probe e ≡ 1) × (room.probes ≡ 0)
unfolding met probe doubling_probe halving_probe
met_seven room (sought i) h = absurd (omega arith)
met_seven room (doubled i) h =
    (refl, ⊎_elim (λ q. q) (λ (q : room.probes ≢ 0). let z : 0 ≡ 7 = rw (ne_eqb room.probes 0 q, met) at h in absurd (omega arith)) (eq_or_ne room.probes 0))
met_seven room (halved i) h =
    (refl, ⊎_elim (λ q. q) (λ (q : room.probes ≢ 0). let z : 0 ≡ 7 = rw (ne_eqb room.probes 0 q, met) at h in absurd (omega arith)) (eq_or_ne room.probes 0))
met_seven room (wrote (answer v m)) h =
    ⊎_elim
    (λ (q : eqb room.answers 0 ≡ true). let z : 5 ≡ 7 = rw (q, met) at h in absurd (omega arith))
    (λ (q : eqb room.answers 0 ≡ false).
    ⊎_elim
    (λ (o : ltb room.bytes 15 ≡ true). let z : 6 ≡ 7 = rw (q, met, o) at h in absurd (omega arith))
    (λ (o : ltb room.bytes 15 ≡ false). let z : 0 ≡ 7 = rw (q, met, o) at h in absurd (omega arith))
    (both (ltb room.bytes 15)))
    (both (eqb room.answers 0))
met_seven room (wrote (gap f l m)) h =
    ⊎_elim
    (λ (o : ltb room.bytes 19 ≡ true). let z : 6 ≡ 7 = rw (o, met) at h in absurd (omega arith))
    (λ (o : ltb room.bytes 19 ≡ false). let z : 0 ≡ 7 = rw (o, met) at h in absurd (omega arith))
    (both (ltb room.bytes 19))

pub after_probes : (room : Room) (e : Event) → (after room e).probes ≡ room.probes - probe e
unfolding after probe doubling_probe halving_probe
after_probes room (sought i) = omega arith
after_probes room (doubled i) = refl
after_probes room (halved i) = refl
after_probes room (wrote (answer v m)) = omega arith
after_probes room (wrote (gap f l m)) = omega arith

pub cut_enough : (room : Room) (es : List Event) → probes_of es ≤ room.probes → (cut room es).refused ≢ 7
unfolding probes_of cost
cut_enough =
    cut_never 7 (λ room es. probes_of es ≤ room.probes) (omega arith)
    (λ room x es h i. let s = met_seven room x i in omega arith)
    (λ room x es h. let a = after_probes room x in omega arith)

-- a walk makes no more probes than the allowance
met_probe : (room : Room) (e : Event) → met room e ≡ 0 → probe e ≤ room.probes
unfolding met probe doubling_probe halving_probe
met_probe room (sought i) h = omega arith
met_probe room (doubled i) h =
    ⊎_elim
    (λ (q : room.probes ≡ 0). let z : ◌≡◌ {A = ℕ} 7 0 = rw (eq-eqb room.probes 0 q, met) at h in absurd (omega arith))
    (λ (q : room.probes ≢ 0). omega arith)
    (eq_or_ne room.probes 0)
met_probe room (halved i) h =
    ⊎_elim
    (λ (q : room.probes ≡ 0). let z : ◌≡◌ {A = ℕ} 7 0 = rw (eq-eqb room.probes 0 q, met) at h in absurd (omega arith))
    (λ (q : room.probes ≢ 0). omega arith)
    (eq_or_ne room.probes 0)
met_probe room (wrote p) h = omega arith

pub cut_within : (room : Room) (es : List Event) → probes_of (cut room es).events ≤ room.probes
unfolding probes_of cost cut
cut_within room [] = omega arith
cut_within room (e ∷ es) =
    met_or_not room e
    (λ h.
    let i = cut_within (after room e) es in
    let a = after_probes room e in
    let k = met_probe room e h in
    rw (cut_on room e es h) (omega arith))
    (λ n h. rw (cut_here room n e es h) (omega arith))

-- ---- the buffers

-- a part that is written fits
met_answer : (room : Room) (v m : ℕ) → met room (wrote (answer v m)) ≡ 0 → (0 < room.answers) × (15 ≤ room.bytes)
unfolding met
met_answer room v m h =
    ⊎_elim
    (λ (q : room.answers ≡ 0). let z : ◌≡◌ {A = ℕ} 5 0 = rw (eq-eqb room.answers 0 q, met) at h in absurd (omega arith))
    (λ (q : room.answers ≢ 0).
    ⊎_elim
    (λ (o : room.bytes < 15). let z : ◌≡◌ {A = ℕ} 6 0 = rw (ne_eqb room.answers 0 q, lt-ltb room.bytes 15 o, met) at h in absurd (omega arith))
    (λ (o : 15 ≤ room.bytes). (omega arith, o))
    (lt_or_le room.bytes 15))
    (eq_or_ne room.answers 0)

met_gap : (room : Room) (f l m : ℕ) → met room (wrote (gap f l m)) ≡ 0 → 19 ≤ room.bytes
unfolding met
met_gap room f l m h =
    ⊎_elim
    (λ (o : room.bytes < 19). let z : ◌≡◌ {A = ℕ} 6 0 = rw (lt-ltb room.bytes 19 o, met) at h in absurd (omega arith))
    (λ (o : 19 ≤ room.bytes). o)
    (lt_or_le room.bytes 19)

-- neither of two numbers is a third
either_not : (b : Bool) {x y n : ℕ} → x ≢ n → y ≢ n → elim b [ true ↦ x | false ↦ y ] ≢ n
either_not true h k = h
either_not false h k = k

-- An event is not refused by 5 where there are places for its answer and those after it.
met_five : (room : Room) (e : Event) (es : List Event) → length (answers_of (parts_of (e ∷ es))) ≤ room.answers → met room e ≢ 5
unfolding met parts_of answers_of
met_five room (sought i) es h = omega arith
met_five room (doubled i) es h = either_not (eqb room.probes 0) (omega arith) (omega arith)
met_five room (halved i) es h = either_not (eqb room.probes 0) (omega arith) (omega arith)
met_five room (wrote (answer v m)) es h =
    let n : room.answers ≢ 0 = omega arith in
    rw (ne_eqb room.answers 0 n, met) (either_not (ltb room.bytes 15) (omega arith) (omega arith))
met_five room (wrote (gap f l m)) es h = either_not (ltb room.bytes 19) (omega arith) (omega arith)

after_answers : (room : Room) (e : Event) (es : List Event) → length (answers_of (parts_of (e ∷ es))) ≤ room.answers
    → length (answers_of (parts_of es)) ≤ (after room e).answers
unfolding after parts_of answers_of
after_answers room (sought i) es h = h
after_answers room (doubled i) es h = h
after_answers room (halved i) es h = h
after_answers room (wrote (answer v m)) es h = omega arith
after_answers room (wrote (gap f l m)) es h = h

-- Places for all answers are enough.
pub cut_unfilled : (room : Room) (es : List Event) → length (answers_of (parts_of es)) ≤ room.answers → (cut room es).refused ≢ 5
cut_unfilled = cut_never 5 (λ room es. length (answers_of (parts_of es)) ≤ room.answers) (omega arith) met_five after_answers

-- what some events write, and what they leave of the room
pub record Fitted (room : Room) (es : List Event) : Type 0 where
  pub answers : length (answers_of (parts_of es)) ≤ room.answers
  pub bytes : length (encode (parts_of es)) ≤ room.bytes
  pub answers_left : (left_after room es).answers ≡ room.answers - length (answers_of (parts_of es))
  pub bytes_left : (left_after room es).bytes ≡ room.bytes - length (encode (parts_of es))

pub encoded : (p : Part) (ps : List Part) → length (encode (p ∷ ps)) ≡ size_of p + length (encode ps)
unfolding encode
encoded p ps = length-append (encode_part p) (encode ps) ∙ ap (λ n. n + length (encode ps)) (part_size p)

fitted_more : (room : Room) (e : Event) (es : List Event) → met room e ≡ 0 → Fitted (after room e) es → Fitted room (e ∷ es)
unfolding after parts_of answers_of left_after size_of
fitted_more room (sought i) es h f = record { answers = f.answers; bytes = f.bytes; answers_left = f.answers_left; bytes_left = f.bytes_left }
fitted_more room (doubled i) es h f = record { answers = f.answers; bytes = f.bytes; answers_left = f.answers_left; bytes_left = f.bytes_left }
fitted_more room (halved i) es h f = record { answers = f.answers; bytes = f.bytes; answers_left = f.answers_left; bytes_left = f.bytes_left }
fitted_more room (wrote (answer v m)) es h f =
    let k = met_answer room v m h in
    let n = encoded (answer v m) (parts_of es) in
    let a = f.answers in
    let b = f.bytes in
    let c = f.answers_left in
    let d = f.bytes_left in
    record { answers = omega (arith, k.0); bytes = omega (arith, k.1); answers_left = omega arith; bytes_left = omega arith }
fitted_more room (wrote (gap f l m)) es h g =
    let k = met_gap room f l m h in
    let n = encoded (gap f l m) (parts_of es) in
    let a = g.answers in
    let b = g.bytes in
    let c = g.answers_left in
    let d = g.bytes_left in
    record { answers = omega arith; bytes = omega arith; answers_left = omega arith; bytes_left = omega arith }

-- all that a walk writes fits
pub cut_fitted : (room : Room) (es : List Event) → Fitted room (cut room es).events
unfolding cut parts_of answers_of encode left_after
cut_fitted room [] = record { answers = omega arith; bytes = omega arith; answers_left = omega arith; bytes_left = omega arith }
cut_fitted room (e ∷ es) =
    met_or_not room e
    (λ h. rw (cut_on room e es h) (fitted_more room e (cut (after room e) es).events h (cut_fitted (after room e) es)))
    (λ n h. rw (cut_here room n e es h) (record { answers = omega arith; bytes = omega arith; answers_left = omega arith; bytes_left = omega arith }))

-- a part takes at least one byte
pub parts_bytes : (ps : List Part) → length ps ≤ length (encode ps)
unfolding encode
parts_bytes [] = omega arith
parts_bytes (p ∷ ps) = let i = parts_bytes ps in let n = encoded p ps in let s = size_pos p in omega arith
