-- How many lines a section can cover: a record that covers one has at least six bytes, and a line end or the line that opens the section beside them.
-- Assumes nothing.
use Prim.Native.Nat.{ℕ, zero, suc, ◌+◌, ◌-◌, ◌*◌, ◌≤◌, ◌<◌}
use lib.Dec.{eqb}
use lib.ListN.{length, get_or, drop, length-take, length-drop}
use mathlib.Core.Bool.{Bool, true, false}
use mathlib.Core.List.{List, [], ◌∷◌}
use mathlib.Core.Logic.{⊎_elim}
use mathlib.Core.Option.{Option, none, some}
use mathlib.Core.Path.{◌≡◌, refl, sym, ap, ◌∙◌}
use native.Mathlib.Omega.{arith}
use Rattle.model.proofs.Tests.{both, lt_or_le}
use Rattle.text_match.proofs.Matches.{begins_long}
use Rattle.text_match.specs.Match.{begins}
use Rattle.text_read.proofs.Pieces.{until_le}
use Rattle.text_read.specs.Numbers.{number, value}
use Rattle.text_read.specs.Pieces.{on_first, split, until}
use Rattle.lcov_form.specs.Form.{Line, lines_from, lines, opens, closes, Section, unclosed, ◌and_then◌, section, sections, Record, covered, malformed, passed_over, counted, values, record_of}
use Rattle.lcov_form.specs.Reading.{covered_in, section_of}
use Rattle.lcov_form.proofs.Records.{data_record, other_record, piece, one_value, two_values}
use Rattle.lcov_form.proofs.Steps.{record_is}

-- ---- a record that covers a line

covers : Record → ℕ
covers (covered x) = 1
covers malformed = 0
covers passed_over = 0

not_covered : {A : Type 0} {x : ℕ} → malformed ≡ covered x → A
unfolding covers
not_covered e = let z = ap covers e in absurd (omega (arith, z))

no_count : {A : Type 0} (o : Option ℕ) {x : ℕ} → counted o none ≡ covered x → A
unfolding counted
no_count none e = not_covered e
no_count (some n) e = not_covered e

two_words : (line count : List ℕ) {x : ℕ} → counted (number line) (value count) ≡ covered x → (1 ≤ length line) × (1 ≤ length count)
unfolding counted number value
two_words [] count e = not_covered e
two_words (b ∷ line) [] e = no_count (number (b ∷ line)) e
two_words (b ∷ line) (c ∷ count) e = (omega arith, omega arith)

values_long : (l : List ℕ) {x : ℕ} → values (split 44 l) ≡ covered x → 3 ≤ length l
values_long l e =
    let u = until_le 44 l in
    ⊎_elim
    (λ (h : until 44 l < length l).
    let rest = drop (suc (until 44 l)) l in
    let w = two_words (piece l) (piece rest) (sym (two_values l h) ∙ e) in
    let t = length-take (until 44 l) l in
    let r = length-take (until 44 rest) rest in
    let d = length-drop (suc (until 44 l)) l in
    omega (arith, w, r))
    (λ (h : length l ≤ until 44 l). let q : until 44 l ≡ length l = omega arith in not_covered (sym (one_value l q) ∙ e))
    (lt_or_le (until 44 l) (length l))

passed_not : {A : Type 0} {x : ℕ} → passed_over ≡ covered x → A
unfolding covers
passed_not e = let z = ap covers e in absurd (omega (arith, z))

record_long : (text : List ℕ) {x : ℕ} → record_of text ≡ covered x → 6 ≤ length text
record_long text e =
    ⊎_elim
    (λ (t : begins (68 ∷ 65 ∷ 58 ∷ []) text ≡ true).
    let l = begins_long (68 ∷ 65 ∷ 58 ∷ []) text t in
    let d = length-drop 3 text in
    let v = values_long (drop 3 text) (sym (data_record text t) ∙ e) in
    omega (arith, l, v))
    (λ (t : begins (68 ∷ 65 ∷ 58 ∷ []) text ≡ false). passed_not (sym (other_record text t) ∙ e))
    (both (begins (68 ∷ 65 ∷ 58 ∷ []) text))

-- ---- the bytes of lines, each with an end

weight : List Line → ℕ
weight [] = 0
weight (line ∷ lines) = suc (length line.text) + weight lines

pieces_weight : List (List ℕ) → ℕ
pieces_weight [] = 0
pieces_weight (p ∷ ps) = suc (length p) + pieces_weight ps

weight_from : (at : ℕ) (ps : List (List ℕ)) → weight (lines_from at ps) ≡ pieces_weight ps
unfolding weight pieces_weight lines_from
weight_from at [] = refl
weight_from at (p ∷ ps) = let h = weight_from (at + length p + 1) ps in omega (arith, h)

weight_first : (b : ℕ) (ps : List (List ℕ)) → 1 ≤ pieces_weight ps → pieces_weight (on_first b ps) ≡ suc (pieces_weight ps)
unfolding pieces_weight on_first
weight_first b [] h = absurd (omega (arith, h))
weight_first b (p ∷ ps) h = omega arith

weight_split : (s : ℕ) (l : List ℕ) → pieces_weight (split s l) ≡ suc (length l)
unfolding pieces_weight split
weight_split s [] = omega arith
weight_split s (b ∷ l) =
    let h = weight_split s l in
    ⊎_elim
    (λ (t : eqb b s ≡ true). rw (t, split) (omega (arith, h)))
    (λ (t : eqb b s ≡ false). rw (t, split) (weight_first b (split s l) (omega (arith, h)) ∙ omega (arith, h)))
    (both (eqb b s))

file_weight : (file : List ℕ) → weight (lines file) ≡ suc (length file)
unfolding lines
file_weight file = weight_from 0 (split 10 file) ∙ weight_split 10 file

-- ---- the lines that a section covers

line_light : (line : Line) (rest : Section) (n : ℕ) → 7 * length (covered_in rest) ≤ n → 7 * length (covered_in (line and_then rest)) ≤ suc (length line.text) + n
unfolding covered_in
line_light line rest n h =
    ⊎_elim
    (λ (e : record_of line.text ≡ malformed). rw (e, covered_in) (omega (arith, h)))
    (⊎_elim
    (λ (e : record_of line.text ≡ passed_over). rw (e, covered_in) (omega (arith, h)))
    (λ (p : (x : ℕ) × (record_of line.text ≡ covered x)). let l = record_long line.text p.1 in rw (p.1, covered_in) (omega (arith, h, l))))
    (record_is (record_of line.text))

section_light : (ls : List Line) → 7 * length (covered_in (section ls)) ≤ weight ls
unfolding section weight covered_in
section_light [] = omega arith
section_light (line ∷ ls) =
    ⊎_elim
    (λ (t : closes line.text ≡ true). rw (t, section) (omega arith))
    (λ (t : closes line.text ≡ false). rw (t, section) (line_light line (section ls) (weight ls) (section_light ls)))
    (both (closes line.text))

sections_light : (inside : Bool) (ls : List Line) (index : ℕ) → 7 * length (covered_in (get_or (sections inside ls) index unclosed)) ≤ weight ls - 1
unfolding sections weight covered_in
sections_light true [] index = omega arith
sections_light false [] index = omega arith
sections_light true (line ∷ ls) index =
    ⊎_elim
    (λ (t : closes line.text ≡ true). rw (t, sections) (let h = sections_light false ls index in omega (arith, h)))
    (λ (t : closes line.text ≡ false). rw (t, sections) (let h = sections_light true ls index in omega (arith, h)))
    (both (closes line.text))
sections_light false (line ∷ ls) zero =
    ⊎_elim
    (λ (t : opens line.text ≡ true). rw (t, sections) (let h = section_light ls in omega (arith, h)))
    (λ (t : opens line.text ≡ false). rw (t, sections) (let h = sections_light false ls zero in omega (arith, h)))
    (both (opens line.text))
sections_light false (line ∷ ls) (suc index) =
    ⊎_elim
    (λ (t : opens line.text ≡ true). rw (t, sections) (let h = sections_light true ls index in omega (arith, h)))
    (λ (t : opens line.text ≡ false). rw (t, sections) (let h = sections_light false ls (suc index) in omega (arith, h)))
    (both (opens line.text))

pub section_room : (file : List ℕ) (index : ℕ) → 7 * length (covered_in (section_of file index)) ≤ length file
unfolding section_of
section_room file index =
    let h = sections_light false (lines file) index in
    let w = file_weight file in
    omega (arith, h, w)
