-- The checker's loop over the parts, one turn at a time. Assumes nothing.
use Prim.Native.Nat.{ℕ, zero, suc, ◌+◌, ◌-◌, ◌≤◌, ◌<◌}
use borrow.Author.Tests.{eq-eqb, ne_eqb}
use lib.ListN.{length, get_or, drop, drop_of_length-le}
use lib.Seq.{drop-cons}
use mathlib.Core.List.{List, [], ◌∷◌}
use mathlib.Core.Logic.{◌≢◌}
use mathlib.Core.Path.{◌≡◌, refl, sym, ap, ap₂, ◌∙◌, subst}
use native.Mathlib.Omega.{arith}
use Rattle.field_read.specs.Reading.{part_of, reading_of, EndsFrom}
use Rattle.field_read.specs.declared.Field.{Field}
use Rattle.refusal.specs.Number.{number_of}
use Rattle.refusal.specs.declared.Reason.{Reason}
use Rattle.std.specs.Prelude.{Result, Ok, Err}
use Rattle.model.proofs.Checking.{check_read}
use Rattle.model.proofs.Encoding.{size_pos}
use Rattle.model.specs.Certificate.{Part, answer, gap, last_of, size_of, unreadable, read, read_field}
use Rattle.model.specs.Refusals.{refusal, Verdict, valid, invalid, check_part, counted, at_end, check_from}
use Rattle.model.specs.Runs.{Run, first_bin, past_bin}
use Rattle.check_cursor.specs.Cursors.{Cursors}
use Rattle.check_part.specs.Tested.{chosen_runs, numbered, PartChecked}
use Rattle.checker.specs.Counts.{answer_count}

-- ---- one field

from_unreadable : (fuel : ℕ) (rs : List Run) (t b at x : ℕ) (bytes : List ℕ) → read_field (x ∷ bytes) ≡ unreadable 8
    → check_from (suc fuel) rs t b at (x ∷ bytes) ≡ invalid 8 at 0 0
unfolding check_from
from_unreadable fuel rs t b at x bytes e = rw (e, check_from)

from_refused : (fuel : ℕ) (rs : List Run) (t b at x n place : ℕ) (bytes rest : List ℕ) (p : Part) → read_field (x ∷ bytes) ≡ read p rest
    → check_part rs t b at p ≡ refusal n place → check_from (suc fuel) rs t b at (x ∷ bytes) ≡ invalid n place 0 0
unfolding check_from
from_refused fuel rs t b at x n place bytes rest p e h = rw (e, check_from, h)

from_end : (fuel : ℕ) (rs : List Run) (t b at : ℕ) → check_from fuel rs t b at [] ≡ at_end b at
unfolding check_from
from_end zero rs t b at = refl
from_end (suc fuel) rs t b at = refl

pub answers_few : (p : Part) → answer_count p ≤ 1
unfolding answer_count
answers_few (answer v m) = omega arith
answers_few (gap f l m) = omega arith

-- ---- counts

unfoldable pub plus : ℕ → ℕ → Verdict → Verdict
plus a n (valid x y) = valid (a + x) (n + y)
plus a n (invalid x y b m) = invalid x y b m

plus_none : (v : Verdict) → plus 0 0 v ≡ v
unfolding plus
plus_none (valid x y) = let i : 0 + x ≡ x = omega arith in let j : 0 + y ≡ y = omega arith in ap₂ valid i j
plus_none (invalid x y b m) = refl

plus_counted : (a n : ℕ) (p : Part) (v : Verdict) → plus a n (counted p v) ≡ plus (a + answer_count p) (n + 1) v
unfolding plus counted answer_count
plus_counted a n (answer w m) (valid x y) =
    let i : a + suc x ≡ a + 1 + x = omega arith in
    let j : n + suc y ≡ n + 1 + y = omega arith in
    ap₂ valid i j
plus_counted a n (answer w m) (invalid x y b k) = refl
plus_counted a n (gap f l m) (valid x y) =
    let i : a + x ≡ a + 0 + x = omega arith in
    let j : n + suc y ≡ n + 1 + y = omega arith in
    ap₂ valid i j
plus_counted a n (gap f l m) (invalid x y b k) = refl

-- ---- the loop

pub record Along (numbers ends weights : List ℕ) (m t : ℕ) (certificate cursors : List ℕ) (bin at answers parts : ℕ) : Type 0 where
  pub ready : Cursors numbers ends cursors bin
  pub same : check_from (length certificate) (chosen_runs numbers ends weights m) t first_bin 0 certificate
      ≡ plus answers parts (check_from (length certificate - parts) (chosen_runs numbers ends weights m) t bin at (drop at certificate))
  pub few : answers ≤ parts
  pub slow : parts ≤ at

pub along_start : (numbers ends weights : List ℕ) (m t : ℕ) (certificate cursors : List ℕ) → Cursors numbers ends cursors first_bin
    → Along numbers ends weights m t certificate cursors 1 0 0 0
unfolding first_bin
along_start numbers ends weights m t certificate cursors c =
    let z : length certificate - 0 ≡ length certificate = omega arith in
    record {
      ready = c;
      same =
          sym (plus_none (check_from (length certificate) (chosen_runs numbers ends weights m) t first_bin 0 certificate))
          ∙ (λ i. plus 0 0 (check_from (sym z i) (chosen_runs numbers ends weights m) t first_bin 0 certificate));
      few = omega arith;
      slow = omega arith;
    }

module _ (numbers ends weights : List ℕ) (m t : ℕ) (certificate cursors : List ℕ) (bin at answers parts : ℕ)
    (h : Along numbers ends weights m t certificate cursors bin at answers parts) where
  step : at < length certificate
      → check_from (length certificate) (chosen_runs numbers ends weights m) t first_bin 0 certificate
      ≡ plus answers parts
      (check_from (suc (length certificate - (parts + 1))) (chosen_runs numbers ends weights m) t bin at (get_or certificate at 0 ∷ drop (suc at) certificate))
  step l =
      let s = h.slow in
      let z : length certificate - parts ≡ suc (length certificate - (parts + 1)) = omega arith in
      let d = drop-cons certificate at 0 l in
      h.same ∙ (λ i. plus answers parts (check_from (z i) (chosen_runs numbers ends weights m) t bin at (d i)))

  module _ (l : at < length certificate) (x : Result Field Reason) (r : reading_of certificate x ≡ read_field (drop at certificate)) where
    field_is : read_field (get_or certificate at 0 ∷ drop (suc at) certificate) ≡ reading_of certificate x
    field_is = ap read_field (sym (drop-cons certificate at 0 l)) ∙ sym r

    pub along_unreadable : (reason : Reason) → x ≡ Err reason → EndsFrom at x → invalid 8 at 0 0 ≡ check_from (length certificate) (chosen_runs numbers ends weights m) t first_bin 0 certificate
    unfolding reading_of EndsFrom plus
    along_unreadable reason e d =
        sym
        (step l
        ∙ ap (plus answers parts)
        (from_unreadable (length certificate - (parts + 1)) (chosen_runs numbers ends weights m) t bin at (get_or certificate at 0) (drop (suc at) certificate)
        (field_is ∙ (ap (reading_of certificate) e ∙ ap (λ r. unreadable (number_of r)) (subst (λ y. EndsFrom at y) e d)))))

    module _ (f : Field) (e : x ≡ Ok f) where
      readable : read_field (get_or certificate at 0 ∷ drop (suc at) certificate) ≡ read (part_of f.part) (drop f.next certificate)
      unfolding reading_of
      readable = field_is ∙ ap (reading_of certificate) e

      pub next_is : EndsFrom at x → f.next ≡ at + size_of (part_of f.part)
      unfolding EndsFrom
      next_is d = subst (λ y. EndsFrom at y) e d

      pub along_refused : (cursors' : List ℕ) (reason : Reason) → PartChecked numbers ends weights m t bin (part_of f.part) cursors' (Err reason)
          → invalid (number_of reason) at 0 0 ≡ check_from (length certificate) (chosen_runs numbers ends weights m) t first_bin 0 certificate
      unfolding plus numbered
      along_refused cursors' reason c =
          sym
          (step l
          ∙ ap (plus answers parts)
          (from_refused (length certificate - (parts + 1)) (chosen_runs numbers ends weights m) t bin at (get_or certificate at 0) (number_of reason) at
          (drop (suc at) certificate) (drop f.next certificate) (part_of f.part) readable (c.refused_by at)))

      pub along_on : EndsFrom at x → (cursors' : List ℕ) (u : Unit) → PartChecked numbers ends weights m t bin (part_of f.part) cursors' (Ok u)
          → (bin' more : ℕ) → bin' ≡ suc (last_of (part_of f.part)) → more ≡ answer_count (part_of f.part)
          → Along numbers ends weights m t certificate cursors' bin' f.next (answers + more) (parts + 1)
      unfolding numbered
      along_on d cursors' u c bin' more eb em =
          let y = next_is d in
          let s = size_pos (part_of f.part) in
          let w = answers_few (part_of f.part) in
          let o = h.few in
          let k = h.slow in
          record {
            ready = subst (λ z. Cursors numbers ends cursors' z) (sym eb) c.ready;
            same =
                step l
                ∙ (ap (plus answers parts)
                (check_read (length certificate - (parts + 1)) (chosen_runs numbers ends weights m) t bin at (get_or certificate at 0) (drop (suc at) certificate)
                (drop f.next certificate) (part_of f.part) readable (c.refused_by at))
                ∙ (plus_counted answers parts (part_of f.part) _
                ∙ (λ i.
                plus (answers + sym em i) (parts + 1)
                (check_from (length certificate - (parts + 1)) (chosen_runs numbers ends weights m) t (sym eb i) (sym y i) (drop f.next certificate)))));
            few = omega arith;
            slow = omega arith;
          }

  pub along_valid : length certificate ≤ at → bin ≡ 4294967296 → valid answers parts ≡ check_from (length certificate) (chosen_runs numbers ends weights m) t first_bin 0 certificate
  unfolding plus at_end past_bin
  along_valid l e =
      let i : answers + 0 ≡ answers = omega arith in
      let j : parts + 0 ≡ parts = omega arith in
      let k : at_end bin at ≡ valid 0 0 = rw (eq-eqb bin 4294967296 e, at_end) in
      sym
      (h.same
      ∙ ((λ z. plus answers parts (check_from (length certificate - parts) (chosen_runs numbers ends weights m) t bin at (drop_of_length-le certificate l z)))
      ∙ (ap (plus answers parts) (from_end (length certificate - parts) (chosen_runs numbers ends weights m) t bin at ∙ k) ∙ ap₂ valid i j)))

  pub along_uncovered : length certificate ≤ at → bin ≢ 4294967296 → invalid 9 at 0 0 ≡ check_from (length certificate) (chosen_runs numbers ends weights m) t first_bin 0 certificate
  unfolding plus at_end past_bin
  along_uncovered l n =
      let k : at_end bin at ≡ invalid 9 at 0 0 = rw (ne_eqb bin 4294967296 n, at_end) in
      sym
      (h.same
      ∙ ((λ z. plus answers parts (check_from (length certificate - parts) (chosen_runs numbers ends weights m) t bin at (drop_of_length-le certificate l z)))
      ∙ ap (plus answers parts) (from_end (length certificate - parts) (chosen_runs numbers ends weights m) t bin at ∙ k)))
