-- A text laid into a buffer from the front on, and whether it fits. Assumes nothing.
use Prim.Native.Nat.{ℕ, ◌≤◌, ◌<◌}
use borrow.Author.Tests.{le-leb, lt-leb}
use lib.ListN.{length, take, drop}
use lib.Seq.{take_all, take-append_seam}
use mathlib.Core.List.{List, ◌++◌}
use mathlib.Core.Logic.{⊎_elim}
use mathlib.Core.Path.{◌≡◌, sym, ap, ◌∙◌}
use native.Mathlib.Omega.{arith}
use Rattle.model.proofs.Tests.{lt_or_le}
use Rattle.model.specs.Refusals.{over}
use Rattle.std.specs.Prelude.{Option, Some, None}
use Rattle.text_write.specs.Laying.{Lays}
use Rattle.hits_render.specs.Text.{fitting, Shows}
use Rattle.text_write.proofs.Laid.{lays_length, laid_front}

pub fitting_text : (size room : ℕ) → size ≤ room → fitting size room ≡ Some size
unfolding fitting
fitting_text size room h = rw (le-leb size room h, fitting)

pub fitting_full : (size room : ℕ) → room < size → fitting size room ≡ None
unfolding fitting
fitting_full size room h = rw (lt-leb size room h, fitting)

-- the last place of a text that is laid whole says whether it fits
pub shows_laid : {text l l₁ : List ℕ} {p : ℕ} {r : Option ℕ} → Lays text l 0 l₁ p → r ≡ fitting p (length l₁) → Shows text l l₁ r
shows_laid {text} {l} {l₁} {p} {r} g e =
    let q = g.place in
    let n = lays_length g in
    record {
      written = g.text ∙ laid_front l text;
      result =
          e ∙ (ap (fitting p) n
          ∙ ⊎_elim
          (λ (h : length l < length text). fitting_full p (length l) (omega arith) ∙ sym (fitting_full (length text) (length l) h))
          (λ (h : length text ≤ length l). ap (λ k. fitting k (length l)) (omega arith))
          (lt_or_le (length l) (length text)));
    }

pub shown_whole : {text l l₁ : List ℕ} {r : Option ℕ} → Shows text l l₁ r → length text ≤ length l → r ≡ Some (length text)
shown_whole {text} {l} g h = g.result ∙ fitting_text (length text) (length l) h

-- a text that fits lies within the buffer, whose first bytes it then is
pub shown_text : {text l l₁ : List ℕ} {n : ℕ} → Shows text l l₁ (Some n) → (n ≤ length l) × (take n l₁ ≡ text)
unfolding over
shown_text {text} {l} {l₁} {n} g =
    ⊎_elim
    (λ (h : length l < length text).
    let e : Some n ≡ None = g.result ∙ fitting_full (length text) (length l) h in
    absurd (let z : ◌≡◌ {A = ℕ} 0 1 = cc in omega arith))
    (λ (h : length text ≤ length l).
    let e : Some n ≡ Some (length text) = g.result ∙ fitting_text (length text) (length l) h in
    let i : n ≡ length text = cc in
    let w : l₁ ≡ text ++ drop (length text) l = g.written ∙ ap (λ s. over s l) (take_all (length l) text h) in
    (omega arith, rw (i, w) (take-append_seam text (drop (length text) l))))
    (lt_or_le (length l) (length text))
