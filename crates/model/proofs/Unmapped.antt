-- The unmapped mark, 0, is no answer of a true certificate, and no part between two numbers shows it. Assumes nothing.
use Prim.Native.Nat.{ℕ, ◌≤◌}
use lib.Dec.{ltb, leb}
use mathlib.Core.Bool.{Bool, true, false, ◌&&◌}
use mathlib.Core.List.Memᴰ
use mathlib.Core.List.{List, [], ◌∷◌, Memᴰ}
use mathlib.Core.Logic.{⊎_elim}
use mathlib.Core.Option.{Option, none, some}
use mathlib.Core.Path.{◌≡◌, refl, subst}
use native.Mathlib.Omega.{arith}
use Rattle.model.specs.Between.{within, between}
use Rattle.model.specs.Certificate.{Part, answers_of, TrueCertificate}
use Rattle.model.specs.Runs.{Run, first_bin, from, unrisen_run, holds}
use Rattle.model.proofs.Count.{weight_some}
use Rattle.model.proofs.Exact.{exact}
use Rattle.model.proofs.FirstChecks.{run_ordered}
use Rattle.model.proofs.From.{rise_least, holds_mem}
use Rattle.model.proofs.Ordered.{ordered_least, ordered_from}
use Rattle.model.proofs.Tests.{both}
use Rattle.model.proofs.Truth.{Fit}

-- Every answer of a true certificate is a bin: 0 never is one.
pub answers_bins : {rs : List Run} {t : ℕ} {ps : List Part} → Fit rs t → TrueCertificate rs t ps → (x : ℕ) → Memᴰ x (answers_of ps) → first_bin ≤ x
answers_bins {rs} {t} g c x m =
    let h = ((exact g c).all x).0 m in
    let p = g.some in
    let s = weight_some (λ r. holds x r.bins) rs (omega arith) in
    rise_least (g.rising.each s.0 s.1) (holds_mem x s.0.bins s.2)

within_mem : (first last : ℕ) (s : List ℕ) {x : ℕ} → Memᴰ x (within first last s) → Memᴰ x s
unfolding within
within_mem first last [] m = m
within_mem first last (y ∷ s) {x} m =
    ⊎_elim
    (λ (q : (leb first y && leb y last) ≡ true).
    ⊎_elim (λ e. Memᴰ.head e) (λ k. Memᴰ.tail (within_mem first last s k))
    (Memᴰ.cases_cons (subst (λ l. Memᴰ x l) (rw (q, within)) m)))
    (λ (q : (leb first y && leb y last) ≡ false). Memᴰ.tail (within_mem first last s (subst (λ l. Memᴰ x l) (rw (q, within)) m)))
    (both (leb first y && leb y last))

-- A part between two numbers shows bins only: never a 0.
pub between_bins : (first last : ℕ) (s : List ℕ) {x : ℕ} → Memᴰ x (between first last s) → first_bin ≤ x
unfolding between
between_bins first last s {x} m = of_order (ltb last first) refl
  where
    of_list : ltb last first ≡ false → (o : Option ℕ) → unrisen_run 0 s ≡ o → first_bin ≤ x
    of_list q none e = ordered_least (ordered_from first_bin s (run_ordered 0 s e)) (within_mem first last (from first_bin s) (rw (q, e, between) at m))
    of_list q (some i) e = absurd (Memᴰ.not-nil (rw (q, e, between) at m))

    of_order : (b : Bool) → ltb last first ≡ b → first_bin ≤ x
    of_order true q = absurd (Memᴰ.not-nil (rw (q, between) at m))
    of_order false q = of_list q (unrisen_run 0 s) refl
