-- What a pair returns and leaves in its row, by what is found and kept of it. Assumes nothing.
use Prim.Native.Nat.{ℕ}
use borrow.Author.Tests.{lt-ltb, le-ltb}
use lib.ListN.{length}
use lib.Seq.{take_all, length-take-le}
use native.Mathlib.Omega.{arith}
use mathlib.Core.List.{List}
use mathlib.Core.Path.{◌≡◌, refl, sym, ap, ◌∙◌}
use Rattle.first_checks.specs.Checked.{check_of}
use Rattle.model.specs.Refusals.{passed, refuse_if}
use Rattle.model.specs.Runs.{runs}
use Rattle.pair_model.specs.Pair.{found_in, partition_of, pair_checks, filled_with, filled_after, pair}
use Rattle.row_fill.proofs.Keeping.{keeps_row}
use Rattle.row_fill.specs.Filling.{Returns}
use Rattle.row_fill.specs.Keeps.{Keeps}
use Rattle.row_fill.specs.declared.Unfilled.{Unfilled}
use Rattle.std.specs.Prelude.{Result, Ok, Err, MatchResult}
use Rattle.refusal.specs.Number.{refusal_of}
use Rattle.refusal.specs.declared.Reason.{Reason}
use Rattle.refusal.specs.declared.Refusal.{Refusal}

pub answered : (found row row' : List ℕ) (kept : Result ℕ Reason) (r : Result ℕ Unfilled) → Keeps found row row' kept
    → MatchResult kept (λ n. r ≡ Ok n) (λ x. r ≡ Err (record { refusal = record { reason = x; place = length row }; count = length row }))
    → Returns (filled_with found row) r row'
unfolding filled_with refuse_if
answered found row row' (Ok n) r k e =
    let t = take_all (length row) found k.1 in
    rw e
    (record { check_agrees = rw (le-ltb (length row) (length found) k.1); count_agrees = rw t k.0; row_is = keeps_row found row row' (Ok n) k })
answered found row row' (Err x) r k e =
    let h = k.1 in
    let n = length-take-le (length row) found (omega arith) in
    rw e
    (record {
      check_agrees = rw (lt-ltb (length row) (length found) k.1, k.0, n);
      count_agrees = sym n;
      row_is = keeps_row found row row' (Err x) k;
    })

module _ (numbers ends row : List ℕ) where
  pub refused_first : (r : Refusal) → pair_checks numbers ends ≡ refusal_of r → Returns (pair numbers ends row) (Err (record { refusal = r; count = 0 })) row
  unfolding pair filled_after
  refused_first r e = rw e (record { check_agrees = refl; count_agrees = refl; row_is = refl })

  pub passed_first : {r : Result ℕ Unfilled} {row' : List ℕ} → pair_checks numbers ends ≡ passed
      → Returns (filled_with (found_in (partition_of (runs numbers ends))) row) r row' → Returns (pair numbers ends row) r row'
  unfolding pair filled_after
  passed_first e g = rw e g

-- the first refusal of the checks, before which nothing is written
module _ (mapped : Result (Unit {0}) Unfilled) where
  pub checks_passed : (checked : Result (Unit {0}) Refusal)
      → MatchResult checked (λ u. mapped ≡ Ok u) (λ r. mapped ≡ Err (record { refusal = r; count = 0 })) → (u : Unit {0}) → mapped ≡ Ok u
      → passed ≡ check_of checked
  checks_passed (Ok v) m u e = refl
  checks_passed (Err r) m u e = absurd (let z : Err (record { refusal = r; count = 0 }) ≡ Ok u = sym m ∙ e in cc)

  pub checks_refused : (checked : Result (Unit {0}) Refusal)
      → MatchResult checked (λ u. mapped ≡ Ok u) (λ r. mapped ≡ Err (record { refusal = r; count = 0 })) → (m : Unfilled) → mapped ≡ Err m
      → (check_of checked ≡ refusal_of m.refusal) × (m ≡ record { refusal = m.refusal; count = 0 })
  checks_refused (Ok v) n m e = absurd (let z : Ok v ≡ Err m = sym n ∙ e in cc)
  checks_refused (Err r) n m e =
      let i : record { refusal = r; count = 0 } ≡ m = (let z : Err (record { refusal = r; count = 0 }) ≡ Err m = sym n ∙ e in cc) in
      (ap (λ x. refusal_of x.refusal) i, ap (λ x. record { refusal = m.refusal; count = x.count }) (sym i))
