-- `tested` makes the tests of a part in order. Assumes nothing.
use lib.ListN.{length}
use borrow.Author.Rules.{rules}
use native.Mathlib.Omega.{arith}
use Rattle.check_cursor.proofs.Moving.{bin_fits, weaken}
use Rattle.check_part.proofs.Testing.{named_below, other_first, other_last, misnamed_here, contradicted_here, passed_here}
use Rattle.check_part.proofs.tested.Goals as goal
use Rattle.check_part.proofs.tested.Goals.{then-from-bin-via-then-from-bin, then-from-bin-via-else-from-bin+then-claim}

pub returns-then-from-bin : goal.returns-then-from-bin
returns-then-from-bin c =
    let a = c.args in
    elim c.then-from-bin.branch [
      | then-from-bin-via-then-from-bin w ↦ other_first a.numbers.now a.ends.now a.weights.now a.chosen a.bin a.claim a.few _ c.requires.1 (omega arith)
      | then-from-bin-via-else-from-bin+then-claim w ↦
          other_last a.numbers.now a.ends.now a.weights.now a.chosen a.bin a.claim a.few _ c.requires.1 (omega arith) w.if-claim.true
    ]

pub returns-then-misnames : goal.returns-then-misnames
returns-then-misnames c =
    let a = c.args in
    misnamed_here a.numbers.now a.ends.now a.weights.now a.chosen a.bin a.claim a.few _ c.requires.1 c.requires.0.few c.requires.2 (omega arith)
    c.if-claim.false (bin_fits a.claim.first (search rules)) c.misnames.result c.misnames.ensures c.if-misnames.true

pub contradicted-requires : goal.contradicted-requires
contradicted-requires c =
    let a = c.args in (
      weaken a.numbers.now a.ends.now a.cursors.now a.bin a.claim.first (omega arith) c.requires.0,
      c.if-claim.false,
      named_below a.claim.mask a.chosen (length a.ends.now) _ c.misnames.result c.requires.2 c.misnames.ensures c.if-misnames.false,
    )

pub returns-then-contradicted : goal.returns-then-contradicted
returns-then-contradicted c =
    let a = c.args in
    contradicted_here a.numbers.now a.ends.now a.weights.now a.chosen a.bin a.claim a.few _ c.requires.1 c.requires.0.few c.requires.2 (omega arith)
    c.if-claim.false (bin_fits a.claim.first (search rules)) c.misnames.result c.misnames.ensures c.if-misnames.false c.contradicted.result
    c.contradicted.ensures.0 c.if-contradicted.true

pub returns : goal.returns
returns c =
    let a = c.args in
    passed_here a.numbers.now a.ends.now a.weights.now a.chosen a.bin a.claim a.few _ c.requires.1 c.requires.0.few c.requires.2 (omega arith)
    c.if-claim.false (bin_fits a.claim.first (search rules)) c.misnames.result c.misnames.ensures c.if-misnames.false c.contradicted.result
    c.contradicted.ensures.0 c.if-contradicted.false c.contradicted.ensures.1 tt
