-- `find_both` writes the answers of the two runs' partition. Assumes nothing.
use mathlib.Core.Path.{ap₂, subst, refl, ◌∙◌}
use native.Mathlib.Omega.{arith}
use Rattle.model.proofs.FirstChecks.{fits}
use Rattle.model.specs.Demands.{Fits}
use Rattle.model.specs.Runs.{past_bin}
use Rattle.pair_model.proofs.Lent.{pair_two}
use Rattle.pair_model.specs.Pair.{partition, found_in}
use Rattle.row_fill.specs.Keeps.{Keeps}
use Rattle.pair.proofs.Lending.{first_lent, second_lent, found_pair, risen_pair}
use Rattle.pair.proofs.find_both.Goals as goal

pub bounds-ends-0 : goal.bounds-ends-0
bounds-ends-0 c =
    let n = pair_two c.args.numbers.now c.args.ends.now c.requires in omega (arith, n)

pub bins_of-first-requires : goal.bins_of-first-requires
bins_of-first-requires c =
    first_lent c.args.numbers.now c.args.ends.now c.requires refl

pub bins_of-second-requires : goal.bins_of-second-requires
bins_of-second-requires c =
    second_lent c.args.numbers.now c.args.ends.now c.requires refl

pub intersect-requires : goal.intersect-requires
unfolding past_bin
intersect-requires c =
    let fits_bins : Fits past_bin c.args.numbers.now =
    fits past_bin c.args.numbers.now (λ i. omega (arith, c.type_inv.numbers i)) in
    rw (c.bins_of-first.ensures, c.bins_of-second.ensures)
    (risen_pair c.args.numbers.now c.args.ends.now c.requires refl (fits_bins))

pub returns : goal.returns
returns c =
    subst (λ found. Keeps found c.args.answers.now c.intersect.new.answers c.intersect.result)
    (ap₂ (λ x y. found_in (partition x y)) c.bins_of-first.ensures c.bins_of-second.ensures
    ∙ found_pair c.args.numbers.now c.args.ends.now c.requires refl)
    c.intersect.ensures
