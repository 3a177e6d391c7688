-- `whole_walk` puts every run where the walk begins, sums the weight in play there, and makes rounds to the end. Assumes nothing.
use native.Mathlib.Omega.{arith}
use Rattle.model.specs.Demands.{Fits}
use Rattle.model.specs.Runs.{past_bin}
use Rattle.walk_state.proofs.Moving.{past_is}
use Rattle.walk_whole.proofs.Beginning.{begin_ready, row_ready, stands_first, comes_first}
use Rattle.model.proofs.FirstChecks.{fits}
use Rattle.walk_whole.proofs.whole_walk.Goals as goal

pub begin-start-requires : goal.begin-start-requires
begin-start-requires c =
    let a = c.args in
    begin_ready a.numbers.now a.ends.now a.weights.now a.firsts.now a.chosen a.threshold a.positions.now a.keys.now a.answers.now a.certificate.now a.answered a.written a.tally c.requires

pub row_weight-weight-requires : goal.row_weight-weight-requires
row_weight-weight-requires c =
    let fits_bins : Fits past_bin c.args.numbers.now =
    let e = past_is in fits past_bin c.args.numbers.now (λ i. omega (arith, c.type_inv.numbers i)) in
    let a = c.args in
    row_ready a.numbers.now a.ends.now a.weights.now a.firsts.now a.chosen a.threshold a.positions.now a.keys.now a.answers.now a.certificate.now a.answered a.written a.tally c.requires
    (fits_bins) c.begin-start.new.positions c.begin-start.new.keys c.begin-start.result c.begin-start.ensures

pub all_rounds-requires : goal.all_rounds-requires
all_rounds-requires c =
    let fits_bins : Fits past_bin c.args.numbers.now =
    let e = past_is in fits past_bin c.args.numbers.now (λ i. omega (arith, c.type_inv.numbers i)) in
    let a = c.args in
    stands_first a.numbers.now a.ends.now a.weights.now a.firsts.now a.chosen a.threshold a.positions.now a.keys.now a.answers.now a.certificate.now a.answered a.written a.tally c.requires
    (fits_bins) c.begin-start.new.positions c.begin-start.new.keys c.begin-start.result c.begin-start.ensures c.row_weight-weight.result c.row_weight-weight.ensures

pub returns : goal.returns
returns c =
    let fits_bins : Fits past_bin c.args.numbers.now =
    let e = past_is in fits past_bin c.args.numbers.now (λ i. omega (arith, c.type_inv.numbers i)) in
    let a = c.args in
    comes_first a.numbers.now a.ends.now a.weights.now a.firsts.now a.chosen a.threshold a.positions.now a.keys.now a.answers.now a.certificate.now a.answered a.written a.tally c.requires
    (fits_bins) c.begin-start.new.positions c.begin-start.new.keys c.begin-start.result c.begin-start.ensures c.row_weight-weight.result
    c.all_rounds.new.answers c.all_rounds.new.certificate c.all_rounds.result c.all_rounds.ensures
