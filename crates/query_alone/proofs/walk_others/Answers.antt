-- `walk_others` walks over all runs but run 0, told not to write answers. Assumes nothing.
use Rattle.std.proofs.Common.{◌≡◌, arith, length}
use Rattle.model.specs.Alone.{other_mask}
use Rattle.model.proofs.Alone.{alone_passed}
use Rattle.query_alone.proofs.Alone.{alone_lists, others_mask, others_only, others_met, walked_so}
use Rattle.query_alone.proofs.walk_others.Goals as goal

pub all_runs-requires : goal.all_runs-requires
all_runs-requires c = (alone_passed c.args.numbers.now c.args.ends.now c.args.threshold c.requires.0).few_runs

mask_is : (c : goal.After-whole) → c.without_run-others.result ≡ other_mask (length c.args.ends.now)
mask_is c =
    let p = alone_passed c.args.numbers.now c.args.ends.now c.args.threshold c.requires.0 in
    others_mask (length c.args.ends.now) c.all_runs.result c.without_run-others.result (omega (arith, p.some_runs)) c.all_runs.ensures c.without_run-others.ensures

pub question_walk-requires : goal.question_walk-requires
question_walk-requires c =
    let a = c.args in
    let t = a.threshold in
    let p = alone_passed a.numbers.now a.ends.now t c.requires.0 in
    record {
      few = p.few_runs;
      row = λ h. absurd (omega arith);
      only = others_only a.numbers.now a.ends.now t _ c.requires.0 (mask_is c);
      some = p.threshold;
      met = others_met a.numbers.now a.ends.now t _ c.requires.0 (mask_is c);
      lists = alone_lists a.numbers.now a.ends.now t c.requires.0;
      placed = c.requires.1.placed;
      bytes_fit = omega arith;
      allowed = omega (arith, c.whole.ensures.0, c.whole.ensures.1);
    }

pub returns : goal.returns
returns c =
    let p = alone_passed c.args.numbers.now c.args.ends.now c.args.threshold c.requires.0 in
    let m : c.without_run-others.result ≡ other_mask (length c.args.ends.now) =
    others_mask (length c.args.ends.now) c.all_runs.result c.without_run-others.result (omega (arith, p.some_runs)) c.all_runs.ensures c.without_run-others.ensures in
    let a = c.args in
    walked_so a.numbers.now a.ends.now a.threshold _ c.requires.0 m a.allowance c.whole.result a.certificate.now c.question_walk.new.answers
    c.question_walk.new.certificate c.question_walk.result c.whole.ensures c.question_walk.ensures
