-- `advance` writes the gap before v, searches the runs below v, and settles v. Assumes nothing.
use Rattle.std.proofs.Common.{◌≡◌, ◌*◌, ◌<◌, ◌∙◌, List, ℕ, ap, arith, drop, subst, sym}
use Rattle.walk_advance.proofs.Advancing.{search_ready, named_small, gap_stops, x_in_play, searches_stop, stands_there, then_settles}
use Rattle.walk_keys.specs.Row.{below_count}
use Rattle.walk_settle.proofs.Passing.{front_asks}
use Rattle.walk_tally.specs.Tally.{undoubled}
use Rattle.walk_advance.proofs.advance.Goals as goal

pub front-front-requires : goal.front-front-requires
front-front-requires c =
    let a = c.args in
    front_asks a.numbers.now a.ends.now a.positions.now a.keys.now a.w.start c.requires.0.few c.requires.0.holds

-- how many runs have a head below v
counted : (keys : List ℕ) (start : ℕ) {n v bin : ℕ} → n ≡ below_count (bin * 256) (drop start keys) → bin ≡ v → n ≡ below_count (v * 256) (drop start keys)
counted keys start e f = e ∙ ap (λ x. below_count (x * 256) (drop start keys)) f

pub overflow_sub-chosen : goal.overflow_sub-chosen
overflow_sub-chosen c =
    let a = c.args in
    let n = counted a.keys.now a.w.start c.front-front.ensures.0 c.from.ensures in
    let l = named_small a.numbers.now a.ends.now a.weights.now a.positions.now a.keys.now a.answers.now a.certificate.now a.chosen a.threshold a.v a.w
    c.front-front.result.count c.front-front.result.named c.requires.0 c.requires.1 c.requires.2 c.requires.3 n c.front-front.ensures.1 in
    omega arith

pub returns-in-Err : goal.returns-in-Err
returns-in-Err c =
    let a = c.args in
    let n = counted a.keys.now a.w.start c.front-front.ensures.0 c.from.ensures in
    let both = gap_stops a.numbers.now a.ends.now a.weights.now a.positions.now a.keys.now a.answers.now a.certificate.now a.chosen a.threshold a.v a.w
    c.front-front.result.count c.front-front.result.named c.requires.0 c.requires.1 c.requires.2 c.requires.3 n c.front-front.ensures.1 c.gap_before.new.certificate c.in-Err.reason c.in-Err.ensures in
    record { goes = both.0; raises = both.1 }

pub overflow_add-w : goal.overflow_add-w
overflow_add-w c =
    let a = c.args in
    let n = counted a.keys.now a.w.start c.front-front.ensures.0 c.from.ensures in
    let ready = search_ready a.numbers.now a.ends.now a.weights.now a.positions.now a.keys.now a.answers.now a.certificate.now a.chosen a.threshold a.v a.w
    c.front-front.result.count c.front-front.result.named c.requires.0 c.requires.1 c.requires.2 c.requires.3 n c.front-front.ensures.1 in
    let r = ready.lacks.starts in
    let k = ready.lacks.size in
    let l = ready.few in
    omega arith

pub search_runs-requires : goal.search_runs-requires
search_runs-requires c =
    let a = c.args in
    let n = counted a.keys.now a.w.start c.front-front.ensures.0 c.from.ensures in (
      search_ready a.numbers.now a.ends.now a.weights.now a.positions.now a.keys.now a.answers.now a.certificate.now a.chosen a.threshold a.v a.w
          c.front-front.result.count c.front-front.result.named c.requires.0 c.requires.1 c.requires.2 c.requires.3 n c.front-front.ensures.1,
      subst (λ y. undoubled y < 4294967296) (sym c.in-Ok.ensures.0.tally) c.requires.0.allowed,
      x_in_play a.numbers.now a.ends.now a.weights.now a.positions.now a.keys.now a.answers.now a.certificate.now a.chosen a.threshold a.v a.w
          c.front-front.result.count c.front-front.result.named c.requires.0 c.requires.1 c.requires.2 c.requires.3 n c.front-front.ensures.1 c.in-Ok.x c.gap_before.new.certificate c.in-Ok.ensures,
    )

pub settle-requires : goal.settle-requires
settle-requires c =
    let a = c.args in
    let n = counted a.keys.now a.w.start c.front-front.ensures.0 c.from.ensures in
    let moved = c.in-Ok-search_runs.moved in
    stands_there a.numbers.now a.ends.now a.weights.now a.positions.now a.keys.now a.answers.now a.certificate.now a.chosen a.threshold a.v a.w
    c.front-front.result.count c.front-front.result.named c.requires.0 c.requires.1 c.requires.2 c.requires.3 n c.front-front.ensures.1
    c.in-Ok.x c.gap_before.new.certificate c.in-Ok.ensures c.search_runs.new.positions c.search_runs.new.keys moved.start moved.tally moved.weight c.in-Ok-search_runs.ensures

pub returns-in-Err-search_runs : goal.returns-in-Err-search_runs
returns-in-Err-search_runs c =
    let a = c.args in
    let n = counted a.keys.now a.w.start c.front-front.ensures.0 c.from.ensures in
    let both = searches_stop a.numbers.now a.ends.now a.weights.now a.positions.now a.keys.now a.answers.now a.certificate.now a.chosen a.threshold a.v a.w
    c.front-front.result.count c.front-front.result.named c.requires.0 c.requires.1 c.requires.2 c.requires.3 n c.front-front.ensures.1
    c.in-Ok.x c.gap_before.new.certificate c.in-Ok.ensures c.search_runs.new.positions c.search_runs.new.keys c.in-Err-search_runs.spent.0 c.in-Err-search_runs.ensures in
    record { goes = both.0; raises = both.1 }

pub returns-in-Ok-search_runs : goal.returns-in-Ok-search_runs
returns-in-Ok-search_runs c =
    let a = c.args in
    let n = counted a.keys.now a.w.start c.front-front.ensures.0 c.from.ensures in
    let moved = c.in-Ok-search_runs.moved in
    let both = then_settles a.numbers.now a.ends.now a.weights.now a.positions.now a.keys.now a.answers.now a.certificate.now a.chosen a.threshold a.v a.w
    c.front-front.result.count c.front-front.result.named c.requires.0 c.requires.1 c.requires.2 c.requires.3 n c.front-front.ensures.1
    c.in-Ok.x c.gap_before.new.certificate c.in-Ok.ensures c.search_runs.new.positions c.search_runs.new.keys moved.start moved.tally moved.weight c.in-Ok-search_runs.ensures
    c.settle.new.positions c.settle.new.keys c.settle.new.answers c.settle.new.certificate c.settle.result (c.settle.ensures.goes, c.settle.ensures.settles) in
    record { goes = both.0; raises = both.1 }
