-- `put_pivot` writes the pivot where it is an answer. Assumes nothing.
use mathlib.Core.Logic.{⊎_elim}
use Rattle.pair_partition.proofs.Pivot.{not_first, not_second, in_both, put_none, put_full, put_one}
use Rattle.pair_partition.proofs.put_pivot.Goals as goal

pub returns-then-split : goal.returns-then-split
returns-then-split c = put_none _ _ _ c.requires (⊎_elim (λ e. not_first _ e) (λ e. not_second _ e.1) c.then-split.either)

pub returns-then-count-answers : goal.returns-then-count-answers
returns-then-count-answers c = put_full _ _ _ c.requires (in_both _ c.if-split.false c.if-split-2.false) c.if-count-answers.true

pub returns : goal.returns
returns c = put_one _ _ _ c.requires (in_both _ c.if-split.false c.if-split-2.false) c.if-count-answers.false
