-- `leading_zeros` finds the first bin after the zeros that are passed. Assumes nothing.
use Rattle.std.proofs.Common.{◌≡◌, ℕ, ◌+◌, ◌-◌, ◌<◌, ◌≤◌, List, length, take, drop, leb, Option, None, Some, MatchOption, ◌∙◌, not, arith, rules, tests}
use borrow.Author.Tests.{lt-ltb, le-ltb}
use mathlib.Core.Logic.{⊎_elim}
use Rattle.std.proofs.Math.Seq.{take_all}
use Rattle.std.proofs.lemmas.Iterator.{YieldsList-from_slice}
use Rattle.std.proofs.lemmas.Iterator.Search.{position_from_yields_List}
use Rattle.std.proofs.lemmas.List.{length-drop}
use Rattle.std.proofs.lemmas.List.Sums.{prefix_len-le-length}
use Rattle.std.specs.List.{position, position_or_len}
use Rattle.model.proofs.From.{rank_le}
use Rattle.model.proofs.Tests.{lt_or_le}
use Rattle.model.specs.Runs.{first_bin, rank}
use Rattle.rising.proofs.Rising.{zeros_left}
use Rattle.rising.proofs.leading_zeros.Goals as goal

-- the first bin after z zeros, or the run's end
first : (z : ℕ) (s : List ℕ) (o : Option ℕ) (r : ℕ) → z ≤ rank first_bin s → o ≡ position (leb 1) (drop z s)
    → MatchOption o (r ≡ length s) (λ i. r ≡ z + i) → r ≡ rank first_bin s
first z s o r h p m =
    let x = position_or_len (leb 1) (drop z s) in
    let e = zeros_left z s h in
    ⊎_elim
    (λ (q : x < length (drop z s)).
    let t : o ≡ Some x = p ∙ rw (lt-ltb x (length (drop z s)) q) in
    (rw t at m) ∙ e)
    (λ (q : length (drop z s) ≤ x).
    let t : o ≡ None = p ∙ rw (le-ltb x (length (drop z s)) q) in
    let k = rank_le first_bin s in
    let n = length-drop z s in
    let l = prefix_len-le-length (λ y. not (leb 1 y)) (drop z s) in
    (rw t at m) ∙ omega arith)
    (lt_or_le x (length (drop z s)))

pub returns : goal.returns
returns c =
    let s = c.args.run.now in
    let z = c.zero_part-zeros.result in
    let t = take (length s - z) (drop z s) in
    let e : t ≡ drop z s = take_all (length s - z) (drop z s) (let n = length-drop z s in omega arith) in
    let p = position_from_yields_List (leb 1) _ _ c.position.result c.position.ensures.ran (YieldsList-from_slice t cc) (λ x b q k. search (rules, tests)) in
    first z s c.position.result c.map_or.result c.zero_part-zeros.ensures (rw e at p) (search rules)
