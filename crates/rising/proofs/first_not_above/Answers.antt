-- `first_not_above` finds the first number after the blocks that is not above the one before. Assumes nothing.
use Rattle.std.proofs.Common.{◌≡◌, ℕ, ◌+◌, ◌<◌, ◌≤◌, ◌-◌, length, List, get_or, Option, MatchOption, None, Some, rules, tests}
use Rattle.std.proofs.lemmas.Iterator.{first_from_Range}
use Rattle.model.specs.Runs.{unrisen}
use Rattle.rising.specs.Found.{found_place}
use Rattle.rising.specs.Rising.{AfterBlocks}
use Rattle.rising.proofs.Rising.{Above, first_none, first_some}
use Rattle.rising.proofs.first_not_above.Goals as goal

placed : (a : ℕ) (s : List ℕ) (n : ℕ) (o q : Option ℕ) → AfterBlocks s 0 n
    → MatchOption o ((k : ℕ) → n ≤ k → k < length s → Above s k)
    (λ i. (n ≤ i) × (i < length s) × (get_or s i 0 ≤ get_or s (i - 1) 0) × ((k : ℕ) → n ≤ k → k < i → Above s k))
    → MatchOption o (q ≡ None) (λ i. q ≡ Some (a + i)) → found_place q ≡ unrisen a s
placed a s n None q b f e = rw e (first_none a s n b f)
placed a s n (Some i) q b f e = rw e (first_some a s n b i f.0 f.1 f.2 f.3)

pub returns : goal.returns
returns c =
    let s = c.args.list.now in
    placed c.args.start s c.after_blocks-place.result c.find.result c.map.result c.after_blocks-place.ensures
    (first_from_Range _ _ _ c.find.result (λ k. get_or s k 0 ≤ get_or s (k - 1) 0) (Above s) c.find.ensures.ran (λ x q k. search (rules, tests)) (λ x q k. search (rules, tests)))
    (search rules)
