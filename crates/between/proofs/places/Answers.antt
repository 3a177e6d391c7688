-- `places` meets its contract: where the list rises after its zeros, the ends are the ranks of the first and of the number after the last.
-- Assumes nothing.
use Rattle.std.proofs.Common.{◌≡◌, ℕ, ◌≤◌, List, true, false, Option, None, Some, sym, max, rules}
use Rattle.std.proofs.Math.Option.{none}
use Rattle.std.specs.Option.{is_some}
use Rattle.rising.specs.Found.{found_place}
use Rattle.model.specs.Runs.{first_bin, unrisen_run}
use Rattle.model.proofs.FirstChecks.{run_ordered}
use Rattle.model.proofs.Zeros.{first_is}
use Rattle.between.specs.Places.{Spans}
use Rattle.between.proofs.Parts.{between_none, between_unrisen, spans_none, spans_ranks}
use Rattle.between.proofs.places.Goals as goal
use Rattle.between.proofs.places.Goals.{then-last-first-via-then-last-first, then-last-first-via-else-last-first+then-is_some}

risen : (s : List ℕ) (found : Option ℕ) → found_place found ≡ unrisen_run 0 s → false ≡ is_some found → unrisen_run 0 s ≡ none
risen s None e i = sym e
risen s (Some place) e i = absurd (let z : true ≡ false = sym i in cc)

unrisen : (first last : ℕ) (s : List ℕ) (found : Option ℕ) → first ≤ last → found_place found ≡ unrisen_run 0 s → true ≡ is_some found
    → Spans first last s (record { start = 0; end = 0 })
unrisen first last s None h e i = absurd (let z : true ≡ false = i in cc)
unrisen first last s (Some place) h e i = spans_none first last s (between_unrisen first last s place h (sym e))

pub returns-then-last-first : goal.returns-then-last-first
returns-then-last-first c =
    let a = c.args in
    elim c.then-last-first.branch [
      | then-last-first-via-then-last-first w ↦ spans_none _ _ _ (between_none a.first a.last a.list.now w.if-last-first.true)
      | then-last-first-via-else-last-first+then-is_some w ↦
          unrisen a.first a.last a.list.now w.first_unrisen.result w.if-last-first.false w.first_unrisen.ensures w.if-is_some.ensures
    ]

pub first_at_least-start-requires : goal.first_at_least-start-requires
first_at_least-start-requires c =
    run_ordered 0 c.args.list.now (risen c.args.list.now c.first_unrisen.result c.first_unrisen.ensures c.if-is_some.ensures)

pub first_at_least-end-requires : goal.first_at_least-end-requires
first_at_least-end-requires c =
    run_ordered 0 c.args.list.now (risen c.args.list.now c.first_unrisen.result c.first_unrisen.ensures c.if-is_some.ensures)

pub returns : goal.returns
returns c =
    let a = c.args in
    let r = risen a.list.now c.first_unrisen.result c.first_unrisen.ensures c.if-is_some.ensures in
    let b : c.from.result ≡ max a.first first_bin = rw first_is (search rules) in
    rw (c.first_at_least-start.ensures, c.first_at_least-end.ensures, b, c.from-2.ensures) (spans_ranks a.first a.last a.list.now c.if-last-first.false r)
