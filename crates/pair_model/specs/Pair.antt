-- docs/SPECIFICATION.md, 'A pair of runs': the mutual partition of two runs, its answers and its nesting, and the outcome of the call for any input.
-- Definitions only.
use Rattle.std.specs.Prelude.{ℕ, zero, suc, ◌+◌, ◌-◌, ◌/◌, min, max, true, false, ◌&&◌, not, List, [], ◌∷◌, ◌++◌, ltb, leb, eqb, length, get_or, take, drop}
use Rattle.insertion_rank.specs.Passed.{begins_with, passed_over}
use Rattle.model.specs.Compared.{digits}
use Rattle.model.specs.Refusals.{Check, passed, refusal, ◌then◌, refuse_if, list_checks, over}
use Rattle.model.specs.Runs.{Run, runs}
use Rattle.row_fill.specs.Filling.{Filling}

-- The place of the middle number of a run; of an even count, of the later of the two middle numbers.
unfoldable pub middle : List ℕ → ℕ
middle s = length s / 2

-- A number v is sought in a run by halving. While lo is below hi, the number at lo plus half of hi − lo, rounded down, is compared with v: where it is below v, the
-- place after it becomes lo, otherwise its place becomes hi. (As many comparisons as the run's length has binary digits are enough.)
unfoldable pub sought_within : ℕ → ℕ → List ℕ → ℕ → ℕ → ℕ
sought_within zero v s lo hi = lo
sought_within (suc fuel) v s lo hi =
    elim (ltb lo hi) [
      | false ↦ lo
      | true ↦
          let m = lo + (hi - lo) / 2 in
          elim (ltb (get_or s m 0) v) [ true ↦ sought_within fuel v s (suc m) hi | false ↦ sought_within fuel v s lo m ]
    ]

unfoldable pub sought_in : ℕ → List ℕ → ℕ
sought_in v s = sought_within (digits (length s)) v s 0 (length s)

-- The middle number of the shorter run, the pivot, is sought in the longer one, and both are split there; at equal lengths the first run gives it. (So many numbers
-- of the first and of the second run stand before it.)
pub record Split : Type 0 where
  pub pivot : ℕ
  pub first : ℕ
  pub second : ℕ

unfoldable pub split_of : List ℕ → List ℕ → Split
split_of a b =
    elim (leb (length a) (length b)) [
      | true ↦ let v = get_or a (middle a) 0 in record { pivot = v; first = middle a; second = sought_in v b }
      | false ↦ let v = get_or b (middle b) 0 in record { pivot = v; first = sought_in v a; second = middle b }
    ]

-- The pivot is an answer where both runs have it.
unfoldable pub pivot_of : Split → List ℕ → List ℕ → List ℕ
pivot_of s a b =
    elim (begins_with s.pivot (drop s.first a) && begins_with s.pivot (drop s.second b)) [ true ↦ s.pivot ∷ [] | false ↦ [] ]

-- What becomes of two sides: they are not entered, or split at a pivot, which may be an answer and is in neither of the sides below and above it.
pub data Partition : Type 0 where
  not_entered : Partition
  split_at : (below : Partition) → (found : List ℕ) → (above : Partition) → Partition

-- Each side is then treated in the same manner with the shorter side again giving the pivot. An empty side is not entered.
unfoldable pub partition_by : (List ℕ → List ℕ → Partition) → List ℕ → List ℕ → Partition
partition_by sides a b =
    elim (eqb (min (length a) (length b)) 0) [
      | true ↦ not_entered
      | false ↦
          let s = split_of a b in
          split_at
          (sides (take s.first a) (take s.second b))
          (pivot_of s a b)
          (sides (passed_over s.pivot (drop s.first a)) (passed_over s.pivot (drop s.second b)))
    ]

-- So deep at most. The shorter length falls with each nesting, so that many are enough.
unfoldable pub partition_within : ℕ → List ℕ → List ℕ → Partition
partition_within zero a b = not_entered
partition_within (suc fuel) a b = partition_by (partition_within fuel) a b

unfoldable pub partition : List ℕ → List ℕ → Partition
partition a b = partition_within (min (length a) (length b)) a b

-- The answers: those of the sides below, the pivot, those of the sides above.
unfoldable pub found_in : Partition → List ℕ
found_in not_entered = []
found_in (split_at below found above) = found_in below ++ (found ++ found_in above)

-- The nesting, the first call counting as 1.
unfoldable pub nesting : Partition → ℕ
nesting not_entered = 0
nesting (split_at below found above) = suc (max (nesting below) (nesting above))

-- How many pivots are sought: one at each split.
unfoldable pub pivots : Partition → ℕ
pivots not_entered = 0
pivots (split_at below found above) = suc (pivots below + pivots above)

-- The two runs as they are lent, zeros at the start of either passed over.
unfoldable pub partition_of : List Run → Partition
partition_of [] = not_entered
partition_of (r ∷ []) = not_entered
partition_of (r ∷ q ∷ rs) = partition r.bins q.bins

-- The runs are refused as a question's are, any k but 2 being refusal 1, place k.
unfoldable pub pair_checks : List ℕ → List ℕ → Check
pair_checks numbers ends = refuse_if (not (eqb (length ends) 2)) 1 (length ends) then list_checks numbers ends

-- A full answer buffer keeps the answers that fit and returns their count as place: 5, met when one more answer is due. Where a first check is refused nothing is
-- written.
unfoldable pub filled_with : List ℕ → List ℕ → Filling
filled_with found answers =
    let kept = take (length answers) found in
    record {
      check = refuse_if (ltb (length answers) (length found)) 5 (length kept);
      count = length kept;
      row = over kept answers;
    }

unfoldable pub filled_after : Check → List ℕ → List ℕ → Filling
filled_after passed found answers = filled_with found answers
filled_after (refusal n p) found answers = record { check = refusal n p; count = 0; row = answers }

unfoldable pub pair : List ℕ → List ℕ → List ℕ → Filling
pair numbers ends answers = filled_after (pair_checks numbers ends) (found_in (partition_of (runs numbers ends))) answers
