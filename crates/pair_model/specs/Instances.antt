-- The instances of docs/SPECIFICATION.md, 'A pair of runs'. Definitions only.
use Rattle.std.specs.Prelude.{ℕ, zero, suc, ◌+◌, List, [], ◌∷◌, ◌++◌, map, ◌≡◌, length, replicate}
use Rattle.model.specs.Refusals.{Check, passed, refusal, over}
use Rattle.row_fill.specs.Filling.{Filling}
use Rattle.pair_model.specs.Pair.{split_of, partition, nesting, pair}

-- Numbers and ends with so many places lent for answers, all zeros before the call; what the call returns and writes.
pub record PairInstance : Type 0 where
  pub numbers : List ℕ
  pub ends : List ℕ
  pub places : ℕ
  pub check : Check
  pub found : List ℕ

unfoldable pub asked : PairInstance → Filling
asked i = pair i.numbers i.ends (replicate i.places 0)

unfoldable pub expected : PairInstance → Filling
expected i = record { check = i.check; count = length i.found; row = over i.found (replicate i.places 0) }

-- two runs with so many places; with more than enough; and what the first checks refuse
unfoldable pub room_for : ℕ → List ℕ → List ℕ → Check → List ℕ → PairInstance
room_for places a b check found =
    record { numbers = a ++ b; ends = length a ∷ (length a + length b) ∷ []; places = places; check = check; found = found }

unfoldable pub both : List ℕ → List ℕ → List ℕ → PairInstance
both a b found = room_for 32 a b passed found

unfoldable pub refused_pair : List ℕ → List ℕ → Check → PairInstance
refused_pair numbers ends check = record { numbers = numbers; ends = ends; places = 32; check = check; found = [] }

-- so many numbers, the first of them x, each so much above the one before
unfoldable pub steps : ℕ → ℕ → ℕ → List ℕ
steps zero step x = []
steps (suc n) step x = x ∷ steps n step (x + step)

unfoldable pub tens : List ℕ
tens = steps 16 10 10

unfoldable pub fives : List ℕ
fives = steps 32 5 5

unfoldable pub shorter : List ℕ
shorter = 2 ∷ 5 ∷ 9 ∷ []

unfoldable pub longer : List ℕ
longer = 5 ∷ 7 ∷ 9 ∷ 12 ∷ []

unfoldable pub pairs : List PairInstance
pairs =
    both shorter longer (5 ∷ 9 ∷ []) ∷
    room_for 2 shorter longer passed (5 ∷ 9 ∷ []) ∷
    room_for 1 shorter longer (refusal 5 1) (5 ∷ []) ∷
    room_for 0 shorter longer (refusal 5 0) [] ∷
    both longer shorter (5 ∷ 9 ∷ []) ∷
    both (1 ∷ 2 ∷ 3 ∷ 4 ∷ []) (2 ∷ 4 ∷ 6 ∷ 8 ∷ []) (2 ∷ 4 ∷ []) ∷
    both [] (1 ∷ []) [] ∷
    room_for 0 (1 ∷ []) (2 ∷ []) passed [] ∷
    both (0 ∷ 0 ∷ 5 ∷ []) (0 ∷ 5 ∷ []) (5 ∷ []) ∷
    both (0 ∷ 0 ∷ []) (0 ∷ []) [] ∷
    both (4294967295 ∷ []) (1 ∷ 4294967295 ∷ []) (4294967295 ∷ []) ∷
    both tens fives tens ∷
    refused_pair (1 ∷ 2 ∷ 3 ∷ []) (1 ∷ 2 ∷ 3 ∷ []) (refusal 1 3) ∷
    refused_pair (1 ∷ []) (1 ∷ []) (refusal 1 1) ∷
    refused_pair [] [] (refusal 1 0) ∷
    refused_pair (3 ∷ 3 ∷ 1 ∷ []) (2 ∷ 3 ∷ []) (refusal 4 1) ∷
    refused_pair (3 ∷ 1 ∷ 0 ∷ []) (1 ∷ 3 ∷ []) (refusal 4 2) ∷
    refused_pair (3 ∷ 3 ∷ []) (2 ∷ 1 ∷ []) (refusal 3 1) ∷
    refused_pair (3 ∷ 3 ∷ []) (1 ∷ 1 ∷ []) (refusal 3 2) ∷
    []

pub record AsExpected (is : List PairInstance) : Type 0 where
  pub same : map asked is ≡ map expected is

-- Which run gives the pivot, and which of its numbers: of an even count the later of the two middle numbers, at equal lengths one of the first run.
pub record Pivots : Type 0 where
  pub of_the_first : split_of shorter longer ≡ record { pivot = 5; first = 1; second = 0 }
  pub of_the_second : split_of longer shorter ≡ record { pivot = 5; first = 0; second = 1 }
  pub equal_lengths : split_of (1 ∷ 2 ∷ 3 ∷ 4 ∷ []) (2 ∷ 4 ∷ 6 ∷ 8 ∷ []) ≡ record { pivot = 3; first = 2; second = 1 }
  pub later_of_two : split_of (4 ∷ 8 ∷ []) (1 ∷ 6 ∷ 9 ∷ []) ≡ record { pivot = 8; first = 1; second = 2 }

-- How deep it nests.
pub record Nestings : Type 0 where
  pub of_three : nesting (partition shorter longer) ≡ 2
  pub of_sixteen : nesting (partition tens fives) ≡ 5
  pub of_one : nesting (partition (7 ∷ []) longer) ≡ 1
  pub of_none : nesting (partition [] longer) ≡ 0
