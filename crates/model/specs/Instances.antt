-- docs/SPECIFICATION.md, 'Instances': the starred ones, with one that tells rounding the halving place down from rounding it up, some that tell the two
-- kinds of probes, some with unmapped marks, some with weights and some that ask what one run found alone.
-- Definitions only.
use Rattle.std.specs.Prelude.{ℕ, List, [], ◌∷◌, ◌++◌, map, ◌≡◌, take, drop, replicate}
use Rattle.model.specs.Alone.{query_alone}
use Rattle.model.specs.Between.{between}
use Rattle.model.specs.Certificate.{Part, answer, gap, answers_of, encode}
use Rattle.model.specs.Many.{ManyOutcome, all_accepted, refused_in, AnsweredMany, query_many}
use Rattle.model.specs.Refusals.{Outcome, accepted, refused, Answered, over, query, query_weighted, Verdict, valid, invalid, check, check_weighted}

-- A question, and what it returns and writes. Its buffers are large enough: 8 answers and 128 bytes, of zeros.
pub record Instance : Type 0 where
  pub numbers : List ℕ
  pub ends : List ℕ
  pub threshold : ℕ
  pub allowance : ℕ
  pub outcome : Outcome
  pub parts : List Part

unfoldable pub asked : Instance → Answered
asked i = query i.numbers i.ends i.threshold i.allowance (replicate 8 0) (replicate 128 0)

unfoldable pub expected : Instance → Answered
expected i =
    record {
      outcome = i.outcome;
      answers = over (answers_of i.parts) (replicate 8 0);
      certificate = over (encode i.parts) (replicate 128 0);
    }

-- an instance with an allowance, and one with an allowance that is large enough
unfoldable pub limited : ℕ → List ℕ → List ℕ → ℕ → Outcome → List Part → Instance
limited allowance numbers ends t o ps =
    record { numbers = numbers; ends = ends; threshold = t; allowance = allowance; outcome = o; parts = ps }

unfoldable pub instance : List ℕ → List ℕ → ℕ → Outcome → List Part → Instance
instance numbers ends t o ps = limited 1000 numbers ends t o ps

-- {2, 5, 9}, {5, 7, 9, 12} and {1, 9}
unfoldable pub listing_numbers : List ℕ
listing_numbers = 2 ∷ 5 ∷ 9 ∷ 5 ∷ 7 ∷ 9 ∷ 12 ∷ 1 ∷ 9 ∷ []

unfoldable pub listing_ends : List ℕ
listing_ends = 3 ∷ 7 ∷ 9 ∷ []

-- these, t = 2, with an allowance
unfoldable pub listing : ℕ → Outcome → List Part → Instance
listing allowance o ps = limited allowance listing_numbers listing_ends 2 o ps

-- the seven runs of figure 1 of Barbay and Kenyon, 'Alternation and Redundancy Analysis of the Intersection Problem', with a threshold
unfoldable pub figure1 : ℕ → Outcome → List Part → Instance
figure1 t o ps =
    instance (9 ∷ 1 ∷ 2 ∷ 9 ∷ 11 ∷ 3 ∷ 9 ∷ 12 ∷ 13 ∷ 9 ∷ 14 ∷ 15 ∷ 16 ∷ 4 ∷ 10 ∷ 17 ∷ 18 ∷ 5 ∷ 6 ∷ 7 ∷ 10 ∷ 8 ∷ 10 ∷ 19 ∷ 20 ∷ [])
    (1 ∷ 5 ∷ 9 ∷ 13 ∷ 17 ∷ 21 ∷ 25 ∷ []) t o ps

unfoldable pub listing_parts : List Part
listing_parts = gap 1 1 3 ∷ gap 2 4 6 ∷ answer 5 3 ∷ gap 6 8 5 ∷ answer 9 7 ∷ gap 10 4294967295 5 ∷ []

unfoldable pub starred : List Instance
starred =
    listing 3 (accepted 2 6 106 3 0) listing_parts ∷
    listing 2 (refused 7 4 1 72 2 0) (take 4 listing_parts) ∷
    listing 0 (refused 7 1 0 19 0 0) (take 1 listing_parts) ∷
    instance (100 ∷ 10 ∷ 20 ∷ 30 ∷ 40 ∷ 50 ∷ 60 ∷ 70 ∷ 80 ∷ 90 ∷ 100 ∷ []) (1 ∷ 11 ∷ []) 2 (accepted 1 3 53 4 1)
    (gap 1 99 1 ∷ answer 100 3 ∷ gap 101 4294967295 3 ∷ []) ∷
    instance (1 ∷ 2 ∷ 3 ∷ 4 ∷ 5 ∷ 6 ∷ []) (3 ∷ 6 ∷ []) 2 (accepted 0 2 38 2 0) (gap 1 3 2 ∷ gap 4 4294967295 1 ∷ []) ∷
    instance (0 ∷ 4294967295 ∷ []) (2 ∷ []) 1 (accepted 1 2 34 0 0) (gap 1 4294967294 1 ∷ answer 4294967295 1 ∷ []) ∷
    instance [] (0 ∷ []) 1 (accepted 0 1 19 0 0) (gap 1 4294967295 1 ∷ []) ∷
    instance (7 ∷ 7 ∷ []) (1 ∷ 2 ∷ []) 2 (accepted 1 3 53 0 0) (gap 1 6 3 ∷ answer 7 3 ∷ gap 8 4294967295 3 ∷ []) ∷
    figure1 7 (accepted 0 3 57 10 1) (gap 1 8 9 ∷ gap 9 9 112 ∷ gap 10 4294967295 1 ∷ []) ∷
    figure1 4 (accepted 1 6 110 12 1)
    (gap 1 4 105 ∷ gap 5 8 31 ∷ answer 9 15 ∷ gap 10 10 15 ∷ gap 11 16 113 ∷ gap 17 4294967295 47 ∷ []) ∷
    []

-- Between places 4 and 7 the halving place is 5. Rounded up it would be 6, and 5 probes in all.
unfoldable pub rounded_down : Instance
rounded_down =
    instance (10 ∷ 20 ∷ 30 ∷ 40 ∷ 50 ∷ 60 ∷ 70 ∷ 55 ∷ []) (7 ∷ 8 ∷ []) 2 (accepted 0 3 57 3 1)
    (gap 1 54 2 ∷ gap 55 59 1 ∷ gap 60 4294967295 2 ∷ [])

-- {10, 20, .., 160} and {115}, t = 2: one search, of 4 doubling and then 3 halving probes. Smaller allowances end it before, at and after its first halving probe.
unfoldable pub long_numbers : List ℕ
long_numbers =
    10 ∷ 20 ∷ 30 ∷ 40 ∷ 50 ∷ 60 ∷ 70 ∷ 80 ∷ 90 ∷ 100 ∷ 110 ∷ 120 ∷ 130 ∷ 140 ∷ 150 ∷ 160 ∷ 115 ∷ []

unfoldable pub long_ends : List ℕ
long_ends = 16 ∷ 17 ∷ []

unfoldable pub long_parts : List Part
long_parts = gap 1 114 2 ∷ gap 115 119 1 ∷ gap 120 4294967295 2 ∷ []

unfoldable pub probe_kinds : List Instance
probe_kinds =
    limited 7 long_numbers long_ends 2 (accepted 0 3 57 4 3) long_parts ∷
    limited 6 long_numbers long_ends 2 (refused 7 1 0 19 4 2) (take 1 long_parts) ∷
    limited 5 long_numbers long_ends 2 (refused 7 1 0 19 4 1) (take 1 long_parts) ∷
    limited 4 long_numbers long_ends 2 (refused 7 1 0 19 4 0) (take 1 long_parts) ∷
    limited 3 long_numbers long_ends 2 (refused 7 1 0 19 3 0) (take 1 long_parts) ∷
    []

-- Runs that begin with unmapped marks: those of the listing, and the long one of rounded_down, with one or more in front; two that have one bin each; one of a mark
-- and two of marks only; {0, 0, 5}; a run of marks only beside {5}; {0, 3, 9} and {0, 0, 3}. The allowances are just enough. And runs that do not rise after their marks.
unfoldable pub unmapped : List Instance
unmapped =
    limited 3 (0 ∷ 2 ∷ 5 ∷ 9 ∷ 0 ∷ 0 ∷ 0 ∷ 5 ∷ 7 ∷ 9 ∷ 12 ∷ 0 ∷ 0 ∷ 1 ∷ 9 ∷ []) (4 ∷ 11 ∷ 15 ∷ []) 2 (accepted 2 6 106 3 0) listing_parts ∷
    limited 4 (0 ∷ 0 ∷ 10 ∷ 20 ∷ 30 ∷ 40 ∷ 50 ∷ 60 ∷ 70 ∷ 55 ∷ []) (9 ∷ 10 ∷ []) 2 (accepted 0 3 57 3 1) rounded_down.parts ∷
    limited 0 (0 ∷ 1 ∷ 0 ∷ 1 ∷ []) (2 ∷ 4 ∷ []) 2 (accepted 1 2 34 0 0) (answer 1 3 ∷ gap 2 4294967295 3 ∷ []) ∷
    limited 0 (0 ∷ []) (1 ∷ []) 1 (accepted 0 1 19 0 0) (gap 1 4294967295 1 ∷ []) ∷
    limited 0 (0 ∷ 0 ∷ 0 ∷ 0 ∷ 0 ∷ []) (2 ∷ 5 ∷ []) 2 (accepted 0 1 19 0 0) (gap 1 4294967295 3 ∷ []) ∷
    limited 0 (0 ∷ 0 ∷ 5 ∷ []) (3 ∷ []) 1 (accepted 1 3 53 0 0) (gap 1 4 1 ∷ answer 5 1 ∷ gap 6 4294967295 1 ∷ []) ∷
    limited 0 (0 ∷ 0 ∷ 0 ∷ 5 ∷ []) (3 ∷ 4 ∷ []) 1 (accepted 1 3 53 0 0) (gap 1 4 3 ∷ answer 5 2 ∷ gap 6 4294967295 3 ∷ []) ∷
    limited 0 (0 ∷ 3 ∷ 9 ∷ 0 ∷ 0 ∷ 3 ∷ []) (3 ∷ 6 ∷ []) 2 (accepted 1 3 53 0 0) (gap 1 2 3 ∷ answer 3 3 ∷ gap 4 4294967295 2 ∷ []) ∷
    limited 0 (5 ∷ 0 ∷ []) (2 ∷ []) 1 (refused 4 1 0 0 0 0) [] ∷
    limited 0 (0 ∷ 0 ∷ 5 ∷ 0 ∷ []) (4 ∷ []) 1 (refused 4 3 0 0 0 0) [] ∷
    limited 0 (0 ∷ 0 ∷ 0 ∷ 0 ∷ 7 ∷ 7 ∷ []) (2 ∷ 6 ∷ []) 1 (refused 4 5 0 0 0 0) [] ∷
    []

-- A call with many questions, so many places lent for answers, certificate bytes and results, all zeros before the call; and what it returns and writes.
pub record ManyInstance : Type 0 where
  pub numbers : List ℕ
  pub ends : List ℕ
  pub masks : List ℕ
  pub thresholds : List ℕ
  pub allowance : ℕ
  pub answers : ℕ
  pub bytes : ℕ
  pub results : ℕ
  pub outcome : ManyOutcome
  pub parts : List Part
  pub reached : List ℕ

unfoldable pub asked_many : ManyInstance → AnsweredMany
asked_many i =
    query_many i.numbers i.ends i.masks i.thresholds i.allowance (replicate i.answers 0) (replicate i.bytes 0)
    (replicate i.results 0)

unfoldable pub expected_many : ManyInstance → AnsweredMany
expected_many i =
    record {
      outcome = i.outcome;
      answers = over (answers_of i.parts) (replicate i.answers 0);
      certificate = over (encode i.parts) (replicate i.bytes 0);
      results = over i.reached (replicate i.results 0);
    }

-- the parts over the first and second run with t = 2, and over the first and third with t = 1
unfoldable pub first_two_parts : List Part
first_two_parts = gap 1 4 2 ∷ answer 5 3 ∷ gap 6 8 1 ∷ answer 9 3 ∷ gap 10 4294967295 1 ∷ []

unfoldable pub others_parts : List Part
others_parts =
    answer 1 4 ∷ answer 2 1 ∷ gap 3 4 5 ∷ answer 5 1 ∷ gap 6 8 5 ∷ answer 9 5 ∷ gap 10 4294967295 5 ∷ []

-- three questions over the runs of the listing with an allowance, and buffers large enough
unfoldable pub three_questions : ℕ → ManyOutcome → List Part → List ℕ → ManyInstance
three_questions allowance o ps rs =
    record {
      numbers = listing_numbers;
      ends = listing_ends;
      masks = 7 ∷ 3 ∷ 5 ∷ [];
      thresholds = 2 ∷ 2 ∷ 1 ∷ [];
      allowance = allowance;
      answers = 9;
      bytes = 340;
      results = 7;
      outcome = o;
      parts = ps;
      reached = rs;
    }

-- two questions with so many places for answers and bytes, of which the first finds room
unfoldable pub two_questions : ℕ → ℕ → ManyOutcome → List Part → ManyInstance
two_questions answers bytes o ps =
    record {
      numbers = listing_numbers;
      ends = listing_ends;
      masks = 7 ∷ 6 ∷ [];
      thresholds = 2 ∷ 1 ∷ [];
      allowance = 1000;
      answers = answers;
      bytes = bytes;
      results = 4;
      outcome = o;
      parts = ps;
      reached = 2 ∷ 106 ∷ [];
    }

-- questions that the first checks refuse, with so many places for results
unfoldable pub refused_many : List ℕ → List ℕ → ℕ → ManyOutcome → ManyInstance
refused_many masks thresholds results o =
    record {
      numbers = listing_numbers;
      ends = listing_ends;
      masks = masks;
      thresholds = thresholds;
      allowance = 1000;
      answers = 9;
      bytes = 340;
      results = results;
      outcome = o;
      parts = [];
      reached = [];
    }

-- the long search twice, with an allowance
unfoldable pub long_twice : ℕ → ManyOutcome → List Part → List ℕ → ManyInstance
long_twice allowance o ps rs =
    record {
      numbers = long_numbers;
      ends = long_ends;
      masks = 3 ∷ 3 ∷ [];
      thresholds = 2 ∷ 2 ∷ [];
      allowance = allowance;
      answers = 1;
      bytes = 120;
      results = 4;
      outcome = o;
      parts = ps;
      reached = rs;
    }

unfoldable pub many_questions : List ManyInstance
many_questions =
    three_questions 5 (all_accepted 8 18 310 5 0) (listing_parts ++ (first_two_parts ++ others_parts)) (2 ∷ 106 ∷ 4 ∷ 193 ∷ 8 ∷ 310 ∷ []) ∷
    three_questions 3 (refused_in 1 7 1 2 7 125 3 0) (listing_parts ++ take 1 first_two_parts) (2 ∷ 106 ∷ []) ∷
    three_questions 4 (refused_in 1 7 3 3 9 159 4 0) (listing_parts ++ take 3 first_two_parts) (2 ∷ 106 ∷ []) ∷
    two_questions 3 340 (refused_in 1 5 2 3 8 140 3 0) (listing_parts ++ (answer 1 4 ∷ gap 2 4 6 ∷ [])) ∷
    two_questions 9 130 (refused_in 1 6 1 3 7 121 3 0) (listing_parts ++ (answer 1 4 ∷ [])) ∷
    refused_many (7 ∷ 8 ∷ []) (2 ∷ 1 ∷ []) 4 (refused_in 1 13 1 0 0 0 0 0) ∷
    refused_many (7 ∷ 0 ∷ []) (2 ∷ 1 ∷ []) 4 (refused_in 1 13 1 0 0 0 0 0) ∷
    refused_many (7 ∷ 0 ∷ []) (4 ∷ 1 ∷ []) 4 (refused_in 0 2 3 0 0 0 0 0) ∷
    refused_many (7 ∷ 5 ∷ []) (2 ∷ 3 ∷ []) 4 (refused_in 1 2 2 0 0 0 0 0) ∷
    refused_many (7 ∷ []) (2 ∷ 1 ∷ []) 4 (refused_in 0 14 1 0 0 0 0 0) ∷
    refused_many (7 ∷ 7 ∷ []) (2 ∷ 1 ∷ []) 3 (refused_in 0 14 2 0 0 0 0 0) ∷
    refused_many [] [] 0 (all_accepted 0 0 0 0 0) ∷
    long_twice 14 (all_accepted 0 6 114 8 6) (long_parts ++ long_parts) (0 ∷ 57 ∷ 0 ∷ 114 ∷ []) ∷
    long_twice 12 (refused_in 1 7 1 0 4 76 8 4) (long_parts ++ take 1 long_parts) (0 ∷ 57 ∷ []) ∷
    []

-- one question over each of two runs that begin with unmapped marks, and one over both
unfoldable pub unmapped_many : ManyInstance
unmapped_many =
    record {
      numbers = 0 ∷ 4 ∷ 0 ∷ 0 ∷ 0 ∷ 4 ∷ 6 ∷ [];
      ends = 2 ∷ 7 ∷ [];
      masks = 1 ∷ 2 ∷ 3 ∷ [];
      thresholds = 1 ∷ 1 ∷ 2 ∷ [];
      allowance = 0;
      answers = 4;
      bytes = 200;
      results = 6;
      outcome = all_accepted 4 11 193 0 0;
      parts =
          gap 1 3 1 ∷ answer 4 1 ∷ gap 5 4294967295 1 ∷
          gap 1 3 2 ∷ answer 4 2 ∷ gap 5 5 2 ∷ answer 6 2 ∷ gap 7 4294967295 2 ∷
          gap 1 3 3 ∷ answer 4 3 ∷ gap 5 4294967295 1 ∷ [];
      reached = 1 ∷ 53 ∷ 3 ∷ 140 ∷ 4 ∷ 193 ∷ [];
    }

-- A question with weights, its threshold being the wanted weight.
pub record WeightedInstance : Type 0 where
  pub weights : List ℕ
  pub question : Instance

unfoldable pub asked_weighted : WeightedInstance → Answered
asked_weighted i =
    let q = i.question in
    query_weighted q.numbers q.ends i.weights q.threshold q.allowance (replicate 8 0) (replicate 128 0)

unfoldable pub expected_weighted : WeightedInstance → Answered
expected_weighted i = expected i.question

-- the runs of the listing with weights and a wanted weight
unfoldable pub weighted_listing : List ℕ → ℕ → ℕ → Outcome → List Part → WeightedInstance
weighted_listing weights wanted allowance o ps =
    record { weights = weights; question = limited allowance listing_numbers listing_ends wanted o ps }

-- {1, 4}, {2, 4} and {3, 4} with weights 1, 2 and 3
unfoldable pub one_two_three : ℕ → Outcome → List Part → WeightedInstance
one_two_three wanted o ps =
    record { weights = 1 ∷ 2 ∷ 3 ∷ []; question = instance (1 ∷ 4 ∷ 2 ∷ 4 ∷ 3 ∷ 4 ∷ []) (2 ∷ 4 ∷ 6 ∷ []) wanted o ps }

-- the parts of the listing where the first run weighs 3, the others 1, and 3 is wanted
unfoldable pub heavy_parts : List Part
heavy_parts =
    gap 1 1 3 ∷ answer 2 1 ∷ gap 3 4 7 ∷ answer 5 3 ∷ gap 6 8 5 ∷ answer 9 7 ∷ gap 10 4294967295 5 ∷ []

-- Runs that the first checks refuse, with weights: 1 before 17, the length of the row before its weights, 17 before 2, 2 before 3 and 4.
unfoldable pub refused_weighted : List ℕ → List ℕ → List ℕ → ℕ → Outcome → WeightedInstance
refused_weighted numbers ends weights wanted o = record { weights = weights; question = instance numbers ends wanted o [] }

unfoldable pub with_weights : List WeightedInstance
with_weights =
    weighted_listing (3 ∷ 1 ∷ 1 ∷ []) 3 2 (accepted 3 7 121 2 0) heavy_parts ∷
    weighted_listing (3 ∷ 1 ∷ 1 ∷ []) 3 1 (refused 7 5 2 87 1 0) (take 5 heavy_parts) ∷
    weighted_listing (3 ∷ 1 ∷ 1 ∷ []) 4 3 (accepted 2 6 106 3 0) listing_parts ∷
    weighted_listing (1 ∷ 1 ∷ 1 ∷ []) 2 3 (accepted 2 6 106 3 0) listing_parts ∷
    weighted_listing (255 ∷ 255 ∷ 255 ∷ []) 256 3 (accepted 2 6 106 3 0) listing_parts ∷
    weighted_listing (1 ∷ 1 ∷ 1 ∷ []) 2 2 (refused 7 4 1 72 2 0) (take 4 listing_parts) ∷
    one_two_three 3 (accepted 2 5 87 2 0) (gap 1 1 6 ∷ gap 2 2 5 ∷ answer 3 4 ∷ answer 4 7 ∷ gap 5 4294967295 7 ∷ []) ∷
    one_two_three 6 (accepted 1 4 72 3 0) (gap 1 2 4 ∷ gap 3 3 3 ∷ answer 4 7 ∷ gap 5 4294967295 7 ∷ []) ∷
    one_two_three 7 (refused 2 7 0 0 0 0) [] ∷
    refused_weighted (7 ∷ 7 ∷ []) (1 ∷ 2 ∷ []) (1 ∷ []) 1 (refused 17 2 0 0 0 0) ∷
    refused_weighted (7 ∷ 7 ∷ []) (1 ∷ 2 ∷ []) [] 1 (refused 17 2 0 0 0 0) ∷
    refused_weighted (7 ∷ 7 ∷ []) (1 ∷ 2 ∷ []) (0 ∷ 1 ∷ 1 ∷ []) 1 (refused 17 2 0 0 0 0) ∷
    refused_weighted (7 ∷ 7 ∷ []) (1 ∷ 2 ∷ []) (0 ∷ 256 ∷ []) 1 (refused 17 0 0 0 0 0) ∷
    refused_weighted (7 ∷ 7 ∷ []) (1 ∷ 2 ∷ []) (1 ∷ 256 ∷ []) 9 (refused 17 1 0 0 0 0) ∷
    refused_weighted (7 ∷ 7 ∷ []) (1 ∷ 2 ∷ []) (1 ∷ 255 ∷ []) 257 (refused 2 257 0 0 0 0) ∷
    refused_weighted (7 ∷ 7 ∷ []) (1 ∷ 2 ∷ []) (1 ∷ 255 ∷ []) 0 (refused 2 0 0 0 0 0) ∷
    refused_weighted [] [] [] 1 (refused 1 0 0 0 0 0) ∷
    refused_weighted (5 ∷ 5 ∷ []) (3 ∷ 2 ∷ []) (1 ∷ 1 ∷ []) 3 (refused 2 3 0 0 0 0) ∷
    refused_weighted (5 ∷ 5 ∷ []) (3 ∷ 2 ∷ []) (1 ∷ 1 ∷ []) 2 (refused 3 1 0 0 0 0) ∷
    []

-- What a run found alone, so many places lent for answers and certificate bytes, all zeros before the call; and what the call returns and writes.
pub record AloneInstance : Type 0 where
  pub question : Instance
  pub answers : ℕ
  pub bytes : ℕ
  pub found : List ℕ

unfoldable pub asked_alone : AloneInstance → Answered
asked_alone i =
    let q = i.question in
    query_alone q.numbers q.ends q.threshold q.allowance (replicate i.answers 0) (replicate i.bytes 0)

unfoldable pub expected_alone : AloneInstance → Answered
expected_alone i =
    record {
      outcome = i.question.outcome;
      answers = over i.found (replicate i.answers 0);
      certificate = over (encode i.question.parts) (replicate i.bytes 0);
    }

unfoldable pub alone_instance : ℕ → ℕ → List ℕ → Instance → AloneInstance
alone_instance answers bytes found q = record { question = q; answers = answers; bytes = bytes; found = found }

-- {2, 5, 8, 9} before the runs of the listing, with an allowance and a threshold
unfoldable pub new_test : ℕ → ℕ → Outcome → List Part → Instance
new_test allowance t o ps = limited allowance (2 ∷ 5 ∷ 8 ∷ 9 ∷ listing_numbers) (4 ∷ 7 ∷ 11 ∷ 13 ∷ []) t o ps

unfoldable pub new_test_parts : List Part
new_test_parts = gap 1 1 6 ∷ gap 2 4 12 ∷ answer 5 6 ∷ gap 6 8 10 ∷ answer 9 14 ∷ gap 10 4294967295 10 ∷ []

unfoldable pub found_alone : List AloneInstance
found_alone =
    alone_instance 8 128 (2 ∷ 8 ∷ []) (new_test 3 2 (accepted 2 6 106 3 0) new_test_parts) ∷
    alone_instance 2 106 (2 ∷ 8 ∷ []) (new_test 3 2 (accepted 2 6 106 3 0) new_test_parts) ∷
    alone_instance 1 128 (2 ∷ []) (new_test 3 2 (refused 5 6 1 106 3 0) new_test_parts) ∷
    alone_instance 0 128 [] (new_test 3 2 (refused 5 6 0 106 3 0) new_test_parts) ∷
    alone_instance 8 128 [] (new_test 2 2 (refused 7 4 0 72 2 0) (take 4 new_test_parts)) ∷
    alone_instance 0 128 [] (new_test 2 2 (refused 7 4 0 72 2 0) (take 4 new_test_parts)) ∷
    alone_instance 8 60 [] (new_test 3 2 (refused 6 3 0 53 2 0) (take 3 new_test_parts)) ∷
    alone_instance 8 128 (2 ∷ 5 ∷ 8 ∷ [])
    (new_test 5 3 (accepted 3 4 72 5 0) (gap 1 4 4 ∷ gap 5 8 8 ∷ answer 9 14 ∷ gap 10 4294967295 10 ∷ [])) ∷
    alone_instance 8 128 [] (new_test 5 4 (refused 2 4 0 0 0 0) []) ∷
    alone_instance 8 128 [] (new_test 5 0 (refused 2 0 0 0 0 0) []) ∷
    alone_instance 8 128 [] (instance (7 ∷ []) (1 ∷ []) 1 (refused 2 1 0 0 0 0) []) ∷
    alone_instance 8 128 [] (instance (7 ∷ 7 ∷ []) (2 ∷ []) 0 (refused 2 0 0 0 0 0) []) ∷
    alone_instance 8 128 [] (instance [] [] 1 (refused 1 0 0 0 0 0) []) ∷
    alone_instance 8 128 [] (instance (7 ∷ 7 ∷ 5 ∷ []) (2 ∷ 3 ∷ []) 1 (refused 4 1 0 0 0 0) []) ∷
    alone_instance 8 128 [] (instance (7 ∷ 5 ∷ []) (2 ∷ 1 ∷ []) 1 (refused 3 1 0 0 0 0) []) ∷
    alone_instance 0 53 []
    (limited 0 (0 ∷ 0 ∷ 7 ∷ 7 ∷ 7 ∷ []) (3 ∷ 4 ∷ 5 ∷ []) 2 (accepted 0 3 53 0 0) (gap 1 6 6 ∷ answer 7 6 ∷ gap 8 4294967295 6 ∷ [])) ∷
    alone_instance 8 128 (6 ∷ 4294967295 ∷ [])
    (limited 0 (0 ∷ 6 ∷ 7 ∷ 4294967295 ∷ 0 ∷ 7 ∷ []) (4 ∷ 6 ∷ []) 1 (accepted 2 3 53 0 0) (gap 1 6 2 ∷ answer 7 2 ∷ gap 8 4294967295 2 ∷ [])) ∷
    []

-- The claims: each instance is answered as expected.
pub record AsExpected (is : List Instance) : Type 0 where
  pub same : map asked is ≡ map expected is

pub record WeightedAsExpected (is : List WeightedInstance) : Type 0 where
  pub same : map asked_weighted is ≡ map expected_weighted is

pub record AloneAsExpected (is : List AloneInstance) : Type 0 where
  pub same : map asked_alone is ≡ map expected_alone is

pub record ManyAsExpected (is : List ManyInstance) : Type 0 where
  pub same : map asked_many is ≡ map expected_many is

-- A part between two numbers never shows an unmapped mark, and is empty where the list does not rise after its marks. A certificate that begins at bin 0 is
-- refused, and {0, 0, 5} is judged as {5}.
pub record Unmapped : Type 0 where
  pub shown : between 0 3 (0 ∷ 3 ∷ 5 ∷ []) ≡ 3 ∷ []
  pub not_shown : between 0 0 (0 ∷ 3 ∷ 5 ∷ []) ≡ []
  pub several : between 0 9 (0 ∷ 0 ∷ 3 ∷ []) ≡ 3 ∷ []
  pub marks_only : between 0 9 (0 ∷ 0 ∷ []) ≡ []
  pub further_on : between 0 9 (5 ∷ 0 ∷ []) ≡ []
  pub from_1 : check listing_numbers listing_ends 2 (encode listing_parts) ≡ valid 2 6
  pub from_0 : check listing_numbers listing_ends 2 (encode (gap 0 1 3 ∷ drop 1 listing_parts)) ≡ invalid 9 0 0 0
  pub judged_alike : check (0 ∷ 0 ∷ 5 ∷ []) (3 ∷ []) 1 (encode (gap 1 4 1 ∷ answer 5 1 ∷ gap 6 4294967295 1 ∷ [])) ≡ valid 1 3
  pub refused_alike : check (0 ∷ 0 ∷ 5 ∷ []) (3 ∷ []) 1 (encode (gap 1 4294967295 1 ∷ [])) ≡ invalid 11 0 0 0

-- The runs of the listing, of which the first weighs 3 and the others 1: a certificate is judged by what runs weigh and not by how many they are. Where 3 is wanted
-- an answer may name the first run alone, and a gap must name it; where 4 is wanted an answer may not, and a gap may name it alone.
unfoldable pub judged_weighted : ℕ → List Part → Verdict
judged_weighted wanted ps = check_weighted listing_numbers listing_ends (3 ∷ 1 ∷ 1 ∷ []) wanted (encode ps)

pub record Judged : Type 0 where
  pub of_the_walk : judged_weighted 3 heavy_parts ≡ valid 3 7
  pub by_number : check listing_numbers listing_ends 3 (encode heavy_parts) ≡ invalid 10 19 0 0
  pub of_the_listing : judged_weighted 4 listing_parts ≡ valid 2 6
  pub left_out : judged_weighted 3 (gap 1 1 2 ∷ drop 1 heavy_parts) ≡ invalid 10 0 0 0
  pub left_out_enough : judged_weighted 4 (gap 1 1 1 ∷ drop 1 listing_parts) ≡ valid 2 6
  pub too_light : judged_weighted 4 heavy_parts ≡ invalid 10 19 0 0
  pub no_run : judged_weighted 3 (gap 1 1 11 ∷ drop 1 heavy_parts) ≡ invalid 10 0 0 0
  pub row : check_weighted listing_numbers listing_ends (3 ∷ 1 ∷ []) 3 (encode heavy_parts) ≡ invalid 17 3 0 0
  pub weight : check_weighted listing_numbers listing_ends (3 ∷ 1 ∷ 256 ∷ []) 3 (encode heavy_parts) ≡ invalid 17 2 0 0
  pub too_much : judged_weighted 6 heavy_parts ≡ invalid 2 6 0 0
