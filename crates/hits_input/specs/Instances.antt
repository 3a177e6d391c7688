-- Inputs of the program hits with what they are parsed to, among them the listing of docs/SPECIFICATION.md, 'Instances'. Definitions only.
use Rattle.std.specs.Prelude.{ℕ, Bool, true, false, List, [], ◌∷◌, ◌++◌, map, ◌≡◌, replicate}
use Rattle.model.specs.Refusals.{over}
use Rattle.text_read.specs.Text.{bytes}
use Rattle.hits_input.specs.Input.{Outcome, question, refused, Result, parse}

-- An input, whether a read failed after it, and the outcome with the numbers and the ends that it writes. The rows have room for 9 numbers and
-- 4 runs, and hold zeros.
pub record Instance : Type 0 where
  pub input : List ℕ
  pub failed : Bool
  pub outcome : Outcome
  pub numbers : List ℕ
  pub ends : List ℕ

unfoldable pub parsed : Instance → Result
parsed i = parse i.failed i.input (replicate 9 0) (replicate 4 0)

unfoldable pub expected : Instance → Result
expected i =
    record {
      outcome = i.outcome;
      numbers = over i.numbers (replicate 9 0);
      ends = over i.ends (replicate 4 0);
    }

unfoldable pub accepts : List ℕ → Outcome → List ℕ → List ℕ → Instance
accepts input o numbers ends = record { input = input; failed = false; outcome = o; numbers = numbers; ends = ends }

unfoldable pub refuses : Bool → List ℕ → ℕ → Instance
refuses failed input line = record { input = input; failed = failed; outcome = refused 12 line; numbers = []; ends = [] }

-- a run whose only number is written with many zeros, and further bytes
unfoldable pub zeros : ℕ → List ℕ → List ℕ
zeros n more = bytes "1 0\n" ++ replicate n 48 ++ 10 ∷ more

unfoldable pub instances : List Instance
instances =
    accepts (bytes "2 3\n2 5 9\n5 7 9 12\n1 9\n") (question 2 3 3 9) (2 ∷ 5 ∷ 9 ∷ 5 ∷ 7 ∷ 9 ∷ 12 ∷ 1 ∷ 9 ∷ []) (3 ∷ 7 ∷ 9 ∷ []) ∷
    accepts (bytes "1 0\n") (question 1 0 0 0) [] [] ∷
    accepts (bytes "1 0\n\n7\n\n") (question 1 0 3 1) (7 ∷ []) (0 ∷ 1 ∷ 1 ∷ []) ∷
    accepts (bytes "0 4294967295\n\n\n\n\n") (question 0 4294967295 4 0) [] (0 ∷ 0 ∷ 0 ∷ 0 ∷ []) ∷
    accepts (bytes "0001 00000000000000000000\n000000000000000004294967295 00\n") (question 1 0 1 2) (4294967295 ∷ 0 ∷ []) (2 ∷ []) ∷
    accepts (zeros 65531 []) (question 1 0 1 1) (0 ∷ []) (1 ∷ []) ∷
    refuses false (zeros 65532 []) 2 ∷
    refuses false (zeros 65531 (10 ∷ [])) 3 ∷
    refuses false [] 1 ∷
    refuses false (bytes "\n") 1 ∷
    refuses false (bytes "2 3") 1 ∷
    refuses false (bytes "2\n") 1 ∷
    refuses false (bytes "2 \n") 1 ∷
    refuses false (bytes " 2 3\n") 1 ∷
    refuses false (bytes "2  3\n") 1 ∷
    refuses false (bytes "2 3 4\n") 1 ∷
    refuses false (bytes "2 4294967296\n") 1 ∷
    refuses false (bytes "2 3\r\n") 1 ∷
    refuses false (bytes "2 3\n5") 2 ∷
    refuses false (bytes "2 3\n5\n7\n9 ") 4 ∷
    refuses false (bytes "2 3\n 5\n") 2 ∷
    refuses false (bytes "2 3\n5 \n") 2 ∷
    refuses false (bytes "2 3\n \n") 2 ∷
    refuses false (bytes "2 3\n5  7\n") 2 ∷
    refuses false (bytes "2 3\n5\t7\n") 2 ∷
    refuses false (bytes "2 3\n5\r\n") 2 ∷
    refuses false (bytes "2 3\n+5\n") 2 ∷
    refuses false (bytes "2 3\n5\n4294967296\n") 3 ∷
    refuses false (bytes "2 3\n5\n18446744073709551616\n") 3 ∷
    refuses false (bytes "2 3\n1\n2\n3\n4\n\n") 6 ∷
    refuses false (bytes "2 3\n1\n2\n3\n4\n5") 6 ∷
    refuses false (bytes "2 3\n1 2 3 4 5\n6 7 8 9 10\n") 3 ∷
    refuses false (bytes "2 3\n1 2 3 4 5\n6 7 8 9 10\nx\n") 3 ∷
    refuses false (bytes "2 3\nx\n1 2 3 4 5 6 7 8 9 10\n") 2 ∷
    refuses true [] 1 ∷
    refuses true (bytes "2 3") 1 ∷
    refuses true (bytes "2 3\n") 2 ∷
    refuses true (bytes "2 3\n5") 2 ∷
    refuses true (bytes "2 3\nx\n5\n") 2 ∷
    refuses true (bytes "2 3\n2 5 9\n5 7 9 12\n") 4 ∷
    refuses true (bytes "2 3\n2 5 9\n5 7 9 12\n1 9\n") 5 ∷
    refuses true (bytes "2 3\n1\n2\n3\n4\n") 6 ∷
    refuses true (zeros 65531 []) 3 ∷
    []

-- The claim: each instance is parsed as expected.
pub record AsExpected (is : List Instance) : Type 0 where
  pub same : map parsed is ≡ map expected is
