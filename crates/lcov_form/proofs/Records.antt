-- Which lines are `DA:` records, and what follows `DA:` by its first two pieces between commas. Assumes nothing.
use Prim.Native.Nat.{ℕ, suc, ◌<◌}
use lib.ListN.{length, take, drop}
use mathlib.Core.Bool.{true, false}
use mathlib.Core.List.{List, [], ◌∷◌}
use mathlib.Core.Path.{◌≡◌, ap, ◌∙◌}
use Rattle.text_match.specs.Match.{begins}
use Rattle.text_read.proofs.Pieces.{split_last, split_more, split_first}
use Rattle.text_read.specs.Numbers.{number, value}
use Rattle.text_read.specs.Pieces.{split, until}
use Rattle.text_read.specs.Text.{bytes}
use Rattle.lcov_form.specs.Form.{malformed, passed_over, counted, values, record_of}

pub data_record : (text : List ℕ) → begins (68 ∷ 65 ∷ 58 ∷ []) text ≡ true → record_of text ≡ values (split 44 (drop 3 text))
unfolding record_of bytes
data_record text e = rw (e, record_of)

pub other_record : (text : List ℕ) → begins (68 ∷ 65 ∷ 58 ∷ []) text ≡ false → record_of text ≡ passed_over
unfolding record_of bytes
other_record text e = rw (e, record_of)

-- the piece up to the first comma
abbrev pub piece : List ℕ → List ℕ
piece text = take (until 44 text) text

pub one_value : (text : List ℕ) → until 44 text ≡ length text → values (split 44 text) ≡ malformed
unfolding values
one_value text e = rw (split_last 44 text e)

pub two_values : (text : List ℕ) → until 44 text < length text → values (split 44 text) ≡ counted (number (piece text)) (value (piece (drop (suc (until 44 text)) text)))
unfolding values
two_values text h =
    let (rest, p) = split_first 44 (drop (suc (until 44 text)) text) in
    ap values (split_more 44 text h ∙ ap (piece text ∷◌) p)
