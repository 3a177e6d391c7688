-- `leading_digits` gives the digits that a text begins with. The invariant: their number is what was passed with those from here on, and their value, cut down,
-- is that of a text whose first digits have the value so far, which is at most the last bin. Assumes nothing.
use Rattle.std.proofs.Common.{◌≡◌, ◌+◌, ◌≤◌, drop, min}
use Rattle.model.specs.Runs.{last_bin, past_bin}
use Rattle.text_read.specs.Numbers.{digit_count}
use Rattle.text_read.proofs.Values.{leading_value}
use Rattle.text_read.proofs.leading_digits.Given as goal

abbrev pub invariant-loop-i : goal.invariant-loop-i
invariant-loop-i l =
    (l.value ≤ last_bin) × (digit_count l.text ≡ l.i + digit_count (drop l.i l.text)) × (min (leading_value 0 l.text) past_bin ≡ min (leading_value l.value (drop l.i l.text)) past_bin)
