-- `parse` gives the outcome and both rows of the definition, for any input. Assumes nothing.
use Rattle.std.proofs.Common.{◌≡◌, ℕ, ◌<◌, ◌≤◌, List, length, take, length-take, arith}
use mathlib.Core.Path.{subst⁻¹}
use Rattle.hits_limits.specs.Limits.{most_bytes}
use Rattle.hits_parse.specs.Parsed.{Returns, outcome_is}
use Rattle.hits_parse.proofs.Parsing.{parse_long, parse_short}
use Rattle.hits_parse.proofs.parse.Goals as goal

front_length : (n : ℕ) (l : List ℕ) → n < length l → n ≡ length (take n l)
front_length n l h = omega (arith, length-take n l)

front_fits : (n : ℕ) (l : List ℕ) → length (take n l) ≤ n
front_fits n l = omega (arith, length-take n l)

pub slice_bounds-parse_bytes-end : goal.slice_bounds-parse_bytes-end
slice_bounds-parse_bytes-end c = front_length 65536 c.args.input.now c.if-input-gt-HITS_BYTES.true

pub parse_bytes-requires : goal.parse_bytes-requires
unfolding most_bytes
parse_bytes-requires c = front_fits 65536 c.args.input.now

pub returns-then-input-gt-HITS_BYTES : goal.returns-then-input-gt-HITS_BYTES
unfolding most_bytes
returns-then-input-gt-HITS_BYTES c =
    let a = c.args in
    subst⁻¹ (λ x. Returns x (outcome_is c.parse_bytes.result) c.parse_bytes.new.numbers c.parse_bytes.new.ends)
    (parse_long a.failed a.input.now a.numbers.now a.ends.now c.if-input-gt-HITS_BYTES.true) c.parse_bytes.ensures

pub parse_bytes-requires-2 : goal.parse_bytes-requires-2
unfolding most_bytes
parse_bytes-requires-2 c = c.if-input-gt-HITS_BYTES.false

pub returns : goal.returns
unfolding most_bytes
returns c =
    let a = c.args in
    subst⁻¹ (λ x. Returns x (outcome_is c.parse_bytes-2.result) c.parse_bytes-2.new.numbers c.parse_bytes-2.new.ends)
    (parse_short a.failed a.input.now a.numbers.now a.ends.now c.if-input-gt-HITS_BYTES.false) c.parse_bytes-2.ensures
