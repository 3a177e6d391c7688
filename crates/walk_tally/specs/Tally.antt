-- How a walk's probes are spent, in one number. Definitions only.
use Rattle.std.specs.Prelude.{ℕ, ◌+◌, ◌/◌, ◌%◌}

-- the probes left, and the halving probes made
abbrev pub left_in : ℕ → ℕ
left_in tally = tally % 4294967296

abbrev pub halved_in : ℕ → ℕ
halved_in tally = tally / 4294967296

-- both together; the others of an allowance are the doubling probes made
abbrev pub undoubled : ℕ → ℕ
undoubled tally = left_in tally + halved_in tally
