-- The instances, by computation. Assumes nothing.
use mathlib.Core.Path.{refl}
use Rattle.model.specs.Refusals.{over}
use Rattle.model.specs.Runs.{last_bin}
use Rattle.hits_limits.specs.Limits.{most_bytes}
use Rattle.hits_input.specs.Instances.{parsed, expected, accepts, refuses, zeros, instances, AsExpected}
use Rattle.hits_input.specs.Input.{before, numbers_of, pair, two_words, heading_of, run_of, run_before, lines_from, limited, row, ends_from, result_of, parse_lines, parse}
use Rattle.text_read.specs.Pieces.{on_first, split}
use Rattle.text_read.specs.Numbers.{is_digit, all_digits, decimal_value, value, number}
use Rattle.text_read.specs.Text.{bytes}

pub all_parsed : AsExpected instances
unfolding over last_bin bytes parsed expected accepts refuses zeros instances
    most_bytes on_first split is_digit all_digits decimal_value value number before numbers_of pair two_words heading_of run_of run_before lines_from limited row ends_from result_of parse_lines parse
all_parsed = record { same = refl }
