-- The instances, by computation. Assumes nothing.
use mathlib.Core.Path.{refl}
use Rattle.model.specs.Refusals.{over}
use Rattle.model.specs.Runs.{last_bin}
use Rattle.text_match.specs.Match.{begins, same}
use Rattle.text_read.specs.Numbers.{is_digit, all_digits, decimal_value, value, number}
use Rattle.text_read.specs.Pieces.{on_first, split}
use Rattle.text_read.specs.Text.{bytes}
use Rattle.lcov_form.specs.Form.{lines_from, lines, opens, closes, section, sections, counted, values, record_of}
use Rattle.lcov_form.specs.Instances.{read, expected, reads, listing, section_text, alone, listed, records, sectioned, instances, AsExpected}
use Rattle.lcov_form.specs.Reading.{stop, write, read_from, section_of, result_of, lcov_run}

pub all_read : AsExpected instances
unfolding over last_bin begins same is_digit all_digits decimal_value value number on_first split bytes lines_from lines opens closes section sections counted values record_of
    stop write read_from section_of result_of lcov_run read expected reads listing section_text alone listed records sectioned instances
all_read = record { same = refl }
