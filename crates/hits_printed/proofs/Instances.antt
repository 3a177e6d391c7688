-- The listing of docs/SPECIFICATION.md, 'Instances', a question whose search halves, the listing's with too small an allowance, and its first three lines
-- with a read that fails after them, by computation. Assumes nothing.
use mathlib.Core.Bool.{true, false}
use mathlib.Core.Path.{◌≡◌, refl}
use Rattle.model.specs.Certificate.{first_of, last_of, answers_of, bytes_of, number_of, field, encode_part, encode, read_body, read_field}
use Rattle.model.specs.Compared.{whole_walk, parts_of, cost, doubling_probe, halving_probe, doublings_of, halvings_of}
use Rattle.model.specs.Refusals.{◌then◌, refuse_if, refuse_at, falls_from, last_end, unrisen_in, count_check, threshold_check, list_checks, first_checks, met, after, cut, cut_walk, over, answered_by, query, checked_first, answered_with, outcome_with}
use Rattle.model.specs.Runs.{first_bin, last_bin, past_bin, from, rank, runs_from, runs, unrisen_after, unrisen, unrisen_run, total, one, weight_of, mask}
use Rattle.model.specs.Walk.{head_of, head, least_head, enough_head, doubling, halving, seek, search_in, searches, searched, moved_on, settle, round, walk}
use Rattle.text_read.specs.Pieces.{on_first, split}
use Rattle.text_read.specs.Numbers.{is_digit, all_digits, decimal_value, value, number}
use Rattle.text_write.specs.Decimal.{decimal_in, decimal}
use Rattle.text_lines.specs.Lines.{numbers_after, line}
use Rattle.hits_input.specs.Input.{before, numbers_of, pair, two_words, heading_of, run_of, run_before, lines_from, limited, row, ends_from, result_of, parse_lines, parse}
use Rattle.hits_limits.specs.Limits.{most_bytes, input_runs, input_numbers, answer_room, certificate_room}
use Rattle.text_read.specs.Text.{bytes}
use Rattle.field_read.specs.Held.{parts_from, parts_held}
use Rattle.hits_parts.specs.Parts.{part_line, part_lines}
use Rattle.hits_render.specs.Text.{done_line, refuse_line, rendered}
use Rattle.hits_ask.specs.Ask.{shown, asked, text_for}
use Rattle.hits_answer.specs.Hits.{parsed, printed, hits}
use Rattle.hits_printed.specs.Instances.{listing_input, listing_text, search_input, search_text, refused_input, refused_text, part_input, part_text}

pub listing_printed : (hits false listing_input ≡ listing_text) × (hits false search_input ≡ search_text) × (hits false refused_input ≡ refused_text)
    × (hits true part_input ≡ part_text)
unfolding listing_input listing_text search_input search_text refused_input refused_text part_input part_text bytes hits printed parsed text_for asked shown
    most_bytes input_runs input_numbers answer_room certificate_room on_first split is_digit all_digits decimal_value value number before numbers_of pair two_words heading_of run_of run_before lines_from limited row ends_from result_of parse_lines parse
    first_of last_of answers_of bytes_of number_of field encode_part encode read_body read_field whole_walk parts_of cost doubling_probe halving_probe doublings_of halvings_of
    ◌then◌ refuse_if refuse_at falls_from last_end unrisen_in count_check threshold_check list_checks first_checks met after cut cut_walk over answered_by checked_first answered_with outcome_with query
    first_bin last_bin past_bin from rank runs_from runs unrisen_after unrisen unrisen_run total one weight_of mask
    head_of head least_head enough_head doubling halving seek search_in searches searched moved_on settle round walk
    decimal_in decimal numbers_after line part_line part_lines done_line refuse_line parts_from parts_held rendered
listing_printed = (refl, refl, refl, refl)
