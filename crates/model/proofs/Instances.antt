-- The starred instances of docs/SPECIFICATION.md, 'Instances', by computation. Assumes nothing.
use lib.Count.{ones}
use mathlib.Core.List.{◌∷◌, ◌++◌}
use mathlib.Core.Path.{refl}
use Rattle.model.specs.Alone.{new_bins, other_runs, alone_checks, without, alone_in, walk_without_answers, answers_after, full_number, ended_after, query_alone}
use Rattle.model.specs.Between.{within, between}
use Rattle.model.specs.Certificate.{first_of, last_of, answers_of, bytes_of, number_of, field, encode_part, encode, size_of, read_body, read_field}
use Rattle.model.specs.Compared.{whole_walk, parts_of, whole_certificate, cost, doubling_probe, halving_probe, doublings_of, halvings_of}
use Rattle.model.specs.Instances.{asked, expected, limited, instance, listing_numbers, listing_ends, listing, figure1, listing_parts, starred, rounded_down, long_numbers, long_ends, long_parts, probe_kinds, unmapped, AsExpected, asked_many, expected_many, first_two_parts, others_parts, three_questions, two_questions, refused_many, long_twice, many_questions, unmapped_many, ManyAsExpected, Unmapped, asked_weighted, expected_weighted, weighted_listing, one_two_three, heavy_parts, refused_weighted, with_weights, WeightedAsExpected, judged_weighted, Judged, asked_alone, expected_alone, alone_instance, new_test, new_test_parts, found_alone, AloneAsExpected}
use Rattle.model.specs.Many.{in_question, rows_check, question_checks, many_checks, left_after, walks, events_of, ending, reached, many_outcome, answered_many, walks_of, query_many}
use Rattle.model.specs.Refusals.{◌then◌, refuse_if, refuse_at, falls_from, last_end, unrisen_in, count_check, misweighed, weights_check, threshold_check, sum_of_weights, list_checks, mask_check, first_checks, weighted_checks, met, after, cut, cut_walk, over, outcome_with, answered_with, checked_first, answered_by, query, query_weighted, misplaced, names_other, misnamed, contradicts, any_contradicts, check_part, counted, at_end, check_from, judged, check, check_weighted}
use Rattle.model.specs.Runs.{first_bin, last_bin, past_bin, from, rank, runs_from, runs, unrisen_after, unrisen, unrisen_run, holds, weighted_run, weighted, total, one, weight_of, mask, mask_of_all, bit, names, chosen}
use Rattle.model.specs.Walk.{head_of, head, least_head, enough_head, doubling, halving, seek, search_in, searches, searched, moved_on, settle, round, walk}

pub instances : AsExpected (rounded_down ∷ (unmapped ++ (probe_kinds ++ starred)))
unfolding asked expected limited instance listing_numbers listing_ends listing figure1 listing_parts starred rounded_down long_numbers long_ends long_parts probe_kinds unmapped
    first_of last_of answers_of bytes_of field encode_part encode whole_walk parts_of cost doubling_probe halving_probe doublings_of halvings_of
    ◌then◌ refuse_if refuse_at falls_from last_end unrisen_in count_check threshold_check list_checks first_checks met after cut cut_walk over outcome_with answered_with checked_first answered_by query
    first_bin last_bin past_bin from rank runs_from runs unrisen_after unrisen unrisen_run total one weight_of mask
    head_of head least_head enough_head doubling halving seek search_in searches searched moved_on settle round walk
instances = record { same = refl }

pub many_instances : ManyAsExpected (unmapped_many ∷ many_questions)
unfolding asked_many expected_many listing_numbers listing_ends listing_parts first_two_parts others_parts three_questions two_questions refused_many long_numbers long_ends
    long_parts long_twice many_questions unmapped_many
    first_of last_of answers_of bytes_of field encode_part encode whole_walk parts_of cost doubling_probe halving_probe doublings_of halvings_of
    ◌then◌ refuse_if refuse_at falls_from last_end unrisen_in count_check threshold_check list_checks mask_check met after cut over
    first_bin last_bin past_bin from rank runs_from runs unrisen_after unrisen unrisen_run total one weight_of mask bit names chosen
    head_of head least_head enough_head doubling halving seek search_in searches searched moved_on settle round walk
    in_question rows_check question_checks many_checks left_after walks events_of ending reached many_outcome answered_many walks_of query_many ones
many_instances = record { same = refl }

pub unmapped_instances : Unmapped
unfolding within between listing_numbers listing_ends listing_parts bytes_of number_of field encode_part encode size_of first_of last_of read_body read_field
    ◌then◌ refuse_if refuse_at falls_from last_end unrisen_in count_check threshold_check list_checks first_checks misplaced names_other misnamed contradicts any_contradicts
    check_part counted at_end check_from judged check
    first_bin past_bin from rank runs_from runs unrisen_after unrisen unrisen_run holds total one weight_of mask mask_of_all bit names
unmapped_instances = record {
  shown = refl;
  not_shown = refl;
  several = refl;
  marks_only = refl;
  further_on = refl;
  from_1 = refl;
  from_0 = refl;
  judged_alike = refl;
  refused_alike = refl;
}

pub weighted_instances : WeightedAsExpected with_weights
unfolding asked_weighted expected_weighted expected limited instance listing_numbers listing_ends listing_parts weighted_listing one_two_three heavy_parts refused_weighted with_weights
    first_of last_of answers_of bytes_of field encode_part encode whole_walk parts_of cost doubling_probe halving_probe doublings_of halvings_of
    ◌then◌ refuse_if refuse_at falls_from last_end unrisen_in count_check misweighed weights_check threshold_check sum_of_weights list_checks weighted_checks met after cut cut_walk
    over outcome_with answered_with checked_first answered_by query_weighted
    first_bin last_bin past_bin from rank runs_from runs weighted_run weighted unrisen_after unrisen unrisen_run total one weight_of mask
    head_of head least_head enough_head doubling halving seek search_in searches searched moved_on settle round walk
weighted_instances = record { same = refl }

pub judged_instances : Judged
unfolding within listing_numbers listing_ends listing_parts heavy_parts judged_weighted bytes_of number_of field encode_part encode size_of first_of last_of read_body read_field
    ◌then◌ refuse_if refuse_at falls_from last_end unrisen_in count_check misweighed weights_check threshold_check sum_of_weights list_checks first_checks weighted_checks
    misplaced names_other misnamed contradicts any_contradicts check_part counted at_end check_from judged check check_weighted
    first_bin past_bin from rank runs_from runs weighted_run weighted unrisen_after unrisen unrisen_run holds total one weight_of mask mask_of_all bit names
judged_instances = record {
  of_the_walk = refl;
  by_number = refl;
  of_the_listing = refl;
  left_out = refl;
  left_out_enough = refl;
  too_light = refl;
  no_run = refl;
  row = refl;
  weight = refl;
  too_much = refl;
}

pub alone_instances : AloneAsExpected found_alone
unfolding asked_alone expected_alone limited instance listing_numbers alone_instance new_test new_test_parts found_alone
    first_of last_of answers_of bytes_of field encode_part encode whole_walk parts_of whole_certificate cost doubling_probe halving_probe doublings_of halvings_of
    ◌then◌ refuse_if refuse_at falls_from last_end unrisen_in count_check threshold_check list_checks met after cut cut_walk over outcome_with answered_with checked_first
    first_bin last_bin past_bin from rank runs_from runs unrisen_after unrisen unrisen_run holds total one weight_of mask
    head_of head least_head enough_head doubling halving seek search_in searches searched moved_on settle round walk
    new_bins other_runs alone_checks without alone_in walk_without_answers answers_after full_number ended_after query_alone
alone_instances = record { same = refl }
