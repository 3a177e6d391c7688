-- The instances of docs/SPECIFICATION.md, 'A pair of runs', by computation. Assumes nothing.
use mathlib.Core.Path.{refl}
use Rattle.insertion_rank.specs.Passed.{begins_with, passed_over}
use Rattle.model.specs.Compared.{digits, digits_from}
use Rattle.model.specs.Refusals.{◌then◌, refuse_if, refuse_at, falls_from, last_end, unrisen_in, list_checks, over}
use Rattle.model.specs.Runs.{first_bin, from, rank, runs_from, runs, unrisen_after, unrisen, unrisen_run, one}
use Rattle.pair_model.specs.Instances.{asked, expected, room_for, both, refused_pair, steps, tens, fives, shorter, longer, pairs, AsExpected, Pivots, Nestings}
use Rattle.pair_model.specs.Pair.{middle, sought_within, sought_in, split_of, pivot_of, partition_by, partition_within, partition, found_in, nesting, partition_of, pair_checks, filled_with, filled_after, pair}

pub pair_instances : AsExpected pairs
unfolding asked expected room_for both refused_pair steps tens fives shorter longer pairs
    middle sought_within sought_in split_of pivot_of partition_by partition_within partition found_in partition_of pair_checks filled_with filled_after pair
    begins_with passed_over ◌then◌ refuse_if refuse_at falls_from last_end unrisen_in list_checks over
    first_bin from rank runs_from runs unrisen_after unrisen unrisen_run one digits digits_from
pair_instances = record { same = refl }

pub pivot_instances : Pivots
unfolding shorter longer middle sought_within sought_in split_of digits digits_from
pivot_instances = record { of_the_first = refl; of_the_second = refl; equal_lengths = refl; later_of_two = refl }

pub nesting_instances : Nestings
unfolding steps tens fives shorter longer middle sought_within sought_in split_of pivot_of partition_by partition_within partition nesting
    begins_with passed_over one digits digits_from
nesting_instances = record { of_three = refl; of_sixteen = refl; of_one = refl; of_none = refl }
