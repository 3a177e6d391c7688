-- What holds of every run read. Assumes nothing.
use Prim.Native.Nat.{ℕ}
use lib.ListN.{length, drop}
use lib.Seq.{take-append_seam, drop-append_seam}
use mathlib.Core.List.{List}
use mathlib.Core.Path.{sym, ap, ◌∙◌}
use native.Mathlib.Omega.{arith}
use Rattle.model.specs.Refusals.{over}
use Rattle.model.specs.Runs.{first_bin, from, unrisen_run}
use Rattle.lcov_form.specs.Claims.{RunRead}
use Rattle.lcov_form.specs.Reading.{Reading, read_from, section_of, result_of, lcov_run}
use Rattle.lcov_form.proofs.Room.{section_room}
use Rattle.lcov_form.proofs.Runs.{run_fits, run_front, run_whole, run_rises, after_zero, all_bins, run_room}

pub run_read : (file : List ℕ) (index : ℕ) (row : List ℕ) → RunRead file index row
unfolding lcov_run result_of over
run_read file index row =
    let s = section_of file index in
    let r : Reading = read_from (length file) (length row) 0 0 s in
    let seam = take-append_seam r.run (drop (length r.run) row) in
    record {
      fits = let h = run_fits (length file) (length row) 0 0 s (omega arith) in omega (arith, h);
      rest = drop-append_seam r.run (drop (length r.run) row);
      front = seam ∙ run_front (length file) (length row) 0 0 s;
      whole = λ p. seam ∙ run_whole (length file) (length row) 0 0 s p;
      rises = λ place. ap (unrisen_run place) seam ∙ after_zero place r.run (run_rises (length file) (length row) 0 0 s 0);
      bins = ap (from first_bin) seam ∙ (all_bins r.run (run_rises (length file) (length row) 0 0 s 0) ∙ sym seam);
      enough = λ h place. run_room (length file) (length row) 0 0 s (let k = section_room file index in omega (arith, h, k)) place;
    }
