-- `put_parts` lays the lines of one part after another. The invariant is `Along`; the measure is what is left of the certificate.
-- Assumes nothing.
use Rattle.std.proofs.Common.{◌-◌, length}
use Rattle.hits_parts.proofs.Parts.{Along}
use Rattle.hits_parts.proofs.put_parts.Given as goal

abbrev pub invariant-loop-field : goal.invariant-loop-field
invariant-loop-field l = Along l.initial.text l.certificate l.text l.place l.at

abbrev pub decreases-loop-field : goal.decreases-loop-field
decreases-loop-field l = length l.certificate - l.at
