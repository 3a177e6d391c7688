-- The measure of `put_number` is the number: a call lays the digits of a tenth of it first.
use Rattle.text_write.proofs.+put_number.Given as goal

abbrev pub decreases-put_number : goal.decreases-put_number
decreases-put_number l = l.x
