-- `put_number` lays the digits of a tenth of the number, and then the last digit. Assumes nothing.
use borrow.Author.Rules.{rules}
use Rattle.text_write.proofs.Steps.{digit_laid, more_laid}
use Rattle.text_write.proofs.+put_number.Goals as goal

pub returns-then-x-lt10 : goal.returns-then-x-lt10
returns-then-x-lt10 t c = digit_laid (search rules) c.put.ensures

pub returns : goal.returns
returns t c = more_laid (search rules) c.put_number-next.ensures c.put-2.ensures
