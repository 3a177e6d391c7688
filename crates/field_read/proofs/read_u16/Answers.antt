-- `read_u16` meets its contract: its bytes' worths add up to the number. Assumes nothing.
use Rattle.std.proofs.Common.{arith}
use Rattle.field_read.proofs.Reading.{number_two}
use Rattle.field_read.proofs.read_u16.Goals as goal

pub returns : goal.returns
returns c = omega (arith, c.from_le_bytes.ensures, number_two c.args.bytes.now c.args.at c.requires)
