-- What the code's numbers for line 1 mean. Definitions only.
use Rattle.std.specs.Prelude.{Option, Some, None}
use Rattle.hits_input.specs.Input.{Heading, no_heading, heading}
use Rattle.hits_heading.specs.declared.Heading.{Heading as Numbers}

abbrev pub heading_is : Option Numbers → Heading
heading_is (Some numbers) = heading numbers.threshold numbers.allowance
heading_is None = no_heading
