-- What a part adds to the count of answers. Definitions only.
use Rattle.std.specs.Prelude.{ℕ}
use Rattle.model.specs.Certificate.{Part, answer, gap}

unfoldable pub answer_count : Part → ℕ
answer_count (answer v m) = 1
answer_count (gap f l m) = 0
