-- docs/SPECIFICATION.md, 'The program hits': its limits, each under one name. Definitions only.
use Rattle.std.specs.Prelude.{ℕ, ◌+◌, ◌*◌}

-- It accepts at most 65,536 bytes; run 65 and number 1,025 of all the runs together are refused.
unfoldable pub most_bytes : ℕ
most_bytes = 65536

unfoldable pub input_runs : ℕ
input_runs = 64

unfoldable pub input_numbers : ℕ
input_numbers = 1024

-- Its buffers hold 1,024 answers and 65,536 certificate bytes.
unfoldable pub answer_room : ℕ
answer_room = 1024

unfoldable pub certificate_room : ℕ
certificate_room = 65536

-- room for every line `done` and every line `refuse`
unfoldable pub line_room : ℕ
line_room = 72

-- Room for every text that is printed: 4 bytes for each certificate byte, and a line.
unfoldable pub most_text : ℕ
most_text = 4 * certificate_room + line_room
