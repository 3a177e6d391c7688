-- docs/SPECIFICATION.md, 'The program hits': the listing's input with what it prints, one whose search halves, and a refused question. Definitions only.
use Rattle.std.specs.Prelude.{ℕ, List}
use Rattle.text_read.specs.Text.{bytes}

unfoldable pub listing_input : List ℕ
listing_input = bytes "2 3\n2 5 9\n5 7 9 12\n1 9\n"

unfoldable pub listing_text : List ℕ
listing_text = bytes "gap 1 1 3\ngap 2 4 6\nhit 5 3\ngap 6 8 5\nhit 9 7\ngap 10 4294967295 5\ndone 2 6 3 0\n"

-- one search, with probes of both kinds
unfoldable pub search_input : List ℕ
search_input = bytes "2 5\n100\n10 20 30 40 50 60 70 80 90 100\n"

unfoldable pub search_text : List ℕ
search_text = bytes "gap 1 99 1\nhit 100 3\ngap 101 4294967295 3\ndone 1 3 4 1\n"

-- the listing's question with an allowance of 2 probes, one too few
unfoldable pub refused_input : List ℕ
refused_input = bytes "2 2\n2 5 9\n5 7 9 12\n1 9\n"

unfoldable pub refused_text : List ℕ
refused_text = bytes "refuse 7 4\n"

-- the listing's first three lines, after which a read fails (docs/SPECIFICATION.md, 'The program hits')
unfoldable pub part_input : List ℕ
part_input = bytes "2 3\n2 5 9\n5 7 9 12\n"

unfoldable pub part_text : List ℕ
part_text = bytes "refuse 12 4\n"
