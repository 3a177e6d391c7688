-- Tracefiles with what is read from them, that of docs/SPECIFICATION.md, 'Instances', among them. Definitions only.
use Rattle.std.specs.Prelude.{ℕ, List, [], ◌∷◌, ◌++◌, map, ◌≡◌, length, replicate}
use Rattle.model.specs.Refusals.{Check, passed, refusal, over}
use Rattle.row_fill.specs.Filling.{Filling}
use Rattle.text_read.specs.Text.{bytes}
use Rattle.lcov_form.specs.Reading.{lcov_run}

-- A file, the index of a section, the room in the row, which holds nines, and the outcome with the numbers that it writes.
pub record Instance : Type 0 where
  pub file : List ℕ
  pub index : ℕ
  pub room : ℕ
  pub check : Check
  pub run : List ℕ

unfoldable pub read : Instance → Filling
read i = lcov_run i.file i.index (replicate i.room 9)

unfoldable pub expected : Instance → Filling
expected i =
    record { check = i.check; count = length i.run; row = over i.run (replicate i.room 9) }

unfoldable pub reads : List ℕ → ℕ → ℕ → Check → List ℕ → Instance
reads file index room check run = record { file = file; index = index; room = room; check = check; run = run }

-- The listing: 145 bytes, and its last line has no end.
unfoldable pub listing : List ℕ
listing =
    bytes "TN:a\nSF:a.c\nDA:1,1\nDA:2,0\nDA:3,5,abc\nend_of_record\nSF:b.c\nFN:1,f\nDA:0004,00\nDA:4,1\nDA:4,2\nend_of_record\nSF:c.c\nDA:9,x\nend_of_record\nSF:d.c\nDA:7,1"

-- a section of some lines, and it alone in a file
unfoldable pub section_text : List ℕ → List ℕ
section_text records = bytes "SF:f\n" ++ records ++ bytes "end_of_record\n"

unfoldable pub alone : List ℕ → ℕ → Check → List ℕ → Instance
alone records room check run = reads (section_text records) 0 room check run

unfoldable pub listed : List Instance
listed =
    reads listing 0 5 passed (1 ∷ 3 ∷ []) ∷
    reads listing 0 2 passed (1 ∷ 3 ∷ []) ∷
    reads listing 0 1 (refusal 5 1) (1 ∷ []) ∷
    reads listing 1 5 (refusal 4 1) (4 ∷ []) ∷
    reads listing 2 5 (refusal 15 111) [] ∷
    reads listing 3 5 (refusal 16 145) (7 ∷ []) ∷
    reads listing 4 5 (refusal 16 145) [] ∷
    []

-- Records of every form, alone in a section: the first of them stands at offset 5.
unfoldable pub records : List Instance
records =
    alone [] 0 passed [] ∷
    alone (bytes "DA:1,0\nDA:1,1\n") 1 passed (1 ∷ []) ∷
    alone (bytes "DA:4294967295,1\n") 1 passed (4294967295 ∷ []) ∷
    alone (bytes "DA:4294967296,1\n") 1 (refusal 15 5) [] ∷
    alone (bytes "DA:0,1\n") 1 (refusal 15 5) [] ∷
    alone (bytes "DA:0,0\n") 1 (refusal 15 5) [] ∷
    alone (bytes "DA:0,x\n") 1 (refusal 15 5) [] ∷
    alone (bytes "DA:5,0x\n") 1 (refusal 15 5) [] ∷
    alone (bytes "DA:5,-1\n") 1 (refusal 15 5) [] ∷
    alone (bytes "DA:\n") 1 (refusal 15 5) [] ∷
    alone (bytes "DA:5\n") 1 (refusal 15 5) [] ∷
    alone (bytes "DA:5,\n") 1 (refusal 15 5) [] ∷
    alone (bytes "DA:,1\n") 1 (refusal 15 5) [] ∷
    alone (bytes "DA:5,,1\n") 1 (refusal 15 5) [] ∷
    alone (bytes "DA: 5,1\n") 1 (refusal 15 5) [] ∷
    alone (bytes "DA:5,1\r\n") 1 (refusal 15 5) [] ∷
    alone (bytes "DA:5,1,\n") 1 passed (5 ∷ []) ∷
    alone (bytes "DA:5,1,x,y\r\n") 1 passed (5 ∷ []) ∷
    alone (bytes " DA:5,1\nDA\nda:5,1\nDAX:5,1\n") 1 passed [] ∷
    alone (bytes "DA:5,18446744073709551616\n") 1 passed (5 ∷ []) ∷
    alone (bytes "DA:5," ++ replicate 3000 48 ++ bytes "1\nDA:" ++ replicate 3000 48 ++ bytes "6,1\n") 2 passed (5 ∷ 6 ∷ []) ∷
    alone (bytes "DA:5," ++ replicate 3000 48 ++ bytes "\n") 1 passed [] ∷
    alone (bytes "DA:5,1\nDA:3,0\nDA:5,1\n") 1 (refusal 4 1) (5 ∷ []) ∷
    alone (bytes "DA:5,1\nDA:6,1\nDA:6,1\nDA:x\n") 1 (refusal 5 1) (5 ∷ []) ∷
    alone (bytes "DA:5,1\nDA:x\nDA:5,1\n") 1 (refusal 15 12) (5 ∷ []) ∷
    []

-- Sections of every form.
unfoldable pub sectioned : List Instance
sectioned =
    reads [] 0 1 (refusal 16 0) [] ∷
    reads (bytes "\n\n") 0 1 (refusal 16 2) [] ∷
    reads (bytes "SF:") 0 1 (refusal 16 3) [] ∷
    reads (bytes "SF:a\nend_of_record") 0 1 passed [] ∷
    reads (bytes "SF:a\nDA:5,1\nend_of_record\r\n") 0 1 (refusal 16 27) (5 ∷ []) ∷
    reads (bytes "SF:a\nDA:5,1\nend_of_records\nend_of_recor\n end_of_record\n") 0 1 (refusal 16 55) (5 ∷ []) ∷
    reads (bytes "SF:a\nDA:5,1\nSF:b\nDA:6,1\nend_of_record\nDA:7,1\nSF:c\nDA:8,1\nend_of_record\n") 0 3 passed (5 ∷ 6 ∷ []) ∷
    reads (bytes "SF:a\nDA:5,1\nSF:b\nDA:6,1\nend_of_record\nDA:7,1\nSF:c\nDA:8,1\nend_of_record\n") 1 3 passed (8 ∷ []) ∷
    reads (bytes "SF:a\nDA:5,1\nSF:b\nDA:6,1\nend_of_record\nDA:7,1\nSF:c\nDA:8,1\nend_of_record\n") 2 3 (refusal 16 71) [] ∷
    reads (bytes "end_of_record\nDA:x\nSF\n SF:a\nSFX:a\nSF:a\nDA:5,1\nend_of_record\nDA:x") 0 1 passed (5 ∷ []) ∷
    reads (bytes "SF:a\nDA:x\nend_of_record\nSF:b\nDA:5,1\nend_of_record\n") 1 1 passed (5 ∷ []) ∷
    []

unfoldable pub instances : List Instance
instances = listed ++ records ++ sectioned

-- The claim: each instance is read as expected.
pub record AsExpected (is : List Instance) : Type 0 where
  pub same : map read is ≡ map expected is
