-- docs/SPECIFICATION.md, 'What one run found alone': the bins of a list that lie in the gaps of a certificate, and the copy of one gap's bins.
-- Definitions only.
use Rattle.std.specs.Prelude.{ℕ, suc, List, [], ◌∷◌, ◌++◌, ◌≡◌, take, drop, Result, Ok, Err}
use Rattle.model.specs.Certificate.{Part, answer, gap}
use Rattle.model.specs.Runs.{from, rank}
use Rattle.insertion_rank.specs.Passed.{passed_over}
use Rattle.row_fill.specs.Keeps.{Keeps}
use Rattle.refusal.specs.declared.Reason.{Reason}
use Rattle.query_difference.specs.declared.Copied.{Copied}

-- Along some parts: up to a gap's last all bins of the list are kept, and an answer's bin is passed over. Where the parts cover the bins, what is kept is what lies in
-- gaps.
unfoldable pub in_gaps : List Part → List ℕ → List ℕ
in_gaps [] s = []
in_gaps (gap f l m ∷ ps) s = take (rank (suc l) s) s ++ in_gaps ps (from (suc l) s)
in_gaps (answer v m ∷ ps) s = in_gaps ps (passed_over v s)

-- The bins of s up to `last` are written after what is written, and the run goes on after them; or as many of them as fit.
abbrev pub Copies : List ℕ → List ℕ → ℕ → List ℕ → List ℕ → List ℕ → Result Copied Reason → Type 0
Copies run s last written row row' (Ok c) =
    (drop c.place run ≡ from (suc last) s) × Keeps (written ++ take (rank (suc last) s) s) row row' (Ok c.count)
Copies run s last written row row' (Err reason) = Keeps (written ++ take (rank (suc last) s) s) row row' (Err reason)
