-- The customer's demands 2 and 3 as statements, each about what a call returns and leaves in its buffers. Definitions only.
use Rattle.std.specs.Prelude.{ℕ, ◌+◌, ◌≤◌, ◌<◌, ◌≢◌, ◌↔◌, ◌≡◌, length, take}
use mathlib.Core.List.{List, Memᴰ}
use Rattle.std.proofs.Math.Option.{none}
use Rattle.model.specs.Certificate.{Part, answers_of, encode, TrueCertificate}
use Rattle.model.specs.Compared.{whole_walk, whole_certificate, doublings_in, halvings_in, probes_in, bound_in, bound}
use Rattle.model.specs.Refusals.{Check, passed, cut_walk, Outcome, accepted, refused, Verdict, valid}
use Rattle.model.specs.Runs.{Run, unrisen, holds, total, weight_of}
use Rattle.model.specs.Walk.{Event}

-- A lent row of 32-bit numbers, a lent row of bytes: each of its numbers is below w.
pub record Fits (w : ℕ) (row : List ℕ) : Type 0 where
  pub each : (x : ℕ) → Memᴰ x row → x < w

-- What an outcome returns: the answers, parts, bytes and probes of either kind, the part count of a walk refusal being its place.
unfoldable pub answers_in : Outcome → ℕ
answers_in (accepted a n b d h) = a
answers_in (refused x n a b d h) = a

unfoldable pub parts_in : Outcome → ℕ
parts_in (accepted a n b d h) = n
parts_in (refused x n a b d h) = n

unfoldable pub bytes_in : Outcome → ℕ
bytes_in (accepted a n b d h) = b
bytes_in (refused x n a b d h) = b

unfoldable pub doublings_made : Outcome → ℕ
doublings_made (accepted a n b d h) = d
doublings_made (refused x n a b d h) = d

unfoldable pub halvings_made : Outcome → ℕ
halvings_made (accepted a n b d h) = h
halvings_made (refused x n a b d h) = h

-- the refusal's number, 0 where the question is accepted
unfoldable pub refused_by : Outcome → ℕ
refused_by (accepted a n b d h) = 0
refused_by (refused x n a b d h) = x

-- A row lists the bins of which something holds: all of them, and no others, rising, each once.
pub record Lists (holds_of : ℕ → Type 0) (row : List ℕ) : Type 0 where
  pub all : (x : ℕ) → Memᴰ x row ↔ holds_of x
  pub rising : unrisen 0 row ≡ none

-- The answers are all the bins held by lists that weigh at least t, and no others, rising, each once. (Where every list weighs 1, by at least t lists.)
abbrev pub Exact : List Run → ℕ → List ℕ → Type 0
Exact rs t answers = Lists (λ x. t ≤ weight_of (λ r. holds x r.bins) rs) answers

-- Bytes are a true certificate: they are the fields of parts that are true.
abbrev pub TrueBytes : List Run → ℕ → List ℕ → Type 0
TrueBytes rs t bytes = (ps : List Part) × TrueCertificate rs t ps × (bytes ≡ encode ps)

-- Demand 2 for a walk, which a refusal of this number ended, 0 where none did, after so many parts, and which wrote these answers and bytes. When it reaches
-- its end, the answers are all the bins held by lists that weigh at least t, and no others, rising, each once. The certificate beside them is true. A walk that
-- stops early has written the first parts of that same certificate and their answers.
pub record Certified (rs : List Run) (t number parts : ℕ) (answers bytes : List ℕ) : Type 0 where
  pub exact : number ≡ 0 → Exact rs t answers
  pub is_true : number ≡ 0 → TrueBytes rs t bytes
  pub at_the_end : number ≡ 0 → parts ≡ length (whole_certificate t rs)
  pub whole_exact : Exact rs t (answers_of (whole_certificate t rs))
  pub whole_true : TrueCertificate rs t (whole_certificate t rs)
  pub written : bytes ≡ encode (take parts (whole_certificate t rs))
  pub answered : answers ≡ answers_of (take parts (whole_certificate t rs))

-- Demand 2 for a question over these runs with these first checks: of its outcome, and of what then stands in its buffers.
pub record Demand2 (c : Check) (rs : List Run) (t : ℕ) (o : Outcome) (answers certificate : List ℕ) : Type 0 where
  pub for_every : c ≡ passed → Certified rs t (refused_by o) (parts_in o) (take (answers_in o) answers) (take (bytes_in o) certificate)

-- Demand 2 for the checker: it accepts a certificate, whoever wrote it, if it is true and only then; the counts are the certificate's.
pub record Accepts (rs : List Run) (t : ℕ) (certificate : List ℕ) (v : Verdict) : Type 0 where
  pub only_true : (a n : ℕ) → v ≡ valid a n
      → (ps : List Part) × TrueCertificate rs t ps × (certificate ≡ encode ps) × (a ≡ length (answers_of ps)) × (n ≡ length ps)
  pub every_true : (ps : List Part) → TrueCertificate rs t ps → certificate ≡ encode ps → v ≡ valid (length (answers_of ps)) (length ps)

-- Demand 3, for a certificate of d parts, of a walk with an allowance, which did these events, which a refusal of this number ended, 0 where none did, and
-- which wrote these bytes. The walk's whole certificate has at most d parts, and so no more are written by a walk that stops early. In a list of n bins
-- the walk makes at most 2 × d × b probes. The probes are the sum over the lists of those that the walk makes up to where it ends, early or not, and so are
-- those of either kind. An allowance no smaller than the sum of these bounds over all lists never ends as spent.
pub record Bounded (rs : List Run) (t allowance : ℕ) (done : List Event) (number parts doublings halvings : ℕ) (bytes : List ℕ) (d : ℕ) : Type 0 where
  pub fewest : length (whole_certificate t rs) ≤ d
  pub written : bytes ≡ encode (take parts (whole_certificate t rs))
  pub few : parts ≤ d
  pub each_whole : (r : Run) → Memᴰ r rs → probes_in r.label (whole_walk t rs) ≤ bound_in d r
  pub each : (r : Run) → Memᴰ r rs → probes_in r.label done ≤ bound_in d r
  pub sum : doublings + halvings ≡ total (λ r. probes_in r.label done) rs
  pub doubling_sum : doublings ≡ total (λ r. doublings_in r.label done) rs
  pub halving_sum : halvings ≡ total (λ r. halvings_in r.label done) rs
  pub enough : bound d rs ≤ allowance → number ≢ 7

-- Demand 3 whole: for all lists and every threshold that pass the first checks, with weights or without, for every true certificate of them, whoever wrote it,
-- and whatever allowance and buffers our walk is lent, with so many places for answers. The outcome and the certificate buffer after the call are the call's own.
pub record Demand3 (c : Check) (rs : List Run) (t allowance places : ℕ) (before : List ℕ) (o : Outcome) (after : List ℕ) : Type 0 where
  pub for_every : c ≡ passed → (ps : List Part) → TrueCertificate rs t ps
      → Bounded rs t allowance (cut_walk t rs allowance places (length before)).events (refused_by o) (parts_in o) (doublings_made o) (halvings_made o)
      (take (bytes_in o) after) (length ps)
