-- Demands 2 and 3 for the question: every clause, for any lists and threshold that pass the first checks, any allowance and any buffers.
-- Assumes nothing.
use Prim.Native.Nat.{ℕ, zero, suc, ◌*◌, ◌≤◌, min}
use lib.ListN.{length, take}
use lib.Seq.{take-append_seam}
use mathlib.Core.List.{List, Memᴰ}
use mathlib.Core.Logic.{◌≢◌}
use mathlib.Core.Path.{◌≡◌, refl, sym, ap, ◌∙◌, subst}
use native.Mathlib.Nat.{le_trans, mul-le-mul_right}
use native.Mathlib.Omega.{arith}
use Rattle.model.specs.Certificate.{Part, answers_of, encode, TrueCertificate}
use Rattle.model.specs.Compared.{whole_walk, parts_of, whole_certificate, doubling_probe, halving_probe, probe, doublings_of, halvings_of, probes_of, in_run, doublings_in, halvings_in, probes_in, digits, bound_of, bound_in, bound}
use Rattle.model.specs.Demands.{Fits, answers_in, parts_in, bytes_in, doublings_made, halvings_made, refused_by, Exact, Certified, Demand2, Bounded, Demand3}
use Rattle.model.specs.Refusals.{Check, passed, first_checks, weighted_checks, Room, Ended, cut, cut_walk, over, Answered, outcome_with, answered_with, checked_first, answered_by, query, query_weighted}
use Rattle.model.specs.Runs.{Run, first_bin, past_bin, runs, weighted, total}
use Rattle.model.specs.Walk.{Event, walk}
use Rattle.model.proofs.Bounds.{walk_probes, Owned, owned, sum_owned}
use Rattle.model.proofs.Events.{both_kinds}
use Rattle.model.proofs.Count.{total_le}
use Rattle.model.proofs.Cutting.{cut_whole, cut_parts, cut_few, cut_cost, cut_mem, cut_enough}
use Rattle.model.proofs.Exact.{exact}
use Rattle.model.proofs.Fewest.{fewest}
use Rattle.model.proofs.FirstChecks.{fit, weighted_fit}
use Rattle.model.proofs.From.{from_length}
use Rattle.model.proofs.Truth.{Fit, walk_covers, walk_true}
use Rattle.model.proofs.Walking.{Walked, walked, at_start}

-- the whole walk goes one of the ways
pub whole_walked : {rs : List Run} {t : ℕ} → Fit rs t → Walked rs t first_bin (whole_walk t rs)
unfolding whole_walk first_bin past_bin
whole_walked {rs} {t} g =
    subst (λ (x : List Run). Walked rs t first_bin (walk past_bin t first_bin x)) (at_start first_bin rs (omega arith) g.rising)
    (walked rs t g.rising g.some g.met past_bin first_bin (omega arith) (omega arith))

pub whole_true : {rs : List Run} {t : ℕ} → Fit rs t → TrueCertificate rs t (whole_certificate t rs)
unfolding whole_certificate
whole_true g = record { covering = walk_covers (whole_walked g); each = walk_true g (whole_walked g) }

-- No true certificate has fewer parts than the whole walk's.
pub whole_fewest : {rs : List Run} {t : ℕ} {ps : List Part} → Fit rs t → TrueCertificate rs t ps → length (whole_certificate t rs) ≤ length ps
unfolding whole_certificate
whole_fewest {ps = ps} g c = fewest g (whole_walked g) first_bin ps (omega arith) c.covering c.each

-- In a run the whole walk makes at most 2 × d × digits probes, where it writes at most d parts or the run has at most d numbers.
pub whole_bound : {rs : List Run} {t : ℕ} → Fit rs t → (d : ℕ) (r : Run) → Memᴰ r rs → min (length (whole_certificate t rs)) (length r.bins) ≤ d
    → probes_in r.label (whole_walk t rs) ≤ bound_in d r
unfolding bound_in bound_of whole_certificate
whole_bound g d r m h =
    let k = walk_probes g (whole_walked g) r m in
    let n = from_length first_bin r.bins in
    let l : k.made ≤ d = omega arith in
    let i = mul-le-mul_right (2 * digits (length r.bins)) l in
    omega arith

-- ---- what an ended walk returns

pub outcome_parts : (a : ℕ) (es : List Event) (n : ℕ) → parts_in (outcome_with a (record { events = es; refused = n })) ≡ length (parts_of es)
unfolding outcome_with parts_in
outcome_parts a es zero = refl
outcome_parts a es (suc n) = refl

pub outcome_answers : (a : ℕ) (es : List Event) (n : ℕ) → answers_in (outcome_with a (record { events = es; refused = n })) ≡ a
unfolding outcome_with answers_in
outcome_answers a es zero = refl
outcome_answers a es (suc n) = refl

pub outcome_bytes : (a : ℕ) (es : List Event) (n : ℕ) → bytes_in (outcome_with a (record { events = es; refused = n })) ≡ length (encode (parts_of es))
unfolding outcome_with bytes_in
outcome_bytes a es zero = refl
outcome_bytes a es (suc n) = refl

pub outcome_doublings : (a : ℕ) (es : List Event) (n : ℕ) → doublings_made (outcome_with a (record { events = es; refused = n })) ≡ doublings_of es
unfolding outcome_with doublings_made
outcome_doublings a es zero = refl
outcome_doublings a es (suc n) = refl

pub outcome_halvings : (a : ℕ) (es : List Event) (n : ℕ) → halvings_made (outcome_with a (record { events = es; refused = n })) ≡ halvings_of es
unfolding outcome_with halvings_made
outcome_halvings a es zero = refl
outcome_halvings a es (suc n) = refl

pub outcome_refused : (a : ℕ) (es : List Event) (n : ℕ) → refused_by (outcome_with a (record { events = es; refused = n })) ≡ n
unfolding outcome_with refused_by
outcome_refused a es zero = refl
outcome_refused a es (suc n) = refl

-- ---- a walk up to where it ends

-- The probes of events that are the runs', and those of either kind, are the sums over the runs.
pub record Summed (rs : List Run) (es : List Event) : Type 0 where
  pub probes : probes_of es ≡ total (λ r. probes_in r.label es) rs
  pub doublings : doublings_of es ≡ total (λ r. doublings_in r.label es) rs
  pub halvings : halvings_of es ≡ total (λ r. halvings_in r.label es) rs

summed : (rs : List Run) (es : List Event) → Owned rs es → Summed rs es
unfolding probes_of doublings_of halvings_of probes_in doublings_in halvings_in probe doubling_probe halving_probe
summed rs es o =
    record {
      probes = sym (sum_owned probe (λ p. refl) rs es o);
      doublings = sym (sum_owned doubling_probe (λ p. refl) rs es o);
      halvings = sym (sum_owned halving_probe (λ p. refl) rs es o);
    }

module _ (rs : List Run) (t : ℕ) (room : Room) where
  abbrev ended : Ended
  ended = cut room (whole_walk t rs)

  -- Given a bound of each run's probes, an allowance no smaller than their sum is never spent.
  pub cut_unspent : Fit rs t → (b : Run → ℕ) → ((r : Run) → Memᴰ r rs → probes_in r.label (whole_walk t rs) ≤ b r) → total b rs ≤ room.probes
      → ended.refused ≢ 7
  cut_unspent g b h l e =
      let s = (summed rs (whole_walk t rs) (owned g (whole_walked g))).probes in
      let k = total_le (λ r. probes_in r.label (whole_walk t rs)) b rs h in
      cut_enough room (whole_walk t rs) (omega arith) e

  parts_written : parts_of ended.events ≡ take (length (parts_of ended.events)) (whole_certificate t rs)
  unfolding whole_certificate
  parts_written = sym (cut_parts room (whole_walk t rs))

  pub all_parts_law : ended.refused ≡ 0 → parts_of ended.events ≡ whole_certificate t rs
  unfolding whole_certificate
  all_parts_law e = ap parts_of (cut_whole room (whole_walk t rs) e)

  pub certified_walk : Fit rs t
      → Certified rs t ended.refused (length (parts_of ended.events)) (answers_of (parts_of ended.events)) (encode (parts_of ended.events))
  certified_walk g =
      record {
        exact = λ e. subst (Exact rs t) (ap answers_of (sym (all_parts_law e))) (exact g (whole_true g));
        is_true = λ e. (whole_certificate t rs, whole_true g, ap encode (all_parts_law e));
        at_the_end = λ e. ap length (all_parts_law e);
        whole_exact = exact g (whole_true g);
        whole_true = whole_true g;
        written = ap encode parts_written;
        answered = ap answers_of parts_written;
      }

  -- the probes made are the sum over the runs
  pub sum_made : Fit rs t → Summed rs ended.events
  sum_made g =
      let o = owned g (whole_walked g) in
      summed rs ended.events (record { each = λ e m. o.each e (cut_mem room (whole_walk t rs) e m) })

  few_parts : length (parts_of ended.events) ≤ length (whole_certificate t rs)
  unfolding whole_certificate
  few_parts = cut_few room (whole_walk t rs)

  pub cut_bound : (r : Run) → probes_in r.label ended.events ≤ probes_in r.label (whole_walk t rs)
  unfolding probes_in
  cut_bound r = cut_cost (in_run r.label probe) room (whole_walk t rs)

  pub bounded_walk : Fit rs t → (ps : List Part) → TrueCertificate rs t ps
      → Bounded rs t room.probes ended.events ended.refused (length (parts_of ended.events)) (doublings_of ended.events) (halvings_of ended.events)
      (encode (parts_of ended.events)) (length ps)
  unfolding bound
  bounded_walk g ps c =
      let f = whole_fewest g c in
      let b : (r : Run) → Memᴰ r rs → probes_in r.label (whole_walk t rs) ≤ bound_in (length ps) r = λ r m. whole_bound g (length ps) r m (omega arith) in
      let n = few_parts in
      record {
        fewest = f;
        written = ap encode parts_written;
        few = omega arith;
        each_whole = b;
        each = λ r m. le_trans (cut_bound r) (b r m);
        sum = sym (both_kinds ended.events) ∙ (sum_made g).probes;
        doubling_sum = (sum_made g).doublings;
        halving_sum = (sum_made g).halvings;
        enough = cut_unspent g (bound_in (length ps)) b;
      }

-- ---- the question

pub never_spent : {rs : List Run} {t : ℕ} → Fit rs t → (b : Run → ℕ) → ((r : Run) → Memᴰ r rs → probes_in r.label (whole_walk t rs) ≤ b r)
    → (a allowance answers bytes : ℕ) → total b rs ≤ allowance → refused_by (outcome_with a (cut_walk t rs allowance answers bytes)) ≢ 7
unfolding cut_walk
never_spent {rs} {t} g b h a allowance answers bytes l e =
    let room : Room = record { probes = allowance; answers = answers; bytes = bytes } in
    cut_unspent rs t room g b h l (sym (outcome_refused a _ (cut room (whole_walk t rs)).refused) ∙ e)

-- what stands at the front of the buffers of a call that wrote these answers
module _ (found : List ℕ) (e : Ended) (answers certificate : List ℕ) where
  pub answers_front : take (answers_in (answered_with found e answers certificate).outcome) (answered_with found e answers certificate).answers ≡ found
  unfolding answered_with over
  answers_front = rw (outcome_answers (length found) e.events e.refused) (take-append_seam found _)

  pub certificate_front : take (bytes_in (answered_with found e answers certificate).outcome) (answered_with found e answers certificate).certificate
      ≡ encode (parts_of e.events)
  unfolding answered_with over
  certificate_front = rw (outcome_bytes (length found) e.events e.refused) (take-append_seam (encode (parts_of e.events)) _)

module _ (rs : List Run) (t allowance : ℕ) (answers certificate : List ℕ) where
  asked : Ended
  asked = cut_walk t rs allowance (length answers) (length certificate)

  answered : Answered
  answered = answered_with (answers_of (parts_of asked.events)) asked answers certificate

  certified_asked : Fit rs t
      → Certified rs t (refused_by answered.outcome) (parts_in answered.outcome) (take (answers_in answered.outcome) answered.answers)
      (take (bytes_in answered.outcome) answered.certificate)
  unfolding asked answered answered_with cut_walk
  certified_asked g =
      rw (
        answers_front (answers_of (parts_of asked.events)) asked answers certificate,
        certificate_front (answers_of (parts_of asked.events)) asked answers certificate,
        outcome_refused _ asked.events asked.refused,
        outcome_parts _ asked.events asked.refused,
      )
      (certified_walk rs t (record { probes = allowance; answers = length answers; bytes = length certificate }) g)

  bounded_asked : Fit rs t → (ps : List Part) → TrueCertificate rs t ps
      → Bounded rs t allowance asked.events (refused_by answered.outcome) (parts_in answered.outcome) (doublings_made answered.outcome)
      (halvings_made answered.outcome) (take (bytes_in answered.outcome) answered.certificate) (length ps)
  unfolding asked answered answered_with cut_walk
  bounded_asked g ps c =
      rw (
        certificate_front (answers_of (parts_of asked.events)) asked answers certificate,
        outcome_refused _ asked.events asked.refused,
        outcome_parts _ asked.events asked.refused,
        outcome_doublings _ asked.events asked.refused,
        outcome_halvings _ asked.events asked.refused,
      )
      (bounded_walk rs t (record { probes = allowance; answers = length answers; bytes = length certificate }) g ps c)

  -- a question whose first checks pass is its ended walk
  answered_passed : (c : Check) → c ≡ passed → answered_by c rs t allowance answers certificate ≡ answered
  unfolding answered_by checked_first answered asked
  answered_passed c e = rw e

  -- The demands for any question over runs that its first checks make fit.
  pub demand2_by : (c : Check) → (c ≡ passed → Fit rs t)
      → Demand2 c rs t (answered_by c rs t allowance answers certificate).outcome (answered_by c rs t allowance answers certificate).answers
      (answered_by c rs t allowance answers certificate).certificate
  demand2_by c g = record { for_every = λ e. rw (answered_passed c e) (certified_asked (g e)) }

  pub demand3_by : (c : Check) → (c ≡ passed → Fit rs t)
      → Demand3 c rs t allowance (length answers) certificate (answered_by c rs t allowance answers certificate).outcome
      (answered_by c rs t allowance answers certificate).certificate
  unfolding asked
  demand3_by c g = record { for_every = λ e ps d. rw (answered_passed c e) (bounded_asked (g e) ps d) }

-- A question with a threshold, and one with weights and a wanted weight.
pub demand2 : (numbers ends : List ℕ) (t allowance : ℕ) (answers certificate : List ℕ) → Fits past_bin numbers
    → Demand2 (first_checks numbers ends t) (runs numbers ends) t (query numbers ends t allowance answers certificate).outcome
    (query numbers ends t allowance answers certificate).answers (query numbers ends t allowance answers certificate).certificate
unfolding query
demand2 numbers ends t allowance answers certificate h = demand2_by (runs numbers ends) t allowance answers certificate _ (fit numbers ends t h)

pub demand3 : (numbers ends : List ℕ) (t allowance : ℕ) (answers certificate : List ℕ) → Fits past_bin numbers
    → Demand3 (first_checks numbers ends t) (runs numbers ends) t allowance (length answers) certificate (query numbers ends t allowance answers certificate).outcome
    (query numbers ends t allowance answers certificate).certificate
unfolding query
demand3 numbers ends t allowance answers certificate h = demand3_by (runs numbers ends) t allowance answers certificate _ (fit numbers ends t h)

pub weighted_demand2 : (numbers ends weights : List ℕ) (wanted allowance : ℕ) (answers certificate : List ℕ) → Fits past_bin numbers
    → Demand2 (weighted_checks numbers ends weights wanted) (weighted weights (runs numbers ends)) wanted
    (query_weighted numbers ends weights wanted allowance answers certificate).outcome (query_weighted numbers ends weights wanted allowance answers certificate).answers
    (query_weighted numbers ends weights wanted allowance answers certificate).certificate
unfolding query_weighted
weighted_demand2 numbers ends weights wanted allowance answers certificate h =
    demand2_by (weighted weights (runs numbers ends)) wanted allowance answers certificate _ (weighted_fit numbers ends weights wanted h)

pub weighted_demand3 : (numbers ends weights : List ℕ) (wanted allowance : ℕ) (answers certificate : List ℕ) → Fits past_bin numbers
    → Demand3 (weighted_checks numbers ends weights wanted) (weighted weights (runs numbers ends)) wanted allowance (length answers) certificate
    (query_weighted numbers ends weights wanted allowance answers certificate).outcome
    (query_weighted numbers ends weights wanted allowance answers certificate).certificate
unfolding query_weighted
weighted_demand3 numbers ends weights wanted allowance answers certificate h =
    demand3_by (weighted weights (runs numbers ends)) wanted allowance answers certificate _ (weighted_fit numbers ends weights wanted h)
