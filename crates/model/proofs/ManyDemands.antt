-- Demands 2 and 3 for a call with many questions: every clause, for any runs, masks and thresholds that pass the first checks, any allowance and any buffers.
-- Assumes nothing.
use Prim.Native.Nat.{ℕ, suc, ◌+◌, ◌-◌, ◌≤◌, ◌<◌}
use lib.ListN.{length, get_or}
use mathlib.Core.List.{List, Memᴰ}
use mathlib.Core.Logic.{◌≢◌}
use mathlib.Core.Path.{◌≡◌, refl, sym, ap, ap₂, ◌∙◌, subst}
use native.Mathlib.Nat.{le_trans}
use native.Mathlib.Omega.{arith}
use Rattle.model.specs.Certificate.{Part, answers_of, encode, TrueCertificate}
use Rattle.model.specs.Compared.{whole_walk, parts_of, whole_certificate, cost, doubling_probe, halving_probe, probe, doublings_of, halvings_of, probes_of, doublings_in, halvings_in, probes_in, bound_in, bound}
use Rattle.model.specs.Demands.{Fits, Certified, Bounded}
use Rattle.model.specs.Many.{ManyCheck, all_passed, refusal_in, many_checks, events_of, ending, reached, many_outcome, answered_many, walks_of, query_many}
use Rattle.model.specs.ManyDemands.{all_answers, all_parts, all_bytes, all_doublings, all_halvings, call_refused_by, finished_of, begun_of, ended_by, parts_of_question, own_in, runs_of, walk_of, sum_to, ManyDemand2, ManyBounded, ManyDemand3}
use Rattle.model.specs.Refusals.{Ended, cut, over}
use Rattle.model.specs.Runs.{Run, past_bin, runs, chosen, total}
use Rattle.model.specs.Walk.{Event}
use Rattle.model.proofs.Count.{total_le}
use Rattle.model.proofs.Demands.{whole_fewest, whole_bound, cut_unspent, cut_bound, Summed, sum_made, certified_walk, bounded_walk}
use Rattle.model.proofs.Events.{both_kinds}
use Rattle.model.proofs.FirstChecks.{chosen_fit}
use Rattle.model.proofs.Many.{unbegun, sum_suc, sum_same, sum_le, sum_more, parts_writing, all_size, all_cost, Asked, asked, Ending, finished, stopped, walks_end, begun_all, ended_by_law, own_parts, own_answers, own_bytes}
use Rattle.model.proofs.ManyChecks.{ManyPassed, many_passed}
use Rattle.model.proofs.Truth.{Fit}

module _ (numbers ends masks thresholds : List ℕ) (allowance : ℕ) (answers certificate results : List ℕ) (fits : Fits past_bin numbers)
    (checked : many_checks numbers ends masks thresholds results ≡ all_passed) where
  pub ws : List Ended
  ws = walks_of numbers ends masks thresholds allowance answers certificate

  p : ManyPassed numbers ends masks thresholds results
  p = many_passed numbers ends masks thresholds results checked

  c : ManyCheck
  c = ending 0 ws

  end : Ending 0 ws (length masks) c
  unfolding ws c walks_of
  end = walks_end 0 _ (runs numbers ends) masks thresholds p.rows

  fewer : (d : ManyCheck) → Ending 0 ws (length masks) d → length ws ≤ length masks
  fewer d (finished l f) = omega arith
  fewer d (stopped j k x e l m f g) = omega arith

  -- question q
  begun : (q : ℕ) → q < length ws → Asked (record { probes = allowance; answers = length answers; bytes = length certificate }) (runs numbers ends) masks thresholds ws q
  unfolding ws walks_of
  begun q h = asked _ (runs numbers ends) masks thresholds q h

  every_fit : (q : ℕ) → q < length masks → Fit (runs_of numbers ends masks q) (get_or thresholds q 0)
  unfolding runs_of
  every_fit q h = chosen_fit numbers ends (get_or masks q 0) (get_or thresholds q 0) fits (p.each q h)

  pub question_fit : (q : ℕ) → q < length ws → Fit (runs_of numbers ends masks q) (get_or thresholds q 0)
  question_fit q h = let l = fewer c end in every_fit q (omega arith)

  certified : (q : ℕ) → q < length ws
      → Certified (runs_of numbers ends masks q) (get_or thresholds q 0) (get_or ws q unbegun).refused (length (parts_of (walk_of ws q)))
      (answers_of (parts_of (walk_of ws q))) (encode (parts_of (walk_of ws q)))
  unfolding runs_of walk_of
  certified q h =
      let a = begun q h in
      subst
      (λ (e : Ended). Certified (runs_of numbers ends masks q) (get_or thresholds q 0) e.refused (length (parts_of e.events)) (answers_of (parts_of e.events))
      (encode (parts_of e.events)))
      (sym a.is) (certified_walk (runs_of numbers ends masks q) (get_or thresholds q 0) a.left (question_fit q h))

  bounded : (q : ℕ) → q < length ws → (ps : List Part) → TrueCertificate (runs_of numbers ends masks q) (get_or thresholds q 0) ps
      → Bounded (runs_of numbers ends masks q) (get_or thresholds q 0) (allowance - sum_to q (λ i. probes_of (walk_of ws i))) (walk_of ws q)
      (get_or ws q unbegun).refused (length (parts_of (walk_of ws q))) (doublings_of (walk_of ws q)) (halvings_of (walk_of ws q)) (encode (parts_of (walk_of ws q))) (length ps)
  unfolding runs_of walk_of
  bounded q h ps t =
      let a = begun q h in
      subst
      (λ (n : ℕ). Bounded (runs_of numbers ends masks q) (get_or thresholds q 0) n (walk_of ws q) (get_or ws q unbegun).refused
      (length (parts_of (walk_of ws q))) (doublings_of (walk_of ws q)) (halvings_of (walk_of ws q)) (encode (parts_of (walk_of ws q))) (length ps))
      a.probes
      (subst
      (λ (e : Ended). Bounded (runs_of numbers ends masks q) (get_or thresholds q 0) a.left.probes e.events e.refused (length (parts_of e.events))
      (doublings_of e.events) (halvings_of e.events) (encode (parts_of e.events)) (length ps))
      (sym a.is) (bounded_walk (runs_of numbers ends masks q) (get_or thresholds q 0) a.left (question_fit q h) ps t))

  parts_are : (q : ℕ) → q < length ws
      → parts_of_question (many_outcome c (events_of ws)) (length (whole_certificate (get_or thresholds q 0) (runs_of numbers ends masks q))) q
      ≡ length (parts_of (walk_of ws q))
  parts_are q h = own_parts ws (length masks) c end q h _ (certified q h).at_the_end

  in_walks : (q : ℕ) → q < begun_of (length masks) (many_outcome c (events_of ws)) → q < length ws
  in_walks q h = let e = begun_all ws (length masks) c end in omega arith

  certified_each : (q : ℕ) → q < begun_of (length masks) (many_outcome c (events_of ws))
      → Certified (runs_of numbers ends masks q) (get_or thresholds q 0) (ended_by (many_outcome c (events_of ws)) q)
      (parts_of_question (many_outcome c (events_of ws)) (length (whole_certificate (get_or thresholds q 0) (runs_of numbers ends masks q))) q)
      (own_in (over (answers_of (parts_of (events_of ws))) answers) (over (reached 0 0 ws) results) (finished_of (length masks) (many_outcome c (events_of ws)))
      (all_answers (many_outcome c (events_of ws))) 0 q)
      (own_in (over (encode (parts_of (events_of ws))) certificate) (over (reached 0 0 ws) results) (finished_of (length masks) (many_outcome c (events_of ws)))
      (all_bytes (many_outcome c (events_of ws))) 1 q)
  certified_each q h =
      let l = in_walks q h in
      rw (
        ended_by_law ws (length masks) c end q l,
        parts_are q l,
        own_answers ws (length masks) c answers results end q l,
        own_bytes ws (length masks) c certificate results end q l,
      )
      (certified q l)

  bounded_each : (ps : ℕ → List Part)
      → ((q : ℕ) → q < length masks → TrueCertificate (runs_of numbers ends masks q) (get_or thresholds q 0) (ps q))
      → (q : ℕ) → q < begun_of (length masks) (many_outcome c (events_of ws))
      → Bounded (runs_of numbers ends masks q) (get_or thresholds q 0) (allowance - sum_to q (λ i. probes_of (walk_of ws i))) (walk_of ws q)
      (ended_by (many_outcome c (events_of ws)) q)
      (parts_of_question (many_outcome c (events_of ws)) (length (whole_certificate (get_or thresholds q 0) (runs_of numbers ends masks q))) q) (doublings_of (walk_of ws q))
      (halvings_of (walk_of ws q))
      (own_in (over (encode (parts_of (events_of ws))) certificate) (over (reached 0 0 ws) results) (finished_of (length masks) (many_outcome c (events_of ws)))
      (all_bytes (many_outcome c (events_of ws))) 1 q) (length (ps q))
  bounded_each ps t q h =
      let l = in_walks q h in
      let f = fewer c end in
      rw (ended_by_law ws (length masks) c end q l, parts_are q l, own_bytes ws (length masks) c certificate results end q l)
      (bounded q l (ps q) (t q (omega arith)))

  -- the sums over the questions
  parts_sum : all_parts (many_outcome c (events_of ws))
      ≡ sum_to (begun_of (length masks) (many_outcome c (events_of ws)))
      (λ q. parts_of_question (many_outcome c (events_of ws)) (length (whole_certificate (get_or thresholds q 0) (runs_of numbers ends masks q))) q)
  unfolding all_parts many_outcome
  parts_sum =
      let s = all_size parts_of parts_writing ws in
      rw (begun_all ws (length masks) c end) (all_parts_law c ∙ (s ∙ sum_same (length ws) _ _ (λ q h. sym (parts_are q h))))
    where
      all_parts_law : (d : ManyCheck) → all_parts (many_outcome d (events_of ws)) ≡ length (parts_of (events_of ws))
      all_parts_law all_passed = refl
      all_parts_law (refusal_in q n i) = refl

  summed : (q : ℕ) → q < length ws → Summed (runs_of numbers ends masks q) (walk_of ws q)
  unfolding runs_of walk_of
  summed q h =
      let a = begun q h in
      subst (λ (e : Ended). Summed (runs_of numbers ends masks q) e.events) (sym a.is)
      (sum_made (runs_of numbers ends masks q) (get_or thresholds q 0) a.left (question_fit q h))

  counted : (k : Event → ℕ) (f : ℕ → ℕ) → ((q : ℕ) → q < length ws → cost k (walk_of ws q) ≡ f q)
      → cost k (events_of ws) ≡ sum_to (begun_of (length masks) (many_outcome c (events_of ws))) f
  counted k f h = rw (begun_all ws (length masks) c end) (all_cost k ws ∙ sum_same (length ws) _ _ h)

  made_doublings : (d : ManyCheck) → all_doublings (many_outcome d (events_of ws)) ≡ doublings_of (events_of ws)
  unfolding all_doublings many_outcome
  made_doublings all_passed = refl
  made_doublings (refusal_in q n i) = refl

  made_halvings : (d : ManyCheck) → all_halvings (many_outcome d (events_of ws)) ≡ halvings_of (events_of ws)
  unfolding all_halvings many_outcome
  made_halvings all_passed = refl
  made_halvings (refusal_in q n i) = refl

  doublings_sum : all_doublings (many_outcome c (events_of ws))
      ≡ sum_to (begun_of (length masks) (many_outcome c (events_of ws))) (λ q. total (λ r. doublings_in r.label (walk_of ws q)) (runs_of numbers ends masks q))
  unfolding doublings_of
  doublings_sum = made_doublings c ∙ counted doubling_probe _ (λ q h. (summed q h).doublings)

  halvings_sum : all_halvings (many_outcome c (events_of ws))
      ≡ sum_to (begun_of (length masks) (many_outcome c (events_of ws))) (λ q. total (λ r. halvings_in r.label (walk_of ws q)) (runs_of numbers ends masks q))
  unfolding halvings_of
  halvings_sum = made_halvings c ∙ counted halving_probe _ (λ q h. (summed q h).halvings)

  probes_sum : all_doublings (many_outcome c (events_of ws)) + all_halvings (many_outcome c (events_of ws))
      ≡ sum_to (begun_of (length masks) (many_outcome c (events_of ws))) (λ q. total (λ r. probes_in r.label (walk_of ws q)) (runs_of numbers ends masks q))
  unfolding probes_of
  probes_sum =
      ap₂ ◌+◌ (made_doublings c) (made_halvings c) ∙ (sym (both_kinds (events_of ws)) ∙ counted probe _ (λ q h. (summed q h).probes))

  -- Given a bound of each run's probes in each question, an allowance no smaller than their sum is never spent.
  module _ (b : ℕ → Run → ℕ)
      (each-run : (q : ℕ) → q < length ws → (r : Run) → Memᴰ r (runs_of numbers ends masks q)
      → probes_in r.label (whole_walk (get_or thresholds q 0) (runs_of numbers ends masks q)) ≤ b q r)
      (large : sum_to (length masks) (λ q. total (b q) (runs_of numbers ends masks q)) ≤ allowance) where
    made_few : (q : ℕ) → q < length ws → probes_of (walk_of ws q) ≤ total (b q) (runs_of numbers ends masks q)
    unfolding runs_of walk_of
    made_few q h =
        let a = begun q h in
        let k = total_le (λ r. probes_in r.label (cut a.left (whole_walk (get_or thresholds q 0) (runs_of numbers ends masks q))).events) (b q) (runs_of numbers ends masks q)
        (λ r m. le_trans (cut_bound (runs_of numbers ends masks q) (get_or thresholds q 0) a.left r) (each-run q h r m)) in
        let s = (sum_made (runs_of numbers ends masks q) (get_or thresholds q 0) a.left (question_fit q h)).probes in
        let e = ap (λ (x : Ended). probes_of x.events) a.is in
        omega arith

    unspent : (q : ℕ) → q < length ws → (get_or ws q unbegun).refused ≢ 7
    unfolding runs_of
    unspent q h e =
        let a = begun q h in
        let f = fewer c end in
        let p₁ = a.probes in
        let s = sum_le q (λ i. probes_of (walk_of ws i)) (λ i. total (b i) (runs_of numbers ends masks i)) (λ i l. made_few i (omega arith)) in
        let u = sum_suc q (λ i. total (b i) (runs_of numbers ends masks i)) in
        let v = sum_more (suc q) (length masks) (λ i. total (b i) (runs_of numbers ends masks i)) (omega arith) in
        cut_unspent (runs_of numbers ends masks q) (get_or thresholds q 0) a.left (question_fit q h) (b q) (each-run q h) (omega (arith, large))
        (sym (ap (λ (x : Ended). x.refused) a.is) ∙ e)

    never_spent : (d : ManyCheck) → Ending 0 ws (length masks) d → call_refused_by (many_outcome d (events_of ws)) ≢ 7
    unfolding call_refused_by many_outcome
    never_spent d (finished l f) e = omega arith
    never_spent d (stopped j k x i l m f g) e = unspent j (omega arith) (g ∙ e)

    pub many_unspent : call_refused_by (query_many numbers ends masks thresholds allowance answers certificate results).outcome ≢ 7
    unfolding query_many answered_many ws c
    many_unspent = rw (checked, query_many) (never_spent c end)

  -- so it is with the bounds by certificates of each question's chosen runs
  bounds_enough : (ps : ℕ → List Part) → ((q : ℕ) → q < length masks → TrueCertificate (runs_of numbers ends masks q) (get_or thresholds q 0) (ps q))
      → sum_to (length masks) (λ q. bound (length (ps q)) (runs_of numbers ends masks q)) ≤ allowance → call_refused_by (many_outcome c (events_of ws)) ≢ 7
  unfolding bound
  bounds_enough ps t l =
      never_spent (λ q. bound_in (length (ps q)))
      (λ q h. let f = fewer c end in (bounded q h (ps q) (t q (omega arith))).each_whole) l c end

  pub certified_many : (q : ℕ) → q < begun_of (length masks) (query_many numbers ends masks thresholds allowance answers certificate results).outcome
      → Certified (runs_of numbers ends masks q) (get_or thresholds q 0) (ended_by (query_many numbers ends masks thresholds allowance answers certificate results).outcome q)
      (parts_of_question (query_many numbers ends masks thresholds allowance answers certificate results).outcome
      (length (whole_certificate (get_or thresholds q 0) (runs_of numbers ends masks q))) q)
      (own_in (query_many numbers ends masks thresholds allowance answers certificate results).answers
      (query_many numbers ends masks thresholds allowance answers certificate results).results
      (finished_of (length masks) (query_many numbers ends masks thresholds allowance answers certificate results).outcome)
      (all_answers (query_many numbers ends masks thresholds allowance answers certificate results).outcome) 0 q)
      (own_in (query_many numbers ends masks thresholds allowance answers certificate results).certificate
      (query_many numbers ends masks thresholds allowance answers certificate results).results
      (finished_of (length masks) (query_many numbers ends masks thresholds allowance answers certificate results).outcome)
      (all_bytes (query_many numbers ends masks thresholds allowance answers certificate results).outcome) 1 q)
  unfolding query_many answered_many ws c
  certified_many = rw (checked, query_many) certified_each

  pub bounded_many : (ps : ℕ → List Part)
      → ((q : ℕ) → q < length masks → TrueCertificate (runs_of numbers ends masks q) (get_or thresholds q 0) (ps q))
      → ManyBounded numbers ends masks thresholds allowance (walks_of numbers ends masks thresholds allowance answers certificate)
      (query_many numbers ends masks thresholds allowance answers certificate results).outcome
      (query_many numbers ends masks thresholds allowance answers certificate results).certificate
      (query_many numbers ends masks thresholds allowance answers certificate results).results (λ q. length (ps q))
  unfolding query_many answered_many ws c
  bounded_many ps t =
      rw (checked, query_many)
      (record {
        fewest = λ q h. whole_fewest (every_fit q h) (t q h);
        each_whole = λ q h r m. let f = whole_fewest (every_fit q h) (t q h) in whole_bound (every_fit q h) (length (ps q)) r m (omega arith);
        each = bounded_each ps t;
        parts = parts_sum;
        probes = probes_sum;
        doublings = doublings_sum;
        halvings = halvings_sum;
        enough = bounds_enough ps t;
      })

pub many_demand2 : (numbers ends masks thresholds : List ℕ) (allowance : ℕ) (answers certificate results : List ℕ) → Fits past_bin numbers
    → ManyDemand2 numbers ends masks thresholds results (query_many numbers ends masks thresholds allowance answers certificate results).outcome
    (query_many numbers ends masks thresholds allowance answers certificate results).answers
    (query_many numbers ends masks thresholds allowance answers certificate results).certificate
    (query_many numbers ends masks thresholds allowance answers certificate results).results
many_demand2 numbers ends masks thresholds allowance answers certificate results h =
    record { for_every = λ e. certified_many numbers ends masks thresholds allowance answers certificate results h e }

pub many_demand3 : (numbers ends masks thresholds : List ℕ) (allowance : ℕ) (answers certificate results : List ℕ) → Fits past_bin numbers
    → ManyDemand3 numbers ends masks thresholds allowance answers certificate results
    (query_many numbers ends masks thresholds allowance answers certificate results).outcome
    (query_many numbers ends masks thresholds allowance answers certificate results).certificate
    (query_many numbers ends masks thresholds allowance answers certificate results).results
many_demand3 numbers ends masks thresholds allowance answers certificate results h =
    record { for_every = λ e ps t. bounded_many numbers ends masks thresholds allowance answers certificate results h e ps t }
