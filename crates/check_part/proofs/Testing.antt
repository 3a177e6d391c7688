-- The tests of one part, each as a law about the model's checks in order. Assumes nothing.
use Prim.Native.Nat.{ℕ, suc, ◌+◌, ◌-◌, ◌^◌, ◌≤◌, ◌<◌}
use borrow.Author.Tests.{eq-eqb, ne_eqb, lt-ltb, le-ltb, lt-leb, le-leb, eqb-true, not-false}
use lib.Bits.{bit_and}
use lib.Dec.{ltb, leb, eqb}
use lib.ListN.{length}
use mathlib.Core.Bool.{Bool, true, false, ◌||◌, not}
use mathlib.Core.List.{List, [], ◌∷◌}
use mathlib.Core.Logic.{◌≢◌, ⊎_elim}
use mathlib.Core.Path.{◌≡◌, refl, sym, ap, ap₂, ◌∙◌, subst}
use native.Mathlib.Omega.{arith}
use Rattle.field_read.specs.Reading.{part_of}
use Rattle.field_read.specs.declared.Part.TheVariants.{Answer, Gap}
use Rattle.model.proofs.Chosen.{chosen_nil, chosen_in, chosen_out, chosen_mem, chosen_weight, all_chosen_mask}
use Rattle.model.proofs.Count.{weight_not, weight_none}
use Rattle.model.proofs.FirstChecks.{all_length, all_labelled}
use Rattle.model.proofs.Masks.{and_bit}
use Rattle.model.proofs.Tests.{both, lt_or_le, or_false, true_false}
use Rattle.model.proofs.Weighted.{weighted_labelled, weighted_length}
use Rattle.model.specs.Certificate.{Part, answer, gap, first_of, last_of}
use Rattle.model.specs.Refusals.{◌then◌, refuse_if, misplaced, names_other, misnamed, contradicts, any_contradicts, check_part}
use Rattle.model.specs.Runs.{Run, past_bin, runs, weighted_run, weighted, weight_of, weight_of_all, bit, names, chosen, mask_of_all, most_runs}
use Rattle.weights.proofs.Named.{named_weight_law, only_of}
use Rattle.weights.specs.Named.{named_weight}
use Rattle.check_cursor.specs.Cursors.{Cursors}
use Rattle.check_scan.specs.Scan.{claim, part_is}
use Rattle.check_scan.specs.declared.Claim.{Claim}
use Rattle.refusal.specs.declared.Reason.{Reason}
use Rattle.refusal.specs.declared.Reason.TheVariants.{Order, Names, Contradicted}
use Rattle.std.specs.Prelude.{Result, Ok, Err}
use Rattle.check_scan.proofs.Naming.{unnamed}
use Rattle.check_part.specs.Tested.{chosen_runs, needed, Choice, numbered, Tested, PartChecked}

-- ---- a mask that names only chosen runs

named_only : (m c : ℕ) (d b : Bool) → b ≡ (not (eqb (bit_and m c) m) || d) → b ≡ false → bit_and m c ≡ m
named_only m c d b e h = eqb-true (bit_and m c) m (not-false (eqb (bit_and m c) m) (or_false (not (eqb (bit_and m c) m)) d (sym e ∙ h)).0)

pub named_below : (m c k : ℕ) (d b : Bool) → c < 2 ^ k → b ≡ (not (eqb (bit_and m c) m) || d) → b ≡ false → m < 2 ^ k
named_below m c k d b w e h = only_of m c k w (named_only m c d b e h)

unchosen : (m c : ℕ) (r : Run) → bit_and m c ≡ m → names c r ≡ false → names m r ≡ false
unfolding names
unchosen m c r e h =
    ⊎_elim
    (λ (q : names m r ≡ true). true_false (eq-eqb (bit c r.label) 1 (and_bit m c r.label e (eqb-true (bit m r.label) 1 q))) h)
    (λ (q : names m r ≡ false). q)
    (both (names m r))

-- the runs that are not chosen do not contradict the part
any_chosen : (held : Bool) (f l m c : ℕ) (rs : List Run) → bit_and m c ≡ m
    → any_contradicts (claim held f l m) (chosen c rs) ≡ any_contradicts (claim held f l m) rs
unfolding any_contradicts
any_chosen held f l m c [] e = ap (any_contradicts (claim held f l m)) (chosen_nil c)
any_chosen held f l m c (r ∷ rs) e =
    let i = any_chosen held f l m c rs e in
    ⊎_elim
    (λ (q : names c r ≡ true). rw (chosen_in c r rs q) (ap (λ x. contradicts (claim held f l m) r || x) i))
    (λ (q : names c r ≡ false).
    ap (any_contradicts (claim held f l m)) (chosen_out c r rs q)
    ∙ (i ∙ ap (λ x. x || any_contradicts (claim held f l m) rs) (unnamed held f l m r (unchosen m c r e q))))
    (both (names c r))

-- whether a run contradicts it does not depend on the run's weight
same_claim : (p : Part) (ws : List ℕ) (r : Run) → contradicts p (weighted_run ws r) ≡ contradicts p r
unfolding contradicts names weighted_run
same_claim (answer v m) ws r = refl
same_claim (gap f l m) ws r = refl

any_weighted : (p : Part) (ws : List ℕ) (rs : List Run) → any_contradicts p (weighted ws rs) ≡ any_contradicts p rs
unfolding any_contradicts weighted
any_weighted p ws [] = refl
any_weighted p ws (r ∷ rs) = ap₂ ◌||◌ (same_claim p ws r) (any_weighted p ws rs)

-- ---- what the named runs weigh

either : (b : Bool) {x y : Bool} → (b ≡ true → x ≡ y) → (not b || x) ≡ (not b || y)
either true h = h refl
either false h = refl

-- of the chosen runs: what those that a mask names weigh, where it names no other, and what all of them do
module _ (numbers ends weights : List ℕ) (c : ℕ) (k : length ends ≤ most_runs) (w : c < 2 ^ length ends) where
  of_runs : (m : ℕ) → m < 2 ^ length ends → weight_of (names m) (weighted weights (runs numbers ends)) ≡ named_weight weights m
  of_runs m h =
      let n = all_length numbers ends in
      named_weight_law weights m (runs numbers ends) (all_labelled numbers ends) (omega arith) (subst (λ x. m < 2 ^ x) (sym n) h)

  named_chosen : (m : ℕ) → bit_and m c ≡ m → weight_of (names m) (chosen_runs numbers ends weights c) ≡ named_weight weights m
  named_chosen m e =
      chosen_weight c (names m) (weighted weights (runs numbers ends)) (λ r n q. unchosen m c r e q)
      ∙ of_runs m (only_of m c (length ends) w e)

  pub all_chosen : weight_of_all (chosen_runs numbers ends weights c) ≡ named_weight weights c
  all_chosen =
      let rs = chosen_runs numbers ends weights c in
      let s = weight_not (names c) (λ r. false) rs (λ r n. sym (ap not (chosen_mem c (weighted weights (runs numbers ends)) n).1)) in
      let z = weight_none rs in
      let o = chosen_weight c (names c) (weighted weights (runs numbers ends)) (λ r n q. q) in
      let e = of_runs c w in
      omega arith

  mask_is : mask_of_all (chosen_runs numbers ends weights c) ≡ c
  mask_is =
      let n = weighted_length weights (runs numbers ends) ∙ all_length numbers ends in
      all_chosen_mask c (weighted weights (runs numbers ends)) (weighted_labelled weights (all_labelled numbers ends))
      (subst (λ x. c < 2 ^ x) (sym n) w)

  -- The runs that a gap leaves out weigh t or more exactly where those that it names weigh less than is needed.
  left_out : (m t : ℕ) → bit_and m c ≡ m → t ≤ named_weight weights c
      → leb t (weight_of (λ r. not (names m r)) (chosen_runs numbers ends weights c)) ≡ ltb (named_weight weights m) (named_weight weights c - t + 1)
  left_out m t e h =
      let u = weight_of (λ r. not (names m r)) (chosen_runs numbers ends weights c) in
      let s = weight_not (names m) (λ r. not (names m r)) (chosen_runs numbers ends weights c) (λ r n. refl) in
      let n = named_chosen m e in
      let a = all_chosen in
      ⊎_elim
      (λ (q : u < t). lt-leb t u q ∙ sym (le-ltb (named_weight weights m) (named_weight weights c - t + 1) (omega arith)))
      (λ (q : t ≤ u). le-leb t u q ∙ sym (lt-ltb (named_weight weights m) (named_weight weights c - t + 1) (omega arith)))
      (lt_or_le u t)

  named_is : (held : Bool) (f l m few t : ℕ) → t ≤ named_weight weights c → few ≡ needed (named_weight weights c) t held
      → misnamed (chosen_runs numbers ends weights c) t (claim held f l m) ≡ (not (eqb (bit_and m c) m) || ltb (named_weight weights m) few)
  unfolding misnamed names_other claim needed
  named_is true f l m few t h q =
      rw mask_is (either (eqb (bit_and m c) m) (λ e. ap₂ ltb (named_chosen m (eqb-true (bit_and m c) m e)) (sym q)))
  named_is false f l m few t h q =
      rw mask_is (either (eqb (bit_and m c) m) (λ e. left_out m t (eqb-true (bit_and m c) m e) h ∙ ap (ltb (named_weight weights m)) (sym q)))

-- ---- the tests in order

first_is : (k : Claim) → first_of (part_is k) ≡ k.first
unfolding claim first_of
first_is k = of_claim k.held k.first k.last k.mask
  where
    of_claim : (held : Bool) (f l m : ℕ) → first_of (claim held f l m) ≡ f
    of_claim true f l m = refl
    of_claim false f l m = refl

module _ (numbers ends weights : List ℕ) (c b : ℕ) (k : Claim) (few : ℕ) (cursors : List ℕ) (el : last_of (part_is k) ≡ k.last) where
  misplaced_here : misplaced b (part_is k) ≡ true → Tested numbers ends weights c b k few cursors (Err Order)
  unfolding check_part ◌then◌ refuse_if numbered
  misplaced_here e = record { refused_by = λ t at h q. rw e; ready = tt }

  pub other_first : k.first ≢ b → Tested numbers ends weights c b k few cursors (Err Order)
  unfolding misplaced
  other_first n = misplaced_here (rw (first_is k, ne_eqb k.first b n))

  pub other_last : k.first ≡ b → k.last < k.first → Tested numbers ends weights c b k few cursors (Err Order)
  unfolding misplaced
  other_last e h = misplaced_here (rw (first_is k, el, eq-eqb k.first b e, lt-ltb k.last k.first h))

  -- the part is in its place, and its mask has been tested
  module _ (n : length ends ≤ most_runs) (w : c < 2 ^ length ends) (e : k.first ≡ b) (h : k.first ≤ k.last) (s : k.first < past_bin) (x : Bool)
      (i : x ≡ (not (eqb (bit_and k.mask c) k.mask) || ltb (named_weight weights k.mask) few)) where
    placed : misplaced b (part_is k) ≡ false
    unfolding misplaced
    placed =
        let n : b ≢ past_bin = omega arith in
        rw (first_is k, el, eq-eqb k.first b e, le-ltb k.last k.first h, ne_eqb b past_bin n)

    pub misnamed_here : x ≡ true → Tested numbers ends weights c b k few cursors (Err Names)
    unfolding check_part ◌then◌ refuse_if numbered
    misnamed_here j =
        record {
          refused_by = λ t at g q. rw (placed, named_is numbers ends weights c n w k.held k.first k.last k.mask few t g q ∙ (sym i ∙ j));
          ready = tt;
        }

    module _ (j : x ≡ false) (y : Bool) (u : y ≡ any_contradicts (part_is k) (runs numbers ends)) where
      chosen_say : any_contradicts (part_is k) (chosen_runs numbers ends weights c) ≡ y
      chosen_say =
          any_chosen k.held k.first k.last k.mask c (weighted weights (runs numbers ends)) (named_only k.mask c (ltb (named_weight weights k.mask) few) x i j)
          ∙ (any_weighted (part_is k) weights (runs numbers ends) ∙ sym u)

      pub contradicted_here : y ≡ true → Tested numbers ends weights c b k few cursors (Err Contradicted)
      unfolding check_part ◌then◌ refuse_if numbered
      contradicted_here v =
          record {
            refused_by = λ t at g q. rw (placed, named_is numbers ends weights c n w k.held k.first k.last k.mask few t g q ∙ (sym i ∙ j), chosen_say ∙ v);
            ready = tt;
          }

      pub passed_here : y ≡ false → Cursors numbers ends cursors (suc k.last) → (v : Unit) → Tested numbers ends weights c b k few cursors (Ok v)
      unfolding check_part ◌then◌ refuse_if numbered
      passed_here v r z =
          record {
            refused_by = λ t at g q. rw (placed, named_is numbers ends weights c n w k.held k.first k.last k.mask few t g q ∙ (sym i ∙ j), chosen_say ∙ v);
            ready = subst (λ x. Cursors numbers ends cursors (suc x)) (sym el) r;
          }

-- ---- the code's parts

pub answer_last : (v m : ℕ) → last_of (claim true v v m) ≡ v
unfolding claim last_of
answer_last v m = refl

pub gap_last : (f l m : ℕ) → last_of (claim false f l m) ≡ l
unfolding claim last_of
gap_last f l m = refl

pub answer_checked : (numbers ends weights : List ℕ) (c b v m t total : ℕ) (cursors : List ℕ) (r : Result Unit Reason)
    → Choice ends weights c t total → Tested numbers ends weights c b (record { first = v; last = v; mask = m; held = true }) t cursors r
    → PartChecked numbers ends weights c t b (part_of (Answer v m)) cursors r
unfolding claim needed part_of
answer_checked numbers ends weights c b v m t total cursors r k h =
    record { refused_by = λ at. h.refused_by t at k.met refl; ready = h.ready }

pub gap_checked : (numbers ends weights : List ℕ) (c b f l m t total : ℕ) (cursors : List ℕ) (r : Result Unit Reason)
    → Choice ends weights c t total
    → Tested numbers ends weights c b (record { first = f; last = l; mask = m; held = false }) (total - t + 1) cursors r
    → PartChecked numbers ends weights c t b (part_of (Gap f l m)) cursors r
unfolding claim needed part_of
gap_checked numbers ends weights c b f l m t total cursors r k h =
    record { refused_by = λ at. h.refused_by t at k.met (ap (λ x. x - t + 1) k.all); ready = h.ready }
