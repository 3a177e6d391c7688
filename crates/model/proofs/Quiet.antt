-- Searches write nothing, so only the probes left can end them. Where these are enough all of them are done; otherwise the first ones, as many as are left,
-- and of a search its doubling probes first. Assumes nothing.
use Prim.Native.Nat.{ℕ, zero, suc, ◌+◌, ◌-◌, ◌≤◌, ◌<◌}
use borrow.Author.Tests.{eq-eqb, ne_eqb}
use lib.ListN.{replicate}
use mathlib.Core.List.{List, [], ◌∷◌, ◌++◌, append-nil}
use mathlib.Core.Logic.{⊎_elim, ◌≢◌}
use mathlib.Core.Path.{◌≡◌, refl, sym, ap, ◌∙◌}
use native.Mathlib.Omega.{arith}
use Rattle.model.specs.Compared.{parts_of, cost, doubling_probe, halving_probe, probe, doublings_of, halvings_of, probes_of}
use Rattle.model.specs.Refusals.{Room, met, after, Ended, cut}
use Rattle.model.specs.Rows.{halvings_within}
use Rattle.model.specs.Runs.{Run}
use Rattle.model.specs.Walk.{Event, sought, doubled, halved, head, seek, search_in, searches}
use Rattle.model.proofs.Bounds.{search_made, search_none}
use Rattle.model.proofs.Cutting.{cut_on, cut_here, cut_cost}
use Rattle.model.proofs.Events.{cost_append, cost_replicate, both_kinds}
use Rattle.model.proofs.Tests.{lt_or_le}

-- what a room is after so many probes
unfoldable pub spent : Room → ℕ → Room
spent room n = record { probes = room.probes - n; answers = room.answers; bytes = room.bytes }

-- one probe, of either kind
pub record OneProbe (e : Event) : Type 0 where
  costs : probe e ≡ 1
  silent : (es : List Event) → parts_of (e ∷ es) ≡ parts_of es
  allowed : (room : Room) → room.probes ≢ 0 → met room e ≡ 0
  due : (room : Room) → room.probes ≡ 0 → met room e ≡ 7
  leaves : (room : Room) → after room e ≡ spent room 1

one_doubling : (l : ℕ) → OneProbe (doubled l)
unfolding probe doubling_probe halving_probe parts_of met after spent
one_doubling l =
    record {
      costs = refl;
      silent = λ es. refl;
      allowed = λ room n. rw (ne_eqb room.probes 0 n, met);
      due = λ room e. rw (eq-eqb room.probes 0 e, met);
      leaves = λ room. refl;
    }

one_halving : (l : ℕ) → OneProbe (halved l)
unfolding probe doubling_probe halving_probe parts_of met after spent
one_halving l =
    record {
      costs = refl;
      silent = λ es. refl;
      allowed = λ room n. rw (ne_eqb room.probes 0 n, met);
      due = λ room e. rw (eq-eqb room.probes 0 e, met);
      leaves = λ room. refl;
    }

-- events that are searches begun and probes, and nothing else
pub data Quiet : List Event → Type 0 where
  quiet_nil : Quiet []
  quiet_sought : {l : ℕ} {es : List Event} → Quiet es → Quiet (sought l ∷ es)
  quiet_probe : {e : Event} {es : List Event} → OneProbe e → Quiet es → Quiet (e ∷ es)

quiet_append : {as' bs : List Event} → Quiet as' → Quiet bs → Quiet (as' ++ bs)
quiet_append quiet_nil q = q
quiet_append (quiet_sought p) q = quiet_sought (quiet_append p q)
quiet_append (quiet_probe o p) q = quiet_probe o (quiet_append p q)

quiet_probes : (n : ℕ) {e : Event} → OneProbe e → Quiet (replicate n e)
quiet_probes zero o = quiet_nil
quiet_probes (suc n) o = quiet_probe o (quiet_probes n o)

-- a search, its doubling and its halving
quiet_doubling : (n l : ℕ) → Quiet (sought l ∷ replicate n (doubled l))
quiet_doubling n l = quiet_sought (quiet_probes n (one_doubling l))

pub quiet_search : (v : ℕ) (r : Run) → Quiet (search_in v r)
quiet_search v r =
    ⊎_elim
    (λ (h : head r < v).
    rw (search_made v r h)
    (quiet_append (quiet_doubling (seek v r.bins).doublings r.label) (quiet_probes (seek v r.bins).halvings (one_halving r.label))))
    (λ (h : v ≤ head r). rw (search_none v r h) quiet_nil)
    (lt_or_le (head r) v)

pub quiet_searches : (v : ℕ) (rs : List Run) → Quiet (searches v rs)
unfolding searches
quiet_searches v [] = quiet_nil
quiet_searches v (r ∷ rs) = quiet_append (quiet_search v r) (quiet_searches v rs)

-- they write nothing
pub quiet_parts : {ds : List Event} (es : List Event) → Quiet ds → parts_of (ds ++ es) ≡ parts_of es
unfolding parts_of
quiet_parts es quiet_nil = refl
quiet_parts es (quiet_sought q) = quiet_parts es q
quiet_parts es (quiet_probe {es = ds} o q) = o.silent (ds ++ es) ∙ quiet_parts es q

-- ---- searches cut

spent_none : (room : Room) → room ≡ spent room 0
unfolding spent
spent_none room = let e : room.probes ≡ room.probes - 0 = omega arith in λ i. record { probes = e i; answers = room.answers; bytes = room.bytes }

spent_more : (room : Room) (n : ℕ) → spent (spent room 1) n ≡ spent room (1 + n)
unfolding spent
spent_more room n =
    let e : room.probes - 1 - n ≡ room.probes - (1 + n) = omega arith in λ i. record { probes = e i; answers = room.answers; bytes = room.bytes }

spent_probes : (room : Room) (n : ℕ) → (spent room n).probes ≡ room.probes - n
unfolding spent
spent_probes room n = refl

-- a search begun, and a probe that is allowed
cut_sought : (room : Room) (l : ℕ) (es : List Event) → cut room (sought l ∷ es) ≡ record { events = sought l ∷ (cut room es).events; refused = (cut room es).refused }
unfolding met after
cut_sought room l es = cut_on room (sought l) es refl

cut_probe : (room : Room) (e : Event) (es : List Event) → OneProbe e → room.probes ≢ 0
    → cut room (e ∷ es) ≡ record { events = e ∷ (cut (spent room 1) es).events; refused = (cut (spent room 1) es).refused }
cut_probe room e es o n =
    cut_on room e es (o.allowed room n) ∙ ap (λ x. record { events = e ∷ (cut x es).events; refused = (cut x es).refused }) (o.leaves room)

probes_more : (e : Event) (es : List Event) → OneProbe e → probes_of (e ∷ es) ≡ 1 + probes_of es
unfolding probes_of cost
probes_more e es o = let c = o.costs in omega arith

probes_sought : (l : ℕ) (es : List Event) → probes_of (sought l ∷ es) ≡ probes_of es
unfolding probes_of cost probe doubling_probe halving_probe
probes_sought l es = omega arith

probes_nil : probes_of [] ≡ 0
unfolding probes_of cost
probes_nil = refl

-- The probes left are enough for them: they are all done, and what comes after has so many probes fewer.
pub cut_quiet : (room : Room) {ds : List Event} (es : List Event) → Quiet ds → probes_of ds ≤ room.probes
    → cut room (ds ++ es) ≡ record { events = ds ++ (cut (spent room (probes_of ds)) es).events; refused = (cut (spent room (probes_of ds)) es).refused }
cut_quiet room es quiet_nil h =
    let e : room ≡ spent room (probes_of []) = spent_none room ∙ ap (spent room) (sym probes_nil) in
    ap (λ x. record { events = (cut x es).events; refused = (cut x es).refused }) e
cut_quiet room es (quiet_sought {l = l} {es = ds} q) h =
    let n = probes_sought l ds in
    cut_sought room l (ds ++ es)
    ∙ (ap (λ (x : Ended). record { events = sought l ∷ x.events; refused = x.refused }) (cut_quiet room es q (omega arith))
    ∙ ap (λ k. record { events = sought l ∷ (ds ++ (cut (spent room k) es).events); refused = (cut (spent room k) es).refused }) (sym n))
cut_quiet room es (quiet_probe {e = e} {es = ds} o q) h =
    let n = probes_more e ds o in
    let p = spent_probes room 1 in
    let k : spent (spent room 1) (probes_of ds) ≡ spent room (probes_of (e ∷ ds)) = spent_more room (probes_of ds) ∙ ap (spent room) (sym n) in
    cut_probe room e (ds ++ es) o (omega arith)
    ∙ (ap (λ (x : Ended). record { events = e ∷ x.events; refused = x.refused }) (cut_quiet (spent room 1) es q (omega arith))
    ∙ ap (λ x. record { events = e ∷ (ds ++ (cut x es).events); refused = (cut x es).refused }) k)

-- They are not enough: refusal 7 ends them, whatever comes after and whatever room there is for parts, and all that were left are made.
pub record Spent (n : ℕ) (es : List Event) : Type 0 where
  pub done : List Event
  pub quiet : Quiet done
  pub probes : probes_of done ≡ n
  pub is_cut : (room : Room) → room.probes ≡ n → (fs : List Event) → cut room (es ++ fs) ≡ record { events = done; refused = 7 }

pub spent_quiet : (n : ℕ) {ds : List Event} → Quiet ds → n < probes_of ds → Spent n ds
spent_quiet n quiet_nil h = let z = probes_nil in absurd (omega arith)
spent_quiet n (quiet_sought {l = l} {es = ds} q) h =
    let p = probes_sought l ds in
    let s = spent_quiet n q (omega arith) in
    let k = probes_sought l s.done in
    let e = s.probes in
    record {
      done = sought l ∷ s.done;
      quiet = quiet_sought s.quiet;
      probes = omega arith;
      is_cut = λ room i fs.
          cut_sought room l (ds ++ fs) ∙ ap (λ (x : Ended). record { events = sought l ∷ x.events; refused = x.refused }) (s.is_cut room i fs);
    }
spent_quiet zero (quiet_probe {e = e} {es = ds} o q) h =
    record { done = []; quiet = quiet_nil; probes = probes_nil; is_cut = λ room i fs. cut_here room 6 e (ds ++ fs) (o.due room i) }
spent_quiet (suc n) (quiet_probe {e = e} {es = ds} o q) h =
    let p = probes_more e ds o in
    let s = spent_quiet n q (omega arith) in
    let k = probes_more e s.done o in
    let j = s.probes in
    record {
      done = e ∷ s.done;
      quiet = quiet_probe o s.quiet;
      probes = omega arith;
      is_cut = λ room i fs.
          let r = spent_probes room 1 in
          cut_probe room e (ds ++ fs) o (omega arith)
          ∙ ap (λ (x : Ended). record { events = e ∷ x.events; refused = x.refused }) (s.is_cut (spent room 1) (omega arith) fs);
    }

-- ---- halving probes of searches cut

-- searches that are all done, and those after them
pub within_on : (n : ℕ) {ds : List Event} (es : List Event) → Quiet ds → probes_of ds ≤ n
    → halvings_within n (ds ++ es) ≡ halvings_of ds + halvings_within (n - probes_of ds) es
unfolding halvings_within halvings_of spent
within_on n {ds} es q h =
    ap (λ (x : Ended). halvings_of x.events) (cut_quiet (record { probes = n; answers = 0; bytes = 0 }) es q h) ∙ cost_append halving_probe ds _

-- searches that are cut short
pub within_done : {n : ℕ} {ds : List Event} (s : Spent n ds) (es : List Event) → halvings_within n (ds ++ es) ≡ halvings_of s.done
unfolding halvings_within
within_done s es = ap (λ (x : Ended). halvings_of x.events) (s.is_cut (record { probes = _; answers = 0; bytes = 0 }) refl es)

pub within_alone : {n : ℕ} {ds : List Event} (s : Spent n ds) → halvings_within n ds ≡ halvings_of s.done
within_alone {n} {ds} s = ap (halvings_within n) (sym (append-nil ds)) ∙ within_done s []

pub within_first : (n : ℕ) {ds : List Event} (es : List Event) → Quiet ds → n < probes_of ds → halvings_within n (ds ++ es) ≡ halvings_within n ds
within_first n es q h = let s = spent_quiet n q h in within_done s es ∙ sym (within_alone s)

-- what is done of them costs no more than all of them
done_cost : (c : Event → ℕ) {n : ℕ} {ds : List Event} (s : Spent n ds) → cost c s.done ≤ cost c ds
done_cost c {n} {ds} s =
    let room : Room = record { probes = n; answers = 0; bytes = 0 } in
    let e = ap (λ (x : Ended). cost c x.events) (ap (cut room) (sym (append-nil ds)) ∙ s.is_cut room refl []) in
    let k = cut_cost c room ds in
    omega arith

-- One search: its doubling probes are made first. (Here: of its d doubling and m halving probes.)
within_one : (n d m l : ℕ) → n < d + m → halvings_within n ((sought l ∷ replicate d (doubled l)) ++ replicate m (halved l)) ≡ n - d
unfolding probes_of doublings_of halvings_of cost probe doubling_probe halving_probe
within_one n d m l h =
    let ds = sought l ∷ replicate d (doubled l) in
    let hs = replicate m (halved l) in
    let p : probes_of ds ≡ d = let c = cost_replicate probe d (doubled l) in omega arith in
    let o : halvings_of ds ≡ 0 = let c = cost_replicate halving_probe d (doubled l) in omega arith in
    let i : probes_of hs ≡ m = let c = cost_replicate probe m (halved l) in omega arith in
    let j : doublings_of hs ≡ 0 = let c = cost_replicate doubling_probe m (halved l) in omega arith in
    ⊎_elim
    (λ (k : n < d).
    let s = spent_quiet n (quiet_doubling d l) (omega arith) in
    let c = done_cost halving_probe s in
    within_done s hs ∙ omega arith)
    (λ (k : d ≤ n).
    let s = spent_quiet (n - probes_of ds) (quiet_probes m (one_halving l)) (omega arith) in
    let c = done_cost doubling_probe s in
    let b = both_kinds s.done in
    let e = s.probes in
    let a = within_alone s in
    within_on n hs (quiet_doubling d l) (omega arith) ∙ omega arith)
    (lt_or_le n d)

pub within_search : (n v : ℕ) (r : Run) → head r < v → n < (seek v r.bins).doublings + (seek v r.bins).halvings
    → halvings_within n (search_in v r) ≡ n - (seek v r.bins).doublings
within_search n v r h k = rw (search_made v r h) (within_one n _ _ r.label k)
