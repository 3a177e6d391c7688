-- The rounds of a walk made until one ends it: what holds before each. Assumes nothing.
use Prim.Native.Nat.{ℕ, suc, ◌+◌, ◌-◌, ◌≤◌}
use mathlib.Core.List.{List}
use mathlib.Core.Path.{◌≡◌, ap, ◌∙◌}
use native.Mathlib.Omega.{arith}
use Rattle.model.specs.Runs.{Run}
use Rattle.model.specs.Walk.{round, walk}
use Rattle.walk_tally.specs.Tally.{undoubled}
use Rattle.walk_write.specs.Writes.{goes_on, ends_with, Fitted}
use Rattle.walk_settle.specs.Turns.{Stands, Chooses, Goes}
use Rattle.walk_advance.specs.Advances.{Raises}
use Rattle.walk_rounds.specs.Ends.{Finishes, number_at, state_at}
use Rattle.walk_write.specs.declared.State.{State}
use Rattle.walk_write.specs.declared.Turn.TheVariants.{On}
use Rattle.walk_write.specs.declared.Stopped.{Stopped}
use Rattle.std.specs.Prelude.{Result, Ok}
use Rattle.walk_state.specs.State.{chosen_at}

-- so many rounds are made from the state w on, with these buffers then
pub record Made (numbers ends ws : List ℕ) (m t : ℕ) (rs : List Run) (w : State) (A B positions keys A' B' : List ℕ) (x : State) : Type 0 where
  pub stands : Stands numbers ends ws positions keys t x
  pub chooses : Chooses m numbers ends ws positions t
  pub fits : Fitted B' x
  pub left : undoubled x.tally ≤ undoubled w.tally
  pub made : ℕ
  pub raised : w.floor + made ≤ x.floor
  pub goes : (allowance n : ℕ) → undoubled w.tally ≤ allowance
      → goes_on allowance w A B (walk (made + n) t w.floor rs) ≡ goes_on allowance x A' B' (walk n t x.floor (chosen_at ws m numbers positions ends))

pub made_none : (numbers ends ws : List ℕ) (m t : ℕ) (w : State) (A B positions keys : List ℕ) → Stands numbers ends ws positions keys t w
    → Chooses m numbers ends ws positions t → Fitted B w
    → Made numbers ends ws m t (chosen_at ws m numbers positions ends) w A B positions keys A B w
made_none numbers ends ws m t w A B positions keys s c f =
    record {
      stands = s;
      chooses = c;
      fits = f;
      left = omega arith;
      made = 0;
      raised = omega arith;
      goes = λ allowance n l. let e : 0 + n ≡ n = omega arith in ap (λ k. goes_on allowance w A B (walk k t w.floor (chosen_at ws m numbers positions ends))) e;
    }

-- the next round begins
one_more : (numbers ends ws : List ℕ) (m t : ℕ) (rs : List Run) (w : State) (A B positions keys A' B' : List ℕ) (x : State)
    (h : Made numbers ends ws m t rs w A B positions keys A' B' x) (allowance n k : ℕ) → undoubled w.tally ≤ allowance → k ≡ h.made + suc n
    → goes_on allowance w A B (walk k t w.floor rs) ≡ goes_on allowance x A' B' (round (walk n t) t x.floor (chosen_at ws m numbers positions ends))
unfolding walk
one_more numbers ends ws m t rs w A B positions keys A' B' x h allowance n k l e =
    ap (λ i. goes_on allowance w A B (walk i t w.floor rs)) e ∙ h.goes allowance (suc n) l

pub made_more : (numbers ends ws : List ℕ) (m t : ℕ) (rs : List Run) (w : State) (A B positions keys A' B' : List ℕ) (x : State)
    → Made numbers ends ws m t rs w A B positions keys A' B' x → (positions'' keys'' A'' B'' : List ℕ) (y : State)
    → Goes (λ n. round (walk n t) t x.floor (chosen_at ws m numbers positions ends)) m numbers ends ws t x A' B' positions'' keys'' A'' B'' (Ok (On y)) × Raises x.floor (Ok (On y))
    → Made numbers ends ws m t rs w A B positions'' keys'' A'' B'' y
made_more numbers ends ws m t rs w A B positions keys A' B' x h positions'' keys'' A'' B'' y (g, r) =
    let l = h.left in
    let k = g.3 in
    let d = h.raised in
    record {
      stands = g.0;
      chooses = g.1;
      fits = g.2;
      left = omega arith;
      made = suc h.made;
      raised = omega arith;
      goes = λ allowance n a.
          one_more numbers ends ws m t rs w A B positions keys A' B' x h allowance n (suc h.made + n) a (omega arith) ∙ g.4 allowance n (omega arith);
    }

-- a round that ends the walk
pub made_all : (numbers ends ws : List ℕ) (m t : ℕ) (rs : List Run) (w : State) (A B positions keys A' B' : List ℕ) (x : State)
    → Made numbers ends ws m t rs w A B positions keys A' B' x → (A'' B'' : List ℕ) (r : Result State Stopped) → undoubled (state_at r).tally ≤ undoubled x.tally
    → ((allowance n : ℕ) → undoubled x.tally ≤ allowance
    → goes_on allowance x A' B' (round (walk n t) t x.floor (chosen_at ws m numbers positions ends)) ≡ ends_with (number_at r) allowance (state_at r) A'' B'')
    → Finishes rs t w A B A'' B'' r
made_all numbers ends ws m t rs w A B positions keys A' B' x h A'' B'' r k g =
    let l = h.left in
    record {
      left = omega arith;
      comes_to = λ allowance n a p.
          let d = h.raised in
          let b = h.stands.bin in
          one_more numbers ends ws m t rs w A B positions keys A' B' x h allowance (n - suc h.made) n a (omega arith) ∙ g allowance (n - suc h.made) (omega arith);
    }
