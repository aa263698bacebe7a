-- What each event does to the total; and of a net that balances, that events, steps back, and any mixture of them leave it as it was.
-- Assumes nothing.
use mathlib.Core.Path.{◌≡◌, refl, sym, ap, ◌∙◌}
use mathlib.Core.Bool.{Bool}
use mathlib.Core.List.{List}
use Prim.Native.Nat.{ℕ, ◌+◌, ◌*◌, ◌/◌, ◌<◌, ◌≤◌}
use native.Mathlib.Nat.{mul-add, mul_comm, le-div_iff_mul-le}
use native.Mathlib.Omega.{arith}
use Rattle.model.specs.declared.event.Event.{Event}
use Rattle.model.specs.declared.event.Event.TheVariants as event
use Rattle.model.specs.Tab.{sum}
use Rattle.model.specs.Net.{Net, State, Lawful, width, tokens, count}
use Rattle.model.specs.Moves.{Starts, Ends, Ticks, Moves}
use Rattle.model.specs.Run.{WalkTold, Leads, stay, move, Walked, walk}
use Rattle.model.proofs.Sums.{sum_same, sum-add, sum-older, le-sum, rows_more}
use Rattle.model.proofs.Shape.{width-pos, lfd-fits}
use Rattle.model.proofs.Lawful.{moves-lawful, zero-from-lfd}
use Rattle.model.proofs.Run.{run_ran}
use Rattle.model.proofs.Walk.{walk-walked}
use Rattle.balance.specs.Weights.{weighed, weight_in, weight_out, Balanced, running, firings_weight, total}
use Rattle.balance.specs.Demands.{Accounted, Wanders, TotalKept}

-- WEIGHED TOKENS

module _ (P : ℕ) (w : ℕ → ℕ) where
  pub weighed-same : (f g : ℕ → ℕ) → ((p : ℕ) → p < P → f p ≡ g p) → weighed P w f ≡ weighed P w g
  unfolding weighed
  weighed-same f g h = sum_same P (λ p. w p * f p) (λ p. w p * g p) (λ p l. ap (λ (x : ℕ). w p * x) (h p l))

  weighed-add : (f g h : ℕ → ℕ) → ((p : ℕ) → p < P → f p ≡ g p + h p) → weighed P w f ≡ weighed P w g + weighed P w h
  unfolding weighed
  weighed-add f g h e =
      sum-add P (λ p. w p * f p) (λ p. w p * g p) (λ p. w p * h p) (λ p l. rw (e p l) (mul-add (w p) (g p) (h p)))

module _ (N : Net) (w : ℕ → ℕ) where
  -- THE EVENTS

  starts-keep : (S : State) (t : ℕ) (S' : State) → Starts N S t S' → total N w S' ≡ total N w S
  unfolding total firings_weight running
  starts-keep S t S' m =
      let marks = weighed-add N.places w (tokens S) (tokens S') (N.takes t) (λ p l. sym (m.marked p l)) in
      let runs = rows_more N.transitions (width N) (count S) (count S') (weight_in N w) t 0 m.known (width-pos N) m.counted in
      omega arith

  ends-change : (started : Bool) (S : State) (t j : ℕ) (S' : State) → Ends N started S t j S'
      → total N w S' + weight_in N w t ≡ total N w S + weight_out N w t
  unfolding total firings_weight running
  ends-change started S t j S' m =
      let marks = weighed-add N.places w (tokens S') (tokens S) (N.gives t) m.marked in
      let young : j < width N = omega (arith, lfd-fits N t m.known, m.timely.1) in
      let runs = rows_more N.transitions (width N) (count S') (count S) (weight_in N w) t j m.known young
      (λ u k a b. sym (m.counted u k a b)) in
      omega arith

  -- the last column of a state that may tick is empty, so no firing is lost
  ticks-keep : (S S' : State) → Lawful N S → Ticks N S S' → total N w S' ≡ total N w S
  unfolding total firings_weight running
  ticks-keep S S' s m =
      let marks = weighed-same N.places w (tokens S') (tokens S) m.marked in
      let runs : sum N.transitions (λ t. sum (width N) (count S' t) * weight_in N w t)
      ≡ sum N.transitions (λ t. sum (width N) (count S t) * weight_in N w t) =
      sum_same N.transitions (λ t. sum (width N) (count S' t) * weight_in N w t)
      (λ t. sum (width N) (count S t) * weight_in N w t)
      (λ t l. ap (λ (x : ℕ). x * weight_in N w t) (row t l)) in
      omega arith
    where
      row : (t : ℕ) → t < N.transitions → sum (width N) (count S' t) ≡ sum (width N) (count S t)
      row t l =
          sum-older (width N) (count S t) (count S' t) (m.fresh t l) (λ j k. m.aged t j l k)
          (λ j e. zero-from-lfd s t j l (m.no_end_owed t l) (omega (arith, lfd-fits N t l)))

  pub accounted : Accounted N w
  accounted = record { at_start = starts-keep; at_tick = ticks-keep; at_end = ends-change }

  -- THE BOUND

  -- no place holds more than the total over its weight
  pub place-holds : (S : State) (p : ℕ) → p < N.places → 0 < w p → tokens S p ≤ total N w S / w p
  unfolding total weighed
  place-holds S p l pos =
      let own : w p * tokens S p ≤ sum N.places (λ q. w q * tokens S q) = le-sum N.places (λ q. w q * tokens S q) p l in
      let turned : tokens S p * w p ≡ w p * tokens S p = mul_comm (tokens S p) (w p) in
      (le-div_iff_mul-le pos).1 (omega arith)

  -- OF A NET THAT BALANCES

  module _ (even : Balanced N w) where
    pub moves-keep : (started : Bool) (S : State) (e : Event) (S' : State) → Lawful N S → Moves N started S e S' → total N w S' ≡ total N w S
    moves-keep started S event.Tick S' s m = ticks-keep S S' s m
    moves-keep started S (event.Start t) S' s m = starts-keep S t S' m
    moves-keep started S (event.End t age) S' s m = omega (arith, ends-change started S t age.0 S' m, even t m.known)
    moves-keep started S event.Malformed S' s m = absurd m

    -- in whatever order
    wanders-keep : {S S' : State} → Lawful N S → Wanders N S S' → total N w S' ≡ total N w S
    wanders-keep s Wanders.stay = refl
    wanders-keep s (Wanders.forth {S} {S₁} started e m rest) =
        wanders-keep (moves-lawful started e s m) rest ∙ moves-keep started S e S₁ s m
    wanders-keep s (Wanders.back {S} {S₁} started e s₁ m rest) =
        wanders-keep s₁ rest ∙ sym (moves-keep started S₁ e S s₁ m)

    -- RUNS AND WALKS

    pub leads-keep : {started : Bool} {S S' : State} {es : List Event} → Lawful N S → Leads N started S es S' → total N w S' ≡ total N w S
    leads-keep s stay = refl
    leads-keep {started} s (move {S = S} {S₁ = S₁} {e = e} m rest) =
        leads-keep (moves-lawful started e s m) rest ∙ moves-keep started S e S₁ s m

    pub walked-keep : (started : Bool) (S' : State) (es : List Event) (n : ℕ) (r : WalkTold) → Walked N started S' es n r
        → total N w r.state ≡ total N w S'
    walked-keep started S' es n r (Walked.too_many l a b c d e) = ap (total N w) e
    walked-keep started S' es n r (Walked.within l h) = sym (leads-keep h.lawful h.led)

    pub total_kept : TotalKept N w
    total_kept = record {
      after_event = moves-keep;
      any_order = λ S S' s g. wanders-keep s g;
      after_run = λ started S es s. leads-keep s (run_ran N started S es).led;
      after_walk = λ started S es n s. walked-keep started S es n (walk N started S es n) (walk-walked N started S s es n);
      no_place_over = λ S S' s g p l pos. rw (← wanders-keep s g) (place-holds S' p l pos);
    }
