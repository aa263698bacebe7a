-- `apply` is the relation `Moves`: it does an event exactly when the rules permit it, and leads where they say.
-- Assumes nothing.
use mathlib.Core.Path.{◌≡◌, sym, subst}
use mathlib.Core.Bool.{Bool}
use mathlib.Core.Logic.{◌↔◌}
use Rattle.model.specs.declared.event.Event.{Event}
use Rattle.model.specs.declared.event.Event.TheVariants as event
use Rattle.model.specs.Net.{Net, State}
use Rattle.model.specs.Moves.{Ends, Ticks, Moves}
use Rattle.model.specs.Rules.{done, apply}
use Rattle.model.proofs.Tests.{never}
use Rattle.model.proofs.ForwardSteps.{end-passes, tick-passes, ends, ticks, ends-only, ticks-only, start-exact}

-- DEMAND 2, for one event: `apply` does exactly what the rules permit
pub apply-exact : (N : Net) (begun : Bool) (S : State) (e : Event) (S' : State)
    → (apply N begun S e ≡ done S') ↔ Moves N begun S e S'
unfolding apply
apply-exact N begun S event.Tick S' = (
  (λ d. let (s, (f, (a, r))) = (tick-passes N begun S S').0 d in subst (Ticks N S) r (ticks N S s f a)),
  λ m. (tick-passes N begun S S').1 (m.no_start_owed, (m.no_end_owed, (m.running, ticks-only N S m))),
)
apply-exact N begun S (event.Start t) S' = start-exact N begun S t S'
apply-exact N begun S (event.End t age) S' = (
  (λ d. let (l, (i, (o, (a, (r, q))))) = (end-passes N begun S S' t age).0 d in
      subst (Ends N begun S t age.0) q (ends N S t age.0 l i o a r)),
  λ m. (end-passes N begun S S' t age).1 (m.known, (m.timely, (m.may_end, (m.active, (m.room, ends-only N S m))))),
)
apply-exact N begun S event.Malformed S' = ((λ d. never (sym d)), λ m. absurd m)

-- so the rules lead to one state at most
pub moves-once : (N : Net) (begun : Bool) (S : State) (e : Event) (S₁ S₂ : State)
    → Moves N begun S e S₁ → Moves N begun S e S₂ → S₁ ≡ S₂
moves-once N begun S e S₁ S₂ m₁ m₂ =
    let d₁ = (apply-exact N begun S e S₁).1 m₁ in
    let d₂ = (apply-exact N begun S e S₂).1 m₂ in
    cc
