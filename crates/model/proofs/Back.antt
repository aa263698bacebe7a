-- DEMAND 3: `back` gives the one lawful state from which the event leads here, and refuses where there is none.
-- Assumes nothing.
use mathlib.Core.Path.{◌≡◌, sym, subst}
use mathlib.Core.Bool.{Bool}
use mathlib.Core.Logic.{◌↔◌}
use Prim.Native.Nat.{ℕ, ◌<◌}
use native.Mathlib.Omega.{arith}
use Rattle.model.specs.declared.event.Event.{Event}
use Rattle.model.specs.declared.event.Event.TheVariants as event
use Rattle.model.specs.Net.{Net, State, Lawful, width}
use Rattle.model.specs.Moves.{Ends, Moves}
use Rattle.model.specs.Rules.{done, apply, back}
use Rattle.model.proofs.Tab.{one-here}
use Rattle.model.proofs.Tests.{never}
use Rattle.model.proofs.Shape.{lfd-fits}
use Rattle.model.proofs.Forward.{apply-exact}
use Rattle.model.proofs.BackSteps.{end-passes, from-unended, only-unended, untick-exact, unstart-exact}
use Rattle.model.proofs.Lawful.{moves-lawful}

-- `back`, against the relation: it is done with S exactly if S is lawful and the event leads from S to S'
pub back-exact : (N : Net) (begun : Bool) (S' : State) → Lawful N S' → (e : Event) (S : State)
    → (back N begun S' e ≡ done S) ↔ (Lawful N S × Moves N begun S e S')
unfolding back
back-exact N begun S' s' event.Tick S = untick-exact N begun S' s' S
back-exact N begun S' s' (event.Start t) S = unstart-exact N begun S' s' t S
back-exact N begun S' s' (event.End t age) S = (
  (λ d. let (l, (i, (o, (r, (a, q))))) = (end-passes N begun S' S t age).0 d in
      subst (λ (X : State). Lawful N X × Ends N begun X t age.0 S') q (from-unended N S' s' t age.0 l i o r a)),
  λ (s, m).
      let j : ℕ = age.0 in
      let c : j < width N = omega (arith, lfd-fits N t m.known, m.timely.1) in
      (end-passes N begun S' S t age).1 (
        m.known,
        (
          m.timely,
          (
            m.may_end,
            (
              (λ p b. omega (arith, m.marked p b)),
              (
                omega (arith, m.counted t j m.known c, one-here t j, s.counts_fit t j m.known c),
                only-unended N S S' s t j m,
              ),
            ),
          ),
        ),
      ),
)
back-exact N begun S' s' event.Malformed S = ((λ d. never (sym d)), λ (s, m). absurd m)

-- DEMAND 3: `back` is done with S exactly if S is lawful and `apply` leads from S to S'
pub back-undoes : (N : Net) (begun : Bool) (S' : State) → Lawful N S' → (e : Event) (S : State)
    → (back N begun S' e ≡ done S) ↔ (Lawful N S × (apply N begun S e ≡ done S'))
back-undoes N begun S' s' e S = (
  (λ d. let (s, m) = (back-exact N begun S' s' e S).0 d in (s, (apply-exact N begun S e S').1 m)),
  λ (s, d). (back-exact N begun S' s' e S).1 (s, (apply-exact N begun S e S').0 d),
)

-- and there is never a second such S
pub apply-injective : (N : Net) (begun : Bool) (e : Event) (S₁ S₂ S' : State) → Lawful N S₁ → Lawful N S₂
    → apply N begun S₁ e ≡ done S' → apply N begun S₂ e ≡ done S' → S₁ ≡ S₂
apply-injective N begun e S₁ S₂ S' s₁ s₂ d₁ d₂ =
    let s' = moves-lawful begun e s₁ ((apply-exact N begun S₁ e S').0 d₁) in
    let b₁ = (back-undoes N begun S' s' e S₁).1 (s₁, d₁) in
    let b₂ = (back-undoes N begun S' s' e S₂).1 (s₂, d₂) in
    cc

-- lawful states stay lawful, forward and back
pub apply-lawful : (N : Net) (begun : Bool) (S : State) (e : Event) (S' : State) → Lawful N S
    → apply N begun S e ≡ done S' → Lawful N S'
apply-lawful N begun S e S' s d = moves-lawful begun e s ((apply-exact N begun S e S').0 d)

pub back-lawful : (N : Net) (begun : Bool) (S' : State) (e : Event) (S : State) → Lawful N S'
    → back N begun S' e ≡ done S → Lawful N S
back-lawful N begun S' e S s' d = ((back-undoes N begun S' s' e S).0 d).0
