-- The place that 13 tells of: it is found where a transition is not enabled, there is one, and it lacks just so many tokens.
-- Assumes nothing.
use mathlib.Core.Path.{◌≡◌}
use mathlib.Core.Logic.{◌↔◌}
use Prim.Native.Nat.{ℕ, ◌<◌, ◌≤◌}
use native.Mathlib.Omega.{arith}
use Rattle.model.specs.declared.event.Event.{Event}
use Rattle.model.specs.declared.answer.Short.{Short}
use Rattle.model.specs.Net.{Net, State, tokens}
use Rattle.model.specs.Moves.{Enabled, Lacks}
use Rattle.model.specs.Refusals.{FallsShort, JustShort}
use Rattle.model.specs.Rules.{short_at, short}
use Rattle.model.specs.Owed.{Lowest}
use Rattle.model.proofs.Lowest.{lowest-once}
use Rattle.model.proofs.Tests.{lacking-lowest}

module _ (N : Net) (S : State) (t : ℕ) where
  abbrev Falls : ℕ → Type 0
  Falls p = tokens S p < N.takes t p

  -- where t is not enabled, the place that is computed is the lowest that lacks tokens
  pub lacks-short : ¬ Enabled N S t 1 → Lacks N S t (short N S t)
  unfolding short
  lacks-short fails = go (lacking-lowest N S t)
    where
      enough : (p : ℕ) → ¬ Falls p → N.takes t p ≤ tokens S p
      enough p h = omega arith

      go : {p : ℕ} → Lowest Falls N.places N.places p → Lacks N S t (short_at N S t p)
      go (Lowest.found b falls below) = record {
        known = b;
        some = omega arith;
        missing = omega arith;
        lowest = λ q l. enough q (below q l);
      }
      go (Lowest.empty none) = absurd (fails (λ p b. omega (arith, enough p (none p b))))

  -- and where a place lacks tokens t is not enabled
  pub lacks-fails : {s : Short} → Lacks N S t s → ¬ Enabled N S t 1
  lacks-fails {s} h en = omega (arith, en s.place h.known, h.missing, h.some)

  pub not_enabled : (¬ Enabled N S t 1) ↔ ((s : Short) × Lacks N S t s)
  not_enabled = ((λ fails. (short N S t, lacks-short fails)), λ (s, h). lacks-fails h)

  lacks-found : {s : Short} → Lacks N S t s → Lowest Falls N.places N.places s.place
  lacks-found {s} h = Lowest.found h.known (omega (arith, h.missing, h.some)) (λ p l falls. omega (arith, h.lowest p l))

  -- one place is the lowest, and it lacks one number of tokens
  pub lacks-once : {s s' : Short} → Lacks N S t s → Lacks N S t s' → s ≡ s'
  lacks-once {s} {s'} h h' = λ i. record { place = here i; lacks = less i }
    where
      here : s.place ≡ s'.place
      here = lowest-once (lacks-found h) (lacks-found h')

      less : s.lacks ≡ s'.lacks
      less = let m = rw here at h.missing in omega (arith, m, h'.missing)

-- so many more tokens would do there, and one fewer would not
pub just-short : (N : Net) (S : State) (e : Event) (s : Short) → FallsShort N S e s → JustShort N S e s
just-short N S e s (t, q, l, h) = (t, q, omega (arith, h.missing), λ e. omega (arith, h.missing, h.some))
