-- Behind a tick, done or taken back, no start is owed and something is running: the marking is as it was, and so are the firings.
-- Assumes nothing.
use mathlib.Core.Path.{◌≡◌, refl, sym, ◌∙◌}
use mathlib.Core.Bool.{Bool}
use mathlib.Core.List.{List}
use Prim.Native.Nat.{ℕ, suc, ◌<◌, ◌≤◌}
use native.Mathlib.Omega.{arith}
use Rattle.model.specs.declared.event.Event.TheVariants as event
use Rattle.model.specs.declared.net.Net.{Net as Shape}
use Rattle.std.proofs.Common.{Ok}
use Rattle.model.specs.Net.{Net, State, Lawful, width, count}
use Rattle.model.specs.Moves.{NoStartOwed, NothingRunning, Ticks}
use Rattle.model.specs.Rules.{Outcome, done, refused, answer_of, state_after}
use Rattle.model.proofs.Tab.{below-or-past}
use Rattle.model.proofs.Shape.{lfd-fits}
use Rattle.model.proofs.Tests.{no-start-owed-tells, nothing-running-tells, told-true, told-false}
use Rattle.model.proofs.Forward.{apply-exact}
use Rattle.model.proofs.Back.{back-exact}
use Rattle.forms.specs.Word.{Bytes}
use Rattle.forms.specs.Stored.{net_of, stored}
use Rattle.forms.specs.Frame.{Framed}
use Rattle.forms.proofs.States.{state-lawful}
use Rattle.moves.specs.After.{applied, state_taken_back, after, Settled}
use Rattle.moves.proofs.Undone.{after-stored, back-after-stored}

-- IN THE MODEL

module _ (N : Net) (S S' : State) (s : Lawful N S) (k : Ticks N S S') where
  pub still-calm : NoStartOwed N S'
  still-calm t h enabled = k.no_start_owed t h (λ p l. omega (arith, enabled p l, k.marked p l))

  -- a count that the tick did not move on would stand at its transition's lfd or above
  pub still-runs : ¬ NothingRunning N S'
  still-runs none = k.running (λ t h j l.
      below-or-past (suc j) (width N)
      (λ inner. sym (k.aged t j h inner) ∙ none t h (suc j) inner)
      (λ last. below-or-past (N.lfd t) j (λ past. s.none_past_lfd t j h l past) (λ early. at_lfd t h j l last early)))
    where
      at_lfd : (t : ℕ) → t < N.transitions → (j : ℕ) → j < width N → width N ≤ suc j → j ≤ N.lfd t → count S t j ≡ 0
      at_lfd t h j l last early =
          let same : N.lfd t ≡ j = omega (arith, lfd-fits N t h) in
          rw same at (k.no_end_owed t h)

-- ON BYTES

-- an outcome by its answer
pub done-by : (S : State) (o : Outcome) → answer_of o ≡ Ok tt → o ≡ done (state_after S o)
done-by S (done S') e = refl
done-by S (refused why) e = let z : ◌≡◌ {A = ℕ} 0 1 = cc in absurd (omega arith)

module _ (net : List ℕ) (shape : Shape) (b : List ℕ) (f : Framed net shape b) (small : Bytes b) where
  abbrev N₀ : Net
  N₀ = net_of net

  abbrev S₀ : State
  S₀ = stored net b

  lawful : Lawful (net_of net) (stored net b)
  lawful = state-lawful (net_of net) b small f.is_state

  pub tick-settles : (started : Bool) → answer_of (applied net started b event.Tick) ≡ Ok tt → Settled net (after (net_of net) (applied net started b event.Tick) b)
  tick-settles started said =
      let S' = state_after S₀ (applied net started b event.Tick) in
      let k = (apply-exact N₀ started S₀ event.Tick S').0 (done-by S₀ (applied net started b event.Tick) said) in
      rw (after-stored net shape b f small started event.Tick) (
        told-true (no-start-owed-tells N₀ S') (still-calm N₀ S₀ S' lawful k),
        told-false (nothing-running-tells N₀ S') (still-runs N₀ S₀ S' lawful k),
      )

  pub untick-settles : (started : Bool) → answer_of (state_taken_back net started b event.Tick) ≡ Ok tt → Settled net (after (net_of net) (state_taken_back net started b event.Tick) b)
  untick-settles started said =
      let S = state_after S₀ (state_taken_back net started b event.Tick) in
      let k = ((back-exact N₀ started S₀ lawful event.Tick S).0 (done-by S₀ (state_taken_back net started b event.Tick) said)).1 in
      rw (back-after-stored net shape b f small started event.Tick) (
        told-true (no-start-owed-tells N₀ S) k.no_start_owed,
        told-false (nothing-running-tells N₀ S) k.running,
      )
