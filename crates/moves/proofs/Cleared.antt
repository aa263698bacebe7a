-- Where a start has been done, or a start or a tick taken back, no end of age 1 or more is owed, and ends of age 0 leave it so.
-- Assumes nothing.
use mathlib.Core.Path.{◌≡◌, refl}
use mathlib.Core.Bool.{Bool, true, false, ◌&&◌}
use mathlib.Core.List.{List}
use Prim.Native.Nat.{ℕ}
use native.Mathlib.Omega.{arith}
use lib.Dec.{eqb}
use borrow.Author.Tests.{eqb-true}
use Rattle.model.specs.declared.event.Event.{Event}
use Rattle.model.specs.declared.event.Event.TheVariants as event
use Rattle.model.specs.declared.net.Net.{Net as Shape}
use Rattle.std.proofs.Common.{Ok}
use Rattle.model.specs.Net.{Net, State, Lawful}
use Rattle.model.specs.Moves.{started_by, NoOldEndOwed, Moves}
use Rattle.model.specs.Rules.{answer_of, state_after, has_no_old_end_owed}
use Rattle.model.proofs.Tab.{one-off}
use Rattle.model.proofs.Shape.{lfd-fits}
use Rattle.model.proofs.Tests.{no-old-end-owed-tells, told-true}
use Rattle.model.proofs.Alls.{holds, not_yet}
use Rattle.model.proofs.Forward.{apply-exact}
use Rattle.model.proofs.Back.{back-exact}
use Rattle.model.proofs.Order.{settles}
use Rattle.forms.specs.Word.{Bytes}
use Rattle.forms.specs.Stored.{net_of, stored}
use Rattle.forms.specs.Frame.{Framed}
use Rattle.forms.proofs.States.{state-lawful}
use Rattle.moves.specs.After.{applied, state_taken_back, after, clear_before}
use Rattle.moves.proofs.Undone.{after-stored, back-after-stored}
use Rattle.moves.proofs.Calm.{done-by}

both : (a b : Bool) → (a && b) ≡ true → (a ≡ true) × (b ≡ true)
both true b e = (refl, e)
both false b e = not_yet e

-- IN THE MODEL

module _ (N : Net) (started : Bool) (S S' : State) (clear : Bool) where
  before-undone : (e : Event) → Moves N started S e S' → (clear ≡ true → NoOldEndOwed N S') → clear_before clear e ≡ true → NoOldEndOwed N S
  before-undone event.Tick m known is = λ t l old. m.no_end_owed t l
  before-undone (event.Start t) m known is = m.no_old_end_owed
  before-undone (event.End t age) m known is = fresh-end (both clear (eqb age.0 0) is).0 (eqb-true age.0 0 (both clear (eqb age.0 0) is).1)
    where
      fresh-end : clear ≡ true → age.0 ≡ 0 → NoOldEndOwed N S
      fresh-end c z u b h =
          omega (arith, m.counted u (N.lfd u) b (lfd-fits N u b), known c u b h, one-off t age.0 u (N.lfd u) (λ _ q. omega arith))
  before-undone event.Malformed m known is = absurd m

-- ON BYTES

module _ (net : List ℕ) (shape : Shape) (b : List ℕ) (f : Framed net shape b) (small : Bytes b) (started clear : Bool) (e : Event)
    (known : clear ≡ true → has_no_old_end_owed (net_of net) (stored net b) ≡ true) where
  abbrev N₀ : Net
  N₀ = net_of net

  abbrev S₀ : State
  S₀ = stored net b

  lawful : Lawful (net_of net) (stored net b)
  lawful = state-lawful (net_of net) b small f.is_state

  pub done-clears : answer_of (applied net started b e) ≡ Ok tt → started_by clear e ≡ true
      → has_no_old_end_owed (net_of net) (stored net (after (net_of net) (applied net started b e) b)) ≡ true
  done-clears said is =
      let S' = state_after S₀ (applied net started b e) in
      let m = (apply-exact N₀ started S₀ e S').0 (done-by S₀ (applied net started b e) said) in
      rw (after-stored net shape b f small started e)
      (told-true (no-old-end-owed-tells N₀ S') (settles N₀ started S₀ S' clear e m (λ c. holds (no-old-end-owed-tells N₀ S₀) (known c)) is))

  pub undone-clears : answer_of (state_taken_back net started b e) ≡ Ok tt → clear_before clear e ≡ true
      → has_no_old_end_owed (net_of net) (stored net (after (net_of net) (state_taken_back net started b e) b)) ≡ true
  undone-clears said is =
      let S = state_after S₀ (state_taken_back net started b e) in
      let m = ((back-exact N₀ started S₀ lawful e S).0 (done-by S₀ (state_taken_back net started b e) said)).1 in
      rw (back-after-stored net shape b f small started e)
      (told-true (no-old-end-owed-tells N₀ S) (before-undone N₀ started S S₀ clear e m (λ c. holds (no-old-end-owed-tells N₀ S₀) (known c)) is))
