-- Where the lfd of a transition stands in the net, and its weights, which are a part of it.
-- Assumes nothing.
use mathlib.Core.Path.{◌≡◌, refl, ◌∙◌}
use mathlib.Core.List.{List}
use Prim.Native.Nat.{ℕ, ◌+◌, ◌-◌, ◌<◌, ◌≤◌}
use native.Mathlib.Omega.{arith}
use lib.ListN.{length, take, drop, length-take, length-drop}
use lib.Seq.{get_or-take, get_or-drop}
use Rattle.model.specs.declared.net.Net.{Net as Shape}
use Rattle.forms.specs.Word.{byte}
use Rattle.forms.specs.Places.{row_at, row_length, lfd_at, inputs_at, outputs_at}
use Rattle.forms.specs.Stored.{net_of}
use Rattle.forms.specs.Frame.{FramedNet}
use Rattle.forms.proofs.Nets.{row_inside}
use Rattle.forms.proofs.States.{places-small, places_same, transitions-small, transitions-same}
use Rattle.owed.specs.Weights.{AreWeights}
use Rattle.owed.proofs.ModelTests.{inputs-right, outputs-right}

module _ (net : List ℕ) (shape : Shape) (f : FramedNet net shape) (t : ℕ) (known : t < byte net 6) where
  -- places of the net are small enough to be computed
  pub row-limits : (shape.places < 256) × (t < 256)
  row-limits = (
    omega (arith, places-small net shape f),
    omega (arith, transitions-small net shape f, transitions-same net shape f),
  )

  row_fits : row_at shape.places t + row_length shape.places ≤ length net
  row_fits = rw (places_same net shape f) (row_inside net f.is_net t known)

  pub lfd-fits : lfd_at shape.places t < length net
  lfd-fits = omega (arith, row_fits)

  pub lfd-stands : byte net (lfd_at shape.places t) ≡ (net_of net).lfd t
  unfolding net_of
  lfd-stands = rw (places_same net shape f) refl

  pub inputs-fit : (at : ℕ) → at ≡ inputs_at shape.places t → at + shape.places ≤ length net
  inputs-fit at e = omega (arith, row_fits)

  pub outputs-fit : (at : ℕ) → at ≡ outputs_at shape.places t → at + shape.places ≤ length net
  outputs-fit at e = omega (arith, row_fits)

  part : (n at to : ℕ) → to ≡ at + n → to ≤ length net → (w : ℕ → ℕ) → ((p : ℕ) → byte net (at + p) ≡ w p) → AreWeights n w (take (to - at) (drop at net))
  part n at to e fit w right = (
    omega (arith, length-take (to - at) (drop at net), length-drop at net),
    λ p l. get_or-take (to - at) (drop at net) p 0 (omega arith) ∙ get_or-drop at net p 0 ∙ right p,
  )

  pub inputs_part : (at : ℕ) → at ≡ inputs_at shape.places t
      → AreWeights shape.places ((net_of net).takes t) (take (at + shape.places - at) (drop at net))
  inputs_part at e = part shape.places at (at + shape.places) refl (inputs-fit at e) ((net_of net).takes t) (inputs-right net t shape.places at (places_same net shape f) e)

  pub outputs_part : (at : ℕ) → at ≡ outputs_at shape.places t
      → AreWeights shape.places ((net_of net).gives t) (take (at + shape.places - at) (drop at net))
  outputs_part at e = part shape.places at (at + shape.places) refl (outputs-fit at e) ((net_of net).gives t) (outputs-right net t shape.places at (places_same net shape f) e)
