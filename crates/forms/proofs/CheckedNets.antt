-- What a checked net gives: the facts that its ghost fields come to.
-- Assumes nothing.
use Prim.Native.Nat.{ℕ, ◌+◌, ◌<◌, ◌≤◌}
use mathlib.Core.Path.{◌≡◌}
use native.Mathlib.Omega.{arith}
use lib.ListN.{length}
use Rattle.model.specs.Net.{width}
use Rattle.forms.specs.declared.checked.CheckedNet.{CheckedNet}
use Rattle.forms.specs.Word.{byte}
use Rattle.forms.specs.Places.{initial_at, row_at, row_length}
use Rattle.forms.specs.Stored.{net_of}
use Rattle.forms.specs.States.{IsState}
use Rattle.forms.specs.Frame.{FramedNet, Framed}
use Rattle.forms.proofs.Nets.{row_inside, marking-inside, lfd-short}
use Rattle.forms.proofs.States.{places-small, places_same, transitions-small, transitions-same, width_small, lfd-below}
use Rattle.forms.proofs.Frames.{net_frame}

pub framed_net : (net : CheckedNet) → FramedNet net.bytes.now net.shape
framed_net net = net_frame net.bytes.now net.shape net.passes net.has_shape

-- with a state of it
pub framed : (net : CheckedNet) {state : _} → IsState (net_of net.bytes.now) state → Framed net.bytes.now net.shape state
framed net s = record { net_framed = framed_net net; is_state = s }

-- a transition below the shape's number is one of the net's
pub known : (net : CheckedNet) {t : ℕ} → t < net.shape.transitions → t < byte net.bytes.now 6
known net h = omega (arith, transitions-same net.bytes.now net.shape (framed_net net))

module _ (net : CheckedNet) where
  pub few_places : net.shape.places ≤ 64
  few_places = places-small _ _ (framed_net net)

  pub few_transitions : net.shape.transitions ≤ 64
  few_transitions = transitions-small _ _ (framed_net net)

  pub narrow : net.shape.width ≤ 64
  narrow = width_small _ _ (framed_net net)

  pub places_are : net.shape.places ≡ byte net.bytes.now 5
  places_are = places_same _ _ (framed_net net)

  pub transitions_are : net.shape.transitions ≡ byte net.bytes.now 6
  transitions_are = transitions-same _ _ (framed_net net)

  pub width_is : net.shape.width ≡ width (net_of net.bytes.now)
  width_is = net.has_shape.width_is

  -- the marking stands within the bytes, and so does the row of a transition
  pub marking_within : initial_at net.shape.places ≤ length net.bytes.now
  marking_within = rw places_are (marking-inside net.bytes.now (framed_net net).is_net)

  pub row_within : (t : ℕ) → t < net.shape.transitions → row_at net.shape.places t + row_length net.shape.places ≤ length net.bytes.now
  row_within t h = rw places_are (row_inside net.bytes.now (framed_net net).is_net t (known net h))

  -- no duration is longer than the limit, nor as long as the clock is wide
  pub lfd_short : (t : ℕ) → t < net.shape.transitions → (net_of net.bytes.now).lfd t ≤ 63
  lfd_short t h = lfd-short net.bytes.now (framed_net net).is_net t (known net h)

  pub lfd_below : (t : ℕ) → t < net.shape.transitions → (net_of net.bytes.now).lfd t < net.shape.width
  lfd_below t h = lfd-below _ _ (framed_net net) t (known net h)

-- what a checked net says of its shape, for `#[tactic(auto, using(..))]`
pub ruleset limits = (few_places, few_transitions, narrow, places_are, transitions_are, width_is, marking_within, row_within, lfd_short, lfd_below)
