-- Where things stand in bytes that are in their frame, by the shape that the code has in hand.
-- Assumes nothing.
use mathlib.Core.Path.{◌≡◌, sym, ap, ◌∙◌}
use mathlib.Core.List.{List}
use Prim.Native.Nat.{ℕ, ◌+◌, ◌*◌, ◌<◌, ◌≤◌}
use native.Mathlib.Nat.{mul-le-mul_right}
use native.Mathlib.Omega.{arith}
use lib.ListN.{length}
use Rattle.model.specs.declared.age.Age.{Age}
use Rattle.model.specs.declared.age.Column.{Column}
use Rattle.model.specs.declared.net.Net.{Net as Shape}
use Rattle.model.specs.Age.{column_of}
use Rattle.model.specs.Net.{width, count, tokens}
use Rattle.forms.specs.Word.{byte, word}
use Rattle.forms.specs.Places.{row_at, row_length, inputs_at, outputs_at, mark_at, count_at, state_length}
use Rattle.forms.specs.Stored.{net_of, stored}
use Rattle.forms.specs.Frame.{Framed}
use Rattle.forms.proofs.Nets.{row_inside}
use Rattle.forms.proofs.States.{places-small, places_same, transitions-small, transitions-same, transitions-model, lfd-below}
use Rattle.forms.proofs.Stored.{tokens-are, count_is}

module _ (net : List ℕ) (shape : Shape) (b : List ℕ) (f : Framed net shape b) where
  -- the whole state, the clock as one block of words, stands within the buffer
  pub clock-inside : 8 + 2 * shape.places + 2 * (shape.transitions * shape.width) ≤ length b
  unfolding state_length
  clock-inside =
      let h = f.net_framed.has_shape in
      let cells : shape.transitions * shape.width ≡ (net_of net).transitions * width (net_of net) =
      ap (λ (x : ℕ). x * shape.width) h.transitions_are ∙ ap (λ (x : ℕ). (net_of net).transitions * x) h.width_is in
      omega (arith, f.is_state.head.room, h.places_are)

  pub marks-inside : 8 + 2 * shape.places ≤ length b
  marks-inside = omega (arith, clock-inside)

  module _ (t : ℕ) (known : t < byte net 6) where
    pub known-shape : t < shape.transitions
    known-shape = omega (arith, transitions-same net shape f.net_framed)

    pub known-model : t < (net_of net).transitions
    known-model = omega (arith, transitions-model net shape f.net_framed)

    -- the row of t stands within the net
    pub row_fits : row_at shape.places t + row_length shape.places ≤ length net
    row_fits = rw (places_same net shape f.net_framed) (row_inside net f.net_framed.is_net t known)

    -- places of the net and of the state are small enough to be computed
    pub row-limits : (shape.places < 256) × (t < 256)
    row-limits = (
      omega (arith, places-small net shape f.net_framed),
      omega (arith, transitions-small net shape f.net_framed, known-shape),
    )

    -- the weights of t stand within the net, and the markings within the state
    pub inputs-inside : (from : ℕ) → from ≡ inputs_at shape.places t
        → (shape.places < 256) × (from + shape.places ≤ length net) × (mark_at shape.places ≤ length b)
    inputs-inside from e = (row-limits.0, omega (arith, row_fits), marks-inside)

    pub outputs-inside : (from : ℕ) → from ≡ outputs_at shape.places t
        → (shape.places < 256) × (from + shape.places ≤ length net) × (mark_at shape.places ≤ length b)
    outputs-inside from e = (row-limits.0, omega (arith, row_fits), marks-inside)

    -- the count of t at an age that has its column stands within the state
    pub count-inside : (age : Age) (c : Column) (at : ℕ) → age.0 < shape.width → c ≡ column_of age
        → at ≡ count_at shape.places shape.width t c → at + 1 < length b
    unfolding count_at
    count-inside age c at young e g =
        let column : c.0 ≡ age.0 + 1 = ap (λ (x : Column). x.0) e in
        omega (arith, clock-inside, mul-le-mul_right shape.width known-shape)

    -- and is the model's
    pub count-stands : (age : Age) (c : Column) (at : ℕ) → age.0 < shape.width → c ≡ column_of age
        → at ≡ count_at shape.places shape.width t c → word b at ≡ count (stored net b) t age.0
    count-stands age c at young e g =
        let h = f.net_framed.has_shape in
        rw (g, e, h.places_are, h.width_is) (sym (count_is (net_of net) b t age.0 known-model (omega (arith, h.width_is))))

    pub lfd-young : (net_of net).lfd t < shape.width
    lfd-young = lfd-below net shape f.net_framed t known

  -- the marking of place p is the model's
  pub mark-stands : (p : ℕ) → p < shape.places → word b (mark_at p) ≡ tokens (stored net b) p
  mark-stands p h = sym (tokens-are (net_of net) b p (omega (arith, f.net_framed.has_shape.places_are)))
