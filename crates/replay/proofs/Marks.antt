-- The loop that puts the markings.
-- Assumes nothing.
use mathlib.Core.Path.{◌≡◌, sym, ◌∙◌}
use mathlib.Core.List.{List}
use Prim.Native.Nat.{ℕ, ◌+◌, ◌<◌, ◌≤◌}
use native.Mathlib.Omega.{arith}
use lib.ListN.{set, drop}
use Rattle.model.specs.Tab.{tab}
use Rattle.model.proofs.Tab.{length-tab, get_or-tab}
use Rattle.text.specs.Lines.{space, Spelt, Fields}
use Rattle.text.proofs.Puts.{fields-turn, fields-end}

module _ (n : ℕ) (f : ℕ → ℕ) where
  -- the marking of place p, and those behind it
  pub marks-turn : (p : ℕ) (b b₁ b' : List ℕ) (at at₁ end value : ℕ) → p < n → value ≡ f p → Spelt (set b at space) (at + 1) value b₁ at₁
      → Fields b₁ at₁ (drop (p + 1) (tab n f)) b' end → Fields b at (drop p (tab n f)) b' end
  marks-turn p b b₁ b' at at₁ end value h e =
      fields-turn (tab n f) p b b₁ b' at at₁ end value (rw (length-tab n f) h) (e ∙ sym (get_or-tab n f p 0 h))

  -- none is left
  pub marks-end : (p : ℕ) (b : List ℕ) (at : ℕ) → n ≤ p → p ≤ n → Fields b at (drop p (tab n f)) b at
  marks-end p b at l u = fields-end (tab n f) p b at (rw (length-tab n f) (omega arith))
