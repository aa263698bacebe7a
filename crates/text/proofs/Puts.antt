-- Numbers put one behind the other: the turns of the loop. A line out of its parts.
-- Assumes nothing.
use Rattle.std.proofs.Common.{◌≡◌, sym, ap, ◌∙◌, List, [], ◌∷◌, ℕ, suc, ◌+◌, ◌<◌, length, get_or, set, drop, add-one, drop-cons}
use Rattle.std.proofs.Math.Seq.{paste, drop-length}
use Rattle.text.specs.Lines.{space, line_end, Spelt, Fields, Line}
use Rattle.text.specs.Lines.Fields.{none, more}

-- what is put from the i-th on completes what was put before
module _ (ns : List ℕ) where
  pub fields-turn : (i : ℕ) (b b₁ b' : List ℕ) (at at₁ end value : ℕ) → i < length ns → value ≡ get_or ns i 0
      → Spelt (set b at space) (at + 1) value b₁ at₁ → Fields b₁ at₁ (drop (i + 1) ns) b' end → Fields b at (drop i ns) b' end
  fields-turn i b b₁ b' at at₁ end value h e s rest =
      let split : drop i ns ≡ value ∷ drop (i + 1) ns =
      rw (add-one i) (drop-cons ns i 0 h ∙ ap (λ (x : ℕ). x ∷ drop (suc i) ns) (sym e)) in
      rw split (more s rest)

  -- none is left
  pub fields-end : (i : ℕ) (b : List ℕ) (at : ℕ) → i ≡ length ns → Fields b at (drop i ns) b at
  fields-end i b at e = rw (ap (λ (k : ℕ). drop k ns) e ∙ drop-length ns) none

pub ruleset fields = (fields-end)

-- a line with no buffer out of its parts: the name, the fields behind it, and the line's end
module _ (before : List ℕ) (at : ℕ) (name ns named : List ℕ) (from : ℕ) (numbered : List ℕ) (last : ℕ) (after : List ℕ) (end : ℕ)
    (e : from ≡ at + length name) (f : named ≡ paste before at name (length name)) (fields : Fields named from ns numbered last) where
  pub line_of : end ≡ last + 1 → after ≡ set numbered last line_end → Line before at name ns [] after end
  line_of g h = record { numbered = numbered; last = last; fields = rw (← f, ← e) fields; ended = h; ends = g }
