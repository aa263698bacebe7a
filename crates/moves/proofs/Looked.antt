-- What `take` and `give` of `marking` test, against the rules, and what they leave.
-- Assumes nothing.
use mathlib.Core.Path.{◌≡◌, sym, ◌∙◌}
use mathlib.Core.Bool.{true, false}
use mathlib.Core.List.{List}
use Prim.Native.Nat.{ℕ, ◌+◌, ◌<◌}
use native.Mathlib.Omega.{arith}
use lib.Dec.{eqb}
use lib.ListN.{length}
use Rattle.std.proofs.Common.{Option, Some, None}
use Rattle.std.specs.Option.{is_some}
use borrow.Author.Tests.{eq-eqb, ne_eqb}
use Rattle.model.specs.declared.net.Net.{Net as Shape}
use Rattle.model.specs.Limits.{Held}
use Rattle.model.specs.Rules.{does_cover, has_room}
use Rattle.model.proofs.Tab.{all-tells}
use Rattle.model.proofs.Tests.{held_tells, has-room-tells}
use Rattle.model.proofs.Alls.{tells-same, holds}
use Rattle.forms.specs.Word.{byte, word, put_words}
use Rattle.forms.specs.Places.{mark_at}
use Rattle.forms.specs.Stored.{net_of, stored}
use Rattle.forms.specs.Frame.{Framed}
use Rattle.forms.proofs.Inside.{mark-stands}
use Rattle.owed.specs.Marks.{FoundBelow, is_short, short_place}
use Rattle.owed.specs.Weights.{AreWeights}
use Rattle.owed.proofs.Passing.{same}
use Rattle.owed.proofs.ModelTests.{lowest-all, covers-is}
use Rattle.moves.specs.Marking.{after_taking, after_giving, is_roomy, taken, given}

-- what is found, where the code asks only whether anything is
pub found-some : (n p : ℕ) (r : Option ℕ) → FoundBelow n p r → true ≡ is_some r → (q : ℕ) × FoundBelow n p (Some q)
found-some n p None f e = let z : ◌≡◌ {A = ℕ} 0 1 = cc in absurd (omega arith)
found-some n p (Some q) f e = (q, f)

pub found-none : (n p : ℕ) (r : Option ℕ) → FoundBelow n p r → false ≡ is_some r → FoundBelow n p None
found-none n p None f e = f
found-none n p (Some q) f e = let z : ◌≡◌ {A = ℕ} 0 1 = cc in absurd (omega arith)

-- x is what the code left of b
module _ (ws b : List ℕ) (x : List ℕ) where
  module _ (left : x ≡ taken ws 0 b (length ws)) where
    pub took : FoundBelow (length ws) (short_place ws 0 b (length ws)) None → x ≡ put_words (mark_at 0) (length ws) (after_taking ws 0 b) b
    unfolding taken
    took none = left ∙ rw (eq-eqb (short_place ws 0 b (length ws)) (length ws) none)

    pub took-nothing : (p : ℕ) → FoundBelow (length ws) (short_place ws 0 b (length ws)) (Some p) → x ≡ b
    unfolding taken
    took-nothing p found = left ∙ rw (ne_eqb (short_place ws 0 b (length ws)) (length ws) (λ e. omega (arith, found)))

  module _ (left : x ≡ given ws 0 b (length ws)) where
    pub gave : is_roomy ws 0 b (length ws) ≡ true → x ≡ put_words (mark_at 0) (length ws) (after_giving ws 0 b) b
    unfolding given
    gave e = left ∙ rw e

    pub gave-nothing : is_roomy ws 0 b (length ws) ≡ false → x ≡ b
    unfolding given
    gave-nothing e = left ∙ rw e

-- ws are the weights w
module _ (net : List ℕ) (shape : Shape) (b : List ℕ) (f : Framed net shape b) (w : ℕ → ℕ) (ws : List ℕ) (are : AreWeights shape.places w ws) where
  abbrev places_are : shape.places ≡ (net_of net).places
  places_are = f.net_framed.has_shape.places_are

  covered-is : eqb (short_place ws 0 b (length ws)) (length ws) ≡ does_cover (net_of net) (stored net b) w
  unfolding short_place
  covered-is = rw are.0 (lowest-all (is_short ws 0 b) shape.places ∙ covers-is net shape b f w ws are)

  -- the marking covers them where no place is found to be short
  pub covers : FoundBelow (length ws) (short_place ws 0 b (length ws)) None → does_cover (net_of net) (stored net b) w ≡ true
  covers none = sym covered-is ∙ eq-eqb (short_place ws 0 b (length ws)) (length ws) none

  pub covers-not : (p : ℕ) → FoundBelow (length ws) (short_place ws 0 b (length ws)) (Some p) → does_cover (net_of net) (stored net b) w ≡ false
  covers-not p found = sym covered-is ∙ ne_eqb (short_place ws 0 b (length ws)) (length ws) (λ e. omega (arith, found))

  pub roomy-is : is_roomy ws 0 b (length ws) ≡ has_room (net_of net) (stored net b) w
  unfolding is_roomy
  roomy-is =
      tells-same (all-tells (length ws) (λ p. held_tells (word b (mark_at p) + byte ws (0 + p)))) (has-room-tells (net_of net) (stored net b) w)
      (λ g p l. let h : p < shape.places = omega (arith, places_are) in omega (arith, are.0, g p (omega (arith, are.0)), mark-stands net shape b f p h, same ws p (0 + p) p (omega arith), are.1 p h))
      (λ g p l. let h : p < shape.places = omega (arith, are.0) in omega (arith, g p (omega (arith, places_are)), mark-stands net shape b f p h, same ws p (0 + p) p (omega arith), are.1 p h))

-- every place has room for its weight
pub roomy-each : (ws b : List ℕ) (n : ℕ) → is_roomy ws 0 b n ≡ true → (p : ℕ) → p < n → Held (word b (mark_at p) + byte ws (0 + p))
unfolding is_roomy
roomy-each ws b n e = holds (all-tells n (λ p. held_tells (word b (mark_at p) + byte ws (0 + p)))) e
