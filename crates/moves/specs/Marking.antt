-- The marking when the weights that stand in the net from `from` on leave it, and when they join it: over bytes, as the loops write them.
-- Assumes nothing.
use Rattle.std.specs.Prelude.{◌≡◌, Bool, false, cond, List, ℕ, ◌+◌, ◌-◌, ◌<◌, length, eqb, Option, Some, None}
use Rattle.model.specs.Tab.{all, lowest}
use Rattle.model.specs.Limits.{is_held}
use Rattle.forms.specs.Word.{byte, word, put_words}
use Rattle.forms.specs.Places.{mark_at}
use Rattle.owed.specs.Marks.{FoundBelow, short_place}

-- what place p then holds
abbrev pub after_taking : List ℕ → ℕ → List ℕ → ℕ → ℕ
after_taking net from state p = word state (mark_at p) - byte net (from + p)

abbrev pub after_giving : List ℕ → ℕ → List ℕ → ℕ → ℕ
after_giving net from state p = word state (mark_at p) + byte net (from + p)

-- each of n places has room for its weight
unfoldable pub is_roomy : List ℕ → ℕ → List ℕ → ℕ → Bool
is_roomy net from state n = all n (λ p. is_held (after_giving net from state p))

-- the state with the weights of n places taken, if none is short, and given, if each has room
unfoldable pub taken : List ℕ → ℕ → List ℕ → ℕ → List ℕ
taken net from state n =
    cond (eqb (short_place net from state n) n) (put_words (mark_at 0) n (after_taking net from state) state) state

unfoldable pub given : List ℕ → ℕ → List ℕ → ℕ → List ℕ
given net from state n =
    cond (is_roomy net from state n) (put_words (mark_at 0) n (after_giving net from state) state) state

-- what is made of the marking and the weight of a place is told by `made`: none where the place fails, else g of it, which is what stands there
-- where the weight is 0
pub record Changes (made : ℕ → ℕ → Option ℕ → Type 0) (weights state : List ℕ) (fails : ℕ → Bool) (g : ℕ → ℕ) : Type 0 where
  pub told : (p : ℕ) (r : Option ℕ) → p < length weights → made (word state (mark_at p)) (byte weights p) r → r ≡ cond (fails p) None (Some (g p))
  pub stays : (p : ℕ) → p < length weights → byte weights p ≡ 0 → (fails p ≡ false) × (g p ≡ word state (mark_at p))

-- the places of n before the first that fails are written as g, and that one is found
abbrev pub Changed : (ℕ → Bool) → (ℕ → ℕ) → ℕ → List ℕ → Option ℕ → List ℕ → Type 0
Changed fails g n state found after =
    FoundBelow n (lowest n n fails) found × (after ≡ put_words (mark_at 0) (lowest n n fails) g state)
