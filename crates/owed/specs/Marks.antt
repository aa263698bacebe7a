-- The marking against the weights of a transition, which stand in the net from `from` on: over bytes, as the loops look at them.
-- Assumes nothing.
use Rattle.std.specs.Prelude.{◌≡◌, Bool, List, ℕ, ◌+◌, ◌<◌, ltb, Option, MatchOption}
use Rattle.model.specs.Tab.{lowest}
use Rattle.forms.specs.Word.{byte, word}
use Rattle.forms.specs.Places.{mark_at}

-- place p has fewer tokens than the weight
abbrev pub is_short : List ℕ → ℕ → List ℕ → ℕ → Bool
is_short net from state p = ltb (word state (mark_at p)) (byte net (from + p))

-- the lowest of n places that is short, or n
unfoldable pub short_place : List ℕ → ℕ → List ℕ → ℕ → ℕ
short_place net from state n = lowest n n (is_short net from state)

-- what is found of n places, where p is the one looked for, or n: p itself, or none where p is n
abbrev pub FoundBelow : ℕ → ℕ → Option ℕ → Type 0
FoundBelow n p found = MatchOption found (p ≡ n) (λ q. (q < n) × (q ≡ p))
