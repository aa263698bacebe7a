-- Every bit of the report, for every number t: it is set exactly where transition t owes what the word tells.
-- Assumes nothing.
use mathlib.Core.Path.{◌≡◌}
use Prim.Native.Nat.{ℕ}
use borrow.Author.Tests.{le-ltb}
use Rattle.model.specs.Net.{Net, State}
use Rattle.model.specs.Owed.{does_owe_start, does_owe_end, owed}
use Rattle.owed.specs.Bits.{bit_at}
use Rattle.owed.specs.Reported.{reported}
use Rattle.owed.proofs.OwedWords.{word-bits}

module _ (N : Net) (S : State) (t : ℕ) where
  pub start-bits : bit_at (reported N S).starts.word t ≡ does_owe_start N S t
  unfolding does_owe_start owed
  start-bits = word-bits (does_owe_start N S) N.transitions t (λ past. rw (le-ltb t N.transitions past))

  pub end-bits : bit_at (reported N S).ends.word t ≡ does_owe_end N S t
  unfolding does_owe_end owed
  end-bits = word-bits (does_owe_end N S) N.transitions t (λ past. rw (le-ltb t N.transitions past))
