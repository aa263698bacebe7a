-- `sets::word_of` meets its contract. The loop keeps that the word is that of the numbers passed, for each function that tells the test.
use Rattle.std.proofs.Common.{◌≡◌, ℕ, ◌<◌, Bool}
use Rattle.owed.specs.Bits.{word_of}
use Rattle.owed.proofs.sets.word_of.Given as goal

abbrev pub invariant-loop-t : goal.invariant-loop-t
invariant-loop-t g l =
    (f : ℕ → Bool) → ((t : ℕ) (told : Bool) → t < l.n → goal.F-post g l.passes t told → told ≡ f t) → l.word ≡ word_of l.t f
