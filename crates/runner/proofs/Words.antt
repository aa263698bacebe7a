-- The choice by the two owed words.
-- Assumes nothing.
use mathlib.Core.Path.{◌≡◌}
use mathlib.Core.Bool.{Bool, true, false}
use mathlib.Core.List.{List}
use Prim.Native.Nat.{ℕ, ◌<◌, ◌≤◌}
use native.Mathlib.Omega.{arith}
use Rattle.model.specs.declared.net.Net.{Net as Shape}
use Rattle.model.specs.Tab.{Tells}
use Rattle.model.specs.Net.{Net, State}
use Rattle.model.specs.Rules.{has_no_start_owed, has_no_end_owed}
use Rattle.model.specs.Owed.{does_owe_start, does_owe_end}
use Rattle.model.proofs.Alls.{lacks}
use Rattle.model.proofs.Tests.{no-start-owed-tells, no-end-owed-tells, told-true, told-false}
use Rattle.model.proofs.Owed.{owes-start-tells, owes-end-tells, no-start-owed-is, no-end-owed-is}
use Rattle.forms.specs.Stored.{net_of}
use Rattle.forms.specs.Frame.{FramedNet}
use Rattle.forms.proofs.States.{transitions-small}
use Rattle.owed.specs.Bits.{word_of}
use Rattle.owed.proofs.OwedWords.{word_low, word_none, word-zero}
use Rattle.runner.specs.Choice.{choice}
use Rattle.runner.specs.Words.{starts_word, ends_word, ByWords}

-- a checked net has no more transitions than a word has bits
pub few-of : (net : List ℕ) (shape : Shape) → FramedNet net shape → (net_of net).transitions ≤ 64
few-of net shape g = omega (arith, transitions-small net shape g, g.has_shape.transitions_are)

-- a word is 0 exactly where the set is empty
module _ {f : ℕ → Bool} {A : ℕ → Type 0} (each : (i : ℕ) → Tells (f i) (A i)) (n : ℕ) where
  none-set : word_of n f ≡ 0 → (i : ℕ) → i < n → ¬ A i
  none-set z i l = lacks (each i) (word-zero f n z i l)

  some-set : ¬ (word_of n f ≡ 0) → ¬ ((i : ℕ) → i < n → ¬ A i)
  some-set z none = z (word_none f n (λ i l. told-false (each i) (none i l)))

module _ (N : Net) (S : State) where
  no_end : ends_word N S ≡ 0 → has_no_end_owed N S ≡ true
  no_end z =
      told-true (no-end-owed-tells N S)
      ((no-end-owed-is N S).1 (λ t o. none-set (owes-end-tells N S) N.transitions z t o.0 o))

  no_start : starts_word N S ≡ 0 → has_no_start_owed N S ≡ true
  no_start z =
      told-true (no-start-owed-tells N S)
      ((no-start-owed-is N S).1 (λ t o. none-set (owes-start-tells N S) N.transitions z t o.0 o))

  some_end : ¬ (ends_word N S ≡ 0) → has_no_end_owed N S ≡ false
  some_end z =
      told-false (no-end-owed-tells N S)
      (λ none. some-set (owes-end-tells N S) N.transitions z (λ t l. (no-end-owed-is N S).0 none t))

  some-start : ¬ (starts_word N S ≡ 0) → has_no_start_owed N S ≡ false
  some-start z =
      told-false (no-start-owed-tells N S)
      (λ none. some-set (owes-start-tells N S) N.transitions z (λ t l. (no-start-owed-is N S).0 none t))

  pub by_words : N.transitions ≤ 64 → ByWords N S
  unfolding choice
  by_words few = record {
    end = λ z. rw (some_end z, word_low (does_owe_end N S) N.transitions few);
    start = λ z y. rw (no_end z, some-start y, word_low (does_owe_start N S) N.transitions few);
    neither = λ z y. rw (no_end z, no_start y);
  }
