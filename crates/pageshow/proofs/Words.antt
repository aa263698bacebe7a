-- The number that a word says, digit by digit.
-- Assumes nothing.
use Rattle.std.proofs.Common.{◌≡◌, ℕ, ◌+◌, ◌<◌, ◌≤◌, true, List, length, take, get_or, Some, None, refl, arith}
use Rattle.std.specs.Str.{all_ascii_digits}
use Rattle.std.specs.Str.Parse.{digits_value}
use Rattle.std.specs.Char.{is_ascii_digit}
use Rattle.std.proofs.lemmas.Bool.Decides.{nat_tests}
use Rattle.std.proofs.lemmas.List.Recursion.{and_fails_at, and_push}
use Rattle.std.proofs.lemmas.List.{take_all, take_more}
use Rattle.std.proofs.lemmas.Int.Digits.{digits_value_more}
use Rattle.std.proofs.lemmas.Str.Parse.{digits_value-take-le}
use Rattle.pageshow.specs.Arguments.{budget_most, with_digit, number_says}

module _ (w : List ℕ) where
  pub other_length : ¬ ((1 ≤ length w) × (length w ≤ 10)) → None ≡ number_says w
  other_length h = grind (arith, nat_tests)

  pub whole : (1 ≤ length w) × (length w ≤ 10) → (i n : ℕ) → length w ≤ i → n ≤ budget_most → all_ascii_digits (take i w) ≡ true
      → n ≡ digits_value 10 (take i w) → Some n ≡ number_says w
  whole h i n end most digits value = let all = take_all i w end in grind (arith, nat_tests)

  module _ (i n : ℕ) (l : i < length w) (value : n ≡ digits_value 10 (take i w)) where
    pub stuck : with_digit n (get_or w i 0) ≡ None → None ≡ number_says w
    stuck e =
        let no_digit = and_fails_at all_ascii_digits is_ascii_digit refl (λ _ _. refl) w i 0 l in
        let more = digits_value_more 10 w i l in
        let most = digits_value-take-le 10 w (i + 1) (omega arith) in
        grind (arith, nat_tests, no_digit)

    pub digit_more : (m : ℕ) → with_digit n (get_or w i 0) ≡ Some m → all_ascii_digits (take i w) ≡ true
        → (all_ascii_digits (take (i + 1) w) ≡ true) × (m ≡ digits_value 10 (take (i + 1) w))
    digit_more m e digits =
        let more = digits_value_more 10 w i l in
        let push = and_push all_ascii_digits is_ascii_digit refl (λ _ _. refl) (take i w) (get_or w i 0) in
        let longer = take_more w i 0 l in
        (grind (arith, nat_tests), grind (arith, nat_tests))
