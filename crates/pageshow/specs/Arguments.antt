-- What the words behind the program's name ask for.
-- Assumes nothing.
use Rattle.std.specs.Prelude.{Bool, true, false, ◌+◌, ◌*◌, ◌&&◌, if◌then◌else◌, ◌==◌, nat_le, Option, Some, None, option_map, List, ℕ, length, codes}
use Rattle.std.specs.Char.{is_ascii_digit, digit_value}
use Rattle.std.specs.Str.{bytes_eq, all_ascii_digits}
use Rattle.std.specs.Str.Parse.{digits_value}
use Rattle.model.specs.Limits.{event_limit}
use Rattle.pageshow.specs.declared.arguments.Word.{Word}
use Rattle.pageshow.specs.declared.arguments.Word.TheVariants as word
use Rattle.pageshow.specs.declared.arguments.Wish.{Wish}

-- ONE WORD

abbrev pub log_word : List ℕ
log_word = codes "--log"

abbrev pub budget_most : ℕ
budget_most = 4294967295

-- a number with one more digit behind it, where the byte is one and the number is no larger than that
abbrev pub with_digit : ℕ → ℕ → Option ℕ
with_digit n byte =
    if is_ascii_digit byte && nat_le (n * 10 + digit_value byte) budget_most then Some (n * 10 + digit_value byte) else None

-- 1 to 10 digits, and not more than that
abbrev pub is_number : List ℕ → Bool
is_number w = nat_le 1 (length w) && nat_le (length w) 10 && all_ascii_digits w && nat_le (digits_value 10 w) budget_most

abbrev pub number_says : List ℕ → Option ℕ
number_says w = if is_number w then Some (digits_value 10 w) else None

abbrev pub word_says : List ℕ → Option Word
word_says w = if bytes_eq w log_word then Some word.Log else option_map word.Budget (number_says w)

-- ALL OF THEM: each at most once, in any order

abbrev pub wishes : Bool → ℕ → Option Wish
wishes log budget = Some (record { log = log; budget = budget })

abbrev pub one_asks : Option Word → Option Wish
one_asks (Some word.Log) = wishes true event_limit
one_asks (Some (word.Budget n)) = wishes false n
one_asks None = None

abbrev pub two_ask : Option Word → Option Word → Option Wish
two_ask (Some word.Log) (Some (word.Budget n)) = wishes true n
two_ask (Some (word.Budget n)) (Some word.Log) = wishes true n
two_ask _ _ = None

abbrev pub asks : ℕ → List ℕ → List ℕ → Option Wish
asks count first second =
    if count == 0 then wishes false event_limit
    else (if count == 1 then one_asks (word_says first)
    else (if count == 2 then two_ask (word_says first) (word_says second) else None))
