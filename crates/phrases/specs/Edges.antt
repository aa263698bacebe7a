-- Cases: what the words behind the program's name ask for, a file of names, and words put with them.
-- Assumes nothing.
use Rattle.std.specs.Prelude.{◌≡◌, true, false, List, [], ◌∷◌, ◌++◌, ℕ, ◌+◌, replicate, Some, None, Result, Ok, Err}
use Rattle.phrases.specs.declared.arguments.Asked.{Asked}
use Rattle.phrases.specs.declared.arguments.Request.{Request}
use Rattle.phrases.specs.declared.arguments.Misuse.{Misuse}
use Rattle.phrases.specs.declared.arguments.Misuse.TheVariants as misuse
use Rattle.phrases.specs.declared.arguments.NamesFile.TheVariants as names_file
use Rattle.phrases.specs.declared.names.Kind.TheVariants as kind
use Rattle.phrases.specs.Arguments.{all_word, names_word, asked, nothing, takes, completed}
use Rattle.phrases.specs.Names.{part, place_word, is_bad, next_bad, name_of}
use Rattle.phrases.specs.Wording.{Worded}

-- ARGUMENTS

-- what is asked before word i, and these words behind it
abbrev pub taking : Result Asked Misuse → ℕ → List (List ℕ) → Result Asked Misuse
taking r i [] = r
taking (Ok a) i (w ∷ ws) = taking (takes a i w) (i + 1) ws
taking (Err why) i (w ∷ ws) = Err why

-- and no more
abbrev pub completing : Result Asked Misuse → Result Request Misuse
completing (Ok a) = completed a
completing (Err why) = Err why

abbrev pub asking : List (List ℕ) → Result Request Misuse
asking ws = completing (taking (Ok nothing) 1 ws)

-- `n`, and `-n`
abbrev pub file : List ℕ
file = 110 ∷ []

abbrev pub dashed : List ℕ
dashed = 45 ∷ 110 ∷ []

pub record ArgumentEdges : Type 0 where
  -- `n --all --names -n n`: the word behind `--names` is a file, whatever it looks like
  pub any_order : taking (Ok nothing) 1 (file ∷ all_word ∷ names_word ∷ dashed ∷ file ∷ [])
      ≡ Ok (asked true false (names_file.Given 4) (Some 1) (Some 5) None)
  pub no_such_option : taking (Ok nothing) 1 (dashed ∷ []) ≡ Err misuse.NoSuchOption
  pub three_files : taking (Ok nothing) 1 (file ∷ file ∷ file ∷ []) ≡ Ok (asked false false names_file.Unasked (Some 1) (Some 2) (Some 3))
  pub a_fourth : taking (Ok nothing) 1 (file ∷ file ∷ file ∷ file ∷ []) ≡ Err misuse.TooManyFiles
  pub names_twice : taking (Ok nothing) 1 (names_word ∷ file ∷ names_word ∷ []) ≡ Err misuse.NamesTwice
  pub two_files : asking (file ∷ file ∷ []) ≡ Ok (record { all = false; states = false; names = None; net = 1; log = 2; last = None })
  pub one_file : asking (file ∷ []) ≡ Err misuse.FileMissing
  pub no_file_behind : asking (file ∷ file ∷ names_word ∷ []) ≡ Err misuse.FileMissing

-- NAMES

-- `place 7 salt`, `place 64 x`, an empty line, `place 7 oil`, and `transition 07 add` with no line end
abbrev pub file_of_names : List ℕ
file_of_names =
    112 ∷ 108 ∷ 97 ∷ 99 ∷ 101 ∷ 32 ∷ 55 ∷ 32 ∷ 115 ∷ 97 ∷ 108 ∷ 116 ∷ 10 ∷
    112 ∷ 108 ∷ 97 ∷ 99 ∷ 101 ∷ 32 ∷ 54 ∷ 52 ∷ 32 ∷ 120 ∷ 10 ∷
    10 ∷
    112 ∷ 108 ∷ 97 ∷ 99 ∷ 101 ∷ 32 ∷ 55 ∷ 32 ∷ 111 ∷ 105 ∷ 108 ∷ 10 ∷
    116 ∷ 114 ∷ 97 ∷ 110 ∷ 115 ∷ 105 ∷ 116 ∷ 105 ∷ 111 ∷ 110 ∷ 32 ∷ 48 ∷ 55 ∷ 32 ∷ 97 ∷ 100 ∷ 100 ∷ []

pub record NameEdges : Type 0 where
  -- 64 is above 63
  pub first_bad : next_bad file_of_names 0 ≡ Some 2
  pub no_further : next_bad file_of_names 2 ≡ None
  pub no_lines : next_bad [] 0 ≡ None
  -- the first one counts
  pub salt : name_of file_of_names kind.Place 7 ≡ Some (part 8 12)
  pub add : name_of file_of_names kind.Transition 7 ≡ Some (part 51 54)
  pub no_name : name_of file_of_names kind.Transition 6 ≡ None
  -- `place 63 ` and a name of 40 bytes, of 41, and of a blank; and an empty line
  pub longest : is_bad (place_word ++ (54 ∷ 51 ∷ 32 ∷ replicate 40 33)) ≡ false
  pub too_long : is_bad (place_word ++ (54 ∷ 51 ∷ 32 ∷ replicate 41 33)) ≡ true
  pub blank : is_bad (place_word ++ (54 ∷ 51 ∷ 32 ∷ 32 ∷ [])) ≡ true
  pub empty : is_bad [] ≡ false

-- WORDS

-- `T: B`, and `P`
abbrev pub two_pieces : List ℕ
two_pieces = 84 ∷ 58 ∷ 32 ∷ 66 ∷ []

abbrev pub one_piece : List ℕ
one_piece = 80 ∷ []

pub record WordEdges : Type 0 where
  -- `7 add: 12`, and one byte as before
  pub both : Worded (7 ∷ 12 ∷ 0 ∷ 0 ∷ []) file_of_names (replicate 10 0) 0 two_pieces
      (55 ∷ 32 ∷ 97 ∷ 100 ∷ 100 ∷ 58 ∷ 32 ∷ 49 ∷ 50 ∷ 0 ∷ []) 9
  -- `6`: place 6 has no name
  pub unnamed : Worded (6 ∷ 0 ∷ 0 ∷ 0 ∷ []) file_of_names (replicate 2 0) 0 one_piece (54 ∷ 0 ∷ []) 1
