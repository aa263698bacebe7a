-- The cases of specs/Edges.antt: computed.
-- Assumes nothing.
use mathlib.Core.Path.{refl}
use mathlib.Core.List.{List, [], ◌∷◌, ◌++◌}
use Prim.Native.Nat.{ℕ, ◌+◌, ◌<◌}
use native.Mathlib.Omega.{arith}
use lib.ListN.{replicate}
use lib.Seq.{paste}
use Rattle.io.specs.Digits.{last_digits, IsDigitCount}
use Rattle.text.specs.Lines.{Spelt}
use Rattle.phrases.specs.Names.{named, thing_of, thing_in, is_bad, is_due, next_bad_in, next_bad, name_in, name_by}
use Rattle.phrases.specs.Wording.{meaning, called, behind_name, Piece}
use Rattle.phrases.specs.Wording.Worded.{none, more}
use Rattle.phrases.specs.Edges.{file_of_names, ArgumentEdges, NameEdges, WordEdges}

pub argument-edges : ArgumentEdges
argument-edges = record {
  any_order = refl;
  no_such_option = refl;
  three_files = refl;
  a_fourth = refl;
  names_twice = refl;
  two_files = refl;
  one_file = refl;
  no_file_behind = refl;
}

pub name-edges : NameEdges
unfolding named thing_of thing_in is_bad is_due next_bad_in next_bad name_in name_by
name-edges = record { first_bad = refl; no_further = refl; no_lines = refl; salt = refl; add = refl; no_name = refl; longest = refl; too_long = refl; blank = refl; empty = refl }

-- a number spelt with so many digits
spell : (b : List ℕ) (at n k : ℕ) → IsDigitCount 10 1 n k → Spelt b at n (paste b at (last_digits 10 k n) k) (at + k)
spell b at n k f = record { places = k; fewest = f; ends = refl; stands = refl }

figure : (n : ℕ) → n < 10 → IsDigitCount 10 1 n 1
figure n h = (omega arith, omega arith, λ l. absurd (omega arith))

-- `7 add`, then `:`, a blank and `12`
abbrev named-first : List ℕ
named-first = 55 ∷ 32 ∷ 97 ∷ 100 ∷ 100 ∷ []

transition-piece : Piece (7 ∷ 12 ∷ 0 ∷ 0 ∷ []) file_of_names (replicate 10 0) 0 84 (named-first ++ replicate 5 0) 5
unfolding named thing_of thing_in name_in name_by meaning called behind_name
transition-piece =
    record { meant = record { spelt = _; last = 1; number = spell (replicate 10 0) 0 7 1 (figure 7 (omega arith)); stands = refl; ends = refl } }

colon-piece : Piece (7 ∷ 12 ∷ 0 ∷ 0 ∷ []) file_of_names (named-first ++ replicate 5 0) 5 58 (named-first ++ (58 ∷ replicate 4 0)) 6
unfolding meaning
colon-piece = record { meant = (refl, refl) }

blank-piece : Piece (7 ∷ 12 ∷ 0 ∷ 0 ∷ []) file_of_names (named-first ++ (58 ∷ replicate 4 0)) 6 32 (named-first ++ (58 ∷ 32 ∷ replicate 3 0)) 7
unfolding meaning
blank-piece = record { meant = (refl, refl) }

second-piece : Piece (7 ∷ 12 ∷ 0 ∷ 0 ∷ []) file_of_names (named-first ++ (58 ∷ 32 ∷ replicate 3 0)) 7 66 (named-first ++ (58 ∷ 32 ∷ 49 ∷ 50 ∷ 0 ∷ [])) 9
unfolding meaning called behind_name
second-piece = record {
  meant = record {
    spelt = _;
    last = 9;
    number = spell (named-first ++ (58 ∷ 32 ∷ replicate 3 0)) 7 12 2 (omega arith, omega arith, λ l. omega arith);
    stands = refl;
    ends = refl;
  };
}

unnamed-piece : Piece (6 ∷ 0 ∷ 0 ∷ 0 ∷ []) file_of_names (replicate 2 0) 0 80 (54 ∷ 0 ∷ []) 1
unfolding named thing_of thing_in name_in name_by meaning called behind_name
unnamed-piece =
    record { meant = record { spelt = _; last = 1; number = spell (replicate 2 0) 0 6 1 (figure 6 (omega arith)); stands = refl; ends = refl } }

pub word-edges : WordEdges
word-edges =
    record { both = more transition-piece (more colon-piece (more blank-piece (more second-piece none))); unnamed = more unnamed-piece none }
