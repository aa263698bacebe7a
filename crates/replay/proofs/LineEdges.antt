-- Lines by given bytes: computed.
-- Assumes nothing.
use mathlib.Core.Path.{refl}
use mathlib.Core.List.{List, [], ◌∷◌, ◌++◌}
use Prim.Native.Nat.{ℕ, ◌+◌, ◌<◌}
use native.Mathlib.Omega.{arith}
use lib.Seq.{paste}
use Rattle.io.specs.Digits.{last_digits, IsDigitCount}
use Rattle.model.specs.Tab.{tab}
use Rattle.forms.specs.Word.{word}
use Rattle.forms.specs.Places.{count_at}
use Rattle.text.specs.Lines.{Spelt, Line}
use Rattle.text.specs.Lines.Fields.{none, more}
use Rattle.replay.specs.Lines.{result_name, result_fields, run_name, count_of, next_running}
use Rattle.replay.specs.Lines.Opens.{alone as early, both as late}
use Rattle.replay.specs.Lines.RunLines.{over, full}
use Rattle.replay.specs.Lines.RunLines.{more as further}
use Rattle.replay.specs.Edges.{result, zeros, result_text, older_text, fresher_text, LineEdges}

-- a number spelt with so many digits
pub spell : (b : List ℕ) (at n k : ℕ) → IsDigitCount 10 1 n k → Spelt b at n (paste b at (last_digits 10 k n) k) (at + k)
spell b at n k f = record { places = k; fewest = f; ends = refl; stands = refl }

pub figure : (n : ℕ) → n < 10 → IsDigitCount 10 1 n 1
figure n h = (omega arith, omega arith, λ l. absurd (omega arith))

-- the line of the result, at the front of a buffer
result-at : (rest : List ℕ) → Line (zeros 22 ++ rest) 0 result_name (result_fields (result 13 7 2 1 3 6 5)) [] (result_text ++ rest) 22
result-at rest = record {
  numbered = _;
  last = 21;
  fields =
      more (spell _ _ 13 2 (omega arith, omega arith, λ l. omega arith))
      (more (spell _ _ 7 1 (figure 7 (omega arith)))
      (more (spell _ _ 2 1 (figure 2 (omega arith)))
      (more (spell _ _ 1 1 (figure 1 (omega arith)))
      (more (spell _ _ 3 1 (figure 3 (omega arith)))
      (more (spell _ _ 6 1 (figure 6 (omega arith)))
      (more (spell _ _ 5 1 (figure 5 (omega arith))) none))))));
  ended = refl;
  ends = refl;
}

-- the line of a count of one figure, at the front of a buffer
older-line : (rest : List ℕ) → Line (zeros 10 ++ rest) 0 run_name (0 ∷ 3 ∷ 2 ∷ []) [] (older_text ++ rest) 10
older-line rest = record {
  numbered = _;
  last = 9;
  fields =
      more (spell _ _ 0 1 (figure 0 (omega arith)))
      (more (spell _ _ 3 1 (figure 3 (omega arith)))
      (more (spell _ _ 2 1 (figure 2 (omega arith))) none));
  ended = refl;
  ends = refl;
}

pub line-edges : LineEdges
unfolding word count_at count_of next_running tab
line-edges = record {
  result_line = result-at (zeros 2);
  marks_line = record {
    numbered = _;
    last = 12;
    fields =
        more (spell _ _ 0 1 (figure 0 (omega arith)))
        (more (spell _ _ 0 1 (figure 0 (omega arith)))
        (more (spell _ _ 1 1 (figure 1 (omega arith))) none));
    ended = refl;
    ends = refl;
  };
  alone =
      early refl
      (record {
        numbered = _;
        last = 21;
        fields =
            more (spell _ _ 10 2 (omega arith, omega arith, λ l. omega arith))
            (more (spell _ _ 0 1 (figure 0 (omega arith)))
            (more (spell _ _ 0 1 (figure 0 (omega arith)))
            (more (spell _ _ 0 1 (figure 0 (omega arith)))
            (more (spell _ _ 0 1 (figure 0 (omega arith)))
            (more (spell _ _ 0 1 (figure 0 (omega arith)))
            (more (spell _ _ 0 1 (figure 0 (omega arith))) none))))));
        ended = refl;
        ends = refl;
      });
  both =
      late {between = result_text ++ zeros 16} {next = 22} refl (result-at (zeros 16))
      (record {
        numbered = _;
        last = 33;
        fields =
            more (spell _ _ 0 1 (figure 0 (omega arith)))
            (more (spell _ _ 0 1 (figure 0 (omega arith)))
            (more (spell _ _ 1 1 (figure 1 (omega arith))) none));
        ended = refl;
        ends = refl;
      });
  no_cells = refl;
  all_cells = (refl, refl);
  first_cell = refl;
  second_cell = refl;
  no_more_cells = refl;
  two_lines =
      further {b₁ = older_text ++ zeros 70} {at₁ = 10} (omega arith) (older-line (zeros 70))
      (further {b₁ = older_text ++ fresher_text ++ zeros 58} {at₁ = 22} (omega arith)
      (record {
        numbered = _;
        last = 21;
        fields =
            more (spell _ _ 1 1 (figure 1 (omega arith)))
            (more (spell _ _ 0 1 (figure 0 (omega arith)))
            (more (spell _ _ 300 3 (omega arith, omega arith, λ l. omega arith)) none));
        ended = refl;
        ends = refl;
      }) over);
  one_line = further {b₁ = older_text ++ zeros 66} {at₁ = 10} (omega arith) (older-line (zeros 66)) (full (omega arith));
}
