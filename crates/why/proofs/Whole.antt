-- The last state shown is what the whole log leaves, and the words of a state are the model's.
-- Assumes nothing.
use mathlib.Core.Path.{◌≡◌, refl, sym, ap, ◌∙◌}
use mathlib.Core.Bool.{false}
use mathlib.Core.List.{List}
use Prim.Native.Nat.{ℕ, ◌+◌, ◌-◌, ◌*◌, ◌/◌, ◌%◌, ◌<◌, max}
use native.Mathlib.Nat.{mod-lt, div-add-mod', max-eq_right}
use native.Mathlib.Omega.{arith}
use borrow.Author.Tests.{lt-ltb, le-ltb}
use Rattle.model.specs.Net.{Net, width, tokens, count}
use Rattle.forms.specs.Stored.{state_of}
use Rattle.forms.specs.States.{IsState}
use Rattle.forms.specs.Logs.{IsLog}
use Rattle.forms.proofs.Stored.{count_at_lem, tokens-are}
use Rattle.moves.proofs.Fired.{cell-once}
use Rattle.engine.specs.Calls.{run_told, run_left}
use Rattle.engine.specs.Promised.{Fit}
use Rattle.engine.proofs.Faults.{examines}
use Rattle.engine.proofs.Promised.{fit-meets}
use Rattle.why.specs.declared.phrase.Word.TheVariants as words
use Rattle.why.specs.Phrase.{phrase}
use Rattle.why.specs.declared.cursor.Cursor.{Cursor}
use Rattle.why.specs.State.{held, content_at, held_phrase}
use Rattle.why.specs.Portions.{first_of, behind}
use Rattle.why.specs.Report.{Given, last_step}
use Rattle.why.specs.Said.{Going}
use Rattle.why.specs.Whole.{ShowsLeft, Whole}
use Rattle.why.proofs.Fed.{is-first, first-events, done-within}
use Rattle.why.proofs.Order.{done-last}

-- the events that were done, run by themselves, leave what the whole log leaves
done-left : (net first log : List ℕ) → Fit net first → IsLog log → behind net first log (run_told net first log false).done ≡ run_left net first log false
done-left net first log f l =
    let n = (run_told net first log false).done in
    let passes = (examines net first log).log_passes.1 (f.is_net, f.is_state, l) in
    let some = (examines net first (first_of log n)).log_passes.1 (f.is_net, f.is_state, is-first log l n (done-within net first log f l)) in
    let (S, r, left) = ((fit-meets net first f).0.log_by_log log passes false).told in
    let (told, there) = ((fit-meets net first f).0.log_by_log (first_of log n) some false).done S (rw (first-events log n) r.led) in
    there.whole ∙ sym left.whole

shows_left : (g : Given) (state : List ℕ) (c : Cursor) → Going g state c → ShowsLeft g
shows_left g state c going =
    let fit = going.fed.fit in
    let is-log = going.fed.is-log in
    let last = done-last g.net g.first g.log fit is-log g.found going.told_is (last_step g.found) (omega arith) in
    ap (behind g.net g.first g.log) (last ∙ ap (λ x. x.done) going.told_is) ∙ done-left g.net g.first g.log fit is-log

module _ (N : Net) (s : List ℕ) (is : IsState N s) where
  abbrev D : ℕ
  D = width N

  marks : (p : ℕ) → p < N.places → held_phrase s p ≡ phrase words.Mark p (tokens (state_of N s) p) 0 0
  unfolding held_phrase held content_at
  marks p h = rw (is.head.places_are, lt-ltb p N.places h, ← tokens-are N s p h) refl

  counts : (t j : ℕ) → t < N.transitions → j < width N
      → held_phrase s (N.places + (t * width N + j)) ≡ phrase words.Run t j (count (state_of N s) t j) 0
  unfolding held_phrase held content_at
  counts t j h l =
      let cell = t * D + j in
      let i = N.places + cell in
      let two = cell-once D (cell / D) (cell % D) t j (mod-lt cell (omega arith)) l (div-add-mod' cell D) in
      let wide : max 1 (width N) ≡ width N = max-eq_right (omega arith) in
      let less : N.places + (t * width N + j) - N.places ≡ t * width N + j = omega arith in
      let at : 8 + 2 * (N.places + (t * width N + j)) ≡ 8 + 2 * N.places + 2 * (t * width N + j) = omega arith in
      rw (is.head.places_are, is.head.width_is, le-ltb i N.places (omega arith), less, wide, two.0, two.1, at, ← count_at_lem N s t j h l) refl

pub whole : Whole
whole = record {
  shows_left = shows_left;
  tells_words = λ N s is. record {
    how-many = rw (is.head.places_are, is.head.transitions_are, is.head.width_is) refl;
    marks_are = marks N s is;
    counts_are = counts N s is;
  };
}
