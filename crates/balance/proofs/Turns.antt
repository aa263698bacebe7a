-- The loops' turns, and what the sums over bytes come to in the model.
-- Assumes nothing.
use mathlib.Core.Path.{◌≡◌, refl, sym, ap, ◌∙◌}
use mathlib.Core.Bool.{Bool, true, not}
use mathlib.Core.List.{List}
use Prim.Native.Nat.{ℕ, ◌+◌, ◌*◌, ◌<◌, ◌≤◌}
use native.Mathlib.Numerals.{add-one}
use native.Mathlib.Omega.{arith}
use borrow.Author.Tests.{eq-eqb, ne_eqb}
use lib.ListN.{length}
use Rattle.std.proofs.Common.{Ok, Err}
use Rattle.model.specs.declared.age.Column.{Column}
use Rattle.model.specs.declared.net.Net.{Net as Shape}
use Rattle.model.specs.Age.{column_of}
use Rattle.model.specs.Tab.{all, sum}
use Rattle.model.specs.Net.{width, tokens, count}
use Rattle.model.proofs.Sums.{sum_same}
use Rattle.model.proofs.Alls.{all-turn}
use Rattle.forms.specs.Word.{byte, word}
use Rattle.forms.specs.Places.{inputs_at, outputs_at, mark_at, clock_at, count_at}
use Rattle.forms.specs.Stored.{net_of, stored}
use Rattle.forms.specs.Frame.{Framed}
use Rattle.forms.proofs.Stored.{count_at_lem, count-place}
use Rattle.forms.proofs.States.{places_same, transitions-same, width_small, counts-inside}
use Rattle.forms.proofs.Inside.{known-model, mark-stands}
use Rattle.owed.proofs.ModelTests.{lowest-found, lowest_end}
use Rattle.balance.specs.Bounds.{byte_most, firings_most, tokens_most}
use Rattle.balance.specs.declared.weigh.Imbalance.TheVariants as imbalance
use Rattle.balance.specs.Weights.{weighed, weight_in, weight_out, is_unbalanced, first_unbalanced, running, firings_weight, total}
use Rattle.balance.specs.Told.{weighing}
use Rattle.balance.proofs.Kept.{weighed-same}
use Rattle.balance.proofs.Answers.{is-unbalanced, is-total}

-- TURNS

module _ (f : ℕ → ℕ) where
  pub sum-turn : (i so_far here next : ℕ) → so_far ≡ sum i f → here ≡ f i → next ≡ so_far + here → next ≡ sum (i + 1) f
  unfolding sum
  sum-turn i so_far here next e g h = rw (add-one i) (omega arith)

-- WHAT THE SUMS COME TO

module _ (net : List ℕ) (shape : Shape) (b : List ℕ) (f : Framed net shape b) where
  -- the widths that a state's byte can hold are narrow enough
  pub narrow : shape.width ≤ byte_most
  narrow = omega (arith, width_small net shape f.net_framed)

  -- the loop's t is a transition of the net
  pub is_row : (t : ℕ) → t < shape.transitions → t < byte net 6
  is_row t l = omega (arith, transitions-same net shape f.net_framed)

  module _ (t : ℕ) (below : t < shape.transitions) (c : Column) (first : c ≡ column_of (record { 0 = 0 })) (at : ℕ)
      (here : at ≡ count_at shape.places shape.width t c) where
    -- the row of t stands within the state
    pub row_inside : at + 2 * shape.width ≤ length b
    row_inside = omega (arith, counts-inside net shape f.net_framed b t 0 at c f.is_state.head (is_row t below) (omega arith) first here)

    -- and its counts are the firings of t
    pub running-is : sum shape.width (λ k. word b (at + 2 * k)) ≡ running (net_of net) (stored net b) t
    unfolding running
    running-is =
        let h = f.net_framed.has_shape in
        rw h.width_is (sum_same (width (net_of net)) (λ k. word b (at + 2 * k)) (count (stored net b) t) each)
      where
        each : (j : ℕ) → j < width (net_of net) → word b (at + 2 * j) ≡ count (stored net b) t j
        each j l =
            let h = f.net_framed.has_shape in
            let begin : at ≡ count_at (net_of net).places (width (net_of net)) t (column_of (record { 0 = 0 })) =
            here ∙ rw (first, h.places_are, h.width_is) in
            let place : clock_at (net_of net).places + 2 * (t * width (net_of net) + j) ≡ at + 2 * j =
            omega (arith, count-place (net_of net).places (width (net_of net)) t 0) in
            sym (rw place at (count_at_lem (net_of net) b t j (known-model net shape b f t (is_row t below)) l))

-- the loop over the transitions: so far none is unbalanced, and so much the marking and their firings weigh
pub record Weighs (net : List ℕ) (shape : Shape) (b : List ℕ) (w : ℕ → ℕ) (t so_far : ℕ) : Type 0 where
  pub passed : t ≤ shape.transitions
  pub even : all t (λ k. not (is_unbalanced (net_of net) w k)) ≡ true
  pub weight : so_far ≡ weighed shape.places w (λ p. word b (mark_at p)) + sum t (firings_weight (net_of net) w (stored net b))
  pub bounded : so_far ≤ shape.places * tokens_most + t * firings_most

module _ (net : List ℕ) (shape : Shape) (b : List ℕ) (f : Framed net shape b) (w : ℕ → ℕ) where
  arcs-in : (t from : ℕ) → from ≡ inputs_at shape.places t
      → weighed shape.places w (λ p. byte net (from + p)) ≡ weight_in (net_of net) w t
  unfolding net_of
  arcs-in t from e = rw (e, places_same net shape f.net_framed)

  arcs-out : (t from : ℕ) → from ≡ outputs_at shape.places t
      → weighed shape.places w (λ p. byte net (from + p)) ≡ weight_out (net_of net) w t
  unfolding net_of
  arcs-out t from e = rw (e, places_same net shape f.net_framed)

  marking-is : weighed shape.places w (λ p. word b (mark_at p)) ≡ weighed (net_of net).places w (tokens (stored net b))
  marking-is =
      weighed-same shape.places w (λ p. word b (mark_at p)) (tokens (stored net b)) (λ p l. mark-stands net shape b f p l)
      ∙ ap (λ (n : ℕ). weighed n w (tokens (stored net b))) f.net_framed.has_shape.places_are

  -- THE LOOP

  abbrev is_even : ℕ → Bool
  is_even k = not (is_unbalanced (net_of net) w k)

  none_first : (t : ℕ) → shape.transitions ≤ t → t ≤ shape.transitions → all t (λ k. not (is_unbalanced (net_of net) w k)) ≡ true
      → (net_of net).transitions ≡ first_unbalanced (net_of net) w
  unfolding first_unbalanced
  none_first t l u none =
      let same = f.net_framed.has_shape.transitions_are in
      lowest_end (is_unbalanced (net_of net) w) (net_of net).transitions t (omega arith) (omega arith) none

  pub weighs-begin : (marks : ℕ) → marks ≡ weighed shape.places w (λ p. word b (mark_at p)) → marks ≤ shape.places * tokens_most
      → Weighs net shape b w 0 marks
  unfolding all sum
  weighs-begin marks e l = record { passed = omega arith; even = refl; weight = omega arith; bounded = omega arith }

  module _ (t so_far in_at out_at taken given : ℕ) (is : Weighs net shape b w t so_far) (below : t < shape.transitions)
      (in_here : in_at ≡ inputs_at shape.places t) (takes-in : taken ≡ weighed shape.places w (λ p. byte net (in_at + p)))
      (out_here : out_at ≡ outputs_at shape.places t) (puts-out : given ≡ weighed shape.places w (λ p. byte net (out_at + p))) where
    in_is : taken ≡ weight_in (net_of net) w t
    in_is = takes-in ∙ arcs-in t in_at in_here

    out-is : given ≡ weight_out (net_of net) w t
    out-is = puts-out ∙ arcs-out t out_at out_here

    pub weighs-turn : taken ≡ given → (many : ℕ) → many ≡ running (net_of net) (stored net b) t → many * taken ≤ firings_most
        → Weighs net shape b w (t + 1) (so_far + many * taken)
    unfolding firings_weight
    weighs-turn e many m l =
        let here : many * taken ≡ firings_weight (net_of net) w (stored net b) t = rw (m, in_is) in
        let next = sum-turn (firings_weight (net_of net) w (stored net b)) t _ (many * taken) _ refl here refl in
        record {
          passed = omega arith;
          even = all-turn is_even t
              (rw (eq-eqb (weight_in (net_of net) w t) (weight_out (net_of net) w t) (sym in_is ∙ e ∙ out-is))) is.even;
          weight = omega (arith, is.weight);
          bounded = omega (arith, is.bounded);
        }

    pub unbalanced-found : ¬ (taken ≡ given) → Err (imbalance.Unbalanced t) ≡ weighing (net_of net) w (stored net b)
    unfolding first_unbalanced
    unbalanced-found d =
        let same = f.net_framed.has_shape.transitions_are in
        let first : t ≡ first_unbalanced (net_of net) w =
        lowest-found (is_unbalanced (net_of net) w) (net_of net).transitions t (omega arith)
        (rw (ne_eqb (weight_in (net_of net) w t) (weight_out (net_of net) w t) (λ e. d (in_is ∙ e ∙ sym out-is)))) is.even in
        ap (λ (x : ℕ). Err (imbalance.Unbalanced x)) first ∙ sym (is-unbalanced (net_of net) w (stored net b) (omega arith))

  pub weighs-all : (t so_far : ℕ) → Weighs net shape b w t so_far → shape.transitions ≤ t
      → Ok so_far ≡ weighing (net_of net) w (stored net b)
  unfolding total
  weighs-all t so_far is l =
      let same = f.net_framed.has_shape.transitions_are in
      let ends : t ≡ (net_of net).transitions = omega (arith, is.passed) in
      let none : (net_of net).transitions ≡ first_unbalanced (net_of net) w = none_first t (omega arith) is.passed is.even in
      let sums : so_far ≡ total (net_of net) w (stored net b) = is.weight ∙ rw (marking-is, ends) in
      ap Ok sums ∙ sym (is-total (net_of net) w (stored net b) (omega arith))
