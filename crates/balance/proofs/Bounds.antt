-- Bounds of products and sums, by which nothing passes 60 bits.
-- Assumes nothing.
use Prim.Native.Nat.{ℕ, ◌+◌, ◌*◌, ◌^◌, ◌<◌, ◌≤◌}
use native.Mathlib.Nat.{mul-le-mul}
use native.Mathlib.Omega.{arith}
use Rattle.std.proofs.Common.{List, Fits, w8, slice_index}
use Rattle.model.specs.Tab.{sum}
use Rattle.model.specs.Limits.{place_limit, transition_limit}
use Rattle.model.specs.Net.{Net, State, Lawful, width, tokens, count}
use Rattle.model.proofs.Sums.{sum-le}
use Rattle.forms.specs.Word.{byte, word}
use Rattle.forms.proofs.WordLaws.{word_fits}
use Rattle.engine.proofs.Promised.{bytes_of}
use Rattle.balance.specs.Bounds.{byte_most, word_most, arc_most, tokens_most, firings_most}
use Rattle.balance.specs.Weights.{weighed, weight_in, running, firings_weight, total}
use Rattle.balance.specs.Demands.{Small, NoOverflow}

-- what a slice of bytes holds, as its type says
pub byte-small : (s : List ℕ) → ((i : ℕ) → Fits w8 (slice_index s i)) → (i : ℕ) → byte s i < 256
byte-small s fits = bytes_of s fits

pub word-small : (s : List ℕ) → ((i : ℕ) → Fits w8 (slice_index s i)) → (i : ℕ) → word s i < 65536
word-small s fits i = word_fits s i (bytes_of s fits)

pub word-by-byte : (a b : ℕ) → a < 65536 → b < 256 → a * b ≤ arc_most
word-by-byte a b h l = mul-le-mul {n₂ = word_most} {m₂ = byte_most} (omega arith) (omega arith)

pub word-by-word : (a b : ℕ) → a < 65536 → b < 65536 → a * b ≤ tokens_most
word-by-word a b h l = mul-le-mul {n₂ = word_most} {m₂ = word_most} (omega arith) (omega arith)

-- 255 words, by the arcs of 64 places
pub firings-bound : (D P many arcs : ℕ) → D ≤ byte_most → P ≤ place_limit → many ≤ D * word_most → arcs ≤ P * arc_most → many * arcs ≤ firings_most
firings-bound D P many arcs d p m a = mul-le-mul {n₂ = byte_most * word_most} {m₂ = place_limit * arc_most} (omega arith) (omega arith)

-- the marking of 64 places, and the firings of 64 transitions
pub total-bound : (P T marks runs : ℕ) → P ≤ place_limit → T ≤ transition_limit → marks ≤ P * tokens_most → runs ≤ T * firings_most → marks + runs < 2 ^ 60
total-bound P T marks runs p t m r = omega arith

module _ (N : Net) (w : ℕ → ℕ) (small : Small N w) where
  arcs-bound : (arcs : ℕ → ℕ) → ((p : ℕ) → p < N.places → arcs p < 256) → weighed N.places w arcs ≤ N.places * arc_most
  unfolding weighed
  arcs-bound arcs thin =
      sum-le N.places (λ p. w p * arcs p) arc_most (λ p l. word-by-byte (w p) (arcs p) (small.weights_words p l) (thin p l))

  module _ (S : State) (s : Lawful N S) where
    marks-bound : weighed N.places w (tokens S) ≤ N.places * tokens_most
    unfolding weighed
    marks-bound =
        sum-le N.places (λ p. w p * tokens S p) tokens_most
        (λ p l. word-by-word (w p) (tokens S p) (small.weights_words p l) (omega (arith, s.tokens_fit p l)))

    rows_bound : (t : ℕ) → t < N.transitions → running N S t ≤ width N * word_most
    unfolding running
    rows_bound t l = sum-le (width N) (count S t) word_most (λ j d. s.counts_fit t j l d)

    runs-bound : sum N.transitions (firings_weight N w S) ≤ N.transitions * firings_most
    unfolding firings_weight
    runs-bound =
        sum-le N.transitions (λ t. running N S t * weight_in N w t) firings_most
        (λ t l. firings-bound (width N) N.places _ _ (omega (arith, small.narrow)) small.few_places (rows_bound t l)
        (arcs-bound (N.takes t) (λ p k. small.inputs_bytes t p l k)))

    pub no_overflow : NoOverflow N w S
    unfolding total
    no_overflow = record {
      taken_in = λ t l. omega (arith, arcs-bound (N.takes t) (λ p k. small.inputs_bytes t p l k), small.few_places);
      put_out = λ t l. omega (arith, arcs-bound (N.gives t) (λ p k. small.outputs_bytes t p l k), small.few_places);
      counted = λ t l. omega (arith, rows_bound t l, small.narrow);
      in_all = total-bound N.places N.transitions _ _ small.few_places small.few_transitions marks-bound runs-bound;
    }
