-- The loops over places and transitions, and the model's tests that they come to.
-- Assumes nothing.
use mathlib.Core.Path.{◌≡◌, refl, sym, ap, ◌∙◌}
use mathlib.Core.Bool.{Bool, true, false, cond, not}
use mathlib.Core.List.{List}
use Prim.Native.Nat.{ℕ, zero, suc, ◌+◌, ◌-◌, ◌*◌, ◌/◌, ◌%◌, ◌<◌, ◌≤◌}
use native.Mathlib.Nat.{div-lt_iff_lt-mul, div-add-mod', mod-lt, mul-le-mul_right}
use native.Mathlib.Omega.{arith}
use lib.Dec.{T, eqb, leb, ltb}
use lib.ListN.{length}
use lib.Count.{ones, count_trailing_zeros}
use borrow.Author.Tests.{lt-ltb}
use Rattle.std.specs.Prelude.{Option}
use Rattle.model.specs.declared.net.Net.{Net as Shape}
use Rattle.model.specs.declared.answer.Standing.TheVariants as standing
use Rattle.model.specs.Tab.{Tells, all, least, lowest, how_many}
use Rattle.model.specs.Limits.{token_limit}
use Rattle.model.specs.Net.{Net, State, width, tokens, count}
use Rattle.model.specs.Rules.{lacking_place, is_enabled, short, has_no_start_owed, has_no_end_owed, owes_no_old_end, has_no_old_end_owed, has_none_fresh}
use Rattle.model.specs.Rules.{has_nothing_running, does_cover, times, degree}
use Rattle.model.specs.Owed.{Lowest, word_bits, does_owe_start, does_owe_end, standing_of}
use Rattle.model.proofs.Tab.{all-tells}
use Rattle.model.proofs.Shape.{width-pos}
use Rattle.model.proofs.Tests.{ltb-tells, eqb_tells, not-tells, lacking-lowest, covers-tells, no-start-owed-tells, no-end-owed-tells, nothing-running-tells, told-true, told-false}
use Rattle.model.proofs.Alls.{tells-same, lacks}
use Rattle.model.proofs.Lowest.{lowest-is, lowest-once}
use Rattle.model.proofs.Owed.{owes-start-tells, owes-end-tells, no-start-owed-is, no-end-owed-is}
use Rattle.forms.specs.Word.{byte, word, is_blank}
use Rattle.forms.specs.Places.{mark_at, row_at}
use Rattle.forms.specs.Stored.{net_of, stored}
use Rattle.forms.specs.Frame.{Framed}
use Rattle.forms.proofs.Stored.{count_at_lem}
use Rattle.forms.proofs.Inside.{mark-stands, known-model}
use Rattle.owed.specs.Marks.{FoundBelow, is_short, short_place}
use Rattle.owed.specs.Weights.{AreWeights}
use Rattle.owed.proofs.Passing.{same}
use Rattle.owed.specs.Bits.{word_of}
use Rattle.owed.specs.Reported.{set_of}
use Rattle.owed.proofs.OwedWords.{word_ones, word_low, word_none, word-zero}

least-cong : (top n : ℕ) (f g : ℕ → ℕ) → ((i : ℕ) → i < n → f i ≡ g i) → least top n f ≡ least top n g
unfolding least
least-cong top zero f g same = refl
least-cong top (suc n) f g same = rw (same n (omega arith), least-cong top n f g (λ i h. same i (omega arith)))

-- A SEARCH FOR THE LOWEST

module _ (f : ℕ → Bool) (n : ℕ) where
  Passes : ℕ → Type 0
  Passes i = T (f i)

  passes-tells : (i : ℕ) → Tells (f i) (Passes i)
  unfolding Passes
  passes-tells i = record { sound = λ x. x; complete = λ x. x }

  none_below : (i : ℕ) → all i (λ k. not (f k)) ≡ true → (k : ℕ) → k < i → ¬ Passes k
  unfolding Passes
  none_below i e = (all-tells i (λ k. not-tells (passes-tells k))).sound (rw e tt)

  -- where the loop finds one, and where it ends
  pub lowest-found : (i : ℕ) → i < n → f i ≡ true → all i (λ k. not (f k)) ≡ true → i ≡ lowest n n f
  unfolding Passes
  lowest-found i l e none =
      let here : Lowest Passes n n i = Lowest.found {l = i} l (rw e tt) (none_below i none) in
      lowest-once here (lowest-is passes-tells n n)

  pub lowest_end : (i : ℕ) → n ≤ i → i ≤ n → all i (λ k. not (f k)) ≡ true → n ≡ lowest n n f
  lowest_end i l u none =
      let here : Lowest Passes n n n = Lowest.empty (λ k h. none_below i none k (omega arith)) in
      lowest-once here (lowest-is passes-tells n n)

  -- it is n exactly where none passes
  pub lowest-all : eqb (lowest n n f) n ≡ all n (λ k. not (f k))
  unfolding Passes
  lowest-all =
      tells-same (eqb_tells (lowest n n f) n) (all-tells n (λ k. not-tells (passes-tells k)))
      (λ e. none (lowest-is passes-tells n n) e) (λ none. let here : Lowest Passes n n n = Lowest.empty none in lowest-once (lowest-is passes-tells n n) here)
    where
      none : {l : ℕ} → Lowest Passes n n l → l ≡ n → (k : ℕ) → k < n → ¬ Passes k
      none (Lowest.found h p below) e k g = absurd (omega arith)
      none (Lowest.empty below) e k g = below k g

pub lowest-cong : (f g : ℕ → Bool) (n none : ℕ) → ((i : ℕ) → i < n → f i ≡ g i) → lowest none n f ≡ lowest none n g
unfolding lowest
lowest-cong f g zero none h = refl
lowest-cong f g (suc n) none h = rw (h n (omega arith)) (lowest-cong f g n (cond (g n) n none) (λ i l. h i (omega arith)))

-- THE MARKING

-- ws are the weights w of the places
module _ (net : List ℕ) (shape : Shape) (b : List ℕ) (f : Framed net shape b) (w : ℕ → ℕ) (ws : List ℕ) (are : AreWeights shape.places w ws) where
  abbrev has : ℕ → Bool
  has p = not (is_short ws 0 b p)

  -- what `not short` says
  has-tells : (p : ℕ) → Tells (has p) (byte ws (0 + p) ≤ word b (mark_at p))
  has-tells p =
      let t = not-tells (ltb-tells (word b (mark_at p)) (byte ws (0 + p))) in
      record { sound = λ x. enough (t.sound x); complete = λ h. t.complete (λ l. omega arith) }
    where
      enough : {m w : ℕ} → ¬ (m < w) → w ≤ m
      enough h = omega arith

  abbrev places_are : shape.places ≡ (net_of net).places
  places_are = f.net_framed.has_shape.places_are

  right : (p : ℕ) → p < shape.places → byte ws (0 + p) ≡ w p
  right p l = same ws p (0 + p) p (omega arith) ∙ are.1 p l

  pub covers-is : all shape.places has ≡ does_cover (net_of net) (stored net b) w
  covers-is =
      tells-same (all-tells shape.places has-tells) (covers-tells (net_of net) (stored net b) w)
      (λ g p l. let h : p < shape.places = omega (arith, places_are) in omega (arith, g p h, mark-stands net shape b f p h, right p h))
      (λ g p l. omega (arith, g p (omega (arith, places_are)), mark-stands net shape b f p l, right p l))

-- where they are those that a start of t takes
module _ (net : List ℕ) (shape : Shape) (b : List ℕ) (f : Framed net shape b) (t : ℕ) (ws : List ℕ) (are : AreWeights shape.places ((net_of net).takes t) ws) where
  taken : (p : ℕ) → p < shape.places → byte ws p ≡ (net_of net).takes t p
  taken = are.1

  -- the place that the bytes show to be short is the one that lacks tokens for it
  pub lacking-is : short_place ws 0 b shape.places ≡ lacking_place (net_of net) (stored net b) t
  unfolding short_place lacking_place
  lacking-is =
      let lacks : ℕ → Bool = λ p. ltb (tokens (stored net b) p) ((net_of net).takes t p) in
      lowest-cong (is_short ws 0 b) lacks shape.places shape.places
      (λ p h. rw (same ws p (0 + p) p (omega arith), taken p h, mark-stands net shape b f p h))
      ∙ ap (λ (n : ℕ). lowest n n lacks) f.net_framed.has_shape.places_are

  pub found-lacking : (r : Option ℕ) → FoundBelow (length ws) (short_place ws 0 b (length ws)) r → FoundBelow shape.places (lacking_place (net_of net) (stored net b) t) r
  found-lacking r found = rw lacking-is at (rw are.0 at found)

  -- and it lacks its weight less its tokens
  pub short_is : (p : ℕ) → p < shape.places → p ≡ lacking_place (net_of net) (stored net b) t
      → (w m at : ℕ) → w ≡ byte ws p → m ≡ word b at → at ≡ mark_at p
      → (m < w) × (record { place = p; lacks = w - m } ≡ short (net_of net) (stored net b) t)
  unfolding short
  short_is p l e w m at weight marking place =
      let stands = ap (word b) place ∙ mark-stands net shape b f p l in (
        omega (arith, stands, taken p l, falls (lacking-lowest (net_of net) (stored net b) t) e),
        rw (weight, marking, stands, taken p l, ← e),
      )
    where
      falls : {q : ℕ} → Lowest (λ q. tokens (stored net b) q < (net_of net).takes t q) (net_of net).places (net_of net).places q
          → p ≡ q → tokens (stored net b) p < (net_of net).takes t p
      falls (Lowest.found b here below) same = rw same here
      falls (Lowest.empty none) same = absurd (omega (arith, f.net_framed.has_shape.places_are))

  -- the degree is the least of the shares
  pub degree_is : least token_limit (length ws) (λ p. times (byte ws p) (word b (mark_at p))) ≡ degree (net_of net) (stored net b) t
  unfolding degree
  degree_is =
      let share : ℕ → ℕ = λ p. times ((net_of net).takes t p) (tokens (stored net b) p) in
      rw are.0 (
      least-cong token_limit shape.places (λ p. times (byte ws p) (word b (mark_at p))) share
      (λ p h. rw (taken p h, mark-stands net shape b f p h))
      ∙ ap (λ (n : ℕ). least token_limit n share) f.net_framed.has_shape.places_are
      )

-- where the weights of a transition stand
pub inputs-right : (net : List ℕ) (t P from : ℕ) → P ≡ byte net 5 → from ≡ row_at P t + 2 → (p : ℕ) → byte net (from + p) ≡ (net_of net).takes t p
unfolding net_of
inputs-right net t P from e g p = rw (g, e)

pub outputs-right : (net : List ℕ) (t P from : ℕ) → P ≡ byte net 5 → from ≡ row_at P t + 2 + P → (p : ℕ) → byte net (from + p) ≡ (net_of net).gives t p
unfolding net_of
outputs-right net t P from e g p = rw (g, e)

-- THE TRANSITIONS

module _ (net : List ℕ) (shape : Shape) (b : List ℕ) (f : Framed net shape b) where
  abbrev N : Net
  N = net_of net

  abbrev S : State
  S = stored net b

  abbrev transitions_are : shape.transitions ≡ (net_of net).transitions
  transitions_are = f.net_framed.has_shape.transitions_are

  pub no-start-is : all shape.transitions (λ t. not (is_enabled (net_of net) (stored net b) t)) ≡ has_no_start_owed (net_of net) (stored net b)
  unfolding has_no_start_owed
  no-start-is = ap (λ (n : ℕ). all n (λ t. not (is_enabled (net_of net) (stored net b) t))) transitions_are

  pub no-end-is : all shape.transitions (λ t. eqb (count (stored net b) t ((net_of net).lfd t)) 0) ≡ has_no_end_owed (net_of net) (stored net b)
  unfolding has_no_end_owed
  no-end-is = ap (λ (n : ℕ). all n (λ t. eqb (count (stored net b) t ((net_of net).lfd t)) 0)) transitions_are

  pub no-old-end-is : all shape.transitions (owes_no_old_end (net_of net) (stored net b)) ≡ has_no_old_end_owed (net_of net) (stored net b)
  unfolding has_no_old_end_owed
  no-old-end-is = ap (λ (n : ℕ). all n (owes_no_old_end (net_of net) (stored net b))) transitions_are

  pub none-fresh-is : all shape.transitions (λ t. eqb (count (stored net b) t 0) 0) ≡ has_none_fresh (net_of net) (stored net b)
  unfolding has_none_fresh
  none-fresh-is = ap (λ (n : ℕ). all n (λ t. eqb (count (stored net b) t 0) 0)) transitions_are

  -- a bit of the two words, for a transition that there is
  pub start-bit : (t : ℕ) → t < byte net 6 → does_owe_start (net_of net) (stored net b) t ≡ is_enabled (net_of net) (stored net b) t
  unfolding does_owe_start
  start-bit t h = rw (lt-ltb t (net_of net).transitions (known-model net shape b f t h))

  pub end-bit : (t : ℕ) → t < byte net 6 → does_owe_end (net_of net) (stored net b) t ≡ leb 1 (count (stored net b) t ((net_of net).lfd t))
  unfolding does_owe_end
  end-bit t h = rw (lt-ltb t (net_of net).transitions (known-model net shape b f t h))

  -- all words of the clock are 0 exactly where all counts are
  pub nothing-running-is : is_blank b (8 + 2 * shape.places) (shape.transitions * shape.width) ≡ has_nothing_running (net_of net) (stored net b)
  unfolding is_blank
  nothing-running-is =
      let D = shape.width in
      let base = 8 + 2 * shape.places in
      tells-same (all-tells (shape.transitions * D) (λ k. eqb_tells (word b (base + 2 * k)) 0)) (nothing-running-tells (net_of net) (stored net b))
      counts words
    where
      -- the word of a cell
      cell : (t j : ℕ) → t < (net_of net).transitions → j < width (net_of net)
          → word b (8 + 2 * shape.places + 2 * (t * shape.width + j)) ≡ count (stored net b) t j
      cell t j l k =
          let h = f.net_framed.has_shape in
          rw (h.places_are, h.width_is) (sym (count_at_lem (net_of net) b t j l k))

      counts : ((k : ℕ) → k < shape.transitions * shape.width → word b (8 + 2 * shape.places + 2 * k) ≡ 0)
          → (t : ℕ) → t < (net_of net).transitions → (j : ℕ) → j < width (net_of net) → count (stored net b) t j ≡ 0
      counts g t l j k =
          let h : t < shape.transitions = omega (arith, transitions_are) in
          let w : j < shape.width = omega (arith, f.net_framed.has_shape.width_is) in
          sym (cell t j l k) ∙ g (t * shape.width + j) (omega (arith, mul-le-mul_right shape.width h))

      words : ((t : ℕ) → t < (net_of net).transitions → (j : ℕ) → j < width (net_of net) → count (stored net b) t j ≡ 0)
          → (k : ℕ) → k < shape.transitions * shape.width → word b (8 + 2 * shape.places + 2 * k) ≡ 0
      words g k h =
          let D = shape.width in
          let pos : 0 < D = omega (arith, f.net_framed.has_shape.width_is, width-pos (net_of net)) in
          let t = k / D in
          let j = k % D in
          let tl : t < shape.transitions = (div-lt_iff_lt-mul pos).1 h in
          let jl : j < D = mod-lt k pos in
          let tm : t < (net_of net).transitions = omega (arith, transitions_are) in
          let jm : j < width (net_of net) = omega (arith, f.net_framed.has_shape.width_is) in
          let z : word b (8 + 2 * shape.places + 2 * (t * D + j)) ≡ 0 = cell t j tm jm ∙ g t tm j jm in
          rw (div-add-mod' k D) at z

-- THE TWO WORDS AND THE STANDING

module _ (N : Net) (S : State) where
  -- a word is 0 exactly where nothing of its kind is owed
  starts_none : word_of N.transitions (does_owe_start N S) ≡ 0 → has_no_start_owed N S ≡ true
  starts_none z =
      told-true (no-start-owed-tells N S)
      (λ t l en. lacks (owes-start-tells N S t) (word-zero (does_owe_start N S) N.transitions z t l) (l, en))

  starts-some : ¬ (word_of N.transitions (does_owe_start N S) ≡ 0) → has_no_start_owed N S ≡ false
  starts-some f =
      told-false (no-start-owed-tells N S)
      (λ none. f (word_none (does_owe_start N S) N.transitions (λ t l. told-false (owes-start-tells N S t) ((no-start-owed-is N S).0 none t))))

  ends-none : word_of N.transitions (does_owe_end N S) ≡ 0 → has_no_end_owed N S ≡ true
  ends-none z =
      told-true (no-end-owed-tells N S)
      ((no-end-owed-is N S).1 (λ t o. lacks (owes-end-tells N S t) (word-zero (does_owe_end N S) N.transitions z t o.0) o))

  ends_some : ¬ (word_of N.transitions (does_owe_end N S) ≡ 0) → has_no_end_owed N S ≡ false
  ends_some f =
      told-false (no-end-owed-tells N S)
      (λ none. f (word_none (does_owe_end N S) N.transitions (λ t l. told-false (owes-end-tells N S t) ((no-end-owed-is N S).0 none t))))

  -- how a state stands, by its two words and by what runs
  module _ (starts ends : ℕ) (s : starts ≡ word_of N.transitions (does_owe_start N S)) (e : ends ≡ word_of N.transitions (does_owe_end N S)) where
    pub stands-start : ¬ (starts ≡ 0) → standing.StartOwed ≡ standing_of N S
    unfolding standing_of
    stands-start f = rw (starts-some (λ z. f (s ∙ z)))

    pub stands-end : starts ≡ 0 → ¬ (ends ≡ 0) → standing.EndOwed ≡ standing_of N S
    unfolding standing_of
    stands-end z f = rw (starts_none (sym s ∙ z), ends_some (λ y. f (e ∙ y)))

    pub stands-rest : starts ≡ 0 → ends ≡ 0 → has_nothing_running N S ≡ true → standing.AtRest ≡ standing_of N S
    unfolding standing_of
    stands-rest z y r = rw (starts_none (sym s ∙ z), ends-none (sym e ∙ y), r)

    pub stands-free : starts ≡ 0 → ends ≡ 0 → has_nothing_running N S ≡ false → standing.FreeToTick ≡ standing_of N S
    unfolding standing_of
    stands-free z y r = rw (starts_none (sym s ∙ z), ends-none (sym e ∙ y), r)

-- a set by its word
pub set_is : (f : ℕ → Bool) (n w : ℕ) → n ≤ 64 → w ≡ word_of n f
    → set_of w (ones w) (count_trailing_zeros 64 w) ≡ set_of (word_of n f) (how_many n f) (lowest word_bits n f)
set_is f n w h e = rw (e, word_ones f n, word_low f n h)
