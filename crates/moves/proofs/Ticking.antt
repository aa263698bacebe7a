-- A tick on bytes: one shift of the whole clock is what the rules write, since the last column of every row is empty.
-- And a tick taken back, since the first column of every row is empty.
-- Assumes nothing.
use mathlib.Core.Path.{◌≡◌, refl, sym, ap, ◌∙◌}
use mathlib.Core.Bool.{true, false}
use mathlib.Core.List.{List}
use Prim.Native.Nat.{ℕ, zero, suc, ◌+◌, ◌-◌, ◌*◌, ◌<◌, ◌≤◌}
use native.Mathlib.Nat.{mul-le-mul, mul-le-mul_right}
use native.Mathlib.Omega.{arith}
use borrow.Author.Tests.{lt-ltb, le-ltb}
use lib.ListN.{length}
use Rattle.std.proofs.Common.{Ok, Err}
use Rattle.model.specs.declared.answer.Barrier.TheVariants as barrier
use Rattle.model.specs.declared.answer.Refusal.TheVariants as refusal
use Rattle.model.specs.declared.event.Event.TheVariants as event
use Rattle.model.specs.declared.net.Net.{Net as Shape}
use Rattle.model.specs.Net.{Net, State, width, tokens, count}
use Rattle.model.specs.Rules.{apply, back, has_no_start_owed, has_no_end_owed, has_none_fresh, has_nothing_running, older, ticked, unticked}
use Rattle.model.proofs.Tab.{at-or-below}
use Rattle.model.proofs.Tests.{no-end-owed-tells, none-fresh-tells}
use Rattle.model.proofs.Alls.{holds}
use Rattle.model.proofs.Shape.{width-pos, lfd-fits, tokens-build, count-build, count_past}
use Rattle.forms.specs.Word.{Bytes, word, put_words, put_rows}
use Rattle.forms.specs.Places.{clock_at}
use Rattle.forms.specs.Stored.{net_of, state_of, stored}
use Rattle.forms.specs.Written.{written}
use Rattle.forms.specs.States.{IsState}
use Rattle.forms.specs.Frame.{Framed}
use Rattle.forms.proofs.WordLaws.{put_words-cong, put_words-own}
use Rattle.forms.proofs.Runs.{put_rows-flat}
use Rattle.forms.proofs.Stored.{state-shaped, tokens-are, count_is, count_at_lem}
use Rattle.forms.proofs.Nets.{some-transition}
use Rattle.forms.proofs.Inside.{clock-inside}
use Rattle.moves.specs.Shift.{later, sooner}
use Rattle.moves.specs.After.{applied, state_taken_back, Answers}

-- THE CLOCK AS ONE BLOCK

module _ (N : Net) (b : List ℕ) where
  abbrev base : ℕ
  base = clock_at N.places

  abbrev cells : ℕ
  cells = N.transitions * width N

  abbrev S : State
  S = state_of N b

  -- a state with the tokens that stand there, whose counts are those of the block g, is written by writing the block alone
  clock-written : Bytes b → (R : State) (g : ℕ → ℕ) → ((p : ℕ) → p < N.places → tokens R p ≡ tokens S p)
      → ((t j : ℕ) → t < N.transitions → j < width N → count R t j ≡ g (t * width N + j))
      → put_words base cells g b ≡ written N R b
  unfolding written
  clock-written small R g ms hs =
      sym
      (ap (put_rows base (width N) N.transitions (count R))
      (put_words-cong 8 (tokens R) (λ p. word b (8 + 2 * p)) b N.places (λ p l. ms p l ∙ tokens-are N b p l) ∙ put_words-own 8 b N.places small)
      ∙ put_rows-flat base (width N) (count R) g b N.transitions hs)

  -- the word of a cell
  cell : (t j k : ℕ) → t < N.transitions → j < width N → t * width N + j ≡ k → word b (base + 2 * k) ≡ count S t j
  cell t j k l m e = rw (← e) (sym (count_at_lem N b t j l m))

  module _ (is : IsState N b) (none : has_no_end_owed N S ≡ true) where
    -- the last column is empty
    last_empty : (t j : ℕ) → t < N.transitions → suc j ≡ width N → count S t j ≡ 0
    last_empty t j l e =
        at-or-below (N.lfd t) j (omega (arith, lfd-fits N t l))
        (λ same. rw (← same) (holds (no-end-owed-tells N S) none t l))
        (λ less. count_is N b t j l (omega arith) ∙ is.none_past t l j (omega arith) less)

    later-is : (t j : ℕ) → t < N.transitions → j < width N → older (count S) t j ≡ later b base (t * width N + j)
    unfolding older later
    later-is t (suc j) l m =
        let e : t * width N + suc j ≡ suc (t * width N + j) = omega arith in
        rw e (sym (cell t j (t * width N + j) l (omega arith) refl))
    later-is zero zero l m = let e : 0 * width N + 0 ≡ 0 = omega arith in rw e
    later-is (suc u) zero l m =
        let D = width N in
        let e : suc u * D + 0 ≡ suc (u * D + (D - 1)) = omega arith in
        let v : u < N.transitions = omega arith in
        rw e (sym (cell u (D - 1) (u * D + (D - 1)) v (omega arith) refl ∙ last_empty u (D - 1) v (omega arith)))

    shifted_up : Bytes b → put_words base cells (later b base) b ≡ written N (ticked N S) b
    unfolding ticked
    shifted_up small =
        clock-written small (ticked N S) (later b base) (λ p l. tokens-build N _ _ p l)
        (λ t j l m. count-build N _ _ t j l m ∙ later-is t j l m)

  module _ (none : has_none_fresh N S ≡ true) where
    fresh-empty : (t : ℕ) → t < N.transitions → count S t 0 ≡ 0
    fresh-empty = holds (none-fresh-tells N S) none

    sooner-in : (k : ℕ) → suc k < cells → sooner b base cells k ≡ word b (base + 2 * suc k)
    unfolding sooner
    sooner-in k l = simp (lt-ltb (suc k) cells l)

    sooner-out : (k : ℕ) → cells ≤ suc k → sooner b base cells k ≡ 0
    unfolding sooner
    sooner-out k l = simp (le-ltb (suc k) cells l)

    sooner-is : (t j : ℕ) → t < N.transitions → j < width N → count S t (suc j) ≡ sooner b base cells (t * width N + j)
    sooner-is t j l m =
        let D = width N in
        let k = t * D + j in
        let room : t * D + D ≤ N.transitions * D = omega (arith, mul-le-mul_right D l) in
        at-or-below (suc j) D m
        (λ last. count_past (state-shaped N b) t (suc j) l (omega arith) ∙ sym (edge last))
        (λ within. sym (sooner-in k (omega arith) ∙ cell t (suc j) (suc k) l within (omega arith)))
      where
        edge : suc j ≡ width N → sooner b base cells (t * width N + j) ≡ 0
        edge last =
            let D = width N in
            let k = t * D + j in
            at-or-below (suc t) N.transitions l
            (λ e. sooner-out k (omega (arith, ap (λ (x : ℕ). x * D) e)))
            (λ more. sooner-in k (omega (arith, mul-le-mul_right D more, width-pos N))
            ∙ cell (suc t) 0 (suc k) more (width-pos N) (omega arith) ∙ fresh-empty (suc t) more)

    shifted_down : Bytes b → put_words base cells (sooner b base cells) b ≡ written N (unticked N S) b
    unfolding unticked
    shifted_down small =
        clock-written small (unticked N S) (sooner b base cells) (λ p l. tokens-build N _ _ p l)
        (λ t j l m. count-build N _ _ t j l m ∙ sooner-is t j l m)

-- THE SAME, BY THE SHAPE THAT THE CODE HAS IN HAND

module _ (net : List ℕ) (shape : Shape) (b : List ℕ) (f : Framed net shape b) (at n : ℕ)
    (place : at ≡ clock_at shape.places) (many : n ≡ shape.transitions * shape.width) where
  -- the clock has a cell, and stands within the buffer
  pub block-fits : (1 ≤ n) × (at + 2 * n ≤ length b)
  block-fits =
      let h = f.net_framed.has_shape in
      let rows : 1 ≤ shape.transitions = omega (arith, h.transitions_are, some-transition net f.net_framed.is_net) in
      let columns : 1 ≤ shape.width = omega (arith, h.width_is, width-pos (net_of net)) in
      (omega (arith, many, mul-le-mul rows columns), omega (arith, place, many, clock-inside net shape b f))

  place-model : at ≡ clock_at (net_of net).places
  place-model = rw f.net_framed.has_shape.places_are at place

  many-model : n ≡ (net_of net).transitions * width (net_of net)
  many-model = let h = f.net_framed.has_shape in rw (h.transitions_are, h.width_is) at many

  module _ (small : Bytes b) (b' : List ℕ) where
    pub aged : has_no_end_owed (net_of net) (stored net b) ≡ true → b' ≡ put_words at n (later b at) b
        → b' ≡ written (net_of net) (ticked (net_of net) (stored net b)) b
    aged none e = rw (place-model, many-model) at e ∙ shifted_up (net_of net) b f.is_state none small

    pub unaged : has_none_fresh (net_of net) (stored net b) ≡ true → b' ≡ put_words at n (sooner b at n) b
        → b' ≡ written (net_of net) (unticked (net_of net) (stored net b)) b
    unaged none e = rw (place-model, many-model) at e ∙ shifted_down (net_of net) b none small

-- THE RETURNS

module _ (net b : List ℕ) where
  abbrev N₀ : Net
  N₀ = net_of net

  abbrev S₀ : State
  S₀ = stored net b

  pub tick-start-owed : has_no_start_owed N₀ S₀ ≡ false → Answers net b (applied net false b event.Tick) (Err refusal.StartOwed) b
  unfolding apply
  tick-start-owed owed = simp owed (refl, refl)

  pub untick-fresh : has_none_fresh N₀ S₀ ≡ false → Answers net b (state_taken_back net false b event.Tick) (Err (refusal.OnlyBack barrier.SomeFresh)) b
  unfolding back
  untick-fresh fresh = simp fresh (refl, refl)

  module _ (calm : has_no_start_owed N₀ S₀ ≡ true) where
    pub tick-end-owed : has_no_end_owed N₀ S₀ ≡ false → Answers net b (applied net false b event.Tick) (Err refusal.EndOwed) b
    unfolding apply
    tick-end-owed owed = simp (calm, owed) (refl, refl)

    module _ (none : has_no_end_owed N₀ S₀ ≡ true) where
      pub tick-rest : has_nothing_running N₀ S₀ ≡ true → Answers net b (applied net false b event.Tick) (Err refusal.NothingRunning) b
      unfolding apply
      tick-rest rest = simp (calm, none, rest) (refl, refl)

      pub tick-done : has_nothing_running N₀ S₀ ≡ false → (b' : List ℕ) → b' ≡ written N₀ (ticked N₀ S₀) b
          → Answers net b (applied net false b event.Tick) (Ok tt) b'
      unfolding apply
      tick-done runs b' e = simp (calm, none, runs) (refl, e)

  module _ (none : has_none_fresh N₀ S₀ ≡ true) where
    pub untick-start-owed : has_no_start_owed N₀ S₀ ≡ false → Answers net b (state_taken_back net false b event.Tick) (Err refusal.StartOwed) b
    unfolding back
    untick-start-owed owed = simp (none, owed) (refl, refl)

    module _ (calm : has_no_start_owed N₀ S₀ ≡ true) where
      pub untick-rest : has_nothing_running N₀ S₀ ≡ true → Answers net b (state_taken_back net false b event.Tick) (Err refusal.NothingRunning) b
      unfolding back
      untick-rest rest = simp (none, calm, rest) (refl, refl)

      pub untick-done : has_nothing_running N₀ S₀ ≡ false → (b' : List ℕ) → b' ≡ written N₀ (unticked N₀ S₀) b
          → Answers net b (state_taken_back net false b event.Tick) (Ok tt) b'
      unfolding back
      untick-done runs b' e = simp (none, calm, runs) (refl, e)
