-- A start and a start taken back, on bytes: each return of the code is a case of the rules' outcome.
-- Assumes nothing.
use mathlib.Core.Path.{◌≡◌, refl, sym, ap, ◌∙◌}
use mathlib.Core.Bool.{Bool, true, false}
use mathlib.Core.List.{List}
use Prim.Native.Nat.{ℕ, ◌+◌, ◌-◌, ◌<◌, ◌≤◌}
use native.Mathlib.Omega.{arith}
use lib.Dec.{leb, ltb}
use lib.ListN.{length}
use borrow.Author.Tests.{eq-eqb, ne_eqb}
use Rattle.model.specs.declared.net.Net.{Net as Shape}
use Rattle.model.specs.declared.answer.Short.{Short}
use Rattle.std.proofs.Common.{Option, Ok, Err, Some, None}
use Rattle.model.specs.declared.answer.Barrier.TheVariants as barrier
use Rattle.model.specs.declared.answer.Refusal.TheVariants as refusal
use Rattle.model.specs.declared.event.Event.TheVariants as event
use Rattle.model.specs.Age.{column_of}
use Rattle.model.specs.Limits.{is_held}
use Rattle.model.specs.Tab.{lowest}
use Rattle.model.specs.Net.{tokens, count}
use Rattle.model.specs.Rules.{lacking_place, is_enabled, short, has_room, has_no_old_end_owed, apply, back, started, unstarted}
use Rattle.model.proofs.Shape.{width-pos}
use Rattle.model.proofs.Tests.{leb_tells, held_tells, told-true, told-false}
use Rattle.model.proofs.Alls.{holds}
use Rattle.forms.specs.Word.{Bytes, byte, set_word, put_words}
use Rattle.forms.specs.Places.{mark_at, count_at}
use Rattle.forms.specs.Stored.{net_of, stored}
use Rattle.forms.specs.Frame.{Framed}
use Rattle.forms.proofs.Inside.{mark-stands}
use Rattle.owed.specs.Marks.{FoundBelow, is_short, short_place}
use Rattle.owed.specs.Weights.{AreWeights}
use Rattle.owed.proofs.Passing.{same as same-byte}
use Rattle.owed.proofs.ModelTests.{lowest-cong}
use Rattle.moves.specs.Marking.{after_taking, after_giving, is_roomy, taken}
use Rattle.moves.specs.After.{applied, state_taken_back, Answers}
use Rattle.moves.proofs.Looked.{took-nothing, roomy-is}
use Rattle.moves.proofs.Fired.{raised, lowered, known-byte, unknown-test, known-test, one_more}

module _ (net : List ℕ) (shape : Shape) (b : List ℕ) (f : Framed net shape b) (t : ℕ) where
  pub start-unknown : shape.transitions ≤ t → Answers net b (applied net false b (event.Start t)) (Err refusal.NoSuchTransition) b
  unfolding apply
  start-unknown l = simp (unknown-test net shape b f t l) (refl, refl)

  pub unstart-unknown : shape.transitions ≤ t → Answers net b (state_taken_back net false b (event.Start t)) (Err refusal.NoSuchTransition) b
  unfolding back
  unstart-unknown l = simp (unknown-test net shape b f t l) (refl, refl)

  -- age 0 has its column
  pub fresh : 0 < shape.width
  fresh = omega (arith, f.net_framed.has_shape.width_is, width-pos (net_of net))

  -- the place that the code found to lack tokens, or that it found none
  unable : (p : ℕ) → FoundBelow shape.places (lacking_place (net_of net) (stored net b) t) (Some p) → is_enabled (net_of net) (stored net b) t ≡ false
  unfolding is_enabled
  unable p found = ne_eqb (lacking_place (net_of net) (stored net b) t) (net_of net).places (λ e. omega (arith, found, f.net_framed.has_shape.places_are))

  able : FoundBelow shape.places (lacking_place (net_of net) (stored net b) t) None → is_enabled (net_of net) (stored net b) t ≡ true
  unfolding is_enabled
  able none = eq-eqb (lacking_place (net_of net) (stored net b) t) (net_of net).places (none ∙ f.net_framed.has_shape.places_are)

  -- in ws the weights that a start takes stand from `from` on: ws may be the net, or the slice of it that the code lends
  module _ (ws : List ℕ) (from : ℕ) (stand : (p : ℕ) → p < shape.places → byte ws (from + p) ≡ (net_of net).takes t p) where
    -- the place that the code found to be short is the one that lacks tokens for a start
    pub lacks-there : {r : ℕ} → r ≡ short_place ws from b shape.places → r ≡ lacking_place (net_of net) (stored net b) t
    unfolding short_place lacking_place
    lacks-there told =
        let lacks : ℕ → Bool = λ p. ltb (tokens (stored net b) p) ((net_of net).takes t p) in
        told
        ∙ lowest-cong (is_short ws from b) lacks shape.places shape.places (λ p h. rw (stand p h, mark-stands net shape b f p h))
        ∙ ap (λ (n : ℕ). lowest n n lacks) f.net_framed.has_shape.places_are

  -- so it is with what `take` tells of them
  found-there : (ws : List ℕ) → AreWeights shape.places ((net_of net).takes t) ws
      → (r : Option ℕ) → FoundBelow (length ws) (short_place ws 0 b (length ws)) r → FoundBelow shape.places (lacking_place (net_of net) (stored net b) t) r
  found-there ws are r found =
      rw (lacks-there ws 0 (λ p l. same-byte ws p (0 + p) p (omega arith) ∙ are.1 p l) refl) at (rw are.0 at found)

  module _ (known : t < shape.transitions) where
    -- the code found place p, and what it lacks
    pub start-disabled : (p : ℕ) → FoundBelow shape.places (lacking_place (net_of net) (stored net b) t) (Some p)
        → (s : Short) → s ≡ short (net_of net) (stored net b) t
        → Answers net b (applied net false b (event.Start t)) (Err (refusal.NotEnabled s)) b
    unfolding apply
    start-disabled p found s is = simp (known-test net shape b f t known, unable p found, is) (refl, refl)

    -- it found none, but an end of age 1 or more is owed
    pub start-too-soon : FoundBelow shape.places (lacking_place (net_of net) (stored net b) t) None
        → has_no_old_end_owed (net_of net) (stored net b) ≡ false
        → Answers net b (applied net false b (event.Start t)) (Err refusal.OldEndOwed) b
    unfolding apply
    start-too-soon none owed = simp (known-test net shape b f t known, able none, owed) (refl, refl)

    -- the tokens could not be taken, and the buffer x is as it was: the place that is short may be asked what it lacks, and tells it
    module _ (ws : List ℕ) (are : AreWeights shape.places ((net_of net).takes t) ws) (p : ℕ) (found : FoundBelow (length ws) (short_place ws 0 b (length ws)) (Some p))
        (x : List ℕ) (left : x ≡ taken ws 0 b (length ws)) where
      same : x ≡ b
      same = took-nothing ws b x left p found

      lacks : FoundBelow shape.places (lacking_place (net_of net) (stored net b) t) (Some p)
      lacks = found-there ws are (Some p) found

      pub asks-short : Framed net shape x × ((t < byte net 6) × (p < shape.places) × (p ≡ lacking_place (net_of net) (stored net x) t))
      asks-short = rw same (f, (known-byte net shape b f t known, lacks.0, lacks.1))

      pub start-short : (s : Short) → s ≡ short (net_of net) (stored net x) t → Answers net b (applied net false b (event.Start t)) (Err (refusal.NotEnabled s)) x
      start-short s told =
          let both = start-disabled p lacks s (told ∙ ap (λ (y : List ℕ). short (net_of net) (stored net y) t) same) in
          (both.0, same ∙ both.1)

    -- v, the count at age 0
    module _ (v : ℕ) (stands : v ≡ count (stored net b) t 0) where
      some : ¬ (v ≡ 0) → leb 1 (count (stored net b) t 0) ≡ true
      some s = told-true (leb_tells 1 (count (stored net b) t 0)) (omega (arith, stands, s))

      pub unstart-none : v ≡ 0 → Answers net b (state_taken_back net false b (event.Start t)) (Err (refusal.OnlyBack barrier.NoneStarted)) b
      unfolding back
      unstart-none z = simp (known-test net shape b f t known, told-false (leb_tells 1 (count (stored net b) t 0)) (λ h. omega (arith, stands))) (refl, refl)

      pub start-full : FoundBelow shape.places (lacking_place (net_of net) (stored net b) t) None
          → has_no_old_end_owed (net_of net) (stored net b) ≡ true → is_held (v + 1) ≡ false → Answers net b (applied net false b (event.Start t)) (Err refusal.CountFull) b
      unfolding apply
      start-full none none_old full = simp (known-test net shape b f t known, able none, none_old, one_more stands full) (refl, refl)

      -- the input weights
      module _ (ws : List ℕ) (are : AreWeights shape.places ((net_of net).takes t) ws) where
        module _ (s : ¬ (v ≡ 0)) where
          room_is : is_roomy ws 0 b (length ws) ≡ has_room (net_of net) (stored net b) ((net_of net).takes t)
          room_is = roomy-is net shape b f ((net_of net).takes t) ws are

          pub unstart-no-room : is_roomy ws 0 b (length ws) ≡ false → Answers net b (state_taken_back net false b (event.Start t)) (Err (refusal.OnlyBack barrier.PlaceOverfull)) b
          unfolding back
          unstart-no-room full = simp (known-test net shape b f t known, some s, sym room_is ∙ full) (refl, refl)

          -- 25 does not stand in the way, and 29 does
          pub unstart-too-soon : is_roomy ws 0 b (length ws) ≡ true → has_no_old_end_owed (net_of net) (stored net b) ≡ false
              → Answers net b (state_taken_back net false b (event.Start t)) (Err refusal.OldEndOwed) b
          unfolding back
          unstart-too-soon free owed = simp (known-test net shape b f t known, some s, sym room_is ∙ free, owed) (refl, refl)

          -- x is the buffer with the markings written, and y with the count written too
          pub unstart-done : is_roomy ws 0 b (length ws) ≡ true → has_no_old_end_owed (net_of net) (stored net b) ≡ true → Bytes b → v < 65536
              → (x y : List ℕ) → x ≡ put_words (mark_at 0) (length ws) (after_giving ws 0 b) b → y ≡ set_word x (count_at shape.places shape.width t (column_of (record { 0 = 0 }))) (v - 1)
              → Answers net b (state_taken_back net false b (event.Start t)) (Ok tt) y
          unfolding back unstarted
          unstart-done free none_old small fits x y ex ey =
              simp (known-test net shape b f t known, some s, sym room_is ∙ free, none_old) (
                refl,
                lowered net shape b f small t known (record { 0 = 0 }) fresh ((net_of net).takes t) ws are v stands x y fits free ex ey,
              )

        -- no place is short
        pub start-done : FoundBelow (length ws) (short_place ws 0 b (length ws)) None → has_no_old_end_owed (net_of net) (stored net b) ≡ true → is_held (v + 1) ≡ true → Bytes b
            → (x y : List ℕ) → x ≡ put_words (mark_at 0) (length ws) (after_taking ws 0 b) b → y ≡ set_word x (count_at shape.places shape.width t (column_of (record { 0 = 0 }))) (v + 1)
            → Answers net b (applied net false b (event.Start t)) (Ok tt) y
        unfolding apply started
        start-done none none_old held small x y ex ey =
            simp (known-test net shape b f t known, able (found-there ws are None none), none_old, one_more stands held) (
              refl,
              raised net shape b f small t known (record { 0 = 0 }) fresh ((net_of net).takes t) ws are v stands x y (holds (held_tells (v + 1)) held) ex ey,
            )
