-- An end of a transition, done and taken back, against the rules: what each return of the code answers, and what it leaves.
-- Assumes nothing.
use mathlib.Core.Path.{◌≡◌, refl, sym, ◌∙◌}
use mathlib.Core.Bool.{true, false}
use mathlib.Core.List.{List}
use Prim.Native.Nat.{ℕ, ◌+◌, ◌-◌, ◌<◌, ◌≤◌}
use native.Mathlib.Omega.{arith}
use lib.Dec.{leb}
use lib.ListN.{length}
use borrow.Author.Tests.{le-leb, lt-leb, leb-true}
use Rattle.model.specs.declared.age.Age.{Age}
use Rattle.model.specs.declared.net.Net.{Net as Shape}
use Rattle.model.specs.declared.event.Event.TheVariants as event
use Rattle.model.specs.declared.answer.Barrier.TheVariants as barrier
use Rattle.model.specs.declared.answer.Refusal.TheVariants as refusal
use Rattle.std.proofs.Common.{Ok, Err, Some, None}
use Rattle.model.specs.Age.{column_of}
use Rattle.model.specs.Limits.{is_held, token_limit}
use Rattle.model.specs.Net.{count}
use Rattle.model.specs.Rules.{is_timely, can_end, does_cover, apply, back, ended, unended}
use Rattle.model.proofs.Tests.{timely-tells}
use Rattle.model.proofs.Alls.{holds}
use Rattle.forms.specs.Word.{Bytes, set_word, put_words}
use Rattle.forms.specs.Places.{mark_at, count_at}
use Rattle.forms.specs.Stored.{net_of, stored}
use Rattle.forms.specs.Frame.{Framed}
use Rattle.forms.proofs.Inside.{lfd-young}
use Rattle.owed.specs.Marks.{FoundBelow, short_place}
use Rattle.owed.specs.Weights.{AreWeights}
use Rattle.moves.specs.Marking.{after_taking, after_giving, is_roomy}
use Rattle.moves.specs.After.{applied, state_taken_back, Answers}
use Rattle.moves.proofs.Looked.{covers, covers-not, roomy-is}
use Rattle.moves.proofs.Fired.{known-byte, unknown-test, known-test, one_more, raised, lowered}

module _ (net : List ℕ) (shape : Shape) (b : List ℕ) (f : Framed net shape b) (t : ℕ) (age : Age) where
  pub end-unknown : shape.transitions ≤ t → Answers net b (applied net false b (event.End t age)) (Err refusal.NoSuchTransition) b
  unfolding apply can_end
  end-unknown l = simp (unknown-test net shape b f t l) (refl, refl)

  pub unend-unknown : shape.transitions ≤ t → Answers net b (state_taken_back net false b (event.End t age)) (Err refusal.NoSuchTransition) b
  unfolding back can_end
  unend-unknown l = simp (unknown-test net shape b f t l) (refl, refl)

  module _ (known : t < shape.transitions) where
    pub end-untimely : is_timely (net_of net) t age.0 ≡ false
        → Answers net b (applied net false b (event.End t age)) (Err refusal.OutsideInterval) b
    unfolding apply can_end
    end-untimely late = simp (known-test net shape b f t known, late) (refl, refl)

    pub unend-untimely : is_timely (net_of net) t age.0 ≡ false
        → Answers net b (state_taken_back net false b (event.End t age)) (Err refusal.OutsideInterval) b
    unfolding back can_end
    unend-untimely late = simp (known-test net shape b f t known, late) (refl, refl)

    module _ (timely : is_timely (net_of net) t age.0 ≡ true) where
      -- a timely age has its column
      pub young : age.0 < shape.width
      young = omega (arith, (holds (timely-tells (net_of net) t age.0) timely).1, lfd-young net shape b f t (known-byte net shape b f t known))

      -- v is the count that the code found
      module _ (v : ℕ) (stands : v ≡ count (stored net b) t age.0) where
        some-run : 1 ≤ v → leb 1 (count (stored net b) t age.0) ≡ true
        some-run l = le-leb 1 (count (stored net b) t age.0) (omega (arith, stands))

        pub end_none : v ≡ 0 → Answers net b (applied net false b (event.End t age)) (Err refusal.NoneOfThatAge) b
        unfolding apply can_end
        end_none z =
            simp (known-test net shape b f t known, timely, lt-leb 1 (count (stored net b) t age.0) (omega (arith, stands))) (refl, refl)

        -- the output weights; x is the buffer with the markings written, and y with the count written too
        module _ (ws : List ℕ) (are : AreWeights shape.places ((net_of net).gives t) ws) where
          covered : FoundBelow (length ws) (short_place ws 0 b (length ws)) None → does_cover (net_of net) (stored net b) ((net_of net).gives t) ≡ true
          covered = covers net shape b f ((net_of net).gives t) ws are

          pub unend-short : (p : ℕ) → FoundBelow (length ws) (short_place ws 0 b (length ws)) (Some p)
              → Answers net b (state_taken_back net false b (event.End t age)) (Err (refusal.OnlyBack barrier.TooFewTokens)) b
          unfolding back can_end
          unend-short p found = simp (known-test net shape b f t known, timely, covers-not net shape b f ((net_of net).gives t) ws are p found) (refl, refl)

          pub unend-full : FoundBelow (length ws) (short_place ws 0 b (length ws)) None → is_held (v + 1) ≡ false
              → Answers net b (state_taken_back net false b (event.End t age)) (Err (refusal.OnlyBack barrier.CountOverfull)) b
          unfolding back can_end
          unend-full none full = simp (known-test net shape b f t known, timely, covered none, one_more stands full) (refl, refl)

          pub unend-done : FoundBelow (length ws) (short_place ws 0 b (length ws)) None → is_held (v + 1) ≡ true → Bytes b
              → (x y : List ℕ) → x ≡ put_words (mark_at 0) (length ws) (after_taking ws 0 b) b → y ≡ set_word x (count_at shape.places shape.width t (column_of age)) (v + 1)
              → Answers net b (state_taken_back net false b (event.End t age)) (Ok tt) y
          unfolding back can_end unended
          unend-done none free small x y ex ey =
              simp (known-test net shape b f t known, timely, covered none, one_more stands free) (
                refl,
                raised net shape b f small t known age young ((net_of net).gives t) ws are v stands x y (leb-true (v + 1) token_limit free) ex ey,
              )

          pub end-full : 1 ≤ v → is_roomy ws 0 b (length ws) ≡ false → Answers net b (applied net false b (event.End t age)) (Err refusal.PlaceFull) b
          unfolding apply can_end
          end-full l full =
              simp (
                known-test net shape b f t known,
                timely,
                some-run l,
                sym (roomy-is net shape b f ((net_of net).gives t) ws are) ∙ full,
              ) (refl, refl)

          pub end-done : 1 ≤ v → v < 65536 → is_roomy ws 0 b (length ws) ≡ true → Bytes b
              → (x y : List ℕ) → x ≡ put_words (mark_at 0) (length ws) (after_giving ws 0 b) b → y ≡ set_word x (count_at shape.places shape.width t (column_of age)) (v - 1)
              → Answers net b (applied net false b (event.End t age)) (Ok tt) y
          unfolding apply can_end ended
          end-done l fits roomy small x y ex ey =
              simp (
                known-test net shape b f t known,
                timely,
                some-run l,
                sym (roomy-is net shape b f ((net_of net).gives t) ws are) ∙ roomy,
              ) (refl, lowered net shape b f small t known age young ((net_of net).gives t) ws are v stands x y fits roomy ex ey)
