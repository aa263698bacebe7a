-- Markings written place by place: a place whose weight is 0 is as good as written, and what is set back stands as it stood.
-- Assumes nothing.
use mathlib.Core.Path.{◌≡◌, sym, ap, ◌∙◌}
use mathlib.Core.List.{List}
use Prim.Native.Nat.{ℕ, zero, suc, ◌<◌, ◌≤◌}
use native.Mathlib.Omega.{arith}
use Rattle.model.proofs.Tab.{at-or-below}
use Rattle.forms.specs.Word.{Bytes, word, set_word, put_words}
use Rattle.forms.specs.Places.{mark_at}
use Rattle.forms.proofs.WordLaws.{set_word-own, put_words-set_word, put_words-put_words, put_words-cong, put_words-own}

-- the markings of the places from p up to r are written as they stand
module _ (g : ℕ → ℕ) (s : List ℕ) (small : Bytes s) (p : ℕ) where
  pub put_on : (r : ℕ) → p ≤ r → ((q : ℕ) → p ≤ q → q < r → g q ≡ word s (mark_at q)) → put_words (mark_at 0) p g s ≡ put_words (mark_at 0) r g s
  unfolding put_words
  put_on zero up own = let e : p ≡ 0 = omega arith in rw e
  put_on (suc r) up own =
      at-or-below p (suc r) up (λ e. rw e)
      (λ below.
      put_on r (omega arith) (λ q u l. own q u (omega arith))
      ∙ ap (put_words (mark_at 0) r g) (sym (set_word-own s (mark_at r) small))
      ∙ put_words-set_word (mark_at 0) g s r (mark_at r) (word s (mark_at r)) (omega arith)
      ∙ ap (set_word (put_words (mark_at 0) r g s) (mark_at r)) (sym (own r (omega arith) (omega arith))))

-- the first n markings are written, and then written as they stood
pub put_back : (f g : ℕ → ℕ) (s : List ℕ) (n : ℕ) → Bytes s → ((p : ℕ) → p < n → g p ≡ word s (mark_at p))
    → put_words (mark_at 0) n g (put_words (mark_at 0) n f s) ≡ s
put_back f g s n small own =
    put_words-put_words (mark_at 0) g f s n ∙ put_words-cong (mark_at 0) g (λ p. word s (mark_at p)) s n own ∙ put_words-own (mark_at 0) s n small
