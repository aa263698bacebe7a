-- Words put piece by piece: what each way through a piece says, and the turns of the loop.
-- Assumes nothing.
use Rattle.std.proofs.Common.{◌≡◌, ◌≢◌, false, eqb, refl, sym, ap, ◌∙◌, List, [], ◌∷◌, ℕ, suc, ◌+◌, ◌-◌, ◌<◌, ◌≤◌, ◌⊎◌, inl, inr, length, get_or, set, drop, add-one, drop-cons, arith}
use Rattle.std.proofs.Math.Seq.{paste, drop-length}
use borrow.Author.Tests.{ne_eqb, le-leb, lt-leb}
use Rattle.text.specs.Lines.{space, Spelt}
use Rattle.phrases.specs.declared.names.Kind.TheVariants as kind
use Rattle.phrases.specs.Names.{bytes_of, name_of}
use Rattle.phrases.specs.Wording.{chosen, meaning, called, behind_name, Numbered, Piece, Worded}
use Rattle.phrases.specs.Wording.Worded.{none, more}

-- A NUMBER AND A NAME

module _ (before : List ℕ) (at n : ℕ) (spelt : List ℕ) (last : ℕ) (s : Spelt before at n spelt last) where
  pub number_alone : Numbered before at n [] spelt last
  unfolding called behind_name
  number_alone = record { spelt = spelt; last = last; number = s; stands = refl; ends = refl }

  pub with_name : (name : List ℕ) → 0 < length name
      → Numbered before at n name (paste (set spelt last space) (last + 1) name (length name)) (last + 1 + length name)
  unfolding called behind_name
  with_name name some =
      let e : eqb (length name) 0 ≡ false = ne_eqb (length name) 0 (omega arith) in
      record { spelt = spelt; last = last; number = s; stands = rw e refl; ends = rw e refl }

-- ONE BYTE OF THE WORDS

module _ (ns names before : List ℕ) (at b : ℕ) (after : List ℕ) (end : ℕ) where
  pub place_piece : b ≡ 80 → Numbered before at (get_or ns 0 0) (bytes_of names (name_of names kind.Place (get_or ns 0 0))) after end → Piece ns names before at b after end
  unfolding meaning
  place_piece e h = record { meant = rw e h }

  pub transition_piece : b ≡ 84 → Numbered before at (get_or ns 0 0) (bytes_of names (name_of names kind.Transition (get_or ns 0 0))) after end → Piece ns names before at b after end
  unfolding meaning
  transition_piece e h = record { meant = rw e h }

  pub number_piece : 65 ≤ b → b ≤ 68 → Spelt before at (get_or ns (b - 65) 0) after end → Piece ns names before at b after end
  unfolding meaning
  number_piece l u s = record {
    meant = rw (ne_eqb b 80 (omega arith), ne_eqb b 84 (omega arith), le-leb 65 b l, le-leb b 68 u) (number_alone before at (chosen b ns) after end s);
  }

  pub plain_piece : b ≢ 80 → b ≢ 84 → (b < 65) ⊎ (68 < b) → after ≡ set before at b → end ≡ at + 1 → Piece ns names before at b after end
  unfolding meaning
  plain_piece n m (inl l) f g = record { meant = rw (ne_eqb b 80 n, ne_eqb b 84 m, lt-leb 65 b l) (f, g) }
  plain_piece n m (inr u) f g = record { meant = rw (ne_eqb b 80 n, ne_eqb b 84 m, le-leb 65 b (omega arith), lt-leb b 68 u) (f, g) }

-- THE LOOP

-- what is put from the i-th byte on completes what was put before
module _ (ns names words : List ℕ) where
  pub worded_turn : (i : ℕ) (b b₁ b' : List ℕ) (at at₁ end byte : ℕ) → i < length words → byte ≡ get_or words i 0
      → Piece ns names b at byte b₁ at₁ → Worded ns names b₁ at₁ (drop (i + 1) words) b' end → Worded ns names b at (drop i words) b' end
  worded_turn i b b₁ b' at at₁ end byte h e s rest =
      let split : drop i words ≡ byte ∷ drop (i + 1) words =
      rw (add-one i) (drop-cons words i 0 h ∙ ap (λ (x : ℕ). x ∷ drop (suc i) words) (sym e)) in
      rw split (more s rest)

  -- none is left
  pub worded_end : (i : ℕ) (b : List ℕ) (at : ℕ) → i ≡ length words → Worded ns names b at (drop i words) b at
  worded_end i b at e = rw (ap (λ (k : ℕ). drop k words) e ∙ drop-length words) none
