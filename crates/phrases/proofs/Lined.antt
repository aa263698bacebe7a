-- Lines: how long they are together, and the searches through them.
-- Assumes nothing.
use Rattle.std.proofs.Common.{◌≡◌, refl, sym, ap, ◌∙◌, Bool, true, false, cond, List, [], ◌∷◌, ◌++◌, ℕ, ◌+◌, ◌-◌, ◌<◌, ◌≤◌, ◌&&◌, eqb, leb, length, get_or, take, drop, sum_by, All, IfSome, Option, Some, None, arith, length-drop}
use Rattle.std.proofs.lemmas.List.{drop_more, take_rest, drop-drop, take-append-drop, get_or-drop, length-take-le}
use Rattle.std.proofs.lemmas.List.Elements.{All-more}
use Rattle.std.proofs.lemmas.List.Splits.{slice_split_at, slice_split_none}
use Rattle.std.proofs.lemmas.List.Sums.{sum_by-cons}
use Rattle.std.proofs.lemmas.Option.{IfSome_then}
use Rattle.std.specs.Bool.{then_some}
use Rattle.std.specs.List.{onto_first}
use borrow.Author.Tests.{leb-true, eq-eqb, ne_eqb}
use Rattle.phrases.specs.Bytes.{starts_with}
use Rattle.phrases.specs.declared.names.Named.{Named}
use Rattle.phrases.specs.Names.{part, bytes_in, lines_of, Said, thing_in, is_bad, is_due, next_bad_in, next_bad, does_name, name_in}

-- of these lines, and a byte behind each
abbrev pub total : List (List ℕ) → ℕ
total ls = sum_by (λ l. length l + 1) ls

total-onto_first : (x : ℕ) (ls : List (List ℕ)) → 0 < total ls → total (onto_first x ls) ≡ total ls + 1
total-onto_first x [] h = absurd (omega arith)
total-onto_first x (l ∷ ls) h = simp sum_by-cons (omega arith)

-- one byte more than the file
pub total_lines_of : (names : List ℕ) → total (lines_of names) ≡ length names + 1
total_lines_of [] = refl
total_lines_of (b ∷ names) =
    let rest : total (lines_of names) ≡ length names + 1 = total_lines_of names in
    elim (eqb b 10) as (λ is. total (cond is ([] ∷ lines_of names) (onto_first b (lines_of names))) ≡ length (b ∷ names) + 1) [
      | true ↦ simp sum_by-cons (omega arith)
      | false ↦ omega (arith, total-onto_first b (lines_of names) (omega arith))
    ]

-- THE LINE AT HAND

-- no byte among these ends a line
abbrev pub IsOneLine : List ℕ → Type 0
IsOneLine bytes = All (λ b. eqb b 10 ≡ false) bytes

-- a line that begins at `from`, up to i
pub new_line : (names : List ℕ) (from i : ℕ) → from ≡ i → IsOneLine (take (i - from) (drop from names))
new_line names from i e k d h =
    let none : i - from ≡ 0 = omega arith in
    let below : k < 0 = rw none at h in
    absurd (omega arith)

module _ (names : List ℕ) (from i : ℕ) (begun : from ≤ i) where
  pub line_goes_on : i < length names → (get_or names i 0 ≡ 10 → ⊥) → IsOneLine (take (i - from) (drop from names)) → IsOneLine (take (i + 1 - from) (drop from names))
  line_goes_on l n h =
      let one : i + 1 - from ≡ i - from + 1 = omega arith in
      let inside : i - from < length (drop from names) = omega (arith, length-drop from names) in
      let there : from + (i - from) ≡ i = omega arith in
      let byte : get_or (drop from names) (i - from) 0 ≡ get_or names i 0 = get_or-drop from names (i - from) 0 ∙ ap (λ (j : ℕ). get_or names j 0) there in
      rw one (All-more (λ b. eqb b 10 ≡ false) (drop from names) (i - from) 0 inside h (rw byte (ne_eqb (get_or names i 0) 10 n)))

  pub line_ends : i < length names → get_or names i 0 ≡ 10 → IsOneLine (take (i - from) (drop from names))
      → lines_of (drop from names) ≡ take (i - from) (drop from names) ∷ lines_of (drop (i + 1) names)
  line_ends l e h =
      let there : from + (i - from) ≡ i = omega arith in
      let rest : drop (i - from) (drop from names) ≡ get_or names i 0 ∷ drop (i + 1) names = drop-drop (i - from) from names ∙ ap (λ (j : ℕ). drop j names) there ∙ drop_more names i 0 l in
      let whole : drop from names ≡ take (i - from) (drop from names) ++ (get_or names i 0 ∷ drop (i + 1) names) = sym (take-append-drop (i - from) (drop from names)) ∙ ap (λ (y : List ℕ). take (i - from) (drop from names) ++ y) rest in
      ap lines_of whole ∙ slice_split_at (λ b. eqb b 10) (take (i - from) (drop from names)) (get_or names i 0) (drop (i + 1) names) h (eq-eqb (get_or names i 0) 10 e)

-- it has the bytes up to its end
pub line_length : (names : List ℕ) (from end : ℕ) → from ≤ end → end ≤ length names → from + length (bytes_in names (part from end)) ≡ end
line_length names from end u l =
    let inside : end - from ≤ length (drop from names) = omega (arith, length-drop from names) in
    omega (arith, length-take-le (end - from) (drop from names) inside)

-- the last line ends with the file
pub last_line : (names : List ℕ) (from i : ℕ) → i ≡ length names → IsOneLine (take (i - from) (drop from names))
    → lines_of (drop from names) ≡ take (length names - from) (drop from names) ∷ []
last_line names from i e h =
    let whole : take (i - from) (drop from names) ≡ drop from names = rw e (take_rest names from) in
    slice_split_none (λ b. eqb b 10) (drop from names) (rw whole at h) ∙ ap (λ (line : List ℕ). line ∷ []) (sym (take_rest names from))

-- a line that is shorter than the word does not begin with it
short : (line word : List ℕ) → length line < length word → starts_with line word ≡ false
short line [] h = absurd (omega arith)
short [] (w ∷ word) h = refl
short (b ∷ line) (w ∷ word) h = grind (arith, short line word (omega arith))

pub nothing_in_short : (line word : List ℕ) → length line < length word → thing_in line word ≡ None
unfolding thing_in
nothing_in_short line word h = rw (short line word h) refl

-- BAD LINES

module _ (after : ℕ) where
  module _ (k : ℕ) (line : List ℕ) (ls left : List (List ℕ)) (split : ls ≡ line ∷ left) where
    pub due_here : true ≡ is_due after k line → Some (k + 1) ≡ next_bad_in after k ls
    unfolding next_bad_in
    due_here e = rw (split, ← e) refl

    pub not_due : false ≡ is_due after k line → next_bad_in after (k + 1) left ≡ next_bad_in after k ls
    unfolding next_bad_in
    not_due e = rw (split, ← e) refl

  -- the last line is due, or there is none
  pub due_last : (k : ℕ) (line : List ℕ) (ls : List (List ℕ)) (is : Bool) → ls ≡ line ∷ [] → is ≡ is_due after k line → then_some is (k + 1) ≡ next_bad_in after k ls
  unfolding next_bad_in
  due_last k line ls true split e = rw (split, ← e) refl
  due_last k line ls false split e = rw (split, ← e) refl

  abbrev IsWithin : ℕ → List (List ℕ) → ℕ → Type 0
  IsWithin k ls line = (after < line) × (line + 1 ≤ k + total ls)

  bad-has_bytes : (l : List ℕ) → is_bad l ≡ true → 0 < length l
  unfolding is_bad
  bad-has_bytes [] h = cc
  bad-has_bytes (b ∷ l) h = omega arith

  further : (k : ℕ) (l : List ℕ) (ls : List (List ℕ)) → IfSome (next_bad_in after (k + 1) ls) (IsWithin (k + 1) ls) → IfSome (next_bad_in after (k + 1) ls) (IsWithin k (l ∷ ls))
  further k l ls h = IfSome_then (next_bad_in after (k + 1) ls) {P = IsWithin (k + 1) ls} {Q = IsWithin k (l ∷ ls)} h (λ line p. simp sum_by-cons (omega arith, omega arith))

  within-turn : (k : ℕ) (l : List ℕ) (ls : List (List ℕ)) (is₁ is₂ : Bool) → leb after k ≡ is₁ → is_bad l ≡ is₂
      → IfSome (next_bad_in after (k + 1) ls) (IsWithin (k + 1) ls) → IfSome (cond (is₁ && is₂) (Some (k + 1)) (next_bad_in after (k + 1) ls)) (IsWithin k (l ∷ ls))
  within-turn k l ls true true e₁ e₂ h =
      let p : after ≤ k = leb-true after k e₁ in
      let q : 0 < length l = bad-has_bytes l e₂ in
      simp sum_by-cons (omega arith, omega arith)
  within-turn k l ls true false e₁ e₂ h = further k l ls h
  within-turn k l ls false is₂ e₁ e₂ h = further k l ls h

  within : (k : ℕ) (ls : List (List ℕ)) → IfSome (next_bad_in after k ls) (IsWithin k ls)
  unfolding is_due next_bad_in
  within k [] = tt
  within k (l ∷ ls) = within-turn k l ls (leb after k) (is_bad l) refl refl (within (k + 1) ls)

  pub next_bad_within : (names : List ℕ) → IfSome (next_bad names after) (λ line. (after < line) × (line ≤ length names))
  unfolding next_bad
  next_bad_within names =
      IfSome_then (next_bad_in after 0 (lines_of names)) {P = IsWithin 0 (lines_of names)} {Q = λ line. (after < line) × (line ≤ length names)} (within 0 (lines_of names))
      (λ line p. (p.0, omega (arith, p.1, total_lines_of names)))

-- THE NAME OF A THING

-- a turn of the search through lines, at line k, which begins at `from`
module _ (word : List ℕ) (number : ℕ) (lines : List (List ℕ)) (k from : ℕ) (line : List ℕ) (some : k < length lines) (here : line ≡ get_or lines k line) where
  abbrev left : ℕ → List (List ℕ)
  left i = drop i lines

  split : left k ≡ line ∷ left (k + 1)
  split = drop_more lines k line some ∙ ap (λ (x : List ℕ). x ∷ left (k + 1)) (sym here)

  pub name_here : (s : Said) → Some s ≡ thing_in line word → s.number ≡ number
      → Some (part (from + length line - length s.name) (from + length line)) ≡ name_in word number from (left k)
  unfolding name_in
  name_here s e f = rw (split, ← e, eq-eqb s.number number f) refl

  pub not_here : does_name (thing_in line word) number ≡ false → name_in word number from (left k) ≡ name_in word number (from + length line + 1) (left (k + 1))
  unfolding name_in
  not_here e = rw (split, e) refl

pub no_thing : (said : Option Said) (number : ℕ) → None ≡ said → does_name said number ≡ false
no_thing said number e = rw (← e) refl

pub other_number : (said : Option Said) (s : Said) (number : ℕ) → Some s ≡ said → (s.number ≡ number → ⊥) → does_name said number ≡ false
other_number said s number e n = rw (← e) (ne_eqb s.number number n)

one_more : (is : Bool) (x n : Named) (r : Option Named) → Some n ≡ cond is (Some x) None → Some n ≡ cond is (Some x) r
one_more true x n r e = e
one_more false x n r e = cc

other_one : (is : Bool) (x : Named) (r : Option Named) → None ≡ cond is (Some x) None → r ≡ cond is (Some x) r
other_one true x r e = cc
other_one false x r e = refl

-- the search through the line at hand alone, and through it and those behind it
module _ (word : List ℕ) (number from : ℕ) (line : List ℕ) (ls left : List (List ℕ)) (split : ls ≡ line ∷ left) where
  pub named_here : (n : Named) → Some n ≡ name_in word number from (line ∷ []) → Some n ≡ name_in word number from ls
  unfolding name_in
  named_here n e = rw split (one_more (does_name (thing_in line word) number) _ n _ e)

  pub named_later : None ≡ name_in word number from (line ∷ []) → name_in word number (from + length line + 1) left ≡ name_in word number from ls
  unfolding name_in
  named_later e = rw split (other_one (does_name (thing_in line word) number) _ _ e)
