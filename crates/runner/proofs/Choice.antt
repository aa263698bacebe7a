-- The choice that is computed is right, and the rule permits no other.
-- Assumes nothing.
use mathlib.Core.Path.{◌≡◌, refl, sym, ap}
use mathlib.Core.Logic.{◌↔◌}
use Prim.Native.Nat.{ℕ, ◌<◌}
use Rattle.std.proofs.Common.{Some, None}
use Rattle.model.specs.declared.event.Event.{Event}
use Rattle.model.specs.declared.event.Event.TheVariants as event
use Rattle.model.specs.Net.{Net, State}
use Rattle.model.specs.Moves.{NoStartOwed, NoEndOwed}
use Rattle.model.specs.Owed.{OwesStart, OwesEnd, Lowest, word_bits}
use Rattle.model.proofs.Tab.{below-or-past, at-or-below}
use Rattle.model.proofs.Tests.{no-start-owed-tells, no-end-owed-tells, nothing-running-tells, decide, told-true, told-false}
use Rattle.model.proofs.Lowest.{lowest-is}
use Rattle.model.proofs.Owed.{owes-start-tells, owes-end-tells, no-start-owed-is, no-end-owed-is}
use Rattle.runner.specs.Choice.{end_at_lfd, LowestOf, Chooses, AtRest, Choice, Picks, choice}

-- the lowest of a set that is not empty is one of the set
pub found : {A : ℕ → Type 0} {n none l : ℕ} → Lowest A n none l → ¬ ((i : ℕ) → i < n → ¬ A i) → LowestOf A l
found (Lowest.found b a lower) some = (a, lower)
found (Lowest.empty none) some = absurd (some none)

lowest-once : {A : ℕ → Type 0} {t u : ℕ} → LowestOf A t → LowestOf A u → t ≡ u
lowest-once {t = t} {u = u} (a, lower) (b, lower') =
    below-or-past t u (λ h. absurd (lower' t h a)) (λ h. at-or-below u t h sym (λ g. absurd (lower u g b)))

module _ (N : Net) (S : State) where
  pub choice-picks : Picks N S (choice N S)
  unfolding choice
  choice-picks =
      let s = no-start-owed-tells N S in
      let e = no-end-owed-tells N S in
      let r = nothing-running-tells N S in
      let starts = lowest-is (owes-start-tells N S) word_bits N.transitions in
      let ends = lowest-is (owes-end-tells N S) word_bits N.transitions in
      decide e
      (λ none. decide s
      (λ none'. decide r
      (λ still. rw (told-true e none, told-true s none', told-true r still) (none, none', still))
      (λ runs. rw (told-true e none, told-true s none', told-false r runs) (Chooses.tick none none' runs)))
      (λ due. rw (told-true e none, told-false s due)
      (Chooses.start none (found starts (λ empty. due (λ t l en. empty t l (l, en)))))))
      (λ due. rw (told-false e due)
      (Chooses.end (found ends (λ empty. due ((no-end-owed-is N S).1 (λ t o. empty t o.0 o))))))

  no_end : {t : ℕ} {C : Type 0} → NoEndOwed N S → LowestOf (OwesEnd N S) t → C
  no_end {t} none (o, lower) = absurd ((no-end-owed-is N S).0 none t o)

  no_start : {t : ℕ} {C : Type 0} → NoStartOwed N S → LowestOf (OwesStart N S) t → C
  no_start {t} none (o, lower) = absurd ((no-start-owed-is N S).0 none t o)

  -- the rule chooses one event at most
  pub chooses-once : {e f : Event} → Chooses N S e → Chooses N S f → e ≡ f
  chooses-once (Chooses.end a) (Chooses.end b) = ap (end_at_lfd N) (lowest-once a b)
  chooses-once (Chooses.end a) (Chooses.start none b) = no_end none a
  chooses-once (Chooses.end a) (Chooses.tick none none' runs) = no_end none a
  chooses-once (Chooses.start none a) (Chooses.end b) = no_end none b
  chooses-once (Chooses.start none a) (Chooses.start none' b) = ap event.Start (lowest-once a b)
  chooses-once (Chooses.start none a) (Chooses.tick none' none'' runs) = no_start none'' a
  chooses-once (Chooses.tick none none' runs) (Chooses.end b) = no_end none b
  chooses-once (Chooses.tick none none' runs) (Chooses.start none'' b) = no_start none' b
  chooses-once (Chooses.tick none none' runs) (Chooses.tick _ _ _) = refl

  -- and none at rest
  pub rest-chooses : {e : Event} {C : Type 0} → AtRest N S → Chooses N S e → C
  rest-chooses (none, none', still) (Chooses.end a) = no_end none a
  rest-chooses (none, none', still) (Chooses.start _ a) = no_start none' a
  rest-chooses (none, none', still) (Chooses.tick _ _ runs) = absurd (runs still)

  picks-once : (c d : Choice) → Picks N S c → Picks N S d → c ≡ d
  picks-once None None a b = refl
  picks-once None (Some e) a b = rest-chooses a b
  picks-once (Some e) None a b = rest-chooses b a
  picks-once (Some e) (Some f) a b = ap Some (chooses-once a b)

  -- the choice that is computed is the only right one
  pub choice-exact : (c : Choice) → (choice N S ≡ c) ↔ Picks N S c
  choice-exact c = ((λ e. rw e at choice-picks), picks-once (choice N S) c choice-picks)
