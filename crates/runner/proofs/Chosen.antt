-- What the looks for an end, for a start and for what runs come to: the choice.
-- Assumes nothing.
use Rattle.std.proofs.Common.{◌≡◌, sym, Some, None, true, false, ℕ}
use Rattle.model.specs.declared.event.Event.{Event}
use Rattle.model.specs.declared.event.Event.TheVariants as event
use Rattle.model.specs.Net.{Net, State}
use Rattle.model.specs.Moves.{NoStartOwed, NoEndOwed}
use Rattle.model.specs.Rules.{has_nothing_running}
use Rattle.model.specs.Owed.{OwesStart, OwesEnd}
use Rattle.model.proofs.Alls.{holds, lacks}
use Rattle.model.proofs.Tests.{nothing-running-tells}
use Rattle.model.proofs.Owed.{no-end-owed-is}
use Rattle.runner.specs.declared.clear.Clear.{Clear}
use Rattle.runner.specs.Choice.{Chooses, choice, end_at_lfd}
use Rattle.runner.specs.Chosen.{LowestFrom, IsClear}
use Rattle.runner.proofs.Choice.{choice-exact}
use Rattle.runner.proofs.Clearing.{found-lowest, none_found}

module _ {N : Net} {S : State} {c : Clear} (clear : IsClear N S c) where
  pub chosen-end : {t : ℕ} → LowestFrom (OwesEnd N S) c.ends N.transitions (Some t) → choice N S ≡ Some (end_at_lfd N t)
  chosen-end {t} low = (choice-exact N S (Some (end_at_lfd N t))).1 (Chooses.end (found-lowest clear.no_end low))

  module _ (none : LowestFrom (OwesEnd N S) c.ends N.transitions None) where
    no_end : NoEndOwed N S
    no_end = (no-end-owed-is N S).1 (λ t o. none_found clear.no_end none t o.0 o)

    -- no start is owed, and something runs
    pub chosen-tick-known : c.starts ≡ None → choice N S ≡ Some event.Tick
    chosen-tick-known is =
        let (none', runs) = rw is at clear.no_start in
        (choice-exact N S (Some event.Tick)).1 (Chooses.tick no_end (λ t l en. none' t (l, en)) runs)

    module _ {from : ℕ} (is : c.starts ≡ Some from) where
      pub chosen-start : {t : ℕ} → LowestFrom (OwesStart N S) from N.transitions (Some t) → choice N S ≡ Some (event.Start t)
      chosen-start {t} low =
          let yet = rw is at clear.no_start in
          (choice-exact N S (Some (event.Start t))).1 (Chooses.start no_end (found-lowest yet.1 low))

      module _ (none' : LowestFrom (OwesStart N S) from N.transitions None) where
        no_start : NoStartOwed N S
        no_start = let yet = rw is at clear.no_start in λ t l en. none_found yet.1 none' t l (l, en)

        pub chosen-rest : has_nothing_running N S ≡ true → choice N S ≡ None
        chosen-rest still = (choice-exact N S None).1 (no_end, no_start, holds (nothing-running-tells N S) still)

        pub chosen-tick : has_nothing_running N S ≡ false → choice N S ≡ Some event.Tick
        chosen-tick runs = (choice-exact N S (Some event.Tick)).1 (Chooses.tick no_end no_start (lacks (nothing-running-tells N S) runs))

-- what is told as chosen is chosen
pub right-choice : {N : Net} {S : State} {e : Event} → Some e ≡ choice N S → Chooses N S e
right-choice {N} {S} {e} told = (choice-exact N S (Some e)).0 (sym told)
