-- The worked examples hold.
-- Assumes nothing.
use mathlib.Core.Path.{◌≡◌, refl, ap, ◌∙◌}
use mathlib.Core.Bool.{false}
use mathlib.Core.List.{List, [], ◌∷◌}
use Prim.Native.Nat.{ℕ, zero, suc, ◌<◌, ◌≤◌}
use native.Mathlib.Nat.{not-suc-le-zero, zero-add}
use native.Mathlib.Omega.{arith}
use lib.ListN.{length}
use Rattle.std.proofs.Common.{Some}
use Rattle.model.specs.declared.event.Event.{Event}
use Rattle.model.specs.declared.event.Event.TheVariants as event
use Rattle.model.specs.Tab.{tab, all, largest, lowest, sum, one}
use Rattle.model.specs.Net.{State, HasInput, HasOutput, width, tokens, count, build, initial_state}
use Rattle.model.specs.Rules.{done, lacking_place, is_enabled, has_no_start_owed, has_no_end_owed, has_nothing_running, is_timely, can_end, owes_no_old_end, has_no_old_end_owed, has_room, started, ended, older, ticked, apply}
use Rattle.model.specs.Run.{ticks_in, event_at}
use Rattle.model.specs.Owed.{does_owe_start, does_owe_end}
use Rattle.model.specs.Cases.{childrens_row, slow_middle}
use Rattle.model.proofs.Tab.{below_suc}
use Rattle.runner.specs.declared.stop.Stop.TheVariants as stop
use Rattle.runner.specs.Choice.{choice, end_at_lfd}
use Rattle.runner.specs.Page.{Page, page}
use Rattle.runner.specs.Bound.{owed_ends, all_tokens_after, Soon}
use Rattle.runner.specs.Cases.{RowPages, two_owed, LowestPages, spin, NeverTicks}

pub row-pages : RowPages
unfolding tab all largest lowest one width tokens count build initial_state lacking_place is_enabled has_no_start_owed has_no_end_owed has_nothing_running is_timely can_end owes_no_old_end has_no_old_end_owed has_room started ended older ticked apply does_owe_start does_owe_end childrens_row choice page
row-pages = record {
  whole = refl;
  exactly = refl;
  at_rest = refl;
  no_budget = refl;
  no_room = refl;
  one_event = refl;
  count_full = refl;
  place_full = refl;
  not_yet = refl;
  nor_yet = refl;
  end_first = refl;
}

abbrev end_at : ℕ → ℕ → Event
end_at t j = event.End t (record { 0 = j })

-- the events of the bound's own case: none of the first six is a tick
abbrev six : List Event
six = end_at 1 4 ∷ end_at 1 4 ∷ end_at 2 1 ∷ event.Start 0 ∷ event.Start 0 ∷ event.Start 0 ∷ event.Tick ∷ []

not_yet : (k : ℕ) → k ≤ 5 → ¬ (event_at six k ≡ event.Tick)
not_yet zero l q = cc
not_yet (suc zero) l q = cc
not_yet (suc (suc zero)) l q = cc
not_yet (suc (suc (suc zero))) l q = cc
not_yet (suc (suc (suc (suc zero)))) l q = cc
not_yet (suc (suc (suc (suc (suc zero))))) l q = cc
not_yet (suc (suc (suc (suc (suc (suc k)))))) l q = omega arith

later : (p : Page) → p.events ≡ six → ¬ Soon p 5
later p is (Soon.ticks k l b q) = not_yet k l (rw is at q)
later p is (Soon.stops l b f) = let n : length p.events ≡ 7 = ap length is in omega arith

pub lowest-pages : LowestPages
unfolding tab all largest lowest one width tokens count build initial_state lacking_place is_enabled has_no_start_owed has_no_end_owed has_nothing_running is_timely can_end owes_no_old_end has_no_old_end_owed has_room started ended older ticked apply does_owe_start does_owe_end slow_middle choice page sum owed_ends all_tokens_after
lowest-pages = record {
  lowest_start = refl;
  lowest_end = refl;
  none_instant = below_suc _ 2 (omega arith) (below_suc _ 1 (omega arith) (below_suc _ 0 (omega arith) (λ i h. absurd (not-suc-le-zero h))));
  bound_is = refl;
  not_sooner = later (page slow_middle two_owed 9 7) refl;
}

-- THE NET THAT NEVER TICKS

-- with its token running
spinning : State
spinning = record { marking = 0 ∷ []; clock = (1 ∷ []) ∷ [] }

resting : State
resting = record { marking = 1 ∷ []; clock = (0 ∷ []) ∷ [] }

begins : initial_state spin ≡ resting
unfolding tab largest width build initial_state spin resting
begins = refl

chooses-start : choice spin resting ≡ Some (event.Start 0)
unfolding tab all largest lowest width tokens count lacking_place is_enabled has_no_start_owed has_no_end_owed has_nothing_running does_owe_start does_owe_end spin choice resting
chooses-start = refl

does-start : apply spin false resting (event.Start 0) ≡ done spinning
unfolding tab all largest lowest one width tokens count build lacking_place is_enabled owes_no_old_end has_no_old_end_owed started apply spin resting spinning
does-start = refl

chooses-end : choice spin spinning ≡ Some (end_at_lfd spin 0)
unfolding tab all largest lowest width tokens count lacking_place is_enabled has_no_start_owed has_no_end_owed has_nothing_running does_owe_start does_owe_end spin choice spinning
chooses-end = refl

does-end : apply spin false spinning (end_at_lfd spin 0) ≡ done resting
unfolding tab all largest one width tokens count build is_timely can_end owes_no_old_end has_no_old_end_owed has_room ended apply spin resting spinning
does-end = refl

round : (room budget : ℕ) → budget ≤ room → (page spin resting room budget).stop ≡ stop.BudgetSpent
unfolding page
round room zero h = rw chooses-start refl
round zero (suc budget) h = absurd (omega arith)
round (suc room) (suc zero) h = rw (chooses-start, does-start, chooses-end) refl
round (suc zero) (suc (suc budget)) h = absurd (omega arith)
round (suc (suc room)) (suc (suc budget)) h = rw (chooses-start, does-start, chooses-end, does-end) (round room budget (omega arith))

quiet : (room budget : ℕ) → ticks_in (page spin resting room budget).events ≡ 0
unfolding page ticks_in
quiet room zero = rw chooses-start refl
quiet zero (suc budget) = rw chooses-start refl
quiet (suc room) (suc zero) = rw (chooses-start, does-start, chooses-end) refl
quiet (suc zero) (suc (suc budget)) = rw (chooses-start, does-start, chooses-end) refl
quiet (suc (suc room)) (suc (suc budget)) = rw (chooses-start, does-start, chooses-end, does-end) (zero-add _ ∙ zero-add _ ∙ quiet room budget)

-- two events of it, neither of which is a tick
abbrev turn : Page
turn = record { events = event.Start 0 ∷ end_at_lfd spin 0 ∷ []; stop = stop.BudgetSpent; state = resting }

turns : page spin resting 2 2 ≡ turn
unfolding page
turns = rw (chooses-start, does-start, chooses-end, does-end) (rw chooses-start refl)

no_tick : (k : ℕ) → k ≤ 1 → ¬ (event_at (event.Start 0 ∷ end_at_lfd spin 0 ∷ []) k ≡ event.Tick)
no_tick zero l q = cc
no_tick (suc zero) l q = cc
no_tick (suc (suc k)) l q = omega arith

spins : ¬ Soon turn 1
spins (Soon.ticks k l b q) = no_tick k l q
spins (Soon.stops l b f) = omega arith

-- what holds at 0 holds below 1
single : (A : ℕ → Type 0) → A 0 → (i : ℕ) → i < 1 → A i
single A a = below_suc A 0 a (λ i h. absurd (not-suc-le-zero h))

pub never-ticks : NeverTicks
unfolding spin tab largest width tokens count build initial_state sum owed_ends all_tokens_after
never-ticks = record {
  accepted = record {
    proper = record {
      interval = λ t b. omega arith;
      preset = single (HasInput spin) (0, omega arith, omega arith);
      postset = single (HasOutput spin) (0, omega arith, omega arith);
      initial_held = λ p b. omega arith;
    };
    sized = ((omega arith, omega arith), (omega arith, omega arith));
    short = λ t b. omega arith;
  };
  bound_is = refl;
  goes_round = λ room budget h. rw begins (round room budget h);
  never = λ room budget. rw begins (quiet room budget);
  not_soon = rw (begins, turns) spins;
}
