-- One event on bytes that a reader can compare with document 01: the children's row net, and its initial state with a byte or two changed.
-- Assumes nothing.
use Rattle.std.specs.Prelude.{◌≡◌, true, false, List, [], ◌∷◌, ◌++◌, ℕ, set}
use Rattle.model.specs.Answer.{number_of, short_of}
use Rattle.model.specs.Event.{event_of}
use Rattle.model.specs.Rules.{Outcome, answer_of}
use Rattle.forms.specs.Stored.{net_of}
use Rattle.forms.specs.Cases.{row_net, row_state}
use Rattle.owed.specs.Edges.{spent}
use Rattle.moves.specs.After.{applied, state_taken_back, after}

-- the outcome has this number, and leaves these bytes of b
abbrev pub Leaves : Outcome → List ℕ → ℕ → List ℕ → Type 0
Leaves o b number b' = (number_of (answer_of o) ≡ number) × (after (net_of row_net) o b ≡ b')

-- the two bytes of an event, done and taken back, where no start has happened before in the step
abbrev pub Does : ℕ → ℕ → List ℕ → ℕ → List ℕ → Type 0
Does first second b = Leaves (applied row_net false b (event_of first second)) b

abbrev pub Undoes : ℕ → ℕ → List ℕ → ℕ → List ℕ → Type 0
Undoes first second b = Leaves (state_taken_back row_net false b (event_of first second)) b

-- and where one has
abbrev pub DoesBehind : ℕ → ℕ → List ℕ → ℕ → List ℕ → Type 0
DoesBehind first second b = Leaves (applied row_net true b (event_of first second)) b

abbrev pub UndoesBehind : ℕ → ℕ → List ℕ → ℕ → List ℕ → Type 0
UndoesBehind first second b = Leaves (state_taken_back row_net true b (event_of first second)) b

-- 65,534 and 65,535 tokens in place 1, with a firing of transition 0 of age 1
abbrev pub nearly_full : List ℕ
nearly_full = set (set (set spent 10 0xFF) 11 0xFE) 17 1

abbrev pub full : List ℕ
full = set nearly_full 11 0xFF

pub record DoneNumbers : Type 0 where
  pub start : Does 0x01 0x00 (row_state ++ (0xFF ∷ [])) 0 (set spent 15 1 ++ (0xFF ∷ []))
  pub tick : Does 0x00 0x00 (set (set spent 14 1) 15 2) 0 (set (set spent 16 1) 17 2)
  pub tick_last : Does 0x00 0x00 (set spent 19 1) 0 (set spent 21 1)
  pub end : Does 0x41 0x01 nearly_full 0 (set (set spent 10 0xFF) 11 0xFF)
  pub malformed : Does 0x81 0x00 row_state 11 row_state
  pub tick_malformed : Does 0x00 0x01 row_state 11 row_state
  pub start_malformed : Does 0x01 0x01 row_state 11 row_state
  pub no_start : Does 0x03 0x00 row_state 12 row_state
  pub no_end : Does 0x43 0x00 row_state 12 row_state
  -- place 0, whose weight is 1, has no token
  pub not_enabled : Does 0x01 0x00 spent 13 spent
  pub short_is : short_of (answer_of (applied row_net false spent (event_of 0x01 0x00))) ≡ record { place = 0; lacks = 1 }
  pub count_full : Does 0x01 0x00 (set (set row_state 14 0xFF) 15 0xFF) 14 (set (set row_state 14 0xFF) 15 0xFF)
  pub outside : Does 0x41 0x04 spent 15 spent
  pub none_of_that_age : Does 0x41 0x02 spent 16 spent
  pub place_full : Does 0x41 0x01 full 17 full
  pub start_owed : Does 0x00 0x00 row_state 18 row_state
  pub end_owed : Does 0x00 0x00 (set spent 21 1) 19 (set spent 21 1)
  pub nothing_running : Does 0x00 0x00 spent 20 spent
  -- a firing of age 1 behind a start, one of age 0, and none of age 2: 28 before 16
  pub old_after_start : DoesBehind 0x41 0x01 nearly_full 28 nearly_full
  pub fresh_after_start : DoesBehind 0x42 0x00 (set spent 23 1) 0 (set spent 13 1)
  pub old_first : DoesBehind 0x41 0x02 spent 28 spent
  pub outside_first : DoesBehind 0x41 0x04 spent 15 spent
  -- transition 0 has a count at age 3, its lfd; and transition 1 at age 0, its lfd
  pub old_end_owed : Does 0x01 0x00 (set row_state 21 1) 29 (set row_state 21 1)
  pub fresh_end_owed : Does 0x01 0x00 (set row_state 23 1) 0 (set (set spent 15 1) 23 1)
  pub not_enabled_first : Does 0x01 0x00 (set spent 21 1) 13 (set spent 21 1)
  pub owed_first : Does 0x01 0x00 (set (set (set row_state 14 0xFF) 15 0xFF) 21 1) 29 (set (set (set row_state 14 0xFF) 15 0xFF) 21 1)

pub record UndoneNumbers : Type 0 where
  pub start : Undoes 0x01 0x00 (set spent 15 1 ++ (0xFF ∷ [])) 0 (row_state ++ (0xFF ∷ []))
  pub tick : Undoes 0x00 0x00 (set (set spent 16 1) 17 2) 0 (set (set spent 14 1) 15 2)
  pub end : Undoes 0x42 0x00 (set spent 13 1) 0 (set spent 23 1)
  pub malformed : Undoes 0x81 0x00 row_state 11 row_state
  pub no_start : Undoes 0x03 0x00 row_state 12 row_state
  pub no_end : Undoes 0x43 0x00 row_state 12 row_state
  pub none_started : Undoes 0x01 0x00 spent 24 spent
  -- place 0 holds 65,535, and no firing runs; and then one does
  pub none_started_first : Undoes 0x01 0x00 (set (set row_state 8 0xFF) 9 0xFF) 24 (set (set row_state 8 0xFF) 9 0xFF)
  pub place_overfull : Undoes 0x01 0x00 (set (set (set row_state 8 0xFF) 9 0xFF) 15 1) 25 (set (set (set row_state 8 0xFF) 9 0xFF) 15 1)
  -- transition 0 lasts 1 to 3 ticks, and a place is empty too
  pub outside : Undoes 0x41 0x04 spent 15 spent
  pub too_few : Undoes 0x42 0x00 spent 26 spent
  -- 65,535 firings of transition 1 have age 0; place 2 is empty, and then has a token
  pub too_few_first : Undoes 0x42 0x00 (set (set spent 22 0xFF) 23 0xFF) 26 (set (set spent 22 0xFF) 23 0xFF)
  pub count_overfull : Undoes 0x42 0x00 (set (set (set spent 13 1) 22 0xFF) 23 0xFF) 27 (set (set (set spent 13 1) 22 0xFF) 23 0xFF)
  -- a start is owed and nothing runs
  pub start_owed : Undoes 0x00 0x00 row_state 18 row_state
  -- a count of age 0 at the front of a row does not pass to the row before
  pub fresh : Undoes 0x00 0x00 (set spent 23 1) 21 (set spent 23 1)
  -- and it is told before a start that is owed
  pub fresh_first : Undoes 0x00 0x00 (set row_state 23 1) 21 (set row_state 23 1)
  pub rest : Undoes 0x00 0x00 spent 20 spent
  -- an end of age 1 behind a start, though place 1 is empty; an end of age 0
  pub old_after_start : UndoesBehind 0x41 0x01 spent 28 spent
  pub fresh_after_start : UndoesBehind 0x42 0x00 (set spent 13 1) 0 (set spent 23 1)
  -- a start while an end of age 3 was owed; with a full place, and with no firing of age 0
  pub old_end_owed : Undoes 0x01 0x00 (set (set spent 15 1) 21 1) 29 (set (set spent 15 1) 21 1)
  pub overfull_first : Undoes 0x01 0x00 (set (set (set (set row_state 8 0xFF) 9 0xFF) 15 1) 21 1) 25 (set (set (set (set row_state 8 0xFF) 9 0xFF) 15 1) 21 1)
  pub none_started_before : Undoes 0x01 0x00 (set spent 21 1) 24 (set spent 21 1)
