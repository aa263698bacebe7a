-- The very numbers that the calls tell of the children's row net. Of any two fields of an answer, some line below tells different
-- numbers: no two can be exchanged in the code and in the definitions together.
-- Assumes nothing.
use Rattle.std.specs.Prelude.{◌≡◌, false, List, [], ◌∷◌, ℕ, set, replicate}
use Rattle.forms.specs.Cases.{row_net, row_state, row_log}
use Rattle.owed.specs.Edges.{spent}
use Rattle.engine.specs.Calls.{net_told, state_told, event_told, degree_told, owed_told, run_told, run_left, walk_told, step_told}
use Rattle.runner.specs.Call.{page_told}
use Rattle.balance.specs.Told.{balance_told}
use Rattle.balance.specs.Cases.{ones}
use Rattle.menu.specs.Fields.{said_started, verdict_fields, event_fields, degree_fields, owed_fields, run_fields, walk_fields, step_fields, page_fields, balance_fields}

-- what K1 leaves: a token in place 2, and none elsewhere
abbrev filled : List ℕ
filled = set spent 13 1

-- a token in place 1 enables transition 1, and transition 0 has a count at age 3, its lfd
abbrev both_owed : List ℕ
both_owed = set (set spent 11 1) 21 1

-- transition 1 has a count at age 0, its lfd; and at age 1, above it
abbrev filling : List ℕ
filling = set spent 23 1

abbrev overdue : List ℕ
overdue = set spent 25 1

-- transition 0 has a count at age 1; and a log that ends it
abbrev loading : List ℕ
loading = set spent 17 1

abbrev end_log : List ℕ
end_log = 0x01 ∷ 0x00 ∷ 0x00 ∷ 0x00 ∷ 0x07 ∷ 0x41 ∷ 0x01 ∷ []

-- place 0 holds 258 tokens
abbrev rich : List ℕ
rich = set (set row_state 8 1) 9 2

-- transition 1 takes 9 tokens from place 1, so that K1's log stops at its fourth event
abbrev dear : List ℕ
dear = set row_net 24 9

pub record Edges : Type 0 where
  -- accepted; and transition 1 with an lfd above 63
  pub net : (verdict_fields (net_told row_net) ≡ 0 ∷ 0 ∷ []) × (verdict_fields (net_told (set row_net 22 64)) ≡ 4 ∷ 1 ∷ [])
  pub state : verdict_fields (state_told row_net overdue) ≡ 9 ∷ 1 ∷ []
  pub short_event : event_fields (event_told dear row_state 0x02 0x00 false) ≡ 13 ∷ 0 ∷ 1 ∷ 9 ∷ []
  pub no_event : event_fields (event_told row_net overdue 0x02 0x00 false) ≡ 9 ∷ 1 ∷ 0 ∷ 0 ∷ []
  pub degree : degree_fields (degree_told row_net rich 0) ≡ 0 ∷ 0 ∷ 258 ∷ []
  pub no-degree : degree_fields (degree_told row_net overdue 0) ≡ 9 ∷ 1 ∷ 0 ∷ []
  -- both words, how many are set in both, the lowest of both, the standing
  pub start_owed : owed_fields (owed_told row_net both_owed) ≡ 0 ∷ 0 ∷ 2 ∷ 1 ∷ 1 ∷ 1 ∷ 1 ∷ 0 ∷ 1 ∷ []
  pub end_owed : owed_fields (owed_told row_net filling) ≡ 0 ∷ 0 ∷ 0 ∷ 2 ∷ 0 ∷ 1 ∷ 64 ∷ 1 ∷ 2 ∷ []
  pub at_rest : owed_fields (owed_told row_net filled) ≡ 0 ∷ 0 ∷ 0 ∷ 0 ∷ 0 ∷ 0 ∷ 64 ∷ 64 ∷ 4 ∷ []
  pub no-report : owed_fields (owed_told row_net overdue) ≡ 9 ∷ 1 ∷ 0 ∷ 0 ∷ 0 ∷ 0 ∷ 0 ∷ 0 ∷ 0 ∷ []
  -- K1: five events, one tick; and its last two events walked back, so that three stand done
  pub run : (run_fields (run_told row_net row_state row_log false) ≡ 0 ∷ 5 ∷ 5 ∷ 1 ∷ 0 ∷ 0 ∷ 1 ∷ []) × (run_left row_net row_state row_log false ≡ filled)
  pub short-run : run_fields (run_told dear row_state row_log false) ≡ 13 ∷ 3 ∷ 3 ∷ 1 ∷ 1 ∷ 8 ∷ 0 ∷ []
  pub no_run : run_fields (run_told row_net overdue row_log false) ≡ 9 ∷ 1 ∷ 0 ∷ 0 ∷ 0 ∷ 0 ∷ 0 ∷ []
  -- behind a start, as the caller says it by any number but 0, the end of age 1 is refused; and the fact stands in the last field alone
  pub late_event : event_fields (event_told row_net loading 0x41 0x01 (said_started 2)) ≡ 28 ∷ 0 ∷ 0 ∷ 0 ∷ []
  pub timely_event : event_fields (event_told row_net loading 0x41 0x01 (said_started 0)) ≡ 0 ∷ 0 ∷ 0 ∷ 0 ∷ []
  pub late_run : run_fields (run_told row_net loading end_log (said_started 1)) ≡ 28 ∷ 0 ∷ 0 ∷ 0 ∷ 0 ∷ 0 ∷ 1 ∷ []
  pub walk : walk_fields (walk_told row_net filled row_log 2 false) ≡ 0 ∷ 3 ∷ 2 ∷ 0 ∷ []
  pub whole_walk : walk_fields (walk_told row_net filled row_log 5 false) ≡ 0 ∷ 0 ∷ 5 ∷ 1 ∷ []
  -- step 1 is six bytes behind nine; there is no step 2
  pub step : step_fields (step_told row_log 1) ≡ 0 ∷ 0 ∷ 9 ∷ 6 ∷ []
  pub no_step : step_fields (step_told row_log 2) ≡ 23 ∷ 0 ∷ 0 ∷ 0 ∷ []
  -- seven events, three ticks, at rest; and a buffer for five events, stopped behind the fourth, as many as the budget
  pub page : page_fields (page_told row_net row_state (replicate 19 0) 9) ≡ 0 ∷ 0 ∷ 1 ∷ 7 ∷ 3 ∷ []
  pub spent_page : page_fields (page_told row_net row_state (replicate 15 0) 4) ≡ 0 ∷ 0 ∷ 2 ∷ 4 ∷ 3 ∷ []
  pub no-page : page_fields (page_told row_net overdue (replicate 4 0) 9) ≡ 9 ∷ 1 ∷ 0 ∷ 0 ∷ 0 ∷ []
  -- 258 tokens of weight 1; and transition 1 puts out 0 for 1
  pub balance : balance_fields (balance_told row_net rich ones) ≡ 0 ∷ 0 ∷ 258 ∷ []
  pub unbalanced : balance_fields (balance_told row_net rich (set ones 5 0)) ≡ 30 ∷ 1 ∷ 0 ∷ []
