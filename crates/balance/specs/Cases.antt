-- Totals on the children's row net, once with heavier arcs, as numbers that a reader can add up: under weights by which it balances, and by others.
-- Assumes nothing.
use Rattle.std.specs.Prelude.{◌≡◌, false, List, [], ◌∷◌, ℕ, set}
use Rattle.forms.specs.Stored.{net_of, stored}
use Rattle.forms.specs.Cases.{row_net, row_state, row_log}
use Rattle.engine.specs.Calls.{event_left, back_left, run_left}
use Rattle.balance.specs.Weights.{total}
use Rattle.balance.specs.Told.{weight_at, balance_told}
use Rattle.balance.specs.Promised.{says_balance}

-- weight 1 at each place; and weight 2 at place 1
abbrev pub ones : List ℕ
ones = 0x00 ∷ 0x01 ∷ 0x00 ∷ 0x01 ∷ 0x00 ∷ 0x01 ∷ []

abbrev pub heavy_middle : List ℕ
heavy_middle = 0x00 ∷ 0x01 ∷ 0x00 ∷ 0x02 ∷ 0x00 ∷ 0x01 ∷ []

-- transition 0 started, and then a tick: a firing of age 1
abbrev pub started : List ℕ
started = event_left row_net row_state 0x01 0x00 false

abbrev pub aged : List ℕ
aged = event_left row_net started 0x00 0x00 false

-- and ended
abbrev pub ended : List ℕ
ended = event_left row_net aged 0x41 0x01 false

-- three tokens in place 0 and four in place 2; of transition 0 two firings of age 0 and five of age 3, and of transition 1 seven of age 0
abbrev pub busy : List ℕ
busy = set (set (set (set (set row_state 9 3) 13 4) 15 2) 21 5) 23 7

-- 65,535 tokens in place 0, and as many firings of transition 0 of age 0
abbrev pub full : List ℕ
full = set (set (set (set row_state 8 255) 9 255) 14 255) 15 255

-- transition 0 gives three tokens to place 1, and transition 1 takes nine from it
abbrev pub heavy_arcs : List ℕ
heavy_arcs = set (set row_net 19 3) 24 9

pub record Totals : Type 0 where
  -- the one token, the firing that has taken it in (of age 0, and of age 1), and the row that it became
  pub token : balance_told row_net row_state ones ≡ says_balance 0 0 1
  pub firing : balance_told row_net started ones ≡ says_balance 0 0 1
  pub older_firing : balance_told row_net aged ones ≡ says_balance 0 0 1
  pub row : balance_told row_net (run_left row_net row_state row_log false) ones ≡ says_balance 0 0 1
  -- 3 + 4 + 2 + 5 + 7, each of weight 10
  pub every_age : balance_told row_net busy (0x00 ∷ 0x0a ∷ 0x00 ∷ 0x0a ∷ 0x00 ∷ 0x0a ∷ []) ≡ says_balance 0 0 210
  -- 18 + 2 + 72 in the places, 7 firings of transition 0 at 6 and 7 of transition 1 at 18: transition 0 gives three tokens, and 1 takes nine
  pub own_weights : balance_told heavy_arcs (set busy 11 1) (0x00 ∷ 0x06 ∷ 0x00 ∷ 0x02 ∷ 0x00 ∷ 0x12 ∷ []) ≡ says_balance 0 0 260
  -- 257 tokens of weight 259
  pub two_bytes : balance_told row_net (set row_state 8 1) (0x01 ∷ 0x03 ∷ 0x01 ∷ 0x03 ∷ 0x01 ∷ 0x03 ∷ []) ≡ says_balance 0 0 66563
  -- 65,535 tokens, and as many firings, of weight 65,535
  pub past_32_bits : balance_told row_net full (0xff ∷ 0xff ∷ 0xff ∷ 0xff ∷ 0xff ∷ 0xff ∷ []) ≡ says_balance 0 0 8589672450
  -- weights of 0 balance every net, and weigh nothing
  pub nothing : balance_told row_net busy (0x00 ∷ 0x00 ∷ 0x00 ∷ 0x00 ∷ 0x00 ∷ 0x00 ∷ []) ≡ says_balance 0 0 0
  -- 31 comes before 30, and of two transitions the lower is told
  pub short : balance_told row_net row_state (0x00 ∷ 0x01 ∷ 0x00 ∷ 0x02 ∷ []) ≡ says_balance 31 0 0
  pub long : balance_told row_net row_state (0x00 ∷ heavy_middle) ≡ says_balance 31 0 0
  pub both_unbalanced : balance_told row_net row_state heavy_middle ≡ says_balance 30 0 0
  pub second_unbalanced : balance_told row_net row_state (0x00 ∷ 0x02 ∷ 0x00 ∷ 0x02 ∷ 0x00 ∷ 0x01 ∷ []) ≡ says_balance 30 1 0
  -- behind the faults of net and state, which come before 31
  pub no_net : balance_told [] row_state [] ≡ says_balance 1 0 0
  pub no_state : balance_told row_net [] [] ≡ says_balance 8 0 0
  pub overdue : balance_told row_net (set row_state 25 1) [] ≡ says_balance 9 1 0
  -- where a net does not balance, a total that changes: transition 0 puts out 2 for 1. Where the end is taken back it is 1 again
  pub before_the_end : total (net_of row_net) (weight_at heavy_middle) (stored row_net aged) ≡ 1
  pub after_the_end : total (net_of row_net) (weight_at heavy_middle) (stored row_net ended) ≡ 2
  pub taken_back : total (net_of row_net) (weight_at heavy_middle) (stored row_net (back_left row_net ended 0x41 0x01 false)) ≡ 1
