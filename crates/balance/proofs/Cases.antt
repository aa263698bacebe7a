-- The totals are these: computed.
-- Assumes nothing.
use mathlib.Core.Path.{refl}
use Rattle.model.specs.Tab.{tab, all, largest, lowest, sum, one}
use Rattle.model.specs.Net.{width, tokens, count, build}
use Rattle.model.specs.Rules.{lacking_place, is_enabled, has_no_start_owed, has_no_end_owed, has_nothing_running, is_timely, has_room, does_cover}
use Rattle.model.specs.Rules.{can_end, owes_no_old_end, has_no_old_end_owed}
use Rattle.model.specs.Rules.{older, started, ended, ticked, unended, apply, back}
use Rattle.model.specs.Run.{turns, in_turn, run}
use Rattle.forms.specs.Word.{word, word32, is_blank, set_word, put_words, put_rows}
use Rattle.forms.specs.Places.{row_at, count_at, state_length}
use Rattle.forms.specs.Checked.{in_turn as checks_in_turn}
use Rattle.forms.specs.Begins.{begins_with}
use Rattle.forms.specs.Stored.{net_of, state_of, events_in}
use Rattle.forms.specs.Nets.{has_net_head, has_some_weight, check_row, check_net}
use Rattle.forms.specs.States.{has_head, has_none_past, check_state}
use Rattle.forms.specs.Logs.{is_log, check_log}
use Rattle.forms.specs.Written.{written}
use Rattle.engine.specs.Examined.{examine_net, examine_state, examine_log}
use Rattle.engine.specs.Calls.{event_left, back_left, run_left}
use Rattle.balance.specs.Weights.{weighed, first_unbalanced, running, firings_weight, total}
use Rattle.balance.specs.Told.{weighing, checked_weighing, balance_told}
use Rattle.balance.specs.Cases.{Totals}

pub totals : Totals
unfolding balance_told checked_weighing weighing total firings_weight running first_unbalanced weighed sum
    run_left event_left back_left examine_net examine_state examine_log
    check_net has_net_head check_row has_some_weight check_state has_head has_none_past check_log is_log begins_with checks_in_turn
    net_of state_of events_in word word32 is_blank set_word put_words put_rows row_at count_at state_length written
    turns run in_turn apply back started ended ticked unended older
    lacking_place is_enabled has_no_start_owed has_no_end_owed has_nothing_running is_timely has_room does_cover can_end owes_no_old_end has_no_old_end_owed
    width tokens count build tab all largest lowest one
totals = record {
  token = refl;
  firing = refl;
  older_firing = refl;
  row = refl;
  every_age = refl;
  own_weights = refl;
  two_bytes = refl;
  past_32_bits = refl;
  nothing = refl;
  short = refl;
  long = refl;
  both_unbalanced = refl;
  second_unbalanced = refl;
  no_net = refl;
  no_state = refl;
  overdue = refl;
  before_the_end = refl;
  after_the_end = refl;
  taken_back = refl;
}
