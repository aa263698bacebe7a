-- The very numbers that the calls tell of the children's row net: computed.
-- Assumes nothing.
use mathlib.Core.Path.{refl}
use Rattle.model.specs.Tab.{tab, all, largest, least, how_many, lowest, sum, one}
use Rattle.model.specs.Net.{width, tokens, count, build}
use Rattle.model.specs.Rules.{lacking_place, is_enabled, short, has_no_start_owed, has_no_end_owed, has_nothing_running, is_timely, has_room, does_cover, has_none_fresh}
use Rattle.model.specs.Rules.{can_end, owes_no_old_end, has_no_old_end_owed}
use Rattle.model.specs.Rules.{older, started, ended, ticked, unstarted, unended, unticked, apply, back, times, degree}
use Rattle.model.specs.Run.{ticks_in, started_after, turns, in_turn, run, walk_back, walk}
use Rattle.model.specs.Owed.{does_owe_start, does_owe_end, standing_of, owed}
use Rattle.forms.specs.Word.{word, word32, is_blank, set_word, put_words, put_rows}
use Rattle.forms.specs.Places.{row_at, count_at, state_length}
use Rattle.forms.specs.Checked.{in_turn as checks_in_turn}
use Rattle.forms.specs.Begins.{begins_with}
use Rattle.forms.specs.Stored.{net_of, state_of, events_in}
use Rattle.forms.specs.Nets.{has_net_head, has_some_weight, check_row, check_net}
use Rattle.forms.specs.States.{has_head, has_none_past, check_state}
use Rattle.forms.specs.Logs.{is_log, check_log}
use Rattle.forms.specs.Written.{written}
use Rattle.owed.specs.Bits.{word_of}
use Rattle.logs.specs.Steps.{start_from, end_from}
use Rattle.engine.specs.Examined.{examine_net, examine_state, examine_log}
use Rattle.engine.specs.Calls.{net_told, state_told, event_told, degree_told, owed_told, run_told, run_left, walk_told, step_told}
use Rattle.runner.specs.Choice.{choice}
use Rattle.runner.specs.Page.{page}
use Rattle.runner.specs.Call.{examine_page, page_told}
use Rattle.balance.specs.Weights.{weighed, first_unbalanced, running, firings_weight, total}
use Rattle.balance.specs.Told.{weighing, checked_weighing, balance_told}
use Rattle.menu.specs.Edges.{Edges}

pub edges : Edges
unfolding net_told state_told event_told degree_told owed_told run_told run_left walk_told step_told page_told balance_told checked_weighing weighing total firings_weight running first_unbalanced weighed sum examine_page examine_net examine_state examine_log
    check_net has_net_head check_row has_some_weight check_state has_head has_none_past check_log is_log begins_with checks_in_turn
    net_of state_of events_in word word32 is_blank set_word put_words put_rows row_at count_at state_length written start_from end_from word_of
    page choice ticks_in started_after turns run walk walk_back in_turn owed does_owe_start does_owe_end standing_of degree times apply back started ended ticked unstarted unended unticked older
    lacking_place is_enabled short has_no_start_owed has_no_end_owed has_nothing_running is_timely has_room does_cover has_none_fresh can_end owes_no_old_end has_no_old_end_owed
    width tokens count build tab all largest least how_many lowest one
edges = record {
  net = (refl, refl);
  state = refl;
  short_event = refl;
  no_event = refl;
  degree = refl;
  no-degree = refl;
  start_owed = refl;
  end_owed = refl;
  at_rest = refl;
  no-report = refl;
  run = (refl, refl);
  short-run = refl;
  no_run = refl;
  late_event = refl;
  timely_event = refl;
  late_run = refl;
  walk = refl;
  whole_walk = refl;
  step = refl;
  no_step = refl;
  page = refl;
  spent_page = refl;
  no-page = refl;
  balance = refl;
  unbalanced = refl;
}
