-- What menurun tells of document 01's bytes, whole, cut and damaged: computed.
-- Assumes nothing.
use mathlib.Core.Path.{refl}
use Rattle.model.specs.Tab.{tab, all, largest, lowest, one}
use Rattle.model.specs.Net.{width, tokens, count, build, initial_state}
use Rattle.model.specs.Owed.{does_owe_start, does_owe_end, standing_of, owed}
use Rattle.model.specs.Rules.{lacking_place, is_enabled, short, has_no_start_owed, has_no_end_owed, has_nothing_running, is_timely, can_end, owes_no_old_end, has_no_old_end_owed, has_room, started, ended, older, ticked, apply}
use Rattle.model.specs.Run.{started_after, turns, in_turn, run}
use Rattle.forms.specs.Word.{word, word32, is_blank, set_word, set_word32, put_words, put_rows}
use Rattle.forms.specs.Begins.{begins_with}
use Rattle.forms.specs.Places.{row_at, count_at, state_length}
use Rattle.forms.specs.Checked.{in_turn as checks_in_turn}
use Rattle.forms.specs.Stored.{net_of, state_of, events_in}
use Rattle.forms.specs.Nets.{has_net_head, has_some_weight, check_row, check_net}
use Rattle.forms.specs.States.{has_head, has_none_past, check_state}
use Rattle.forms.specs.Logs.{is_log, check_log}
use Rattle.forms.specs.Written.{written, headed, image, check_room, after_initial}
use Rattle.owed.specs.Bits.{word_of}
use Rattle.engine.specs.Examined.{examine_net, examine_state, examine_log}
use Rattle.engine.specs.Calls.{initial_told, initial_left, owed_told, run_told, run_left}
use Rattle.replay.specs.Replayed.{has_arrived, net_length_in, standing_after, replayed, replay_left}
use Rattle.replay.specs.Edges.{Edges}

pub edges : Edges
unfolding row_at word word32 has_arrived net_length_in standing_after replayed replay_left initial_told initial_left owed_told run_told run_left
    examine_net examine_state examine_log check_net has_net_head begins_with check_row has_some_weight checks_in_turn net_of all check_room after_initial
    image headed written set_word set_word32 put_words put_rows width largest count_at state_length tokens count build tab initial_state
    check_state has_head has_none_past is_blank check_log is_log state_of events_in started_after turns in_turn run apply lowest lacking_place is_enabled short started ended ticked older
    has_no_start_owed has_no_end_owed has_nothing_running is_timely can_end owes_no_old_end has_no_old_end_owed has_room does_owe_start does_owe_end standing_of word_of one owed
edges = record {
  longest = refl;
  read_enough = refl;
  longest-state = refl;
  whole = refl;
  left = refl;
  tick_first = refl;
  tick_left = refl;
  no_end = refl;
  end_left = refl;
  short_first = refl;
  short_left = refl;
  malformed = refl;
  interval = refl;
  no_room = refl;
  nothing = refl;
  four_bytes = refl;
  cut_net = refl;
  no_log = refl;
  cut-log = refl;
  over_long = refl;
  as_long = refl;
  no_places = refl;
}
