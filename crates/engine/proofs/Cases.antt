-- K1 to K12 of document 01 on bytes, together, by computation; and its other examples of calls.
-- Assumes nothing.
use mathlib.Core.Path.{refl}
use Rattle.model.specs.Tab.{tab, all, largest, least, how_many, lowest, one}
use Rattle.model.specs.Net.{width, tokens, count, build, initial_state}
use Rattle.model.specs.Rules.{lacking_place, is_enabled, short, has_no_start_owed, has_no_end_owed, has_nothing_running, is_timely, has_room, does_cover, has_none_fresh}
use Rattle.model.specs.Rules.{can_end, owes_no_old_end, has_no_old_end_owed}
use Rattle.model.specs.Rules.{older, started, ended, ticked, unstarted, unended, unticked, apply, back, times, degree}
use Rattle.model.specs.Run.{started_after, turns, in_turn, run, walk_back, walk}
use Rattle.model.specs.Owed.{does_owe_start, does_owe_end, standing_of, owed}
use Rattle.forms.specs.Word.{word, word32, is_blank, set_word, set_word32, put_words, put_rows}
use Rattle.forms.specs.Places.{row_at, count_at, state_length}
use Rattle.forms.specs.Checked.{in_turn as checks_in_turn}
use Rattle.forms.specs.Begins.{begins_with}
use Rattle.forms.specs.Stored.{net_of, state_of, events_in}
use Rattle.forms.specs.Nets.{has_net_head, has_some_weight, check_row, check_net}
use Rattle.forms.specs.States.{has_head, has_none_past, check_state}
use Rattle.forms.specs.Logs.{is_log, check_log}
use Rattle.forms.specs.Written.{written, headed, image, check_room, after_initial}
use Rattle.owed.specs.Bits.{word_of}
use Rattle.logs.specs.Steps.{start_from, end_from}
use Rattle.engine.specs.Examined.{examine_net, examine_state, examine_log}
use Rattle.engine.specs.Calls.{net_told, state_told, initial_told, initial_left, event_told, event_left, back_told, back_left}
use Rattle.engine.specs.Calls.{degree_told, owed_told, run_told, run_left, walk_told, walk_left, step_told}
use Rattle.engine.specs.Cases.{AllHold, cases, CasesHold, Further}

pub cases-hold : CasesHold
unfolding cases AllHold
    run_told run_left event_told event_left back_told back_left owed_told examine_net examine_state examine_log
    check_net has_net_head check_row has_some_weight check_state has_head has_none_past check_log is_log begins_with checks_in_turn
    net_of state_of events_in word word32 is_blank set_word put_words put_rows row_at count_at state_length written
    run in_turn owed does_owe_start does_owe_end standing_of apply back started ended ticked unstarted unended unticked older
    lacking_place is_enabled short has_no_start_owed has_no_end_owed has_nothing_running is_timely has_room does_cover has_none_fresh can_end owes_no_old_end has_no_old_end_owed started_after turns
    width tokens count build tab all largest how_many lowest one
cases-hold = (
  refl,
  (
    (refl, refl, refl),
    (
      (refl, refl, refl),
      (
        (refl, refl, refl),
        (
          (refl, refl, refl),
          (
            (refl, refl, refl),
            (
              (refl, refl, refl),
              (
                (refl, refl, refl),
                (
                  (refl, refl, refl),
                  ((refl, refl), ((refl, refl), ((refl, refl), ((refl, refl), tt)))),
                ),
              ),
            ),
          ),
        ),
      ),
    ),
  ),
)

pub further : Further
unfolding net_told state_told initial_told initial_left event_told event_left back_told back_left degree_told owed_told
    run_told run_left walk_told walk_left step_told examine_net examine_state examine_log
    check_net has_net_head check_row has_some_weight check_state has_head has_none_past check_log is_log check_room begins_with checks_in_turn
    net_of state_of events_in word word32 is_blank set_word set_word32 put_words put_rows row_at count_at state_length
    written headed image after_initial initial_state start_from end_from word_of
    run walk walk_back in_turn owed does_owe_start does_owe_end standing_of degree times apply back started ended ticked unstarted unended unticked older
    lacking_place is_enabled short has_no_start_owed has_no_end_owed has_nothing_running is_timely has_room does_cover has_none_fresh can_end owes_no_old_end has_no_old_end_owed started_after turns
    width tokens count build tab all largest least how_many lowest one
further = record {
  good_net = refl;
  good_state = refl;
  net_first = (refl, refl);
  state_next = (refl, refl);
  log_next = (refl, refl);
  log_before_22 = (refl, refl);
  empty_first = refl;
  uncut = refl;
  empty_last = refl;
  step_of_no_log = refl;
  full_back = (refl, refl);
  step_0 = (refl, refl);
  step_1 = (refl, refl);
  step_2 = (refl, refl);
  no_net = refl;
  short_net = refl;
  no_events = (refl, refl);
  initial = (refl, refl);
  no_room = (refl, refl);
  whole_back = (refl, refl);
  two_back = (refl, refl);
  six_back = (refl, refl);
  none_back = (refl, refl);
  one_back = (refl, refl);
  old_end_first = (refl, refl);
  then_the_start = refl;
  old_end_late = (refl, refl);
  late_given = refl;
  late_back = (refl, refl);
  set_in_front = refl;
  cleared_in_front = refl;
  given_in_front = refl;
  kept_in_front = (refl, refl);
  unknown_in_front = refl;
  no_fact = refl;
  overdue_state = refl;
  overdue_event = (refl, refl);
  short_event = (refl, refl);
  short-run = (refl, refl);
  short_lowest = refl;
  short_last = refl;
  degree_0 = refl;
  degree_1 = refl;
  degree_2 = refl;
  degree_none = refl;
  degree_overdue = refl;
  start_owed = refl;
  end_owed = refl;
  owed_none = refl;
}
