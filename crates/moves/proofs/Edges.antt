-- One event on given bytes: computed.
-- Assumes nothing.
use mathlib.Core.Path.{refl}
use Rattle.model.specs.Tab.{tab, all, largest, lowest, one}
use Rattle.model.specs.Net.{width, tokens, count, build}
use Rattle.model.specs.Rules.{lacking_place, is_enabled, short, has_no_start_owed, has_no_end_owed, has_nothing_running, is_timely, has_room, does_cover, has_none_fresh, can_end, owes_no_old_end, has_no_old_end_owed, started, ended, older, ticked, apply, unstarted, unended, unticked, back}
use Rattle.forms.specs.Word.{word, set_word, put_words, put_rows}
use Rattle.forms.specs.Places.{row_at, count_at}
use Rattle.forms.specs.Stored.{net_of, state_of}
use Rattle.forms.specs.Written.{written}
use Rattle.moves.specs.Edges.{DoneNumbers, UndoneNumbers}

pub done-numbers : DoneNumbers
unfolding
    tab all largest one width tokens count build lowest lacking_place is_enabled short has_no_start_owed has_no_end_owed has_nothing_running is_timely has_room can_end owes_no_old_end has_no_old_end_owed started ended older
    ticked apply word set_word put_words put_rows row_at count_at net_of state_of written
done-numbers = record {
  start = (refl, refl);
  tick = (refl, refl);
  tick_last = (refl, refl);
  end = (refl, refl);
  malformed = (refl, refl);
  tick_malformed = (refl, refl);
  start_malformed = (refl, refl);
  no_start = (refl, refl);
  no_end = (refl, refl);
  not_enabled = (refl, refl);
  short_is = refl;
  count_full = (refl, refl);
  outside = (refl, refl);
  none_of_that_age = (refl, refl);
  place_full = (refl, refl);
  start_owed = (refl, refl);
  end_owed = (refl, refl);
  nothing_running = (refl, refl);
  old_after_start = (refl, refl);
  fresh_after_start = (refl, refl);
  old_first = (refl, refl);
  outside_first = (refl, refl);
  old_end_owed = (refl, refl);
  fresh_end_owed = (refl, refl);
  not_enabled_first = (refl, refl);
  owed_first = (refl, refl);
}

pub undone-numbers : UndoneNumbers
unfolding
    tab all largest one width tokens count build lowest lacking_place is_enabled has_no_start_owed has_nothing_running is_timely has_room does_cover has_none_fresh can_end owes_no_old_end has_no_old_end_owed unstarted unended
    unticked back word set_word put_words put_rows row_at count_at net_of state_of written
undone-numbers = record {
  start = (refl, refl);
  tick = (refl, refl);
  end = (refl, refl);
  malformed = (refl, refl);
  no_start = (refl, refl);
  no_end = (refl, refl);
  none_started = (refl, refl);
  none_started_first = (refl, refl);
  place_overfull = (refl, refl);
  outside = (refl, refl);
  too_few = (refl, refl);
  too_few_first = (refl, refl);
  count_overfull = (refl, refl);
  start_owed = (refl, refl);
  fresh = (refl, refl);
  fresh_first = (refl, refl);
  rest = (refl, refl);
  old_after_start = (refl, refl);
  fresh_after_start = (refl, refl);
  old_end_owed = (refl, refl);
  overfull_first = (refl, refl);
  none_started_before = (refl, refl);
}
