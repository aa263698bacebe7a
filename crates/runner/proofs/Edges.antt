-- The runner's call on bytes, by computation.
-- Assumes nothing.
use mathlib.Core.Path.{refl}
use Rattle.model.specs.Tab.{tab, all, largest, lowest, one}
use Rattle.model.specs.Net.{width, tokens, count, build}
use Rattle.model.specs.Rules.{lacking_place, is_enabled, has_no_start_owed, has_no_end_owed, has_nothing_running, is_timely, can_end, owes_no_old_end, has_no_old_end_owed, has_room, started, ended, older, ticked, apply}
use Rattle.model.specs.Run.{ticks_in}
use Rattle.model.specs.Owed.{does_owe_start, does_owe_end}
use Rattle.forms.specs.Word.{word, word32, is_blank, set_word, put_words, put_rows}
use Rattle.forms.specs.Places.{row_at, count_at, state_length}
use Rattle.forms.specs.Checked.{in_turn}
use Rattle.forms.specs.Begins.{begins_with}
use Rattle.forms.specs.Stored.{net_of, state_of}
use Rattle.forms.specs.Listed.{log_bytes}
use Rattle.forms.specs.Nets.{has_net_head, has_some_weight, check_row, check_net}
use Rattle.forms.specs.States.{has_head, has_none_past, check_state}
use Rattle.forms.specs.Written.{written}
use Rattle.engine.specs.Examined.{examine_net, examine_state}
use Rattle.runner.specs.Choice.{choice}
use Rattle.runner.specs.Page.{page}
use Rattle.runner.specs.Logged.{pairs_of}
use Rattle.runner.specs.Call.{examine_page, page_told, state_left, log_left}
use Rattle.runner.specs.Edges.{PagesOnBytes}

pub pages-on-bytes : PagesOnBytes
unfolding page_told state_left log_left examine_page examine_net examine_state
    check_net has_net_head check_row has_some_weight check_state has_head has_none_past begins_with in_turn
    net_of state_of word word32 is_blank set_word put_words put_rows row_at count_at state_length written log_bytes pairs_of
    page choice ticks_in does_owe_start does_owe_end apply started ended ticked older
    lacking_place is_enabled has_no_start_owed has_no_end_owed has_nothing_running is_timely can_end owes_no_old_end has_no_old_end_owed has_room width tokens count build tab all largest lowest one
pages-on-bytes = record {
  whole = (refl, refl, refl);
  no_budget = (refl, refl, refl);
  four_bytes = (refl, refl, refl);
  five_bytes = (refl, refl, refl);
  six_bytes = (refl, refl, refl);
  seven_bytes = (refl, refl, refl);
  count_full = (refl, refl, refl);
  place_full = (refl, refl, refl);
  at_rest = (refl, refl, refl);
  no_state = (refl, refl, refl);
  past_lfd = (refl, refl, refl);
  longer_state = (refl, refl, refl);
  rooms = (refl, refl, refl, refl);
}
