-- What menupage's arguments ask for, and what it tells of the children's row net: computed.
-- Assumes nothing.
use mathlib.Core.Path.{refl}
use native.Mathlib.Omega.{arith}
use Rattle.model.specs.Tab.{tab, all, largest, lowest, one}
use Rattle.model.specs.Net.{width, tokens, count, build, initial_state}
use Rattle.model.specs.Owed.{does_owe_start, does_owe_end, standing_of, owed}
use Rattle.model.specs.Rules.{lacking_place, is_enabled, has_no_start_owed, has_no_end_owed, has_nothing_running, is_timely, can_end, owes_no_old_end, has_no_old_end_owed, has_room, started, ended, older, ticked, apply}
use Rattle.model.specs.Run.{ticks_in}
use Rattle.forms.specs.Word.{word, word32, is_blank, set_word, set_word32, put_words, put_rows}
use Rattle.forms.specs.Begins.{begins_with}
use Rattle.forms.specs.Places.{row_at, count_at, state_length}
use Rattle.forms.specs.Checked.{in_turn}
use Rattle.forms.specs.Stored.{net_of, state_of}
use Rattle.forms.specs.Listed.{log_bytes}
use Rattle.forms.specs.Nets.{has_net_head, has_some_weight, check_row, check_net}
use Rattle.forms.specs.States.{has_head, has_none_past, check_state}
use Rattle.forms.specs.Written.{written, headed, image, check_room, after_initial}
use Rattle.owed.specs.Bits.{word_of}
use Rattle.engine.specs.Examined.{examine_net, examine_state}
use Rattle.engine.specs.Calls.{initial_told, initial_left, owed_told}
use Rattle.runner.specs.Choice.{choice}
use Rattle.runner.specs.Page.{page}
use Rattle.runner.specs.Logged.{pairs_of}
use Rattle.runner.specs.Call.{examine_page, page_told, state_left, log_left}
use Rattle.text.specs.Lines.Fields.{none, more}
use Rattle.replay.proofs.LineEdges.{spell, figure}
use Rattle.pageshow.specs.Built.{alone_length, built, built_state, built_log}
use Rattle.pageshow.specs.Edges.{WordEdges, PageEdges}

pub word-edges : WordEdges
word-edges = record {
  zeros_lead = refl;
  most = refl;
  past_most = refl;
  ten_zeros = refl;
  eleven_zeros = refl;
  no_bytes = refl;
  slash = refl;
  colon = refl;
  blank_first = refl;
  plus_first = refl;
  log_is = refl;
  log_cut = refl;
  log_longer = refl;
  none = refl;
  log_alone = refl;
  budget_alone = refl;
  log_first = refl;
  budget_first = refl;
  log_twice = refl;
  budget_twice = refl;
  empty_first = refl;
  three = refl;
}

pub page-edges : PageEdges
unfolding alone_length built built_state built_log initial_told initial_left owed_told page_told state_left log_left
    examine_page examine_net examine_state check_net has_net_head begins_with check_row has_some_weight in_turn check_state has_head has_none_past check_room after_initial
    image headed written set_word set_word32 put_words put_rows net_of state_of word word32 is_blank row_at count_at state_length log_bytes pairs_of
    page choice ticks_in does_owe_start does_owe_end standing_of owed word_of apply started ended ticked older initial_state
    lacking_place is_enabled has_no_start_owed has_no_end_owed has_nothing_running is_timely can_end owes_no_old_end has_no_old_end_owed has_room width tokens count build tab all largest lowest one
page-edges = record {
  read_enough = refl;
  longest-log = refl;
  whole = (refl, refl, refl);
  no_budget = (refl, refl, refl);
  one_event = (refl, refl, refl);
  nothing = (refl, refl, refl);
  four_bytes = (refl, refl, refl);
  cut_net = (refl, refl, refl);
  byte_behind = (refl, refl, refl);
  interval = (refl, refl, refl);
  no_places = (refl, refl, refl);
  over_long = (refl, refl, refl);
  as_long = (refl, refl, refl);
  stop_line = record {
    numbered = _;
    last = 6;
    fields = more (spell _ _ 2 1 (figure 2 (omega arith))) none;
    ended = refl;
    ends = refl;
  };
}
