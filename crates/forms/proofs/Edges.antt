-- The numbers and indices of document 01, told of bytes: computed.
-- Assumes nothing.
use mathlib.Core.Path.{refl}
use Rattle.model.specs.Tab.{tab, all, largest}
use Rattle.model.specs.Net.{width, build}
use Rattle.model.specs.Cases.{childrens_row}
use Rattle.forms.specs.Word.{word, word32, is_blank}
use Rattle.forms.specs.Begins.{begins_with}
use Rattle.forms.specs.Places.{row_at, count_at, state_length}
use Rattle.forms.specs.Checked.{in_turn}
use Rattle.forms.specs.Stored.{net_of, state_of}
use Rattle.forms.specs.Written.{check_room}
use Rattle.forms.specs.Nets.{has_net_head, has_some_weight, check_row, check_net}
use Rattle.forms.specs.States.{has_head, has_none_past, check_state}
use Rattle.forms.specs.Logs.{is_log, check_log}
use Rattle.forms.specs.Edges.{FaultNumbers, NetNumbers, StateNumbers, LogNumbers}

pub fault-numbers : FaultNumbers
fault-numbers = record {
  net_frame = (refl, refl);
  net_size = (refl, refl);
  net-length = (refl, refl);
  no_interval = λ t. (refl, refl);
  no_input = λ t. (refl, refl);
  no_output = λ t. (refl, refl);
  no_room = (refl, refl);
  state_frame = (refl, refl);
  past_lfd = λ t. (refl, refl);
  log_frame = (refl, refl);
}

pub net-numbers : NetNumbers
unfolding row_at check_net has_net_head begins_with check_row has_some_weight in_turn net_of all word word32
net-numbers = record {
  good = (refl, refl);
  version_0 = (refl, refl);
  version_2 = (refl, refl);
  length_less = (refl, refl);
  length_high = (refl, refl);
  six_bytes = (refl, refl);
  seven_bytes = (refl, refl);
  seven_sized = (refl, refl);
  places_65 = (refl, refl);
  transitions_0 = (refl, refl);
  transitions_65 = (refl, refl);
  places_2 = (refl, refl);
  lfd_below_sfd = (refl, refl);
  lfd_64 = (refl, refl);
  no_input = (refl, refl);
  no_output = (refl, refl);
  no_output_1 = (refl, refl);
  lowest_first = (refl, refl);
  four_before_five = (refl, refl);
  five_before_six = (refl, refl);
}

pub state-numbers : StateNumbers
unfolding tab childrens_row count_at state_length width largest build state_of check_state check_room has_head begins_with has_none_past is_blank in_turn all word word32
state-numbers = record {
  no_room = (refl, refl);
  room = (refl, refl);
  good = (refl, refl);
  longer = (refl, refl);
  version_2 = (refl, refl);
  length_less = (refl, refl);
  places = (refl, refl);
  transitions = (refl, refl);
  width = (refl, refl);
  seven_bytes = (refl, refl);
  short = (refl, refl);
  at_lfd = (refl, refl);
  past_lfd = (refl, refl);
  read = refl;
}

pub log-numbers : LogNumbers
unfolding check_log is_log begins_with word word32
log-numbers = record {
  good = (refl, refl);
  version_0 = (refl, refl);
  length_less = (refl, refl);
  four_bytes = (refl, refl);
  odd = (refl, refl);
}
