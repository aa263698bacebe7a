-- Where each thing stands in the stored forms, and how long they are (document 01, "Stored forms").
-- Assumes nothing.
use Rattle.std.specs.Prelude.{ℕ, ◌+◌, ◌*◌}
use Rattle.model.specs.declared.age.Column.{Column}
use Rattle.model.specs.Age.{age_of}
use Rattle.model.specs.Net.{Net, width}

-- A NET: version, length, P, T; P initial markings; for each transition a row of sfd, lfd, P input weights, P output weights

abbrev pub initial_at : ℕ → ℕ
initial_at p = 7 + 2 * p

abbrev pub row_length : ℕ → ℕ
row_length P = 2 + 2 * P

unfoldable pub row_at : ℕ → ℕ → ℕ
row_at P t = 7 + 2 * P + t * row_length P

-- sfd is the row's first byte
abbrev pub lfd_at : ℕ → ℕ → ℕ
lfd_at P t = row_at P t + 1

-- where the input weights begin, and the output weights
abbrev pub inputs_at : ℕ → ℕ → ℕ
inputs_at P t = row_at P t + 2

abbrev pub outputs_at : ℕ → ℕ → ℕ
outputs_at P t = row_at P t + 2 + P

abbrev pub input_at : ℕ → ℕ → ℕ → ℕ
input_at P t p = inputs_at P t + p

abbrev pub output_at : ℕ → ℕ → ℕ → ℕ
output_at P t p = outputs_at P t + p

-- the rows end where another would begin
abbrev pub net_length : ℕ → ℕ → ℕ
net_length P T = row_at P T

-- A STATE: version, length, P, T, D; P markings; T rows of D counts, the first column for age 0

abbrev pub mark_at : ℕ → ℕ
mark_at p = 8 + 2 * p

-- the rows of counts begin behind the markings
abbrev pub clock_at : ℕ → ℕ
clock_at P = mark_at P

unfoldable pub count_at : ℕ → ℕ → ℕ → Column → ℕ
count_at P D t column = clock_at P + 2 * (t * D + (age_of column).0)

unfoldable pub state_length : ℕ → ℕ → ℕ → ℕ
state_length P T D = clock_at P + 2 * (T * D)

abbrev pub image_length : Net → ℕ
image_length N = state_length N.places N.transitions (width N)

-- A LOG: version, length; events of two bytes

abbrev pub event_at : ℕ → ℕ
event_at k = 5 + 2 * k

-- the log ends where another event would begin
abbrev pub log_length : ℕ → ℕ
log_length events = event_at events
