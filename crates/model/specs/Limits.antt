-- The limits of document 01, once for the definitions, and the tests that use them. In the code they are constants of the net's
-- kind, and the contracts of the tests hold the two together.
-- Assumes nothing.
use Rattle.std.specs.Prelude.{Bool, ◌&&◌, ℕ, ◌≤◌, leb}
use Rattle.model.specs.declared.net.Net.{Net as Shape}

abbrev pub place_limit : ℕ
place_limit = 64

abbrev pub transition_limit : ℕ
transition_limit = 64

abbrev pub duration_limit : ℕ
duration_limit = 63

abbrev pub event_limit : ℕ
event_limit = 24000

abbrev pub token_limit : ℕ
token_limit = 65535

-- number 2: P and T are 1..64
abbrev pub Sized : ℕ → ℕ → Type 0
Sized P T = ((1 ≤ P) × (P ≤ place_limit)) × ((1 ≤ T) × (T ≤ transition_limit))

abbrev pub is_sized : ℕ → ℕ → Bool
is_sized P T = (leb 1 P && leb P place_limit) && (leb 1 T && leb T transition_limit)

-- number 4: lfd neither below sfd nor above 63
abbrev pub IsInterval : ℕ → ℕ → Type 0
IsInterval sfd lfd = (sfd ≤ lfd) × (lfd ≤ duration_limit)

abbrev pub is_interval : ℕ → ℕ → Bool
is_interval sfd lfd = leb sfd lfd && leb lfd duration_limit

-- number 10: at most 24,000 events
abbrev pub Logged : ℕ → Type 0
Logged events = events ≤ event_limit

abbrev pub is_logged : ℕ → Bool
is_logged events = leb events event_limit

-- numbers 14 and 17: a count or a place holds at most 65,535
abbrev pub Held : ℕ → Type 0
Held n = n ≤ token_limit

abbrev pub is_held : ℕ → Bool
is_held n = leb n token_limit

abbrev pub shape_of : ℕ → ℕ → ℕ → Shape
shape_of P T D = record { places = P; transitions = T; width = D }
