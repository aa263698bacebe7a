-- Interval-timed nets and their states: Definitions 1 to 3 of document 004, and what document 01 takes.
-- Assumes nothing.
use Rattle.std.specs.Prelude.{◌≡◌, List, [], ℕ, suc, ◌<◌, ◌≤◌, length, get_or}
use Rattle.model.specs.Tab.{tab, largest}
use Rattle.model.specs.Limits.{Sized, duration_limit, Held}

-- NETS

-- Definitions 1 and 2: P and T by their numbers, v by transition and then place (`takes t p` is v(p, t), `gives t p` is v(t, p)),
-- I(t) = [sfd(t), lfd(t)], and M₀
pub record Net : Type 0 where
  pub places : ℕ
  pub transitions : ℕ
  pub takes : ℕ → ℕ → ℕ
  pub gives : ℕ → ℕ → ℕ
  pub sfd : ℕ → ℕ
  pub lfd : ℕ → ℕ
  pub initial_marking : ℕ → ℕ

-- the preset of t is not empty
abbrev pub HasInput : Net → ℕ → Type 0
HasInput N t = (p : ℕ) × (p < N.places) × (0 < N.takes t p)

-- the postset of t is not empty
abbrev pub HasOutput : Net → ℕ → Type 0
HasOutput N t = (p : ℕ) × (p < N.places) × (0 < N.gives t p)

-- what the text after Definition 2 asks of every transition (lfd = sfd being lawful, as document 01 reads it), and document 01's
-- limit on the initial marking
pub record Proper (N : Net) : Type 0 where
  pub interval : (t : ℕ) → t < N.transitions → N.sfd t ≤ N.lfd t
  pub preset : (t : ℕ) → t < N.transitions → HasInput N t
  pub postset : (t : ℕ) → t < N.transitions → HasOutput N t
  pub initial_held : (p : ℕ) → p < N.places → Held (N.initial_marking p)

-- the nets that document 01 accepts: none of 2, 4, 5 and 6 is told of them (a stored weight is one byte, which bounds it)
pub record Accepted (N : Net) : Type 0 where
  pub proper : Proper N
  pub sized : Sized N.places N.transitions
  pub short : (t : ℕ) → t < N.transitions → N.lfd t ≤ duration_limit

-- d of Definition 3, max (lfd(t) + 1), the number of columns of the clock matrix: every lfd is below it, and one reaches it
pub record IsWidth (N : Net) (d : ℕ) : Type 0 where
  pub covers : (t : ℕ) → t < N.transitions → N.lfd t < d
  pub reached : (t : ℕ) × (t < N.transitions) × (d ≡ suc (N.lfd t))

unfoldable pub width : Net → ℕ
width N = suc (largest N.transitions N.lfd)

-- STATES

-- Definition 3: a marking, and a clock matrix with a row for each transition and a column for each age
pub record State : Type 0 where
  pub marking : List ℕ
  pub clock : List (List ℕ)

-- M(p)
unfoldable pub tokens : State → ℕ → ℕ
tokens S p = get_or S.marking p 0

-- h(t, j + 1): how many firings of t have age j
unfoldable pub count : State → ℕ → ℕ → ℕ
count S t j = get_or (get_or S.clock t []) j 0

-- the state of N with these tokens and counts. Every rule makes its result by this
unfoldable pub build : Net → (ℕ → ℕ) → (ℕ → ℕ → ℕ) → State
build N m h = record { marking = tab N.places m; clock = tab N.transitions (λ t. tab (width N) (h t)) }

-- the marking has a number for each place, and the clock matrix has T rows and d columns
pub record Shaped (N : Net) (S : State) : Type 0 where
  pub marks : length S.marking ≡ N.places
  pub rows : length S.clock ≡ N.transitions
  pub columns : (t : ℕ) → t < N.transitions → length (get_or S.clock t []) ≡ width N

-- S₀ of Definition 3: the initial marking and the zero matrix
pub record Initial (N : Net) (S : State) : Type 0 where
  pub shaped : Shaped N S
  pub marked : (p : ℕ) → p < N.places → tokens S p ≡ N.initial_marking p
  pub idle : (t j : ℕ) → t < N.transitions → j < width N → count S t j ≡ 0

unfoldable pub initial_state : Net → State
initial_state N = build N N.initial_marking (λ t j. 0)

-- document 01: the frame fits, every count at an age above the transition's own lfd is 0, and all numbers are in 0..65,535
pub record Lawful (N : Net) (S : State) : Type 0 where
  pub shaped : Shaped N S
  pub none_past_lfd : (t j : ℕ) → t < N.transitions → j < width N → N.lfd t < j → count S t j ≡ 0
  pub tokens_fit : (p : ℕ) → p < N.places → Held (tokens S p)
  pub counts_fit : (t j : ℕ) → t < N.transitions → j < width N → Held (count S t j)
