-- The stored forms as document 01 lists them, part after part. proofs/ListedNet.antt and proofs/ListedState.antt tie the places of Places.antt to it.
-- Assumes nothing.
use Rattle.std.specs.Prelude.{◌≡◌, List, [], ◌∷◌, ◌++◌, ℕ, zero, suc, ◌+◌, ◌/◌, ◌%◌, ◌<◌, length}
use Rattle.model.specs.Tab.{tab}
use Rattle.model.specs.Net.{Net, State, width, tokens, count}
use Rattle.forms.specs.Begins.{version}
use Rattle.forms.specs.Places.{net_length, image_length}

-- a number in two bytes and in four, big-endian
abbrev pub two : ℕ → List ℕ
two v = v / 256 ∷ v % 256 ∷ []

abbrev pub four : ℕ → List ℕ
four v = two (v / 65536) ++ two (v % 65536)

-- f 0, f 1, .., f (n - 1), one behind the other
unfoldable pub join : ℕ → (ℕ → List ℕ) → List ℕ
join zero f = []
join (suc n) f = f zero ++ join n (λ k. f (suc k))

-- sfd, lfd, P input weights, P output weights
abbrev pub row_bytes : Net → ℕ → List ℕ
row_bytes N t = N.sfd t ∷ N.lfd t ∷ tab N.places (N.takes t) ++ tab N.places (N.gives t)

-- version, length, P, T; P initial markings; a row for each transition
unfoldable pub net_bytes : Net → List ℕ
net_bytes N =
    (version ∷ four (net_length N.places N.transitions) ++ (N.places ∷ N.transitions ∷ []))
    ++ (join N.places (λ p. two (N.initial_marking p)) ++ join N.transitions (row_bytes N))

-- the two nets are the same, as far as there are places and transitions
pub record SameNet (N M : Net) : Type 0 where
  pub places : M.places ≡ N.places
  pub transitions : M.transitions ≡ N.transitions
  pub initial_marking : (p : ℕ) → p < N.places → M.initial_marking p ≡ N.initial_marking p
  pub sfd : (t : ℕ) → t < N.transitions → M.sfd t ≡ N.sfd t
  pub lfd : (t : ℕ) → t < N.transitions → M.lfd t ≡ N.lfd t
  pub takes : (t p : ℕ) → t < N.transitions → p < N.places → M.takes t p ≡ N.takes t p
  pub gives : (t p : ℕ) → t < N.transitions → p < N.places → M.gives t p ≡ N.gives t p

-- version, length, P, T, D; P markings; T rows of D counts
unfoldable pub state_bytes : Net → State → List ℕ
state_bytes N S =
    (version ∷ four (image_length N) ++ (N.places ∷ N.transitions ∷ width N ∷ []))
    ++ (join N.places (λ p. two (tokens S p)) ++ join N.transitions (λ t. join (width N) (λ j. two (count S t j))))

-- version, length; a part with the events
unfoldable pub log_bytes : List ℕ → List ℕ
log_bytes part = (version ∷ four (5 + length part)) ++ part
