-- When a slice is a net: document 01's numbers 1 to 6, as relations 'given exactly when' and as a function that computes.
-- Assumes nothing.
use Rattle.std.specs.Prelude.{◌≡◌, Bool, ◌&&◌, not, List, ℕ, ◌<◌, ◌≤◌, leb, eqb, length, Ok}
use Rattle.model.specs.Tab.{all}
use Rattle.model.specs.Limits.{Sized, is_sized, IsInterval, is_interval}
use Rattle.model.specs.Net.{Net, HasInput, HasOutput}
use Rattle.forms.specs.declared.fault.Fault.{Fault}
use Rattle.forms.specs.declared.fault.Fault.TheVariants as fault
use Rattle.forms.specs.Checked.{Checked, unless, in_turn}
use Rattle.forms.specs.Word.{byte}
use Rattle.forms.specs.Begins.{Begins, begins_with}
use Rattle.forms.specs.Places.{net_length}
use Rattle.forms.specs.Stored.{net_of}

-- at least 7 bytes, version 1, and the length is the slice's
pub record NetHead (b : List ℕ) : Type 0 where
  pub least : 7 ≤ length b
  pub begins : Begins b (length b)

-- the length is the formula's
abbrev pub LengthRight : List ℕ → Type 0
LengthRight b = length b ≡ net_length (byte b 5) (byte b 6)

-- none of 4, 5 and 6 is told of transition t
pub record RowGood (N : Net) (t : ℕ) : Type 0 where
  pub interval : IsInterval (N.sfd t) (N.lfd t)
  pub preset : HasInput N t
  pub postset : HasOutput N t

-- none of 1 to 6 is told
pub record IsNet (b : List ℕ) : Type 0 where
  pub head : NetHead b
  pub sized : Sized (byte b 5) (byte b 6)
  pub long : LengthRight b
  pub rows : (t : ℕ) → t < byte b 6 → RowGood (net_of b) t

-- 4, 5 and 6
pub data RowFaulty (N : Net) (t : ℕ) : Fault → Type 0 where
  no_interval : ¬ IsInterval (N.sfd t) (N.lfd t) → RowFaulty N t (fault.NoInterval t)
  no_input : IsInterval (N.sfd t) (N.lfd t) → ¬ HasInput N t → RowFaulty N t (fault.NoInput t)
  no_output : IsInterval (N.sfd t) (N.lfd t) → HasInput N t → ¬ HasOutput N t → RowFaulty N t (fault.NoOutput t)

-- 1 to 6, each behind those before it; of the transitions the lowest is told
pub data NetFaulty (b : List ℕ) : Fault → Type 0 where
  frame : ¬ NetHead b → NetFaulty b fault.NetFrame
  size : NetHead b → ¬ Sized (byte b 5) (byte b 6) → NetFaulty b fault.NetSize
  length_wrong : NetHead b → Sized (byte b 5) (byte b 6) → ¬ LengthRight b → NetFaulty b fault.NetLength
  row : {why : Fault} {t : ℕ} → NetHead b → Sized (byte b 5) (byte b 6) → LengthRight b → t < byte b 6
      → ((u : ℕ) → u < t → RowGood (net_of b) u) → RowFaulty (net_of b) t why → NetFaulty b why

-- THE FUNCTION

unfoldable pub has_net_head : List ℕ → Bool
has_net_head b = leb 7 (length b) && begins_with b (length b)

-- some of the weights f 0 .. f (n - 1) is above 0
unfoldable pub has_some_weight : ℕ → (ℕ → ℕ) → Bool
has_some_weight n f = not (all n (λ p. eqb (f p) 0))

unfoldable pub check_row : Net → ℕ → Checked
check_row N t =
    unless (is_interval (N.sfd t) (N.lfd t)) (fault.NoInterval t)
    (unless (has_some_weight N.places (N.takes t)) (fault.NoInput t)
    (unless (has_some_weight N.places (N.gives t)) (fault.NoOutput t) (Ok tt)))

unfoldable pub check_net : List ℕ → Checked
check_net b =
    unless (has_net_head b) fault.NetFrame
    (unless (is_sized (byte b 5) (byte b 6)) fault.NetSize
    (unless (eqb (length b) (net_length (byte b 5) (byte b 6))) fault.NetLength
    (in_turn (check_row (net_of b)) 0 (byte b 6))))
