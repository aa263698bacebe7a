-- The layout of the stored forms is document 01's, for every size: what is read and written is what Listed.antt lists.
-- Assumes nothing.
use Rattle.std.specs.Prelude.{◌≡◌, List, ◌++◌, ℕ, ◌*◌, length, drop}
use Rattle.model.specs.Limits.{Logged}
use Rattle.model.specs.Net.{Net, State, Accepted, Lawful}
use Rattle.forms.specs.Word.{Bytes}
use Rattle.forms.specs.Places.{image_length}
use Rattle.forms.specs.Stored.{net_of, state_of}
use Rattle.forms.specs.Listed.{net_bytes, SameNet, state_bytes, log_bytes}
use Rattle.forms.specs.Written.{written}
use Rattle.forms.specs.Nets.{IsNet}
use Rattle.forms.specs.States.{IsState}
use Rattle.forms.specs.Logs.{IsLog}

pub record AsListed : Type 0 where
  -- a net: the listed bytes of every net that document 01 accepts are one, and read as it; and an accepted one is nothing else
  pub net_good : (N : Net) → Accepted N → IsNet (net_bytes N)
  pub net_reads : (N : Net) → SameNet N (net_of (net_bytes N))
  pub net_is : (b : List ℕ) → Bytes b → IsNet b → b ≡ net_bytes (net_of b)
  -- a state, at the front of a buffer; and an accepted one is nothing else
  pub state_good : (N : Net) (S : State) → Lawful N S → IsState N (state_bytes N S)
  pub state_reads : (N : Net) (S : State) → Lawful N S → state_of N (state_bytes N S) ≡ S
  pub state_written : (N : Net) (S : State) (b : List ℕ) → IsState N b → Bytes b → written N S b ≡ state_bytes N S ++ drop (image_length N) b
  pub state_is : (N : Net) (b : List ℕ) → Bytes b → IsState N b → b ≡ state_bytes N (state_of N b) ++ drop (image_length N) b
  -- a log: the events follow the head of five bytes
  pub log_good : (part : List ℕ) (n : ℕ) → length part ≡ 2 * n → Logged n → IsLog (log_bytes part)
  pub log_is : (b : List ℕ) → Bytes b → IsLog b → b ≡ log_bytes (drop 5 b)
