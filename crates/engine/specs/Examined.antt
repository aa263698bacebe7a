-- What is given to a call, examined in document 01's order. The first fault is told.
-- Assumes nothing.
use Rattle.std.specs.Prelude.{◌≡◌, List, ℕ, Result, Ok, Err, MatchResult}
use Rattle.std.specs.Borrow.{Bor}
use Rattle.model.specs.declared.net.Net.{Net as Shape}
use Rattle.model.specs.Limits.{shape_of}
use Rattle.model.specs.Net.{width}
use Rattle.forms.specs.declared.fault.Fault.{Fault}
use Rattle.forms.specs.declared.checked.CheckedNet.{CheckedNet}
use Rattle.forms.specs.Checked.{Checked}
use Rattle.forms.specs.Stored.{net_of}
use Rattle.forms.specs.Nets.{check_net}
use Rattle.forms.specs.States.{check_state}
use Rattle.forms.specs.Logs.{check_log}

-- all is well, and the net has this shape; or the first fault
abbrev pub Examined : Type 0
Examined = Result Shape Fault

-- where the check is good, what follows
abbrev pub if_good : Checked → Examined → Examined
if_good (Ok tt) rest = rest
if_good (Err why) rest = Err why

-- where the examination so far found no fault, one more check
abbrev pub then_check : Examined → Checked → Examined
then_check (Ok shape) check = if_good check (Ok shape)
then_check (Err why) check = Err why

-- 1 to 6
unfoldable pub examine_net : List ℕ → Examined
examine_net net =
    if_good (check_net net) (Ok (shape_of (net_of net).places (net_of net).transitions (width (net_of net))))

-- and then 8 and 9
unfoldable pub examine_state : List ℕ → List ℕ → Examined
examine_state net state = then_check (examine_net net) (check_state (net_of net) state)

-- and then 10
unfoldable pub examine_log : List ℕ → List ℕ → List ℕ → Examined
examine_log net state log = then_check (examine_state net state) (check_log log)

-- what follows from an examination, by its two cases
abbrev pub if_fit : {A : Type 0} → Examined → A → (Fault → A) → A
if_fit (Ok shape) go stop = go
if_fit (Err why) go stop = stop why

-- r tells what was found of the net in `bytes`: the checked net, with the shape that was found, or the fault
abbrev pub Finds : Bor (List ℕ) → Examined → Result CheckedNet Fault → Type 0
Finds bytes found r = MatchResult r (λ net. (found ≡ Ok net.shape) × (net.bytes ≡ bytes)) (λ why. found ≡ Err why)
