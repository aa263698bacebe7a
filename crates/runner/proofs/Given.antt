-- What the runner's call is given: a buffer has room for the head of a log or not, and where all is well the bytes are in their frame.
-- Assumes nothing.
use Rattle.std.proofs.Common.{Bor, Ok, Err}
use mathlib.Core.Path.{◌≡◌, refl}
use mathlib.Core.Bool.{Bool, true, false}
use mathlib.Core.List.{List}
use Prim.Native.Nat.{ℕ, ◌<◌, ◌≤◌}
use lib.Dec.{leb}
use lib.ListN.{length}
use Rattle.model.specs.declared.net.Net.{Net as Shape}
use Rattle.model.proofs.Tab.{below-or-past}
use Rattle.model.proofs.Alls.{holds, lacks}
use Rattle.model.proofs.Tests.{leb_tells, told-true}
use Rattle.forms.specs.declared.fault.Fault.{Fault}
use Rattle.forms.specs.declared.fault.Fault.TheVariants as fault
use Rattle.forms.specs.Checked.{unless}
use Rattle.forms.specs.Frame.{Framed}
use Rattle.forms.specs.declared.checked.CheckedNet.{CheckedNet}
use Rattle.engine.specs.Examined.{examine_state}
use Rattle.engine.proofs.Fits.{fit_then, state-fits}
use Rattle.runner.specs.Call.{check_buffer, examine_page}

pub long-buffer : (log : List ℕ) → 5 ≤ length log → check_buffer log ≡ Ok tt
long-buffer log h = rw (told-true (leb_tells 5 (length log)) h)

-- a buffer that is examined has room for a head
buffer-fits : (log : List ℕ) → check_buffer log ≡ Ok tt → 5 ≤ length log
buffer-fits log e = holds (leb_tells 5 (length log)) (passes (leb 5 (length log)) e)
  where
    passes : (b : Bool) → unless b fault.LogFrame (Ok tt) ≡ Ok tt → b ≡ true
    passes true q = refl
    passes false q = cc

-- and one that is not has none
pub buffer-lacks : (log : List ℕ) (why : Fault) → check_buffer log ≡ Err why → (fault.LogFrame ≡ why) × (length log < 5)
buffer-lacks log why e =
    let (q, f) = fails (leb 5 (length log)) e in
    (q, below-or-past (length log) 5 (λ h. h) (λ h. absurd (lacks (leb_tells 5 (length log)) f h)))
  where
    fails : (b : Bool) → unless b fault.LogFrame (Ok tt) ≡ Err why → (fault.LogFrame ≡ why) × (b ≡ false)
    fails true q = cc
    fails false q = (cc, refl)

module _ (net : List ℕ) (s : Shape) (state log : List ℕ) (fit : examine_page net state log ≡ Ok s) where
  pub state-fit : examine_state net state ≡ Ok s
  unfolding examine_page
  state-fit = (fit_then (examine_state net state) (check_buffer log) fit).0

  pub page-fits : Framed net s state × (5 ≤ length log)
  unfolding examine_page
  page-fits = (state-fits net s state state-fit, buffer-fits log (fit_then (examine_state net state) (check_buffer log) fit).1)

-- so a call that examined them has them in their frame
pub page-found : (bytes : Bor (List ℕ)) (net : CheckedNet) (state log : List ℕ) → (examine_page bytes.now state log ≡ Ok net.shape) × (net.bytes ≡ bytes)
    → Framed net.bytes.now net.shape state × (5 ≤ length log)
page-found bytes net state log (e, same) = rw same (page-fits bytes.now net.shape state log e)

-- a buffer that has room for a head passes behind a state that does
pub still-page : (net : List ℕ) (s : Shape) (state log : List ℕ) → examine_state net state ≡ Ok s → 5 ≤ length log
    → examine_page net state log ≡ Ok s
unfolding examine_page
still-page net s state log e h = rw (e, long-buffer log h)
