-- An input that is not as long as it says, or longer than any net, is refused by 1; so a program may stop reading behind the longest net and a
-- byte more.
-- Assumes nothing.
use mathlib.Core.Path.{◌≡◌, refl}
use mathlib.Core.List.{List, []}
use Prim.Native.Nat.{ℕ, ◌<◌, ◌≤◌}
use native.Mathlib.Omega.{arith}
use lib.ListN.{length, take}
use lib.Seq.{length-take-le, take-length}
use borrow.Author.Tests.{le-leb, lt-leb}
use Rattle.model.proofs.Tab.{below-or-past}
use Rattle.forms.specs.declared.fault.Fault.TheVariants as fault
use Rattle.forms.specs.Nets.{NetHead, NetFaulty}
use Rattle.engine.specs.Said.{says}
use Rattle.engine.specs.Calls.{initial_told}
use Rattle.engine.proofs.Faults.{examines}
use Rattle.replay.specs.Replayed.{longest_net}
use Rattle.pageshow.specs.Built.{enough, alone_length, net_alone, unbuilt, built}

module _ (input : List ℕ) where
  pub too_long : longest_net < length input → net_alone input ≡ []
  unfolding alone_length
  too_long h = rw (lt-leb (length input) longest_net h) refl

  pub all-of-it : length input ≤ longest_net → net_alone input ≡ input
  unfolding alone_length
  all-of-it h = rw (le-leb (length input) longest_net h) (take-length input)

  -- what is cut off changes nothing
  pub cut_off : (m : ℕ) → enough ≤ m → m ≤ length input → net_alone (take m input) ≡ net_alone input
  unfolding alone_length
  cut_off m much cut =
      rw (
        length-take-le m input cut,
        lt-leb m longest_net (omega (arith, much)),
        lt-leb (length input) longest_net (omega (arith, much)),
      ) refl

  no_head : (net state log : List ℕ) (budget : ℕ) → ¬ NetHead net → built net state log budget ≡ unbuilt (says 1 0)
  unfolding built initial_told
  no_head net state log budget n = rw (((examines net [] []).net_faults fault.NetFrame).1 (NetFaulty.frame n)) refl

  pub refused-by-1 : (state log : List ℕ) (budget : ℕ) → ¬ ((length input ≤ longest_net) × NetHead input)
      → built (net_alone input) state log budget ≡ unbuilt (says 1 0)
  refused-by-1 state log budget n =
      below-or-past longest_net (length input)
      (λ over. rw (too_long over) (no_head [] state log budget (λ (h : NetHead []). absurd (omega (arith, h.least)))))
      (λ fits. rw (all-of-it fits) (no_head input state log budget (λ h. n (fits, h))))
