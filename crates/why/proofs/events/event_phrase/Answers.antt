-- `events::event_phrase` meets its contract: the two bytes of the event, and 0 where there are none.
use mathlib.Core.Path.{◌≡◌, refl, ◌∙◌}
use mathlib.Core.List.{List}
use Prim.Native.Nat.{ℕ, ◌+◌, ◌/◌, ◌≤◌}
use native.Mathlib.Omega.{arith}
use lib.ListN.{length, get_or-eq_default}
use Rattle.forms.specs.Word.{byte}
use Rattle.forms.specs.Places.{event_at}
use Rattle.why.specs.declared.phrase.Word.TheVariants as words
use Rattle.why.specs.Report.{plain, event_phrase}
use Rattle.why.proofs.events.event_phrase.Goals as goal

module _ (log : List ℕ) (i : ℕ) where
  -- behind the log the bytes are 0, and that is a tick
  behind-it : length log / 2 ≤ i → plain words.Tick ≡ event_phrase log i
  unfolding event_phrase
  behind-it h =
      let first : byte log (event_at i) ≡ 0 = get_or-eq_default log 0 (omega arith) in
      let second : byte log (event_at i + 1) ≡ 0 = get_or-eq_default log 0 (omega arith) in
      rw (first, second) refl

pub returns-then-log-i : goal.returns-then-log-i
returns-then-log-i c = c.new.ensures ∙ behind-it c.args.log.now c.args.i c.if-log-i.true
