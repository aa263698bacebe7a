-- Two calls, the second from where the first stopped by its budget, are together one call with both budgets.
-- Assumes nothing.
use Rattle.std.proofs.Common.{Ok}
use mathlib.Core.Path.{◌≡◌, sym, ap, ap₂, ◌∙◌}
use mathlib.Core.List.{List, ◌++◌}
use Prim.Native.Nat.{ℕ, ◌+◌, ◌≤◌}
use lib.ListN.{length, length-append}
use Rattle.model.specs.declared.net.Net.{Net as Shape}
use Rattle.model.specs.Run.{ticks_in}
use Rattle.model.proofs.Run.{ticks-append}
use Rattle.forms.specs.Word.{Bytes}
use Rattle.forms.specs.Stored.{net_of, stored, log_events}
use Rattle.forms.specs.Written.{written}
use Rattle.forms.proofs.Written.{written_twice}
use Rattle.engine.specs.Demands.{LeavesState}
use Rattle.runner.specs.declared.stop.Stop.TheVariants as stop
use Rattle.runner.specs.Stop.{number_of_stop}
use Rattle.runner.specs.Page.{Page, joined}
use Rattle.runner.specs.Logged.{room_of, page_in}
use Rattle.runner.specs.Call.{examine_page, state_left, log_left}
use Rattle.runner.specs.Demands.{RoomFor}
use Rattle.runner.specs.Promised.{says_page, front, InTwo, BudgetsAdd}
use Rattle.runner.proofs.Stops.{same_stop}
use Rattle.runner.proofs.Pages.{budgets_add, page-spent}
use Rattle.runner.proofs.Given.{state-fit, still-page}
use Rattle.runner.proofs.Built.{proper, told_is, events-told, read, reached}

-- the state that the first call leaves, and the second's buffer, pass the checks
passes-again : (net : List ℕ) (s : Shape) (b log₁ log₂ : List ℕ) (a : ℕ) → Bytes net → Bytes b → examine_page net b log₁ ≡ Ok s
    → 5 ≤ length log₂ → examine_page net (state_left net b log₁ a) log₂ ≡ Ok s
passes-again net s b log₁ log₂ a small small' fit long₂ =
    still-page net s (state_left net b log₁ a) log₂ ((reached net s b log₁ fit a small small').passes ∙ state-fit net s b log₁ fit) long₂

module _ (net : List ℕ) (s : Shape) (b log₁ log₂ log : List ℕ) (a c : ℕ) (small : Bytes net) (small' : Bytes b)
    (fit : examine_page net b log₁ ≡ Ok s) (long₂ : 5 ≤ length log₂) (long : 5 ≤ length log)
    (spent : (page_in net b log₁ a).stop ≡ stop.BudgetSpent)
    (room : RoomFor a (page_in net (state_left net b log₁ a) log₂ c) (room_of (length log₂)) (room_of (length log))) where
  -- THE THREE CALLS

  left : LeavesState net b (state_left net b log₁ a) (page_in net b log₁ a).state
  left = reached net s b log₁ fit a small small'

  again : examine_page net (state_left net b log₁ a) log₂ ≡ Ok s
  again = passes-again net s b log₁ log₂ a small small' fit long₂

  whole : examine_page net b log ≡ Ok s
  whole = still-page net s b log (state-fit net s b log₁ fit) long

  count : length (page_in net b log₁ a).events ≡ a
  count = page-spent (net_of net) (proper net s b log₁ fit a small small') (stored net b) (room_of (length log₁)) a spent

  -- THEIR PAGES

  both : page_in net b log (a + c) ≡ joined (page_in net b log₁ a).events (page_in net (state_left net b log₁ a) log₂ c)
  both =
      rw left.reads
      (budgets_add (net_of net) (proper net s b log₁ fit a small small') (stored net b) (room_of (length log₁)) (room_of (length log₂))
      (room_of (length log)) a c spent (rw left.reads at room))

  adds : InTwo net b log₁ log₂ log a c
  adds =
      let es = (page_in net b log₁ a).events in
      let q = page_in net (state_left net b log₁ a) log₂ c in
      let n : length (es ++ q.events) ≡ a + length q.events = length-append es q.events ∙ ap (λ k. k + length q.events) count in
      let m : ticks_in (es ++ q.events) ≡ ticks_in es + ticks_in q.events = ticks-append es q.events in
      record {
        told =
            rw (told_is net s b log whole (a + c), both, told_is net s (state_left net b log₁ a) log₂ again c, told_is net s b log₁ fit a)
            (λ i. says_page 0 0 (number_of_stop q.stop) (n i) (m i));
        left =
            (reached net s b log whole (a + c) small small').whole ∙ ap (λ (p : Page). written (net_of net) p.state b) both
            ∙ sym (written_twice (net_of net) q.state b (page_in net b log₁ a).state)
            ∙ ap (written (net_of net) q.state) (sym left.whole)
            ∙ sym (reached net s (state_left net b log₁ a) log₂ again c small left.bytes).whole;
        logged =
            read net s b log whole (a + c) small small' ∙ ap (λ (p : Page). p.events) both
            ∙ ap₂ ◌++◌
            (sym (read net s b log₁ fit a small small') ∙ ap (λ k. log_events (front k (log_left net b log₁ a))) (events-told net s b log₁ fit a ∙ count))
            (sym (read net s (state_left net b log₁ a) log₂ again c small left.bytes));
      }

pub in_two : (net b log₁ log₂ log : List ℕ) (a c : ℕ) → Bytes net → Bytes b → BudgetsAdd net b log₁ log₂ log a c
in_two net b log₁ log₂ log a c small small' (s, fit) long₂ long spent room =
    let stopped = same_stop (page_in net b log₁ a).stop stop.BudgetSpent (sym (ap (λ r. r.stop) (told_is net s b log₁ fit a)) ∙ spent) in
    let second = told_is net s (state_left net b log₁ a) log₂ (passes-again net s b log₁ log₂ a small small' fit long₂) c in
    adds net s b log₁ log₂ log a c small small' fit long₂ long stopped (rw second at room)
