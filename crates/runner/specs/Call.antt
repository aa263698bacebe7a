-- What the runner's call tells and leaves, for any bytes.
-- Assumes nothing.
use Rattle.std.specs.Prelude.{List, ℕ, leb, length, Ok}
use Rattle.forms.specs.declared.fault.Fault.{Fault}
use Rattle.forms.specs.declared.fault.Fault.TheVariants as fault
use Rattle.forms.specs.Checked.{Checked, number_of_fault, index_of_fault, unless}
use Rattle.forms.specs.Places.{event_at}
use Rattle.forms.specs.Stored.{net_of}
use Rattle.forms.specs.Written.{written}
use Rattle.engine.specs.Examined.{Examined, then_check, examine_state, if_fit}
use Rattle.runner.specs.declared.call.PageTold.{PageTold}
use Rattle.runner.specs.declared.build.Tally.{Tally}
use Rattle.runner.specs.Stop.{number_of_stop}
use Rattle.runner.specs.Logged.{tally_of, page_in, logged_over}

-- 10: a buffer that has no room for the head of a log
abbrev pub check_buffer : List ℕ → Checked
check_buffer log = unless (leb (event_at 0) (length log)) fault.LogFrame (Ok tt)

-- 1 to 6, 8, 9, and then 10
unfoldable pub examine_page : List ℕ → List ℕ → List ℕ → Examined
examine_page net state log = then_check (examine_state net state) (check_buffer log)

abbrev pub page_of : Tally → PageTold
page_of t = record { number = 0; index = 0; stop = number_of_stop t.stop; events = t.events; ticks = t.ticks }

abbrev pub no_page : Fault → PageTold
no_page why = record { number = number_of_fault why; index = index_of_fault why; stop = 0; events = 0; ticks = 0 }

unfoldable pub page_told : List ℕ → List ℕ → List ℕ → ℕ → PageTold
page_told net state log budget = if_fit (examine_page net state log) (page_of (tally_of (page_in net state log budget))) no_page

-- the state's buffer
unfoldable pub state_left : List ℕ → List ℕ → List ℕ → ℕ → List ℕ
state_left net state log budget =
    if_fit (examine_page net state log) (written (net_of net) (page_in net state log budget).state state) (λ why. state)

-- the log's buffer
unfoldable pub log_left : List ℕ → List ℕ → List ℕ → ℕ → List ℕ
log_left net state log budget =
    if_fit (examine_page net state log) (logged_over (page_in net state log budget).events log) (λ why. log)
