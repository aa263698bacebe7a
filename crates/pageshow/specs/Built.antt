-- The page that menupage builds of the net in its input, what it tells of it, and that menurun tells the same.
-- Assumes nothing.
use Rattle.std.specs.Prelude.{◌≡◌, cond, false, List, ◌++◌, ℕ, suc, eqb, leb, length, take}
use Rattle.forms.specs.Places.{log_length}
use Rattle.engine.specs.declared.answers.Verdict.{Verdict}
use Rattle.engine.specs.Said.{says, no_place}
use Rattle.engine.specs.Calls.{initial_told, initial_left, run_left, owed_told}
use Rattle.runner.specs.declared.call.PageTold.{PageTold}
use Rattle.runner.specs.Call.{page_told, state_left, log_left}
use Rattle.replay.specs.Replayed.{longest_net, ran_on, not_begun, is_begun, replayed, replay_left}
use Rattle.pageshow.specs.declared.build.Built.{Built}

-- THE NET

-- the whole input; where that is longer than any net, none of it, which is refused by 1
unfoldable pub alone_length : List ℕ → ℕ
alone_length input = cond (leb (length input) longest_net) (length input) 0

abbrev pub net_alone : List ℕ → List ℕ
net_alone input = take (alone_length input) input

-- a program may stop reading behind so many bytes: the longest net and a byte more (`CutOff` proves it)
abbrev pub enough : ℕ
enough = suc longest_net

-- WHAT IS TOLD

-- there is no page
abbrev pub unbuilt : Verdict → Built
unbuilt why = record { stop = 0; log = 0; told = not_begun why }

-- the page's stop, and an accepted run of its events
abbrev pub of_page : PageTold → ℕ → Built
of_page p standing = record {
  stop = p.stop;
  log = log_length p.events;
  told = record { number = 0; index = p.events; done = p.events; ticks = p.ticks; standing = standing; short = no_place };
}

-- the page from a state
abbrev pub built_from : List ℕ → List ℕ → List ℕ → ℕ → Built
built_from net state log budget =
    cond (eqb (page_told net state log budget).number 0)
    (of_page (page_told net state log budget) (owed_told net (state_left net state log budget)).standing)
    (unbuilt (says (page_told net state log budget).number (page_told net state log budget).index))

-- the page from the initial state
unfoldable pub built : List ℕ → List ℕ → List ℕ → ℕ → Built
built net state log budget =
    cond (is_begun net state) (built_from net (initial_left net state) log budget) (unbuilt (initial_told net state))

unfoldable pub built_state : List ℕ → List ℕ → List ℕ → ℕ → List ℕ
built_state net state log budget =
    cond (is_begun net state) (state_left net (initial_left net state) log budget) (initial_left net state)

unfoldable pub built_log : List ℕ → List ℕ → List ℕ → ℕ → List ℕ
built_log net state log budget = cond (is_begun net state) (log_left net (initial_left net state) log budget) log

-- WHAT MENURUN TELLS

-- the log that was written
abbrev pub log_of : Built → List ℕ → List ℕ
log_of r log' = take r.log log'

-- where there is a page, what is told is told of its log by a run from the state, which leaves the same bytes
abbrev pub AsRun : List ℕ → List ℕ → Built → List ℕ → List ℕ → Type 0
AsRun net state r state' log' =
    r.told.number ≡ 0 → (r.told ≡ ran_on net state (log_of r log')) × (state' ≡ run_left net state (log_of r log') false)

-- and by menurun, of the net and then the log
abbrev pub AsReplayed : List ℕ → List ℕ → Built → List ℕ → List ℕ → Type 0
AsReplayed net state r state' log' =
    r.told.number ≡ 0
    → (r.told ≡ replayed (net ++ log_of r log') state) × (state' ≡ replay_left (net ++ log_of r log') state)
