-- What is answered to each request (docs/ASK.md): the call's name, the numbers that it tells, and a buffer that it may write, whole.
-- Assumes nothing.
use Rattle.std.specs.Prelude.{Bool, codes, List, [], ◌∷◌, ℕ, ◌+◌}
use Rattle.text.specs.Lines.{buffer_most, line_most, Line}
use Rattle.engine.specs.Calls.{net_told, state_told, initial_told, initial_left, event_told, event_left, back_told, back_left}
use Rattle.engine.specs.Calls.{degree_told, owed_told, run_told, run_left, walk_told, walk_left, step_told}
use Rattle.runner.specs.Call.{page_told, state_left, log_left}
use Rattle.balance.specs.Told.{balance_told}
use Rattle.menuask.specs.declared.call.Call.{Call}
use Rattle.menuask.specs.declared.call.Call.TheVariants as call
use Rattle.menu.specs.Fields.{verdict_fields, event_fields, degree_fields, owed_fields, run_fields, walk_fields, step_fields, page_fields, balance_fields}

-- the parts of a line
pub record Reply : Type 0 where
  pub name : List ℕ
  pub numbers : List ℕ
  pub buffers : List (List ℕ)

-- of a call that only reads
abbrev pub tells : List ℕ → List ℕ → Reply
tells name numbers = record { name = name; numbers = numbers; buffers = [] }

-- of a call that may write the state's buffer, which is shown as the call leaves it
abbrev pub shows : List ℕ → List ℕ → List ℕ → Reply
shows name numbers left = record { name = name; numbers = numbers; buffers = left ∷ [] }

-- and of one that may write the log's buffer too
abbrev pub shows_both : List ℕ → List ℕ → List ℕ → List ℕ → Reply
shows_both name numbers state log = record { name = name; numbers = numbers; buffers = state ∷ log ∷ [] }

-- THE REPLIES

abbrev pub check_net_reply : List ℕ → Reply
check_net_reply net = tells (codes "check_net") (verdict_fields (net_told net))

abbrev pub initial_reply : List ℕ → List ℕ → Reply
initial_reply net state = shows (codes "initial") (verdict_fields (initial_told net state)) (initial_left net state)

abbrev pub check_state_reply : List ℕ → List ℕ → Reply
check_state_reply net state = tells (codes "check_state") (verdict_fields (state_told net state))

abbrev pub event_reply : List ℕ → List ℕ → ℕ → ℕ → Bool → Reply
event_reply net state first second started =
    shows (codes "event") (event_fields (event_told net state first second started)) (event_left net state first second started)

abbrev pub back_reply : List ℕ → List ℕ → ℕ → ℕ → Bool → Reply
back_reply net state first second started =
    shows (codes "back") (verdict_fields (back_told net state first second started)) (back_left net state first second started)

abbrev pub degree_reply : List ℕ → List ℕ → ℕ → Reply
degree_reply net state t = tells (codes "degree") (degree_fields (degree_told net state t))

abbrev pub owed_reply : List ℕ → List ℕ → Reply
owed_reply net state = tells (codes "owed") (owed_fields (owed_told net state))

abbrev pub run_reply : List ℕ → List ℕ → List ℕ → Bool → Reply
run_reply net state log started =
    shows (codes "run") (run_fields (run_told net state log started)) (run_left net state log started)

abbrev pub walk_reply : List ℕ → List ℕ → List ℕ → ℕ → Bool → Reply
walk_reply net state log n started =
    shows (codes "walk") (walk_fields (walk_told net state log n started)) (walk_left net state log n started)

abbrev pub step_reply : List ℕ → ℕ → Reply
step_reply log k = tells (codes "step") (step_fields (step_told log k))

abbrev pub page_reply : List ℕ → List ℕ → List ℕ → ℕ → Reply
page_reply net state log budget =
    shows_both (codes "page") (page_fields (page_told net state log budget)) (state_left net state log budget) (log_left net state log budget)

abbrev pub balance_reply : List ℕ → List ℕ → List ℕ → Reply
balance_reply net state weights = tells (codes "balance") (balance_fields (balance_told net state weights))

-- the third slice is a log, the buffer for one, or weights
abbrev pub reply_to : Call → List ℕ → List ℕ → List ℕ → Reply
reply_to call.CheckNet net state third = check_net_reply net
reply_to call.Initial net state third = initial_reply net state
reply_to call.CheckState net state third = check_state_reply net state
reply_to (call.Event first second started) net state third = event_reply net state first second started
reply_to (call.Back first second started) net state third = back_reply net state first second started
reply_to (call.Degree transition) net state third = degree_reply net state transition
reply_to call.Owed net state third = owed_reply net state
reply_to (call.Run started) net state third = run_reply net state third started
reply_to (call.Walk events started) net state third = walk_reply net state third events started
reply_to (call.Step step) net state third = step_reply third step
reply_to (call.Page budget) net state third = page_reply net state third budget
reply_to call.Balance net state third = balance_reply net state third

-- what the state's buffer holds afterwards
abbrev pub left_by : Call → List ℕ → List ℕ → List ℕ → List ℕ
left_by call.Initial net state third = initial_left net state
left_by (call.Event first second started) net state third = event_left net state first second started
left_by (call.Back first second started) net state third = back_left net state first second started
left_by (call.Run started) net state third = run_left net state third started
left_by (call.Walk events started) net state third = walk_left net state third events started
left_by (call.Page budget) net state third = state_left net state third budget
left_by _ net state third = state

-- and the third slice's
abbrev pub third_by : Call → List ℕ → List ℕ → List ℕ → List ℕ
third_by (call.Page budget) net state third = log_left net state third budget
third_by _ net state third = third

-- the line of a reply stands at the buffer's front
abbrev pub Replied : Reply → List ℕ → List ℕ → ℕ → Type 0
Replied reply before after end = Line before 0 reply.name reply.numbers reply.buffers after end

-- no line is longer, where the state's buffer has n bytes: the longest name is `check_state`, and the report of what is owed has nine numbers
abbrev pub reply_most : ℕ → ℕ
reply_most n = line_most 11 9 + buffer_most n

-- and none where the log's buffer is shown too
abbrev pub both_most : ℕ → ℕ → ℕ
both_most n m = reply_most n + buffer_most m
