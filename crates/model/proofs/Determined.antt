-- Each public function's promise determines its answer: two answers that it permits for the same arguments are equal. What is
-- cited is the promise itself, as a caller learns it. The two statements serve every crate.
-- Assumes nothing.
use mathlib.Core.Path.{◌≡◌, sym, ◌∙◌}
use mathlib.Core.List.{List}
use Prim.Native.Nat.{ℕ}
use contract.Lifetimes.{Lfts}
use denote.Triple.Clauses.{AtExit}
use borrow.Fn.Kinds.{ParamKind, ResultKind, Out, Dens, res_t, ended_of}
use Rattle.model.proofs.age.Age.column.Reads as age-column
use Rattle.model.proofs.age.Age.column.Kinds as age-column-kinds
use Rattle.model.proofs.age.Column.age.Reads as column-age
use Rattle.model.proofs.age.Column.age.Kinds as column-age-kinds
use Rattle.model.proofs.event.EventFromPair.from.Reads as event-from-pair
use Rattle.model.proofs.event.EventFromPair.from.Kinds as event-from-pair-kinds
use Rattle.model.proofs.event.Event.started_by.Reads as event-started-by
use Rattle.model.proofs.event.Event.started_by.Kinds as event-started-by-kinds
use Rattle.model.proofs.event.Event.first.Reads as event-first
use Rattle.model.proofs.event.Event.first.Kinds as event-first-kinds
use Rattle.model.proofs.event.Event.second.Reads as event-second
use Rattle.model.proofs.event.Event.second.Kinds as event-second-kinds
use Rattle.model.proofs.event.Pair.is_tick.Reads as pair-is-tick
use Rattle.model.proofs.event.Pair.is_tick.Kinds as pair-is-tick-kinds
use Rattle.model.proofs.event.Pair.is_start.Reads as pair-is-start
use Rattle.model.proofs.event.Pair.is_start.Kinds as pair-is-start-kinds
use Rattle.model.proofs.answer.U8FromBarrier.from.Reads as barrier-number
use Rattle.model.proofs.answer.U8FromBarrier.from.Kinds as barrier-number-kinds
use Rattle.model.proofs.answer.U8FromRefusal.from.Reads as refusal-number
use Rattle.model.proofs.answer.U8FromRefusal.from.Kinds as refusal-number-kinds
use Rattle.model.proofs.answer.number_of.Reads as answer-number
use Rattle.model.proofs.answer.number_of.Kinds as answer-number-kinds
use Rattle.model.proofs.answer.Short.nothing.Reads as short-nothing
use Rattle.model.proofs.answer.Short.nothing.Kinds as short-nothing-kinds
use Rattle.model.proofs.answer.Refusal.short.Reads as refusal-short
use Rattle.model.proofs.answer.Refusal.short.Kinds as refusal-short-kinds
use Rattle.model.proofs.answer.short_of.Reads as answer-short
use Rattle.model.proofs.answer.short_of.Kinds as answer-short-kinds
use Rattle.model.proofs.answer.U8FromStanding.from.Reads as standing-number
use Rattle.model.proofs.answer.U8FromStanding.from.Kinds as standing-number-kinds
use Rattle.model.proofs.net.Net.new.Reads as net-new
use Rattle.model.proofs.net.Net.new.Kinds as net-new-kinds
use Rattle.model.proofs.net.Net.sized.Reads as net-sized
use Rattle.model.proofs.net.Net.sized.Kinds as net-sized-kinds
use Rattle.model.proofs.net.Net.is_interval.Reads as net-is-interval
use Rattle.model.proofs.net.Net.is_interval.Kinds as net-is-interval-kinds
use Rattle.model.proofs.net.Net.logged.Reads as net-logged
use Rattle.model.proofs.net.Net.logged.Kinds as net-logged-kinds
use Rattle.model.proofs.net.Net.held.Reads as net-held
use Rattle.model.proofs.net.Net.held.Kinds as net-held-kinds

-- `promise` permits one answer for each list of arguments
abbrev pub Determined : (n : ℕ) (ps : List (ParamKind n)) (r : ResultKind n) → Out n ps r → Type 0
Determined n ps r promise =
    (κs : Lfts n) (args : Dens κs ps) (x y : (res_t r κs).Denot) (s s' : AtExit (ended_of n ps r) κs)
    → promise κs args x s → promise κs args y s' → x ≡ y

-- and one content at exit of the buffer that stands there among what is lent
abbrev pub LeavesOne : (n : ℕ) (ps : List (ParamKind n)) (r : ResultKind n) → Out n ps r → ((κs : Lfts n) → AtExit (ended_of n ps r) κs → List ℕ) → Type 0
LeavesOne n ps r promise buffer =
    (κs : Lfts n) (args : Dens κs ps) (x y : (res_t r κs).Denot) (s s' : AtExit (ended_of n ps r) κs)
    → promise κs args x s → promise κs args y s' → buffer κs s ≡ buffer κs s'

pub age-column-determined : Determined 0 age-column-kinds.ps age-column-kinds.r age-column.Learnt
age-column-determined κs args x y s s' p q = p ∙ sym q

pub column-age-determined : Determined 0 column-age-kinds.ps column-age-kinds.r column-age.Learnt
column-age-determined κs args x y s s' p q = p ∙ sym q

pub event-from-pair-determined : Determined 0 event-from-pair-kinds.ps event-from-pair-kinds.r event-from-pair.Learnt
event-from-pair-determined κs args x y s s' p q = p ∙ sym q

pub event-first-determined : Determined 0 event-first-kinds.ps event-first-kinds.r event-first.Learnt
event-first-determined κs args x y s s' p q = p ∙ sym q

pub event-second-determined : Determined 0 event-second-kinds.ps event-second-kinds.r event-second.Learnt
event-second-determined κs args x y s s' p q = p ∙ sym q

pub event-started-by-determined : Determined 0 event-started-by-kinds.ps event-started-by-kinds.r event-started-by.Learnt
event-started-by-determined κs args x y s s' p q = p ∙ sym q

pub pair-is-tick-determined : Determined 0 pair-is-tick-kinds.ps pair-is-tick-kinds.r pair-is-tick.Learnt
pair-is-tick-determined κs args x y s s' p q = p ∙ sym q

pub pair-is-start-determined : Determined 0 pair-is-start-kinds.ps pair-is-start-kinds.r pair-is-start.Learnt
pair-is-start-determined κs args x y s s' p q = p ∙ sym q

pub barrier-number-determined : Determined 0 barrier-number-kinds.ps barrier-number-kinds.r barrier-number.Learnt
barrier-number-determined κs args x y s s' p q = p ∙ sym q

pub refusal-number-determined : Determined 0 refusal-number-kinds.ps refusal-number-kinds.r refusal-number.Learnt
refusal-number-determined κs args x y s s' p q = p ∙ sym q

pub answer-number-determined : Determined 0 answer-number-kinds.ps answer-number-kinds.r answer-number.Learnt
answer-number-determined κs args x y s s' p q = p ∙ sym q

pub short-nothing-determined : Determined 0 short-nothing-kinds.ps short-nothing-kinds.r short-nothing.Learnt
short-nothing-determined κs args x y s s' p q = p ∙ sym q

pub refusal-short-determined : Determined 0 refusal-short-kinds.ps refusal-short-kinds.r refusal-short.Learnt
refusal-short-determined κs args x y s s' p q = p ∙ sym q

pub answer-short-determined : Determined 0 answer-short-kinds.ps answer-short-kinds.r answer-short.Learnt
answer-short-determined κs args x y s s' p q = p ∙ sym q

pub standing-number-determined : Determined 0 standing-number-kinds.ps standing-number-kinds.r standing-number.Learnt
standing-number-determined κs args x y s s' p q = p ∙ sym q

pub net-new-determined : Determined 0 net-new-kinds.ps net-new-kinds.r net-new.Learnt
net-new-determined κs args x y s s' p q = p ∙ sym q

pub net-sized-determined : Determined 0 net-sized-kinds.ps net-sized-kinds.r net-sized.Learnt
net-sized-determined κs args x y s s' p q = p ∙ sym q

pub net-is-interval-determined : Determined 0 net-is-interval-kinds.ps net-is-interval-kinds.r net-is-interval.Learnt
net-is-interval-determined κs args x y s s' p q = p ∙ sym q

pub net-logged-determined : Determined 0 net-logged-kinds.ps net-logged-kinds.r net-logged.Learnt
net-logged-determined κs args x y s s' p q = p ∙ sym q

pub net-held-determined : Determined 0 net-held-kinds.ps net-held-kinds.r net-held.Learnt
net-held-determined κs args x y s s' p q = p ∙ sym q
