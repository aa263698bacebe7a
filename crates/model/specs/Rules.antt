-- The rules of the events as functions that compute: one event done, one event taken back, the degree. Their only control
-- structure is `unless`, in the order of the numbers' table. proofs/ ties them to the relations of Moves.antt and Refusals.antt.
-- Assumes nothing.
use Rattle.std.specs.Prelude.{Ok, Err, Bool, cond, ◌&&◌, not, ℕ, zero, suc, ◌+◌, ◌-◌, ◌/◌, leb, ltb, eqb}
use Rattle.model.specs.declared.event.Event.{Event}
use Rattle.model.specs.declared.event.Event.TheVariants as event
use Rattle.model.specs.declared.answer.Short.{Short}
use Rattle.model.specs.declared.answer.Barrier.TheVariants as barrier
use Rattle.model.specs.declared.answer.Refusal.{Refusal}
use Rattle.model.specs.declared.answer.Refusal.TheVariants as refusal
use Rattle.model.specs.Answer.{Answer}
use Rattle.model.specs.Tab.{implies, all, one, least, lowest}
use Rattle.model.specs.Limits.{is_held, token_limit}
use Rattle.model.specs.Net.{Net, State, width, tokens, count, build}

-- OUTCOMES

-- what doing an event, or taking it back, comes to
pub data Outcome : Type 0 where
  done : State → Outcome
  refused : Refusal → Outcome

-- where the test fails the refusal is told, and else what follows
abbrev pub unless : Bool → Refusal → Outcome → Outcome
unless b why rest = cond b rest (refused why)

abbrev pub answer_of : Outcome → Answer
answer_of (done S) = Ok tt
answer_of (refused why) = Err why

-- the state that stands after an event in S: a refused event changes nothing
abbrev pub state_after : State → Outcome → State
state_after S (done S') = S'
state_after S (refused why) = S

-- THE TESTS of the relations of Moves.antt, each by the name of its relation; `lacking_place` and `short` find what `Lacks` says

-- the lowest place that lacks tokens for one start of t, or P where none does
unfoldable pub lacking_place : Net → State → ℕ → ℕ
lacking_place N S t = lowest N.places N.places (λ p. ltb (tokens S p) (N.takes t p))

-- t is enabled: no such place was found
unfoldable pub is_enabled : Net → State → ℕ → Bool
is_enabled N S t = eqb (lacking_place N S t) N.places

-- what place p lacks for one start of t
abbrev pub short_at : Net → State → ℕ → ℕ → Short
short_at N S t p = record { place = p; lacks = N.takes t p - tokens S p }

-- the place that the test found, and what it lacks
unfoldable pub short : Net → State → ℕ → Short
short N S t = short_at N S t (lacking_place N S t)

unfoldable pub has_no_start_owed : Net → State → Bool
has_no_start_owed N S = all N.transitions (λ t. not (is_enabled N S t))

unfoldable pub has_no_end_owed : Net → State → Bool
has_no_end_owed N S = all N.transitions (λ t. eqb (count S t (N.lfd t)) 0)

unfoldable pub has_nothing_running : Net → State → Bool
has_nothing_running N S = all N.transitions (λ t. all (width N) (λ j. eqb (count S t j) 0))

unfoldable pub is_timely : Net → ℕ → ℕ → Bool
is_timely N t j = leb (N.sfd t) j && leb j (N.lfd t)

unfoldable pub has_room : Net → State → (ℕ → ℕ) → Bool
has_room N S more = all N.places (λ p. is_held (tokens S p + more p))

unfoldable pub can_end : Bool → ℕ → Bool
can_end started j = implies started (eqb j 0)

unfoldable pub owes_no_old_end : Net → State → ℕ → Bool
owes_no_old_end N S t = implies (leb 1 (N.lfd t)) (eqb (count S t (N.lfd t)) 0)

unfoldable pub has_no_old_end_owed : Net → State → Bool
has_no_old_end_owed N S = all N.transitions (owes_no_old_end N S)

-- ONE EVENT DONE. `begun`: a start has happened before in the step

unfoldable pub started : Net → State → ℕ → State
started N S t = build N (λ p. tokens S p - N.takes t p) (λ u k. count S u k + one t 0 u k)

unfoldable pub ended : Net → State → ℕ → ℕ → State
ended N S t j = build N (λ p. tokens S p + N.gives t p) (λ u k. count S u k - one t j u k)

-- the counts one age later
unfoldable pub older : (ℕ → ℕ → ℕ) → ℕ → ℕ → ℕ
older h t zero = 0
older h t (suc j) = h t j

unfoldable pub ticked : Net → State → State
ticked N S = build N (tokens S) (older (count S))

-- 11 and 12; of a tick 18, 19, 20; of a start 13, 29, 14; of an end 15, 28, 16, 17
unfoldable pub apply : Net → Bool → State → Event → Outcome
apply N begun S event.Tick =
    unless (has_no_start_owed N S) refusal.StartOwed
    (unless (has_no_end_owed N S) refusal.EndOwed
    (unless (not (has_nothing_running N S)) refusal.NothingRunning (done (ticked N S))))
apply N begun S (event.Start t) =
    unless (ltb t N.transitions) refusal.NoSuchTransition
    (unless (is_enabled N S t) (refusal.NotEnabled (short N S t))
    (unless (has_no_old_end_owed N S) refusal.OldEndOwed
    (unless (is_held (suc (count S t 0))) refusal.CountFull (done (started N S t)))))
apply N begun S (event.End t age) =
    unless (ltb t N.transitions) refusal.NoSuchTransition
    (unless (is_timely N t age.0) refusal.OutsideInterval
    (unless (can_end begun age.0) refusal.OldAfterStart
    (unless (leb 1 (count S t age.0)) refusal.NoneOfThatAge
    (unless (has_room N S (N.gives t)) refusal.PlaceFull (done (ended N S t age.0))))))
apply N begun S event.Malformed = refused refusal.Malformed

-- ONE EVENT TAKEN BACK: S' is the state that it led to; `begun` speaks of the state before it

unfoldable pub does_cover : Net → State → (ℕ → ℕ) → Bool
does_cover N S' fewer = all N.places (λ p. leb (fewer p) (tokens S' p))

unfoldable pub has_none_fresh : Net → State → Bool
has_none_fresh N S' = all N.transitions (λ t. eqb (count S' t 0) 0)

unfoldable pub unstarted : Net → State → ℕ → State
unstarted N S' t = build N (λ p. tokens S' p + N.takes t p) (λ u k. count S' u k - one t 0 u k)

unfoldable pub unended : Net → State → ℕ → ℕ → State
unended N S' t j = build N (λ p. tokens S' p - N.gives t p) (λ u k. count S' u k + one t j u k)

-- the last column reads one age past the matrix, where `count` is 0
unfoldable pub unticked : Net → State → State
unticked N S' = build N (tokens S') (λ t j. count S' t (suc j))

-- 11 and 12; of a tick 21, 18, 20; of a start 24, 25, 29; of an end 15, 28, 26, 27
unfoldable pub back : Net → Bool → State → Event → Outcome
back N begun S' event.Tick =
    unless (has_none_fresh N S') (refusal.OnlyBack barrier.SomeFresh)
    (unless (has_no_start_owed N S') refusal.StartOwed
    (unless (not (has_nothing_running N S')) refusal.NothingRunning (done (unticked N S'))))
back N begun S' (event.Start t) =
    unless (ltb t N.transitions) refusal.NoSuchTransition
    (unless (leb 1 (count S' t 0)) (refusal.OnlyBack barrier.NoneStarted)
    (unless (has_room N S' (N.takes t)) (refusal.OnlyBack barrier.PlaceOverfull)
    (unless (has_no_old_end_owed N S') refusal.OldEndOwed (done (unstarted N S' t)))))
back N begun S' (event.End t age) =
    unless (ltb t N.transitions) refusal.NoSuchTransition
    (unless (is_timely N t age.0) refusal.OutsideInterval
    (unless (can_end begun age.0) refusal.OldAfterStart
    (unless (does_cover N S' (N.gives t)) (refusal.OnlyBack barrier.TooFewTokens)
    (unless (is_held (suc (count S' t age.0))) (refusal.OnlyBack barrier.CountOverfull) (done (unended N S' t age.0))))))
back N begun S' event.Malformed = refused refusal.Malformed

-- THE DEGREE

-- how many times a weight goes into a marking: any number of times where it is 0, so the limit
unfoldable pub times : ℕ → ℕ → ℕ
times zero m = token_limit
times (suc w) m = m / suc w

unfoldable pub degree : Net → State → ℕ → ℕ
degree N S t = least token_limit N.places (λ p. times (N.takes t p) (tokens S p))
