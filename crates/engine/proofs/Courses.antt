-- Outcomes by the numbers that are told of them; and runs and walks of the model, as the demands on bytes use them.
-- Assumes nothing.
use Rattle.std.proofs.Common.{Ok, Err}
use mathlib.Core.Path.{◌≡◌, refl, sym, ap, subst, ◌∙◌}
use mathlib.Core.Bool.{Bool}
use mathlib.Core.List.{List, [], ◌++◌}
use Prim.Native.Nat.{ℕ, ◌+◌, ◌<◌, ◌≤◌}
use native.Mathlib.Omega.{arith}
use lib.ListN.{length, take, length-append}
use lib.Seq.{take-append-add, get_or-append-add}
use borrow.Author.Tests.{lt-ltb}
use Rattle.model.specs.declared.event.Event.{Event}
use Rattle.model.specs.declared.event.Event.TheVariants as event
use Rattle.model.specs.declared.answer.Refusal.{Refusal}
use Rattle.model.specs.Answer.{Answer, Telling, telling_of_refusal, telling_of, number_of as number_of_answer, number_of_refusal}
use Rattle.model.specs.Net.{Net, State, Lawful}
use Rattle.model.specs.Rules.{Outcome, done, refused, answer_of}
use Rattle.model.specs.Run.{RunTold as RunAccount, WalkTold as WalkAccount, Leads, LeadsLast, stay, RunCloses, WalkCloses, Walked, ticks_in}
use Rattle.model.specs.Run.{started_after, started_before, are_too_many, run, walk}
use Rattle.model.proofs.Facts.{started-append}
use Rattle.model.proofs.Run.{leads-append, ticks-append, run_ran, ran-only}
use Rattle.model.proofs.Tellings.{refusal-number, one-telling, one_number}
use Rattle.forms.specs.Written.{written}
use Rattle.moves.specs.After.{after}
use Rattle.engine.specs.declared.answers.Verdict.{Verdict}
use Rattle.engine.specs.declared.answers.EventTold.{EventTold}
use Rattle.engine.specs.Answers.{answered, event_answered}

-- NUMBERS AND OUTCOMES

number-done : (o : Outcome) → number_of_answer (answer_of o) ≡ 0 → (S' : State) × (o ≡ done S')
number-done (done S') e = (S', refl)
number-done (refused why) e = refusal-number why e

-- of a refused event as much is told as makes it out; of one taken back the number does, for it is not 13
told-refused : (o : Outcome) (why : Refusal) → telling_of (answer_of o) ≡ telling_of_refusal why → o ≡ refused why
told-refused (done S') why e = refusal-number why (ap (λ (x : Telling). x.number) (sym e))
told-refused (refused other) why e = ap refused (one-telling other why e)

number-refused : (o : Outcome) (why : Refusal) → ((w : Refusal) → o ≡ refused w → ¬ (number_of_refusal w ≡ 13))
    → number_of_answer (answer_of o) ≡ number_of_refusal why → o ≡ refused why
number-refused (done S') why other e = refusal-number why (sym e)
number-refused (refused w) why other e = ap refused (one_number w why (other w refl) e)

unchanged : (N : Net) (o : Outcome) (b : List ℕ) → ¬ (number_of_answer (answer_of o) ≡ 0) → after N o b ≡ b
unchanged N (done S') b h = absurd (h refl)
unchanged N (refused why) b h = refl

-- by an outcome r is told, in the way `tell`, and of the buffer b the buffer b' is left
pub record ComesTo {A : Type 0} (tell : Answer → A) (N : Net) (b : List ℕ) (o : Outcome) (r : A) (b' : List ℕ) : Type 0 where
  pub said : r ≡ tell (answer_of o)
  pub wrote : b' ≡ after N o b

module _ {A : Type 0} {tell : Answer → A} {N : Net} {b : List ℕ} {o : Outcome} {r : A} {b' : List ℕ} (c : ComesTo tell N b o r b') where
  pub on-done : (S' : State) → o ≡ done S' → (r ≡ tell (Ok tt)) × (b' ≡ written N S' b)
  on-done S' d = (c.said ∙ ap (λ (x : Outcome). tell (answer_of x)) d, c.wrote ∙ ap (λ (x : Outcome). after N x b) d)

  pub on-refused : (why : Refusal) → o ≡ refused why → r ≡ tell (Err why)
  on-refused why d = c.said ∙ ap (λ (x : Outcome). tell (answer_of x)) d

  -- where the number that is told is the answer's
  module _ (number : A → ℕ) (is : (a : Answer) → number (tell a) ≡ number_of_answer a) where
    number_is : number r ≡ number_of_answer (answer_of o)
    number_is = ap number c.said ∙ is (answer_of o)

    pub is-done : number r ≡ 0 → (S' : State) × (o ≡ done S')
    is-done e = number-done o (sym number_is ∙ e)

    pub on_none : ¬ (number r ≡ 0) → b' ≡ b
    on_none h = c.wrote ∙ unchanged N o b (λ e. h (number_is ∙ e))

-- an event done tells all that makes its refusal out
pub is-refused : {N : Net} {b : List ℕ} {o : Outcome} {r : EventTold} {b' : List ℕ} → ComesTo event_answered N b o r b'
    → (why : Refusal) → r ≡ event_answered (Err why) → o ≡ refused why
is-refused {o = o} c why e = told-refused o why (ap telling (sym c.said ∙ e))
  where
    telling : EventTold → Telling
    telling x = record { number = x.number; short = x.short }

-- and one taken back tells its number, which is never 13
pub is-barred : {N : Net} {b : List ℕ} {o : Outcome} {r : Verdict} {b' : List ℕ} → ComesTo answered N b o r b'
    → ((w : Refusal) → o ≡ refused w → ¬ (number_of_refusal w ≡ 13))
    → (why : Refusal) → r ≡ answered (Err why) → o ≡ refused why
is-barred {o = o} c other why e = number-refused o why other (ap (λ (x : Verdict). x.number) (sym c.said ∙ e))

-- RUNS AND WALKS OF THE MODEL

-- what is told of events behind others that were done
abbrev pub told_behind : List Event → RunAccount → RunAccount
told_behind es r = record {
  number = r.number;
  index = length es + r.index;
  done = length es + r.done;
  ticks = ticks_in es + r.ticks;
  short = r.short;
  started = r.started;
  state = r.state;
}

-- the fact before event k of those behind
fact-behind : (started : Bool) (es fs : List Event) (k : ℕ)
    → started_before started (es ++ fs) (length es + k) ≡ started_before (started_after started es) fs k
fact-behind started es fs k = rw (take-append-add es fs k) (started-append started es (take k fs))

behind-closes : (N : Net) (started : Bool) (es fs : List Event) (r : RunAccount) → RunCloses N (started_after started es) fs r
    → RunCloses N started (es ++ fs) (told_behind es r)
behind-closes N started es fs r (RunCloses.accepted n d) = RunCloses.accepted n (omega (arith, length-append es fs))
behind-closes N started es fs r (RunCloses.stopped why n l f) =
    RunCloses.stopped why n (omega (arith, length-append es fs))
    (rw (fact-behind started es fs r.done, get_or-append-add es fs r.done event.Malformed) f)

-- a run of events behind others that lead on is a run from where they lead, with the fact that stands there
pub run-append : (N : Net) (started : Bool) (S S₁ : State) (es fs : List Event) → Leads N started S es S₁
    → run N started S (es ++ fs) ≡ told_behind es (run N (started_after started es) S₁ fs)
run-append N started S S₁ es fs m =
    let fact = started_after started es in
    let r = run N fact S₁ fs in
    let h = run_ran N fact S₁ fs in
    sym (ran-only N started S (es ++ fs) (told_behind es r) (record {
      led = rw (take-append-add es fs r.done) (leads-append m h.led);
      ticks_are = rw (take-append-add es fs r.done) (omega (arith, h.ticks_are, ticks-append es (take r.done fs)));
      index_is = omega (arith, h.index_is);
      started_is = h.started_is ∙ sym (fact-behind started es fs r.done);
      closes = behind-closes N started es fs r h.closes;
    }))

-- a walk leaves a lawful state
pub walked-lawful : (N : Net) (started : Bool) (S' : State) (es : List Event) (n : ℕ) (r : WalkAccount)
    → Lawful N S' → Walked N started S' es n r → Lawful N r.state
walked-lawful N started S' es n r s' (Walked.too_many h a b c d e) = subst (Lawful N) (sym e) s'
walked-lawful N started S' es n r s' (Walked.within h w) = w.lawful

-- and one that is accepted leaves a state from which the last n events lead here
pub walked_from : (N : Net) (started : Bool) (S' : State) (es : List Event) (n : ℕ) (r : WalkAccount) → Walked N started S' es n r → r.number ≡ 0
    → (n ≤ length es) × ((S : State) × Lawful N S × LeadsLast N started n S es S')
walked_from N started S' es n r (Walked.too_many h a b c d e) z = absurd (omega arith)
walked_from N started S' es n r (Walked.within h w) z = (h, closed w.closes)
  where
    closed : WalkCloses N started es n r → (S : State) × Lawful N S × LeadsLast N started n S es S'
    closed (WalkCloses.accepted _ d _) = (r.state, w.lawful, subst (λ (k : ℕ). LeadsLast N started k r.state es S') d w.led)
    closed (WalkCloses.stopped why m _ _ _) = refusal-number why (sym m ∙ z)

pub walk_none : (N : Net) (started : Bool) (S' : State) (es : List Event) (n : ℕ) → length es < n → walk N started S' es n ≡ are_too_many S'
unfolding walk
walk_none N started S' es n h = rw (lt-ltb (length es) n h)

-- no events lead nowhere
pub leads-none : {N : Net} {started : Bool} {S S' : State} → Leads N started S [] S' → S ≡ S'
leads-none stay = refl
