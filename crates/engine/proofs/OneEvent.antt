-- Demands 2 and 3 on bytes, for one event done and taken back.
-- Assumes nothing.
use Rattle.std.proofs.Common.{Err}
use mathlib.Core.Path.{◌≡◌, refl, sym, ap, subst, ◌∙◌}
use mathlib.Core.Bool.{Bool}
use mathlib.Core.Logic.{◌↔◌}
use mathlib.Core.List.{List}
use Prim.Native.Nat.{ℕ}
use Rattle.model.specs.declared.net.Net.{Net as Shape}
use Rattle.model.specs.declared.event.Event.{Event}
use Rattle.model.specs.declared.answer.Short.{Short}
use Rattle.model.specs.declared.answer.Refusal.{Refusal}
use Rattle.model.specs.declared.answer.Refusal.TheVariants as refusal
use Rattle.model.specs.Answer.{Answer}
use Rattle.model.specs.Event.{event_of}
use Rattle.model.specs.Refusals.{Refuses, FallsShort, Barred}
use Rattle.model.specs.Net.{Net, State, Lawful}
use Rattle.model.proofs.Forward.{apply-exact}
use Rattle.model.proofs.Back.{back-exact}
use Rattle.model.proofs.Refusals.{apply-refuses, falls_short, short_told, back-refuses, barred-other, no_state_before}
use Rattle.model.specs.Rules.{answer_of, apply}
use Rattle.model.proofs.Lacking.{just-short}
use Rattle.model.proofs.Tellings.{no_place_lem}
use Rattle.model.proofs.Lawful.{moves-lawful}
use Rattle.forms.specs.Word.{Bytes}
use Rattle.forms.specs.Stored.{net_of, stored}
use Rattle.forms.specs.Written.{written}
use Rattle.forms.specs.Frame.{Framed}
use Rattle.forms.proofs.States.{state-lawful}
use Rattle.forms.proofs.Written.{length-written, written-head, written_behind, bytes-written, read-written}
use Rattle.forms.proofs.Frames.{written-framed}
use Rattle.moves.proofs.Undone.{apply-framed, back-framed, undone, redone}
use Rattle.engine.specs.declared.answers.Verdict.{Verdict}
use Rattle.engine.specs.declared.answers.EventTold.{EventTold}
use Rattle.engine.specs.Answers.{answered, event_answered}
use Rattle.engine.specs.Said.{says_event}
use Rattle.engine.specs.Calls.{event_told, event_left, back_told, back_left}
use Rattle.engine.specs.Demands.{LeavesState, EventDone, EventBack}
use Rattle.engine.proofs.Courses.{is-done, on-done, is-refused, is-barred, on-refused, on_none}
use Rattle.engine.proofs.PastChecks.{fits-state, event-comes, back-comes}

module _ (net : List ℕ) (shape : Shape) (b : List ℕ) (f : Framed net shape b) (small : Bytes b) where
  abbrev N : Net
  N = net_of net

  abbrev S : State
  S = stored net b

  pub lawful : Lawful (net_of net) (stored net b)
  lawful = state-lawful (net_of net) b small f.is_state

  pub leaves : (b' : List ℕ) (S' : State) → Lawful (net_of net) S' → b' ≡ written (net_of net) S' b → LeavesState net b b' S'
  leaves b' S' s' e =
      let room = f.is_state.head.room in
      subst (λ (x : List ℕ). LeavesState net b x S') (sym e) (record {
        whole = refl;
        reads = read-written N S' b room s'.shaped;
        passes = fits-state net shape (written N S' b) (written-framed net shape b S' f s') ∙ sym (fits-state net shape b f);
        bytes = bytes-written N S' b small s' room;
        long = length-written N S' b;
        head_stays = written-head N S' b;
        rest_stays = written_behind N S' b;
      })

  -- ONE EVENT

  abbrev event_number : EventTold → ℕ
  event_number x = x.number

  abbrev back_number : Verdict → ℕ
  back_number x = x.number

  module _ (first second : ℕ) (started : Bool) where
    abbrev e : Event
    e = event_of first second

    -- what is told of an event has 0 as its index
    with_number : (r : EventTold) (a : Answer) → r.number ≡ 13 → r ≡ event_answered a → r ≡ says_event 13 0 r.short
    with_number r a z said = λ i. record { number = z i; index = (said i).index; short = r.short }

    pub event-done : EventDone net b first second started (event_told net b first second started) (event_left net b first second started)
    event-done =
        let c = event-comes net shape b f first second started in
        let told : (why : Refusal) → (event_told net b first second started ≡ event_answered (Err why)) ↔ Refuses N started S e why =
        λ why. (
          (λ z. (apply-refuses N started S e why).0 (is-refused c why z)),
          λ h. on-refused c why ((apply-refuses N started S e why).1 h),
        ) in
        let short : (s : Short) → (event_told net b first second started ≡ event_answered (Err (refusal.NotEnabled s))) ↔ FallsShort N S e s =
        λ s.
        let why = refusal.NotEnabled s in
        ((λ z. falls_short ((told why).0 z)), λ h. on-refused c why ((short_told N started S e s).1 h)) in
        record {
          permitted = (
            (λ z. let (S', d) = is-done c event_number (λ a. refl) z in (S', (apply-exact N started S e S').0 d)),
            λ (S', m). ap event_number (on-done c S' ((apply-exact N started S e S').1 m)).0,
          );
          done = λ S' m.
              let (a, w) = on-done c S' ((apply-exact N started S e S').1 m) in
              (a, leaves (event_left net b first second started) S' (moves-lawful started e lawful m) w);
          refused = told;
          short = short;
          just = λ z.
              let s = (event_told net b first second started).short in
              just-short N S e s ((short s).0 (with_number (event_told net b first second started) (answer_of (apply N started S e)) z c.said));
          plain = λ h. ap (λ (x : EventTold). x.short) c.said ∙ no_place_lem (answer_of (apply N started S e)) (λ z. h (ap event_number c.said ∙ z));
          kept = on_none c event_number (λ a. refl);
        }

    event-undone : (event_told net b first second started).number ≡ 0
        → ((back_told net (event_left net b first second started) first second started).number ≡ 0)
        × (back_left net (event_left net b first second started) first second started ≡ b)
    event-undone z =
        let c = event-comes net shape b f first second started in
        let (S', d) = is-done c event_number (λ a. refl) z in
        let (t, same) = undone net shape b f small started e S' d in
        let back = back-comes net shape (written N S' b) (apply-framed net shape b f small started e S' d) first second started in
        rw (on-done c S' d).1 (ap back_number (on-done back S t).0, back.wrote ∙ same)

    back-redone : (back_told net b first second started).number ≡ 0
        → ((event_told net (back_left net b first second started) first second started).number ≡ 0)
        × (event_left net (back_left net b first second started) first second started ≡ b)
    back-redone z =
        let c = back-comes net shape b f first second started in
        let (S₀, d) = is-done c back_number (λ a. refl) z in
        let (t, same) = redone net shape b f small started e S₀ d in
        let forth = event-comes net shape (written N S₀ b) (back-framed net shape b f small started e S₀ d) first second started in
        rw (on-done c S₀ d).1 (ap event_number (on-done forth S t).0, forth.wrote ∙ same)

    pub event-back : EventBack net b first second started (back_told net b first second started) (back_left net b first second started)
    event-back =
        let c = back-comes net shape b f first second started in
        let told : (why : Refusal) → (back_told net b first second started ≡ answered (Err why)) ↔ Barred N started S e why =
        λ why. (
          (λ z. (back-refuses N started S e why).0 (is-barred c (λ w d. barred-other ((back-refuses N started S e w).0 d)) why z)),
          λ h. on-refused c why ((back-refuses N started S e why).1 h),
        ) in
        record {
          permitted = (
            (λ z.
                let (S₀, d) = is-done c back_number (λ a. refl) z in
                let (s₀, m) = (back-exact N started S lawful e S₀).0 d in
                (S₀, s₀, m)),
            λ (S₀, s₀, m). ap back_number (on-done c S₀ ((back-exact N started S lawful e S₀).1 (s₀, m))).0,
          );
          done = λ S₀ s₀ m.
              let (a, w) = on-done c S₀ ((back-exact N started S lawful e S₀).1 (s₀, m)) in
              (a, leaves (back_left net b first second started) S₀ s₀ w);
          refused = told;
          no_state_before = (
            (λ (why, z, behind). (no_state_before N started S lawful e).0 (why, (back-refuses N started S e why).1 ((told why).0 z), behind)),
            λ none.
                let (why, r, behind) = (no_state_before N started S lawful e).1 none in
                (why, on-refused c why r, behind),
          );
          kept = on_none c back_number (λ a. refl);
          undone = event-undone;
          redone = back-redone;
        }
