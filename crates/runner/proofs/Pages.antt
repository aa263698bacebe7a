-- The page that is computed is the one to be written, and no other is.
-- Assumes nothing.
use mathlib.Core.Path.{◌≡◌, refl, sym, ap, subst, ◌∙◌}
use mathlib.Core.Bool.{Bool, true, false}
use mathlib.Core.Logic.{◌↔◌}
use mathlib.Core.List.{List, [], ◌∷◌, ◌++◌}
use Prim.Native.Nat.{ℕ, zero, suc, ◌+◌, ◌-◌, ◌<◌, ◌≤◌}
use native.Mathlib.Omega.{arith}
use lib.ListN.{length, length-append}
use Rattle.std.proofs.Common.{Some, None}
use Rattle.model.specs.declared.event.Event.{Event}
use Rattle.model.specs.declared.answer.Standing.TheVariants as standing
use Rattle.model.specs.Answer.{number_of_standing}
use Rattle.model.specs.Net.{Net, State, Proper}
use Rattle.model.specs.Moves.{started_by, MayEnd, NoOldEndOwed, Moves}
use Rattle.model.specs.Rules.{Outcome, done, refused, apply}
use Rattle.model.specs.Run.{by, Leads, stay, move, run, accepted_run}
use Rattle.model.specs.Owed.{OwesEnd, Stands, standing_of}
use Rattle.model.proofs.Tab.{below-or-past}
use Rattle.model.proofs.Forward.{apply-exact, moves-once}
use Rattle.model.proofs.Refusals.{apply-refuses}
use Rattle.model.proofs.Run.{run-exact}
use Rattle.model.proofs.Order.{settles}
use Rattle.model.proofs.Owed.{standing-exact}
use Rattle.runner.specs.declared.stop.Stop.{Stop}
use Rattle.runner.specs.declared.stop.Stop.TheVariants as stop
use Rattle.runner.specs.Stop.{number_of_stop, stop_for}
use Rattle.runner.specs.Choice.{Chooses, AtRest, Choice, Picks, choice}
use Rattle.runner.specs.Demands.{RoomForBoth, RoomFor}
use Rattle.runner.specs.Page.{Page, Builds, Says, Stops, IsPage, halted, behind, joined, chosen, page}
use Rattle.runner.proofs.Choice.{choice-picks, chooses-once}
use Rattle.runner.proofs.Stops.{stops-once, stops-rest, stops-budget, stops-full, goes_on, stops-met, stops-early, stops-late}

-- PIECES

halted-right : (N : Net) (S : State) (room budget : ℕ) (s : Stop) → Stops N S room budget s → IsPage N S room budget (halted s S)
halted-right N S room budget s h =
    let r : room - 0 ≡ room = omega arith in
    let b : budget - 0 ≡ budget = omega arith in
    record { built = Builds.nothing; fits = omega arith; within = omega arith; stops = rw (r, b) h }

behind-right : (N : Net) (S S₁ : State) (e : Event) (room budget : ℕ) (p : Page) → Chooses N S e → Moves N false S e S₁
    → IsPage N S₁ room budget p → IsPage N S (suc room) (suc budget) (behind e p)
behind-right N S S₁ e room budget p c m h =
    let r : suc room - suc (length p.events) ≡ room - length p.events = omega arith in
    let b : suc budget - suc (length p.events) ≡ budget - length p.events = omega arith in
    record {
      built = Builds.more c m h.built;
      fits = omega (arith, h.fits);
      within = omega (arith, h.within);
      stops = rw (r, b) h.stops;
    }

-- THE PAGE THAT IS COMPUTED

module _ (N : Net) (proper : Proper N) where
  pub page-right : (room budget : ℕ) (S : State) → IsPage N S room budget (page N S room budget)
  unfolding page
  page-right room zero S = go (choice N S) (choice-picks N S)
    where
      go : (c : Choice) → Picks N S c → IsPage N S room zero (chosen c (halted stop.AtRest S) (λ e. halted stop.BudgetSpent S))
      go None a = halted-right N S room 0 stop.AtRest (stops-rest N S room 0 a)
      go (Some e) c = halted-right N S room 0 stop.BudgetSpent (stops-budget N S room 0 e c refl)
  page-right zero (suc budget) S = go (choice N S) (choice-picks N S)
    where
      go : (c : Choice) → Picks N S c → IsPage N S zero (suc budget) (chosen c (halted stop.AtRest S) (λ e. halted stop.LogFull S))
      go None a = halted-right N S 0 (suc budget) stop.AtRest (stops-rest N S 0 (suc budget) a)
      go (Some e) c = halted-right N S 0 (suc budget) stop.LogFull (stops-full N S 0 (suc budget) e c (omega arith) refl)
  page-right (suc room) (suc budget) S = go (λ S₁. page-right room budget S₁) (choice N S) (choice-picks N S)
    where
      onward : ((S₁ : State) → IsPage N S₁ room budget (page N S₁ room budget)) → (e : Event) → Chooses N S e → (o : Outcome) → apply N false S e ≡ o
          → IsPage N S (suc room) (suc budget) (by o (λ S₁. behind e (page N S₁ room budget)) (λ why. halted (stop_for e) S))
      onward more e c (done S₁) d = behind-right N S S₁ e room budget _ c ((apply-exact N false S e S₁).0 d) (more S₁)
      onward more e c (refused why) d =
          halted-right N S (suc room) (suc budget) (stop_for e)
          (stops-met N proper S (suc room) (suc budget) e why c ((apply-refuses N false S e why).0 d) (omega arith) (omega arith))

      go : ((S₁ : State) → IsPage N S₁ room budget (page N S₁ room budget)) → (c : Choice) → Picks N S c
          → IsPage N S (suc room) (suc budget)
          (chosen c (halted stop.AtRest S)
          (λ e. by (apply N false S e) (λ S₁. behind e (page N S₁ room budget)) (λ why. halted (stop_for e) S)))
      go more None a = halted-right N S (suc room) (suc budget) stop.AtRest (stops-rest N S (suc room) (suc budget) a)
      go more (Some e) c = onward more e c (apply N false S e) refl

-- AND NO OTHER

same-page : (p q : Page) → p.events ≡ q.events → p.stop ≡ q.stop → p.state ≡ q.state → p ≡ q
same-page p q e s t = λ i. record { events = e i; stop = s i; state = t i }

module _ (N : Net) where
  -- the stop told in S behind so many events
  StopsBehind : State → ℕ → ℕ → List Event → Stop → Type 0
  StopsBehind S room budget es s = (length es ≤ room) × (length es ≤ budget) × Stops N S (room - length es) (budget - length es) s

  -- where an event is done, the runner did not stop before it
  stops-now : (S S₁ S' : State) (e : Event) (es : List Event) (room budget : ℕ) (s r : Stop) {C : Type 0}
      → Chooses N S e → Moves N false S e S₁ → StopsBehind S room budget [] s → StopsBehind S' room budget (e ∷ es) r → C
  unfolding StopsBehind
  stops-now S S₁ S' e es room budget s r c m (_, _, h) (f, g, _) =
      absurd (goes_on N S (room - 0) (budget - 0) e c S₁ m (omega arith) (omega arith) s h.holds)

  same_stop : (S : State) (room budget : ℕ) (s r : Stop) → StopsBehind S room budget [] s → StopsBehind S room budget [] r → s ≡ r
  unfolding StopsBehind
  same_stop S room budget s r h k = stops-once N S (room - 0) (budget - 0) s r h.2 k.2

  -- behind the first event there is less room and budget
  less : (S : State) (e : Event) (es : List Event) (room budget : ℕ) (s : Stop) → StopsBehind S room budget (e ∷ es) s
      → StopsBehind S (room - 1) (budget - 1) es s
  unfolding StopsBehind
  less S e es room budget s (f, g, h) =
      let r : room - 1 - length es ≡ room - suc (length es) = omega arith in
      let b : budget - 1 - length es ≡ budget - suc (length es) = omega arith in
      (omega arith, omega arith, rw (r, b) h)

  once : {S S' S'' : State} {es fs : List Event} (room budget : ℕ) (s r : Stop) → Builds N S es S' → Builds N S fs S''
      → StopsBehind S' room budget es s → StopsBehind S'' room budget fs r
      → (es ≡ fs) × (s ≡ r) × (S' ≡ S'')
  once {S} room budget s r Builds.nothing Builds.nothing h k = (refl, same_stop S room budget s r h k, refl)
  once room budget s r Builds.nothing (Builds.more {S} {S₁} {S'} {e} {es} c m w) h k =
      stops-now S S₁ S' e es room budget s r c m h k
  once room budget s r (Builds.more {S} {S₁} {S'} {e} {es} c m w) Builds.nothing h k =
      stops-now S S₁ S' e es room budget r s c m k h
  once room budget s r (Builds.more {S} {S₁} {S'} {e} {es} c m w) (Builds.more {S₁ = T₁} {S' = T'} {e = f} {es = fs} c' m' w') h k =
      let q : e ≡ f = chooses-once N S c c' in
      let same : S₁ ≡ T₁ = moves-once N false S e S₁ T₁ m (subst (λ (x : Event). Moves N false S x T₁) (sym q) m') in
      let v : Builds N S₁ fs T' = subst (λ (X : State). Builds N X fs T') (sym same) w' in
      let (x, y, z) = once (room - 1) (budget - 1) s r w v (less S' e es room budget s h) (less T' f fs room budget r k) in
      ((λ i. q i ∷ x i), y, z)

  pub page-once : {S : State} {room budget : ℕ} (p q : Page) → IsPage N S room budget p → IsPage N S room budget q → p ≡ q
  unfolding StopsBehind
  page-once {room = room} {budget = budget} p q a b =
      let (e, s, t) =
      once room budget p.stop q.stop a.built b.built (a.fits, a.within, a.stops) (b.fits, b.within, b.stops) in
      same-page p q e s t

module _ (N : Net) (proper : Proper N) where
  -- the page that is computed is the only one to be written
  pub page-exact : (S : State) (room budget : ℕ) (p : Page) → (p ≡ page N S room budget) ↔ IsPage N S room budget p
  page-exact S room budget p = (
    (λ e. subst (IsPage N S room budget) (sym e) (page-right N proper room budget S)),
    λ h. page-once N p (page N S room budget) h (page-right N proper room budget S),
  )

-- ITS LOG IS ACCEPTED

-- an end that is owed where none of age 1 or more is has age 0
young : (N : Net) (S : State) (b : Bool) (t : ℕ) → (b ≡ true → NoOldEndOwed N S) → OwesEnd N S t → MayEnd b (N.lfd t)
young N S true t known o = below-or-past 0 (N.lfd t) (λ old. absurd (omega (arith, known refl t o.0 old, o.1))) (λ z. omega arith)
young N S false t known o = tt

-- so the chosen event is permitted behind a start too, where none of age 1 or more is owed
permitted : {N : Net} (b : Bool) {S : State} (S₁ : State) {e : Event} → (b ≡ true → NoOldEndOwed N S) → Chooses N S e → Moves N false S e S₁ → Moves N b S e S₁
permitted {N} b {S} S₁ known (Chooses.end {t} (o, lower)) m = record {
  known = m.known;
  timely = m.timely;
  may_end = young N S b t known o;
  active = m.active;
  room = m.room;
  marked = m.marked;
  counted = m.counted;
  shaped = m.shaped;
}
permitted b S₁ known (Chooses.start none o) m = m
permitted b S₁ known (Chooses.tick none none' runs) m = m

pub builds-lead : {N : Net} (b : Bool) {S S' : State} {es : List Event} → (b ≡ true → NoOldEndOwed N S) → Builds N S es S' → Leads N b S es S'
builds-lead b known Builds.nothing = stay
builds-lead {N} b known (Builds.more {S} {S₁} {e = e} c m w) =
    let p = permitted b S₁ known c m in
    move p (builds-lead (started_by b e) (settles N b S S₁ b e p known) w)

builds-append : {N : Net} {S S₁ S' : State} {es fs : List Event} → Builds N S es S₁ → Builds N S₁ fs S' → Builds N S (es ++ fs) S'
builds-append Builds.nothing w = w
builds-append (Builds.more c m v) w = Builds.more c m (builds-append v w)

module _ (N : Net) (proper : Proper N) (S : State) where
  -- a run of its events is accepted, tells them and their ticks, and reaches the runner's own state
  pub page-accepted : (room budget : ℕ) (b : Bool) → (b ≡ true → NoOldEndOwed N S)
      → run N b S (page N S room budget).events ≡ accepted_run b (page N S room budget).events (page N S room budget).state
  page-accepted room budget b known =
      let p = page N S room budget in
      (run-exact N b S p.events p.state).1 (builds-lead b known (page-right N proper room budget S).built)

  -- where it stopped at rest, the standing is 4
  pub page-at-rest : (room budget : ℕ) → (page N S room budget).stop ≡ stop.AtRest
      → number_of_standing (standing_of N (page N S room budget).state) ≡ 4
  page-at-rest room budget e =
      let p = page N S room budget in
      let h = (page-right N proper room budget S).stops.holds in
      let (none, none', still) : AtRest N p.state =
      subst (Says N p.state (room - length p.events) (budget - length p.events)) e h in
      ap number_of_standing ((standing-exact N p.state standing.AtRest).1 (Stands.at_rest none' none still))

  -- where it stopped by its budget, it did as many events
  pub page-spent : (room budget : ℕ) → (page N S room budget).stop ≡ stop.BudgetSpent → length (page N S room budget).events ≡ budget
  page-spent room budget e =
      let p = page N S room budget in
      let h = page-right N proper room budget S in
      let z : budget - length p.events ≡ 0 =
      subst (Says N p.state (room - length p.events) (budget - length p.events)) e h.stops.holds in
      omega (arith, h.within)

  -- BUDGETS ADD UP: from where the first stopped by its budget, two pages are together the one with both budgets
  add-up : (room more a b : ℕ) → (page N S room a).stop ≡ stop.BudgetSpent
      → page N S (a + more) (a + b) ≡ joined (page N S room a).events (page N (page N S room a).state more b)
  add-up room more a b e =
      let p = page N S room a in
      let q = page N p.state more b in
      let v = page-right N proper room a S in
      let w = page-right N proper more b p.state in
      let l : length p.events ≡ a = page-spent room a e in
      let k : length (p.events ++ q.events) ≡ a + length q.events = length-append p.events q.events ∙ ap (λ n. n + length q.events) l in
      let x : a + more - length (p.events ++ q.events) ≡ more - length q.events = omega (arith, w.fits) in
      let y : a + b - length (p.events ++ q.events) ≡ b - length q.events = omega (arith, w.within) in
      sym ((page-exact N proper S (a + more) (a + b) (joined p.events q)).1 (record {
        built = builds-append v.built w.built;
        fits = omega (arith, w.fits);
        within = omega (arith, w.within);
        stops = rw (x, y) w.stops;
      }))

  -- where the stop is told behind a full log, a page is the same with any room that is more than it took
  any-room : (room room' budget : ℕ) → 4 ≤ number_of_stop (page N S room budget).stop → length (page N S room budget).events < room'
      → page N S room' budget ≡ page N S room budget
  any-room room room' budget f l =
      let p = page N S room budget in
      let v = page-right N proper room budget S in
      sym ((page-exact N proper S room' budget p).1 (record {
        built = v.built;
        fits = omega arith;
        within = v.within;
        stops = stops-late N p.state _ _ _ p.stop f (omega arith) v.stops;
      }))

  -- where the stop is told before a full log, a page is the same with any room that is as much as it took
  some-room : (room room' budget : ℕ) → number_of_stop (page N S room budget).stop ≤ 2 → length (page N S room budget).events ≤ room'
      → page N S room' budget ≡ page N S room budget
  some-room room room' budget f l =
      let p = page N S room budget in
      let v = page-right N proper room budget S in
      sym ((page-exact N proper S room' budget p).1 (record {
        built = v.built;
        fits = l;
        within = v.within;
        stops = stops-early N p.state _ _ _ p.stop f v.stops;
      }))

module _ (N : Net) (proper : Proper N) where
  pub budgets_add : (S : State) (first more room a b : ℕ) → (page N S first a).stop ≡ stop.BudgetSpent
      → RoomFor a (page N (page N S first a).state more b) more room
      → page N S room (a + b) ≡ joined (page N S first a).events (page N (page N S first a).state more b)
  budgets_add S first more room a b e (RoomForBoth.same r) = rw r (add-up N proper S first more a b e)
  budgets_add S first more room a b e (RoomForBoth.enough f l) =
      let r : room ≡ a + (room - a) = omega arith in
      ap (λ n. page N S n (a + b)) r ∙ add-up N proper S first (room - a) a b e
      ∙ ap (joined (page N S first a).events) (some-room N proper (page N S first a).state more (room - a) b f (omega arith))
  budgets_add S first more room a b e (RoomForBoth.ample f l) =
      let r : room ≡ a + (room - a) = omega arith in
      ap (λ n. page N S n (a + b)) r ∙ add-up N proper S first (room - a) a b e
      ∙ ap (joined (page N S first a).events) (any-room N proper (page N S first a).state more (room - a) b f (omega arith))
