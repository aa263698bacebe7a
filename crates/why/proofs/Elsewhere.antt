-- A walk back that is told, and comes to the log's front, ends in another state than the initial one: where it ended in that, the log would lead
-- from there to the last state (the engine's demands 2 and 3), and the walk would not be told.
-- Assumes nothing.
use mathlib.Core.Path.{◌≡◌, refl, sym, ap, ◌∙◌}
use mathlib.Core.Bool.{Bool, true, false, not}
use mathlib.Core.List.{List, [], ◌∷◌}
use Prim.Native.Nat.{ℕ, zero, suc, ◌+◌, ◌-◌, ◌*◌, ◌/◌, ◌%◌, ◌<◌, ◌≤◌}
use native.Mathlib.Nat.{mul-le-mul_right, add-mul, one-mul, mod-lt, div-lt_iff_lt-mul, div-add-mod'}
use native.Mathlib.Omega.{arith}
use lib.Dec.{eqb}
use lib.ListN.{length}
use borrow.Author.Tests.{eqb-true, eq-eqb}
use Rattle.std.proofs.Common.{IfSome, Option, Some, None}
use Rattle.std.specs.Option.{is_none, option_map}
use Rattle.model.specs.Tab.{tab}
use Rattle.model.specs.Net.{Net, State, width, tokens, count, build}
use Rattle.model.specs.Run.{Leads, started_after}
use Rattle.model.proofs.Tab.{below-or-past, at-or-below}
use Rattle.forms.specs.Word.{Bytes, word}
use Rattle.forms.specs.Places.{mark_at, clock_at}
use Rattle.forms.specs.Stored.{net_of, stored_count, state_of, stored, log_events}
use Rattle.forms.specs.States.{StateHead}
use Rattle.forms.specs.Logs.{event_count}
use Rattle.forms.proofs.Logs.{log-framed}
use Rattle.forms.proofs.Stored.{count-place, tokens-are, count_at_lem}
use Rattle.runs.specs.declared.told.RunTold.{RunTold}
use Rattle.engine.specs.Calls.{state_told, initial_left, run_told, run_left, walk_told, walk_left}
use Rattle.engine.specs.Promised.{Fit}
use Rattle.engine.proofs.Checks.{initial-given, told_passes}
use Rattle.engine.proofs.Faults.{examines}
use Rattle.engine.proofs.Promised.{fit-meets}
use Rattle.replay.specs.Replayed.{longest_state}
use Rattle.forms.proofs.Image.{room-exact}
use Rattle.replay.proofs.Cells.{row-wide}
use Rattle.replay.proofs.CutOff.{every-state-fits}
use Rattle.replay.proofs.Shown.{not-both}
use Rattle.why.specs.declared.phrase.Word.{Word}
use Rattle.why.specs.declared.phrase.Word.TheVariants as words
use Rattle.why.specs.declared.state.Difference.{Difference}
use Rattle.why.specs.Each.{next_from}
use Rattle.why.specs.State.{word_count, held, first_other, difference_of, differs_phrase, other_phrase}
use Rattle.why.specs.Found.{last_found, found_back, found_of}
use Rattle.why.proofs.Remaining.{by-test}
use Rattle.why.proofs.Belongs.{EndsElsewhere}

-- A SEARCH THAT FINDS NOTHING

module _ (p : ℕ → Bool) where
  passed : (n i : ℕ) (b : Bool) → p i ≡ b → next_from p (suc n) i ≡ None → (b ≡ false) × (next_from p n (i + 1) ≡ None)
  unfolding next_from
  passed n i true e h = let s = rw e at h in cc
  passed n i false e h = (refl, rw e at h)

  none-passes : (n i k : ℕ) → next_from p n i ≡ None → i ≤ k → k < i + n → p k ≡ false
  none-passes zero i k h l m = absurd (omega arith)
  none-passes (suc n) i k h l m =
      let (fails, rest) = passed n i (p i) refl h in
      at-or-below i k l (λ e. ap p (sym e) ∙ fails) (λ above. none-passes n (i + 1) k rest (omega arith) (omega arith))

  none-found : (n i : ℕ) → ((k : ℕ) → i ≤ k → k < i + n → p k ≡ false) → next_from p n i ≡ None
  unfolding next_from
  none-found zero i h = refl
  none-found (suc n) i h = rw (h i (omega arith) (omega arith)) (none-found n (i + 1) (λ k l m. h k (omega arith) (omega arith)))

none-is : {A : Type 0} (o : Option A) → is_none o ≡ true → o ≡ None
none-is None e = refl
none-is (Some x) e = cc

mapped : {A B : Type 0} (f : A → B) (o : Option A) → is_none (option_map f o) ≡ is_none o
mapped f None = refl
mapped f (Some x) = refl

-- TWO STATES ARE THE SAME EXACTLY IF THEIR WORDS ARE

tab-cong : {A : Type 0} (n : ℕ) (f g : ℕ → A) → ((i : ℕ) → i < n → f i ≡ g i) → tab n f ≡ tab n g
unfolding tab
tab-cong zero f g same = refl
tab-cong {A} (suc n) f g same =
    ap (λ (x : A). x ∷ tab n (λ k. f (suc k))) (same 0 (omega arith))
    ∙ ap (λ (l : List A). g 0 ∷ l) (tab-cong n (λ k. f (suc k)) (λ k. g (suc k)) (λ i h. same (suc i) (omega arith)))

inside : (t T D j : ℕ) → t < T → j < D → t * D + j < T * D
inside t T D j h l =
    let row : (t + 1) * D ≡ t * D + D = add-mul t 1 D ∙ ap (λ (x : ℕ). t * D + x) (one-mul D) in
    let below : (t + 1) * D ≤ T * D = mul-le-mul_right D (next t T h) in
    omega (arith, row, below)
  where
    next : (t T : ℕ) → t < T → t + 1 ≤ T
    next t T h = omega arith

module _ (N : Net) (a b : List ℕ) where
  abbrev top : ℕ
  top = N.places + N.transitions * width N

  same-state : ((k : ℕ) → k < top → held a k ≡ held b k) → state_of N a ≡ state_of N b
  unfolding state_of build held
  same-state same =
      let P = N.places in
      let D = width N in
      let marks : tab N.places (λ p. word a (mark_at p)) ≡ tab N.places (λ p. word b (mark_at p)) =
      tab-cong N.places (λ p. word a (mark_at p)) (λ p. word b (mark_at p)) (λ p h. same p (omega arith)) in
      let cell : (t j : ℕ) → t < N.transitions → j < width N → stored_count N a t j ≡ stored_count N b t j =
      λ t j h l.
      let at : 8 + 2 * (P + (t * D + j)) ≡ clock_at P + 2 * (t * D + j) = omega arith in
      let place = count-place P D t j in
      ap (word a) (place ∙ sym at) ∙ same (P + (t * D + j)) (omega (arith, inside t N.transitions D j h l)) ∙ ap (word b) (at ∙ sym place) in
      let counts : tab N.transitions (λ t. tab (width N) (stored_count N a t)) ≡ tab N.transitions (λ t. tab (width N) (stored_count N b t)) =
      tab-cong N.transitions (λ t. tab (width N) (stored_count N a t)) (λ t. tab (width N) (stored_count N b t))
      (λ t h. tab-cong (width N) (stored_count N a t) (stored_count N b t) (λ j l. cell t j h l)) in
      rw (marks, counts) refl

  same-words : state_of N a ≡ state_of N b → (k : ℕ) → k < top → held a k ≡ held b k
  unfolding held
  same-words e k h =
      below-or-past k N.places
      (λ l. sym (tokens-are N a k l) ∙ ap (λ (S : State). tokens S k) e ∙ tokens-are N b k l)
      (λ past.
      let D = width N in
      let cell = k - N.places in
      let known : cell < N.transitions * width N = omega arith in
      let wide : 0 < D = row-wide N.transitions D cell known in
      let row : cell / D < N.transitions = (div-lt_iff_lt-mul wide).1 known in
      let young : cell % D < D = mod-lt cell wide in
      let at : 8 + 2 * k ≡ clock_at N.places + 2 * (cell / D * D + cell % D) = omega (arith, div-add-mod' cell D) in
      ap (word a) at ∙ sym (count_at_lem N a (cell / D) (cell % D) row young) ∙ ap (λ (S : State). count S (cell / D) (cell % D)) e
      ∙ count_at_lem N b (cell / D) (cell % D) row young ∙ ap (word b) (sym at))

  module _ (head : StateHead N a) where
    how-many : word_count a ≡ top
    how-many = rw (head.places_are, head.transitions_are, head.width_is) refl

    abbrev differs : ℕ → Bool
    differs i = not (eqb (held a i) (held b i))

    never-other : is_none (first_other a b) ≡ true → state_of N a ≡ state_of N b
    unfolding first_other
    never-other e =
        same-state (λ k h.
        eqb-true (held a k) (held b k) (holds (eqb (held a k) (held b k)) (none-passes differs (word_count a) 0 k (none-is _ e) (omega arith) (omega (arith, how-many)))))
      where
        holds : (x : Bool) → not x ≡ false → x ≡ true
        holds true h = refl
        holds false h = cc

    always-same : state_of N a ≡ state_of N b → is_none (first_other a b) ≡ true
    unfolding first_other
    always-same e =
        ap is_none (none-found differs (word_count a) 0 (λ k l m.
        rw (eq-eqb (held a k) (held b k) (same-words e k (omega (arith, how-many)))) refl))

-- where one differs, in words
apart : (marks runs : Word) (a b : List ℕ) → is_none (other_phrase marks runs a b) ≡ is_none (first_other a b)
unfolding difference_of
apart marks runs a b =
    let told : ℕ → Difference = λ i. record { at = i; here = held a i; there = held b i } in
    mapped (differs_phrase marks runs a) (difference_of a b) ∙ mapped told (first_other a b)

-- FROM THE INITIAL STATE TO THE LAST

module _ (net log room last : List ℕ) (bytes : Bytes net) (few : Bytes last) (small : Bytes (initial_left net room)) (wide : longest_state ≤ length room) where
  abbrev N : Net
  N = net_of net

  abbrev first : List ℕ
  first = initial_left net room

  abbrev reached : List ℕ
  reached = run_left net first log false

  abbrev front : List ℕ
  front = walk_left net last log (event_count log) false

  -- where the walk ends in the initial state, the log leads to the last state from there
  leads-to-it : (walk_told net last log (event_count log) false).number ≡ 0 → is_none (first_other front (initial_left net reached)) ≡ true
      → ((run_told net first log false).number ≡ 0) × (is_none (first_other last reached) ≡ true)
  unfolding started_after
  leads-to-it z same =
      let n = event_count log in
      let passes = (told_passes net last).walk log n false z in
      let (is-net, is-last, is-log) = (examines net last log).log_passes.0 passes in
      let net-passes = (examines net last []).net_passes.1 is-net in
      let count = (log-framed log is-log).count_is in
      let fit : Fit net last = record { is_net = is-net; is_state = is-last; net-bytes = bytes; state-bytes = few } in
      let back = (fit-meets net last fit).1.log_by_log log passes n false in
      let (within, (S, lawful, led)) = back.permitted.0 z in
      let left = (back.done within S lawful led).1 in
      let (shape, is) = (examines net last []).state_passes.1 (is-net, is-last) in
      let is-front = ((examines net front []).state_passes.0 (shape, left.passes ∙ is)).1 in
      let (_, began, begins) = (initial-given net room bytes net-passes).done ((room-exact N room).0 (every-state-fits net room is-net wide)) in
      let is-first = ((examines net first []).state_passes.0 begins).1 in
      let run = (fit-meets net first (record { is_net = is-net; is_state = is-first; net-bytes = bytes; state-bytes = small })).0.log_by_log log
      ((examines net first log).log_passes.1 (is-net, is-first, is-log)) false in
      let long = run.told.2.long in
      let (_, again, _) = (initial-given net reached bytes net-passes).done (omega (arith, long, is-first.head.room)) in
      let at-front : S ≡ stored net first =
      sym left.reads ∙ never-other N front (initial_left net reached) is-front.head same ∙ again.reads ∙ sym began.reads in
      let all : length (log_events log) - n ≡ 0 = omega (arith, count) in
      let leads : Leads N false (stored net first) (log_events log) (stored net last) = rw (all, at-front) at led in
      let (told, there) = run.done (stored net last) leads in
      (ap (λ (r : RunTold). r.number) told, always-same N last reached is-last.head (sym there.reads))

decided : (b : Bool) → (b ≡ true → ⊥) → b ≡ false
decided true h = absurd (h refl)
decided false h = refl

-- so of whatever is found, in a buffer with room for every state
pub ends-elsewhere : (net log room : List ℕ) (last : Option (List ℕ)) → Bytes net → IfSome last Bytes → Bytes (initial_left net room) → longest_state ≤ length room
    → EndsElsewhere (found_of net log room last) (found_of net log room last).last
unfolding found_of last_found found_back
ends-elsewhere net log room None bytes few small wide = refl
ends-elsewhere net log room (Some last) bytes few small wide =
    by-test (eqb (state_told net last).number 0)
    (λ e. rw e (λ walked z. decided (is_none (other_phrase words.MarkFirst words.RunFirst _ _)) (λ none.
    let (number, same) = leads-to-it net log room last bytes few small wide (eqb-true _ 0 z) (sym (apart words.MarkFirst words.RunFirst _ _) ∙ none) in
    let other : is_none (other_phrase words.MarkOther words.RunOther last (reached net log room last bytes few small wide)) ≡ true =
    apart words.MarkOther words.RunOther last _ ∙ same in
    not-both (rw (eq-eqb _ 0 number, other) refl) walked)))
    (λ e. rw e refl)
