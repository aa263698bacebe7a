-- The check of a state: 8 and 9 are told exactly when document 01's table has them, and what is accepted is a lawful state of the
-- model.
-- Assumes nothing.
use Rattle.std.proofs.Common.{Ok, Err}
use mathlib.Core.Path.{◌≡◌, refl, sym, ap, ◌∙◌}
use mathlib.Core.Logic.{◌↔◌}
use mathlib.Core.List.{List}
use Prim.Native.Nat.{ℕ, suc, ◌+◌, ◌-◌, ◌*◌, ◌<◌, ◌≤◌}
use native.Mathlib.Nat.{mul-le-mul_right}
use native.Mathlib.Omega.{arith}
use lib.ListN.{length}
use Rattle.model.specs.declared.age.Column.{Column}
use Rattle.model.specs.declared.net.Net.{Net as Shape}
use Rattle.model.specs.Tab.{Tells}
use Rattle.model.specs.Limits.{place_limit, transition_limit, duration_limit}
use Rattle.model.specs.Age.{column_of}
use Rattle.model.specs.Net.{Net, Lawful, width}
use Rattle.model.proofs.Tab.{both-tell, all-tells}
use Rattle.model.proofs.Shape.{lfd-fits, width-short}
use Rattle.model.proofs.Tests.{tells_as, leb_tells, eqb_tells}
use Rattle.forms.specs.Checked.{Checked}
use Rattle.forms.specs.declared.fault.Fault.{Fault}
use Rattle.forms.specs.declared.fault.Fault.TheVariants as fault
use Rattle.forms.specs.Word.{Bytes, byte, word, is_blank}
use Rattle.forms.specs.Places.{mark_at, clock_at, count_at, state_length}
use Rattle.forms.specs.Stored.{net_of, state_of}
use Rattle.forms.specs.States.{HasHead, has_head, StateHead, NonePast, has_none_past, IsState, StateFaulty, check_counts, check_state}
use Rattle.forms.specs.Frame.{FramedNet}
use Rattle.forms.proofs.WordLaws.{word_fits}
use Rattle.forms.proofs.Stored.{count-place, state-shaped, tokens-are, count_is, count_at_lem}
use Rattle.forms.proofs.Turns.{never, unless-good, past, fails, fault-by, turn-good, turn-bad}
use Rattle.forms.proofs.Nets.{begins-tells, few_places, few_transitions, lfd-short}

-- THE HEAD

pub has-head-tells : (P T D : ℕ) (b : List ℕ) → Tells (has_head P T D b) (HasHead P T D b)
unfolding has_head
has-head-tells P T D b =
    tells_as
    (λ (l, (e, (p, (t, (d, r))))). record { least = l; begins = e; places_are = p; transitions_are = t; width_is = d; room = r })
    (λ h. (h.least, (h.begins, (h.places_are, (h.transitions_are, (h.width_is, h.room))))))
    (both-tell (leb_tells 8 (length b)) (both-tell (begins-tells b (state_length P T D))
    (both-tell (eqb_tells (byte b 5) P) (both-tell (eqb_tells (byte b 6) T)
    (both-tell (eqb_tells (byte b 7) D) (leb_tells (state_length P T D) (length b)))))))

-- WHAT A CHECKED NET WITH ITS SHAPE GIVES THE CODE

module _ (net : List ℕ) (shape : Shape) (f : FramedNet net shape) where
  pub places-small : shape.places ≤ place_limit
  unfolding net_of
  places-small = omega (arith, f.has_shape.places_are, few_places net f.is_net)

  pub transitions-small : shape.transitions ≤ transition_limit
  unfolding net_of
  transitions-small = omega (arith, f.has_shape.transitions_are, few_transitions net f.is_net)

  pub width_small : shape.width ≤ suc duration_limit
  unfolding net_of
  width_small = omega (arith, f.has_shape.width_is, width-short (net_of net) duration_limit (lfd-short net f.is_net))

  pub places_same : shape.places ≡ byte net 5
  unfolding net_of
  places_same = f.has_shape.places_are

  pub transitions-same : shape.transitions ≡ byte net 6
  unfolding net_of
  transitions-same = f.has_shape.transitions_are

  pub transitions-model : (net_of net).transitions ≡ byte net 6
  unfolding net_of
  transitions-model = refl

  pub lfd-below : (t : ℕ) → t < byte net 6 → (net_of net).lfd t < shape.width
  unfolding net_of
  lfd-below t h = omega (arith, f.has_shape.width_is, lfd-fits (net_of net) t h)

  -- the counts of t at the ages from `above` on stand within the state
  pub counts-inside : (b : List ℕ) (t above at : ℕ) (c : Column) → StateHead (net_of net) b → t < byte net 6 → above ≤ shape.width
      → c ≡ column_of (record { 0 = above }) → at ≡ count_at shape.places shape.width t c → at + 2 * (shape.width - above) ≤ length b
  unfolding count_at state_length
  counts-inside b t above at c framed h l e g =
      let long = framed.room in
      let rows : t * shape.width + shape.width ≤ byte net 6 * shape.width = omega (arith, mul-le-mul_right shape.width h) in
      let all : (net_of net).transitions * width (net_of net) ≡ byte net 6 * shape.width =
      ap (λ (x : ℕ). x * width (net_of net)) transitions-model ∙ ap (λ (x : ℕ). byte net 6 * x) (sym f.has_shape.width_is) in
      let column : c.0 ≡ above + 1 = ap (λ (x : Column). x.0) e in
      omega (arith, f.has_shape.places_are)

-- 8 AND 9

module _ (N : Net) (b : List ℕ) where
  -- what is asked of the words above the lfd is asked of every age above it
  pub none-past-tells : (t : ℕ) → t < N.transitions → Tells (has_none_past N b t) (NonePast N b t)
  unfolding has_none_past is_blank
  none-past-tells t l =
      let D = width N in
      let lfd = N.lfd t in
      let at = count_at N.places D t (column_of (record { 0 = suc lfd })) in
      let each = all-tells (D - suc lfd) (λ i. eqb_tells (word b (at + 2 * i)) 0) in
      record {
        sound = λ x j k h. ap (word b) (place (suc lfd) (j - suc lfd) j (omega arith)) ∙ each.sound x (j - suc lfd) (omega arith);
        complete = λ g. each.complete (λ i k. ap (word b) (sym (place (suc lfd) i (suc lfd + i) (omega arith))) ∙ g (suc lfd + i) (omega arith) (omega arith));
      }
    where
      -- the word i behind that of age `above` is that of age `above + i`
      place : (above i j : ℕ) → above + i ≡ j
          → count_at N.places (width N) t (column_of (record { 0 = j })) ≡ count_at N.places (width N) t (column_of (record { 0 = above })) + 2 * i
      place above i j e = omega (arith, count-place N.places (width N) t j, count-place N.places (width N) t above)

  abbrev counts : ℕ → Checked
  counts = check_counts N b

  counts-good : (t : ℕ) → t < N.transitions → (counts t ≡ Ok tt) ↔ NonePast N b t
  counts-good t l =
      let passes = unless-good {B = Unit {0}} (fault.PastLfd t) (none-past-tells t l) ((λ _. tt), λ _. refl) in
      ((λ e. (passes.0 e).0), λ n. passes.1 (n, tt))

  counts-bad : (t : ℕ) → t < N.transitions → (why : Fault) → counts t ≡ Err why → (¬ NonePast N b t) × (why ≡ fault.PastLfd t)
  counts-bad t l why = fault-by (fault.PastLfd t) _ (none-past-tells t l) (λ f q. (f, q)) (λ _. never)

  abbrev head-is : Tells (has_head N.places N.transitions (width N) b) (StateHead N b)
  head-is = has-head-tells N.places N.transitions (width N) b

  -- neither 8 nor 9 is told exactly where a state of N stands at the front
  pub state-exact : (check_state N b ≡ Ok tt) ↔ IsState N b
  unfolding check_state
  state-exact =
      let passes = unless-good fault.StateFrame head-is (turn-good counts N.transitions) in (
        (λ e. let (f, all) = passes.0 e in record { head = f; none_past = λ t l. (counts-good t l).0 (all t l) }),
        λ s. passes.1 (s.head, λ t l. (counts-good t l).1 (s.none_past t l)),
      )

  told-state : {why : Fault} → StateFaulty N b why → check_state N b ≡ Err why
  unfolding check_state
  told-state (StateFaulty.frame f) = fails fault.StateFrame _ head-is f
  told-state (StateFaulty.past_lfd {t} f l lower no_more) =
      past fault.StateFrame head-is f
      ((turn-bad counts N.transitions (fault.PastLfd t)).1
      (t, l, (λ u k. (counts-good u (omega arith)).1 (lower u k)), fails (fault.PastLfd t) _ (none-past-tells t l) no_more))

  -- and each is told exactly when document 01's table has it
  pub state-faulty : (why : Fault) → (check_state N b ≡ Err why) ↔ StateFaulty N b why
  unfolding check_state
  state-faulty why = (
    fault-by fault.StateFrame _ head-is (λ a q. rw q (StateFaulty.frame a)) (λ f e.
        let (t, l, lower, bad) = (turn-bad counts N.transitions why).0 e in
        let (more, q) = counts-bad t l why bad in
        rw q (StateFaulty.past_lfd f l (λ u k. (counts-good u (omega arith)).0 (lower u k)) more)),
    told-state,
  )

  -- what is accepted is a lawful state of N
  pub state-lawful : Bytes b → IsState N b → Lawful N (state_of N b)
  state-lawful small s = record {
    shaped = state-shaped N b;
    none_past_lfd = λ t j l k h. count_is N b t j l k ∙ s.none_past t l j k h;
    tokens_fit = λ p l. omega (arith, tokens-are N b p l, word_fits b (mark_at p) small);
    counts_fit = λ t j l k. omega (arith, count_at_lem N b t j l k, word_fits b (clock_at N.places + 2 * (t * width N + j)) small);
  }
