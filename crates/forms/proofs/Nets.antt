-- The check of a net: each fault is told exactly when document 01's table has it, and what is accepted is a net of the model.
-- Assumes nothing.
use Rattle.std.proofs.Common.{Ok, Err}
use mathlib.Core.Path.{◌≡◌, refl, sym, ap, ◌∙◌}
use mathlib.Core.Bool.{Bool, true, false}
use mathlib.Core.Logic.{◌↔◌}
use mathlib.Core.List.{List}
use Prim.Native.Nat.{ℕ, suc, ◌+◌, ◌<◌, ◌≤◌, max}
use Rattle.std.proofs.Common.{Option, map, zero}
use Rattle.std.specs.List.{fold, reduce, range_with_len}
use Rattle.std.specs.Option.{unwrap_or}
use Rattle.std.specs.Ordering.{max_by_ordering, nat_cmp}
use Rattle.std.proofs.lemmas.List.Folds.{max_of_map}
use native.Mathlib.Numerals.{add-one}
use native.Mathlib.Omega.{arith}
use lib.Dec.{eqb}
use lib.ListN.{length}
use Rattle.model.specs.declared.net.Net.{Net as Shape}
use Rattle.model.specs.Tab.{Tells, largest}
use Rattle.model.specs.Limits.{place_limit, transition_limit, duration_limit, IsInterval, is_interval, shape_of}
use Rattle.model.specs.Net.{Net, HasInput, HasOutput, Accepted, width}
use Rattle.model.proofs.Tab.{both-tell, all-tells}
use Rattle.model.proofs.Tests.{tells_as, leb_tells, eqb_tells, not-tells, sized-tells, interval-tells, some-fails, told-true, told-false}
use Rattle.model.proofs.Alls.{not_yet}
use Rattle.forms.specs.declared.fault.Fault.{Fault}
use Rattle.forms.specs.declared.fault.Fault.TheVariants as fault
use Rattle.forms.specs.Checked.{in_turn}
use Rattle.forms.specs.Word.{Bytes, byte, word32}
use Rattle.forms.specs.Begins.{version, Begins, begins_with}
use Rattle.forms.specs.Places.{initial_at, row_at, row_length, net_length}
use Rattle.forms.specs.Stored.{net_of}
use Rattle.forms.specs.Nets.{NetHead, has_net_head, LengthRight, RowGood, RowFaulty, IsNet, NetFaulty, has_some_weight, check_row, check_net}
use Rattle.forms.specs.Frame.{HasShape}
use Rattle.forms.proofs.WordLaws.{word_fits}
use Rattle.forms.proofs.Rows.{row_within}
use Rattle.forms.proofs.Turns.{never, unless-good, past, fails, fault-by, turn-good, turn-bad}

-- WHAT THE TESTS TELL

pub begins-tells : (b : List ℕ) (long : ℕ) → Tells (begins_with b long) (Begins b long)
unfolding begins_with
begins-tells b long =
    tells_as (λ (v, l). record { version_is = v; length_is = l }) (λ h. (h.version_is, h.length_is))
    (both-tell (eqb_tells (byte b 0) version) (eqb_tells (word32 b 1) long))

pub net-head-tells : (b : List ℕ) → Tells (has_net_head b) (NetHead b)
unfolding has_net_head
net-head-tells b =
    tells_as (λ (l, e). record { least = l; begins = e }) (λ h. (h.least, h.begins)) (both-tell (leb_tells 7 (length b)) (begins-tells b (length b)))

pub net-long-tells : (b : List ℕ) → Tells (eqb (length b) (net_length (byte b 5) (byte b 6))) (LengthRight b)
net-long-tells b = eqb_tells (length b) (net_length (byte b 5) (byte b 6))

-- some weight is above 0
pub some-weight-tells : (n : ℕ) (f : ℕ → ℕ) → Tells (has_some_weight n f) ((p : ℕ) × (p < n) × (0 < f p))
unfolding has_some_weight
some-weight-tells n f =
    let zeros = all-tells n (λ p. eqb_tells (f p) 0) in
    let none = not-tells zeros in
    record {
      sound = λ t. let (p, l, some) = some-fails n (λ p. eqb_tells (f p) 0) (none.sound t) in (p, l, above (f p) some);
      complete = λ (p, l, some). none.complete (λ empty. omega (arith, empty p l));
    }
  where
    above : (k : ℕ) → ¬ (k ≡ 0) → 0 < k
    above k h = omega arith

-- what is found exactly where some weight is above 0 is the test
pub weight_found : (n : ℕ) (f : ℕ → ℕ) (found : Bool) → (found ≡ true) ↔ ((p : ℕ) × (p < n) × (0 < f p)) → found ≡ has_some_weight n f
weight_found n f true h = sym (told-true (some-weight-tells n f) (h.0 refl))
weight_found n f false h = sym (told-false (some-weight-tells n f) (λ some. not_yet (h.1 some)))

-- ONE TRANSITION

module _ (N : Net) (t : ℕ) where
  abbrev interval-is : Tells (is_interval (N.sfd t) (N.lfd t)) (IsInterval (N.sfd t) (N.lfd t))
  interval-is = interval-tells (N.sfd t) (N.lfd t)

  abbrev input-is : Tells (has_some_weight N.places (N.takes t)) (HasInput N t)
  input-is = some-weight-tells N.places (N.takes t)

  abbrev output-is : Tells (has_some_weight N.places (N.gives t)) (HasOutput N t)
  output-is = some-weight-tells N.places (N.gives t)

  -- none of 4, 5 and 6 is told exactly where the transition is good
  pub row-exact : (check_row N t ≡ Ok tt) ↔ RowGood N t
  unfolding check_row
  row-exact =
      let passes =
      unless-good (fault.NoInterval t) interval-is
      (unless-good (fault.NoInput t) input-is (unless-good {B = Unit {0}} (fault.NoOutput t) output-is ((λ _. tt), λ _. refl))) in (
        (λ e. let (i, (p, (q, _))) = passes.0 e in record { interval = i; preset = p; postset = q }),
        λ g. passes.1 (g.interval, (g.preset, (g.postset, tt))),
      )

  -- and each is told exactly when
  pub row-faulty : (why : Fault) → (check_row N t ≡ Err why) ↔ RowFaulty N t why
  unfolding check_row
  row-faulty why = (
    fault-by (fault.NoInterval t) _ interval-is (λ f q. rw q (RowFaulty.no_interval f)) (λ i.
        fault-by (fault.NoInput t) _ input-is (λ f q. rw q (RowFaulty.no_input i f)) (λ p.
        fault-by (fault.NoOutput t) _ output-is (λ f q. rw q (RowFaulty.no_output i p f)) (λ _. never))),
    told,
  )
    where
      told : {why : Fault} → RowFaulty N t why → check_row N t ≡ Err why
      told (RowFaulty.no_interval f) = fails (fault.NoInterval t) _ interval-is f
      told (RowFaulty.no_input i f) = past (fault.NoInterval t) interval-is i (fails (fault.NoInput t) _ input-is f)
      told (RowFaulty.no_output i p f) =
          past (fault.NoInterval t) interval-is i (past (fault.NoInput t) input-is p (fails (fault.NoOutput t) _ output-is f))

-- THE NET

module _ (b : List ℕ) where
  abbrev rows_are : (in_turn (check_row (net_of b)) 0 (byte b 6) ≡ Ok tt)
      ↔ ((t : ℕ) → t < byte b 6 → check_row (net_of b) t ≡ Ok tt)
  rows_are = turn-good (check_row (net_of b)) (byte b 6)

  -- none of 1 to 6 is told exactly where the bytes are a net
  pub net-exact : (check_net b ≡ Ok tt) ↔ IsNet b
  unfolding check_net
  net-exact =
      let passes =
      unless-good fault.NetFrame (net-head-tells b)
      (unless-good fault.NetSize (sized-tells (byte b 5) (byte b 6)) (unless-good fault.NetLength (net-long-tells b) rows_are)) in (
        (λ e. let (f, (s, (l, rows))) = passes.0 e in
            record { head = f; sized = s; long = l; rows = λ t h. (row-exact (net_of b) t).0 (rows t h) }),
        λ n. passes.1 (n.head, (n.sized, (n.long, λ t h. (row-exact (net_of b) t).1 (n.rows t h)))),
      )

  told-net : {why : Fault} → NetFaulty b why → check_net b ≡ Err why
  unfolding check_net
  told-net (NetFaulty.frame f) = fails fault.NetFrame _ (net-head-tells b) f
  told-net (NetFaulty.size f s) =
      past fault.NetFrame (net-head-tells b) f (fails fault.NetSize _ (sized-tells (byte b 5) (byte b 6)) s)
  told-net (NetFaulty.length_wrong f s l) =
      past fault.NetFrame (net-head-tells b) f
      (past fault.NetSize (sized-tells (byte b 5) (byte b 6)) s (fails fault.NetLength _ (net-long-tells b) l))
  told-net (NetFaulty.row {why} {t} f s l h lower r) =
      past fault.NetFrame (net-head-tells b) f
      (past fault.NetSize (sized-tells (byte b 5) (byte b 6)) s
      (past fault.NetLength (net-long-tells b) l
      ((turn-bad (check_row (net_of b)) (byte b 6) why).1
      (t, h, (λ u k. (row-exact (net_of b) u).1 (lower u k)), (row-faulty (net_of b) t why).1 r))))

  -- and each is told exactly when document 01's table has it
  pub net-faulty : (why : Fault) → (check_net b ≡ Err why) ↔ NetFaulty b why
  unfolding check_net
  net-faulty why = (
    fault-by fault.NetFrame _ (net-head-tells b) (λ a q. rw q (NetFaulty.frame a)) (λ f.
        fault-by fault.NetSize _ (sized-tells (byte b 5) (byte b 6)) (λ a q. rw q (NetFaulty.size f a)) (λ s.
        fault-by fault.NetLength _ (net-long-tells b) (λ a q. rw q (NetFaulty.length_wrong f s a)) (λ l e.
        let (t, h, lower, r) = (turn-bad (check_row (net_of b)) (byte b 6) why).0 e in
        NetFaulty.row f s l h (λ u k. (row-exact (net_of b) u).0 (lower u k)) ((row-faulty (net_of b) t why).0 r)))),
    told-net,
  )

  -- what is accepted is a net that document 01 accepts
  pub net-accepted : Bytes b → IsNet b → Accepted (net_of b)
  unfolding net_of
  net-accepted small n = record {
    proper = record {
      interval = λ t h. (n.rows t h).interval.0;
      preset = λ t h. (n.rows t h).preset;
      postset = λ t h. (n.rows t h).postset;
      initial_held = λ p h. omega (arith, word_fits b (initial_at p) small);
    };
    sized = n.sized;
    short = λ t h. (n.rows t h).interval.1;
  }

-- WHAT A CHECKED NET GIVES THE CODE

module _ (b : List ℕ) (n : IsNet b) where
  pub few_transitions : byte b 6 ≤ transition_limit
  few_transitions = n.sized.1.1

  pub few_places : byte b 5 ≤ place_limit
  few_places = n.sized.0.1

  pub some-transition : 0 < (net_of b).transitions
  unfolding net_of
  some-transition = n.sized.1.0

  -- the row of a transition stands within
  pub row_inside : (t : ℕ) → t < byte b 6 → row_at (byte b 5) t + row_length (byte b 5) ≤ length b
  row_inside t h = omega (arith, n.long, row_within (byte b 5) t (byte b 6) h)

  pub marking-inside : initial_at (byte b 5) ≤ length b
  unfolding row_at
  marking-inside = omega (arith, n.long)

  pub lfd-short : (t : ℕ) → t < byte b 6 → (net_of b).lfd t ≤ duration_limit
  lfd-short t h = (n.rows t h).interval.1

-- the largest so far, as each number is looked at in turn
largest-on : (f : ℕ → ℕ) (n a m : ℕ) → m ≡ largest a f → fold (λ m t. max m (f t)) m (range_with_len a n) ≡ largest (a + n) f
unfolding largest
largest-on f zero a m e = let none : a + 0 ≡ a = omega arith in rw none e
largest-on f (suc n) a m e =
    let next : a + suc n ≡ a + 1 + n = omega arith in
    rw next (largest-on f n (a + 1) (max m (f a)) (rw add-one (omega arith)))

-- the largest of all
pub largest_of : (f : ℕ → ℕ) (n : ℕ) (most : Option ℕ) → most ≡ reduce (λ x y. max_by_ordering (nat_cmp x y) x y) (map f (range_with_len 0 n))
    → unwrap_or most 0 ≡ largest n f
unfolding largest
largest_of f n most e =
    let all : 0 + n ≡ n = omega arith in
    rw e (max_of_map f (range_with_len 0 n) ∙ largest-on f n 0 0 refl ∙ rw all)

-- the shape whose width is one more than the longest duration
pub shape-found : (b : List ℕ) (shape : Shape) (P T l : ℕ) → shape ≡ shape_of P T (l + 1) → P ≡ byte b 5 → T ≡ byte b 6
    → l ≡ largest T (net_of b).lfd → HasShape (net_of b) shape
unfolding net_of width
shape-found b shape P T l s p q e = record {
  places_are = ap (λ (x : Shape). x.places) s ∙ p;
  transitions_are = ap (λ (x : Shape). x.transitions) s ∙ q;
  width_is = ap (λ (x : Shape). x.width) s ∙ add-one l ∙ ap suc (e ∙ rw q);
}

-- for whoever passes a check
pub ruleset checks = (net-exact, net-faulty)
