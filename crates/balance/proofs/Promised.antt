-- The call's promise of the bytes that it was lent, from what its contract says it tells.
-- Assumes nothing.
use Rattle.std.proofs.Common.{Ok, Err}
use mathlib.Core.Path.{◌≡◌, refl, sym, ap, ◌∙◌}
use mathlib.Core.List.{List}
use Prim.Native.Nat.{ℕ, ◌*◌}
use native.Mathlib.Omega.{arith}
use Rattle.model.specs.declared.net.Net.{Net as Shape}
use Rattle.forms.specs.declared.fault.Fault.{Fault}
use Rattle.forms.specs.Checked.{number_of_fault, index_of_fault}
use Rattle.forms.specs.Word.{Bytes, byte}
use Rattle.forms.specs.Places.{input_at, output_at}
use Rattle.forms.specs.Stored.{net_of, stored}
use Rattle.forms.specs.Frame.{Framed}
use Rattle.forms.proofs.WordLaws.{word_fits}
use Rattle.forms.proofs.States.{places-small, transitions-small}
use Rattle.engine.specs.Examined.{Examined, examine_state}
use Rattle.engine.specs.Demands.{Passes}
use Rattle.engine.proofs.Fits.{state-fits}
use Rattle.engine.proofs.OneEvent.{lawful}
use Rattle.engine.proofs.Checks.{fault-number}
use Rattle.engine.proofs.Promised.{Adds, adds, of-state}
use Rattle.balance.specs.declared.call.BalanceTold.{BalanceTold}
use Rattle.balance.specs.Weights.{total}
use Rattle.balance.specs.Demands.{Small}
use Rattle.balance.specs.Told.{weight_at, balance_of, checked_weighing, balance_told}
use Rattle.balance.specs.Promised.{says_balance, Used, BalanceGiven, BalancePromise}
use Rattle.balance.proofs.Kept.{place-holds}
use Rattle.balance.proofs.Bounds.{no_overflow}
use Rattle.balance.proofs.Answers.{Comes, comes, is-31, is-30, is-0, is-total-told}
use Rattle.balance.proofs.Turns.{narrow}
use Rattle.balance.proofs.Alike.{used-alike}

-- behind the checks
told_is : (net b weights : List ℕ) {shape : Shape} → examine_state net b ≡ Ok shape
    → balance_told net b weights ≡ balance_of (checked_weighing (net_of net) weights (stored net b))
unfolding balance_told
told_is net b weights fit = rw fit

fault-is : (net b weights : List ℕ) (why : Fault) → examine_state net b ≡ Err why
    → balance_told net b weights ≡ says_balance (number_of_fault why) (index_of_fault why) 0
unfolding balance_told
fault-is net b weights why e = rw e

-- THE BOUND

-- the weights of a checked net are small enough
small-enough : (net : List ℕ) (shape : Shape) (b : List ℕ) → Framed net shape b → Bytes net → (weights : List ℕ) → Bytes weights
    → Small (net_of net) (weight_at weights)
unfolding net_of
small-enough net shape b f bytes weights few =
    let h = f.net_framed.has_shape in
    record {
      few_places = omega (arith, places-small net shape f.net_framed, h.places_are);
      few_transitions = omega (arith, transitions-small net shape f.net_framed, h.transitions_are);
      narrow = omega (arith, narrow net shape b f, h.width_is);
      inputs_bytes = λ t p l k. bytes (input_at (byte net 5) t p);
      outputs_bytes = λ t p l k. bytes (output_at (byte net 5) t p);
      weights_words = λ p l. word_fits weights (2 * p) few;
    }

module _ (net b weights : List ℕ) (bytes : Bytes net) (small : Bytes b) (few : Bytes weights) where
  given : Passes (examine_state net b) → BalanceGiven net b weights (balance_told net b weights)
  given (shape, fit) =
      let f = state-fits net shape b fit in
      let c : Comes (net_of net) weights (stored net b) (balance_told net b weights) =
      rw (told_is net b weights fit) (comes (net_of net) weights (stored net b)) in
      record {
        weights_bytes = few;
        no_weights = is-31 c;
        unbalanced = is-30 c;
        balanced = is-0 c;
        total_is = is-total-told c;
        no_overflow = no_overflow (net_of net) (weight_at weights) (small-enough net shape b f bytes weights few) (stored net b)
            (lawful net shape b f small);
        alike = λ b' used. used-alike net bytes weights small used;
        total_kept = kept;
        no_place_over = λ z b' used p l pos. rw (← kept z b' used) (place-holds (net_of net) (weight_at weights) (stored net b') p l pos);
      }
    where
      kept : (balance_told net b weights).number ≡ 0 → (b' : List ℕ) → Used net b b'
          → total (net_of net) (weight_at weights) (stored net b') ≡ (balance_told net b weights).total
      kept z b' used = go (examine_state net b') refl
        where
          same : balance_told net b' weights ≡ balance_told net b weights
          same = used-alike net bytes weights small used

          -- what the calls leave of a state that was fit is fit
          go : (x : Examined) → examine_state net b' ≡ x → total (net_of net) (weight_at weights) (stored net b') ≡ (balance_told net b weights).total
          go (Err why) x =
              fault-number why (ap (λ (r : BalanceTold). r.number) (sym (fault-is net b' weights why x) ∙ same) ∙ z)
          go (Ok s) x =
              let c = comes (net_of net) weights (stored net b') in
              let told = sym (told_is net b' weights x) ∙ same in
              ap (λ (r : BalanceTold). r.total) (sym (is-total-told c (ap (λ (r : BalanceTold). r.number) told ∙ z)) ∙ told)

  pub balance-promised : Adds (BalancePromise net b weights) (balance_told net b weights)
  balance-promised = adds (BalancePromise net b weights) (balance_told net b weights) (of-state net bytes b small (fault-is net b weights) given)
