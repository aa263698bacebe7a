-- A chain `(0..n).map(f).sum()` gives the model's sum of what f computes, and that fits where each term is small.
-- Assumes nothing.
use mathlib.Core.Path.{◌≡◌, refl, ap, ◌∙◌}
use mathlib.Core.List.{List, map}
use Prim.Native.Nat.{ℕ, zero, suc, ◌+◌, ◌*◌, ◌<◌, ◌≤◌}
use native.Mathlib.Omega.{arith}
use denote.Param.Members.{Mut}
use Rattle.std.specs.declared.iter.Map.{Map}
use Rattle.std.specs.declared.ops.Range.{Range}
use Rattle.std.specs.Bool.{⊤}
use Rattle.std.specs.Fn.{Called}
use Rattle.std.specs.Iterator.{Drains}
use Rattle.std.specs.Iterator.Adapters.{map_source, map_callee}
use Rattle.std.specs.Iterator.Runs.{EachRunFrom}
use Rattle.std.specs.List.{fold, sum_by, range_with_len}
use Rattle.std.proofs.iter.Yields.{nat_range_steps}
use Rattle.std.proofs.lemmas.Iterator.{YieldsList, YieldsList-from_range, YieldsList-from_map, maps}
use Rattle.std.proofs.lemmas.Iterator.Consumers.{sum_by_from_yields_List, fits_by_from_yields_list}
use Rattle.std.proofs.lemmas.List.Sums.{sum_by-cons}
use Rattle.model.specs.Tab.{sum}
use Rattle.model.proofs.Sums.{sum_first, sum_same, sum-le}

-- the sum over a range as a list
listed : (n from : ℕ) (h : ℕ → ℕ) → sum_by h (range_with_len from n) ≡ sum n (λ k. h (from + k))
unfolding sum
listed zero from h = refl
listed (suc n) from h =
    let rest : sum_by h (range_with_len (from + 1) n) ≡ sum n (λ k. h (from + suc k)) =
    listed n (from + 1) h ∙ sum_same n (λ k. h (from + 1 + k)) (λ k. h (from + suc k)) (λ k l. ap h (omega arith)) in
    let first : h (from + 0) ≡ h from = ap h (omega arith) in
    omega (arith, sum_by-cons h from (range_with_len (from + 1) n), sum_first n (λ k. h (from + k)))

from-zero : (n : ℕ) (h : ℕ → ℕ) → sum_by h (range_with_len 0 n) ≡ sum n h
from-zero n h = listed n 0 h ∙ sum_same n (λ k. h (0 + k)) h (λ k l. ap h (omega arith))

-- where f computes h, which is at most `most`
module _ {F : Type 0} (g : Mut F (ℕ × Unit {0}) ℕ) (n most : ℕ) (h : ℕ → ℕ) (few : (k : ℕ) → h k ≤ most) {s : Map (Range ℕ) F} {f : F}
    (source : map_source s ≡ record { start = 0; end = n }) (callee : map_callee s ≡ f)
    (gives : (x r : ℕ) (q : F) → Called g f (x, tt) r q → (q ≡ f) × (r ≡ h x)) where
  road : YieldsList (maps nat_range_steps g) (λ r. r) s (map h (range_with_len 0 n))
  road = YieldsList-from_map g h (YieldsList-from_range 0 n n source (omega arith)) callee gives

  bound : sum_by h (range_with_len 0 n) ≤ n * most
  bound = omega (arith, from-zero n h, sum-le n h most (λ k _. few k))

  pub chain-fits : (top : ℕ) → n * most < top → EachRunFrom (maps nat_range_steps g) s (λ p. fold (λ a x. a + x) 0 p.items < top)
  chain-fits top l = fits_by_from_yields_list h (range_with_len 0 n) s top road (omega (arith, bound))

  pub chain-sums : (r : ℕ) → (xs : List ℕ) × (⊤ → Drains (maps nat_range_steps g) s xs) × (r ≡ fold (λ a x. a + x) 0 xs)
      → (r ≡ sum n h) × (r ≤ n * most)
  chain-sums r ran =
      let is : r ≡ sum_by h (range_with_len 0 n) = sum_by_from_yields_List h (range_with_len 0 n) s r ran road in
      (is ∙ from-zero n h, omega (arith, bound))
