-- The check of one transition, and of all in turn, as the code goes through them.
-- Assumes nothing.
use Rattle.std.proofs.lemmas.List.{get_or-take, length-take}
use Rattle.std.proofs.Common.{zero, suc, refl, ap, not, eqb, ◌-◌, length, length-drop, take, drop}
use mathlib.Core.Path.{◌≡◌, ◌∙◌}
use mathlib.Core.List.{List}
use Prim.Native.Nat.{ℕ, ◌+◌, ◌<◌, ◌≤◌}
use native.Mathlib.Nat.{mul-le-mul_right}
use native.Mathlib.Omega.{arith}
use Rattle.model.specs.Tab.{all}
use Rattle.forms.specs.Word.{byte}
use Rattle.forms.specs.Places.{row_at, row_length}
use Rattle.forms.specs.Nets.{has_some_weight}
use Rattle.forms.proofs.WordLaws.{byte-part}

-- WHERE A ROW STANDS

-- the rows of transitions below T end where row T would begin
pub row_within : (P t T : ℕ) → t < T → row_at P t + row_length P ≤ row_at P T
unfolding row_at
row_within P t T l = omega (arith, mul-le-mul_right (row_length P) l)

-- the weights in a part of a net, as the net has them
pub weights_within : (net : List ℕ) (at n : ℕ) → at + n ≤ length net
    → has_some_weight (length (take n (take (length net - at) (drop at net)))) (byte (take n (take (length net - at) (drop at net))))
    ≡ has_some_weight n (λ i. byte net (at + i))
unfolding has_some_weight all
weights_within net at n room =
    let long : length part ≡ n = simp (length-take, length-drop) (omega arith) in
    rw long (ap not (same n (omega arith)))
  where
    part : List ℕ
    part = take n (take (length net - at) (drop at net))

    inside : (i : ℕ) → i < n → byte part i ≡ byte net (at + i)
    inside i h =
        get_or-take n (take (length net - at) (drop at net)) i 0 h ∙ byte-part net at (length net - at) i (omega arith)

    same : (k : ℕ) → k ≤ n → all k (λ i. eqb (byte part i) 0) ≡ all k (λ i. eqb (byte net (at + i)) 0)
    same zero h = refl
    same (suc k) h = rw (inside k h, same k (omega arith))
