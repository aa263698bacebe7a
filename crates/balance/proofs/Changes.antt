-- A transition that is not balanced changes the total of some lawful state, in which a firing of it ends.
-- Assumes nothing.
use mathlib.Core.Path.{◌≡◌, ap, ◌∙◌}
use mathlib.Core.Bool.{false}
use Prim.Native.Nat.{ℕ, ◌<◌}
use native.Mathlib.Omega.{arith}
use Rattle.model.specs.Tab.{one}
use Rattle.model.specs.Limits.{Held}
use Rattle.model.specs.Net.{Net, State, Proper, Lawful, build}
use Rattle.model.specs.Moves.{Ends}
use Rattle.model.proofs.Tab.{one-cases, one-here, one-off}
use Rattle.model.proofs.Shape.{lfd-fits, build-shaped, tokens-build, count-build}
use Rattle.balance.specs.Demands.{ChangesUnlessBalanced}
use Rattle.balance.proofs.Kept.{accounted}

module _ (N : Net) (t : ℕ) (known : t < N.transitions) where
  -- no token, and one firing of t, at its lfd; and what its end leaves
  abbrev before : State
  before = build N (λ p. 0) (one t (N.lfd t))

  abbrev after : State
  after = build N (N.gives t) (λ u k. 0)

  before-lawful : Lawful N before
  before-lawful = record {
    shaped = build-shaped N (λ p. 0) (one t (N.lfd t));
    none_past_lfd = λ u j l d past. count-build N (λ p. 0) (one t (N.lfd t)) u j l d
        ∙ one-off t (N.lfd t) u j (λ e q. let same : N.lfd t ≡ N.lfd u = ap N.lfd e in omega arith);
    tokens_fit = λ p l. omega (arith, tokens-build N (λ p. 0) (one t (N.lfd t)) p l);
    counts_fit = λ u j l d. rw (count-build N (λ p. 0) (one t (N.lfd t)) u j l d)
        (one-cases Held t (N.lfd t) u j (λ e q. omega arith) (λ q. omega arith));
  }

  ends : Proper N → ((p : ℕ) → p < N.places → Held (N.gives t p)) → Ends N false before t (N.lfd t) after
  ends proper fits =
      let wide = lfd-fits N t known in
      let tokens-are = tokens-build N (λ p. 0) (one t (N.lfd t)) in
      let counts_are = count-build N (λ p. 0) (one t (N.lfd t)) in
      record {
        known = known;
        timely = (proper.interval t known, omega arith);
        may_end = tt;
        active = omega (arith, counts_are t (N.lfd t) known wide, one-here t (N.lfd t));
        room = λ p l. omega (arith, tokens-are p l, fits p l);
        marked = λ p l. omega (arith, tokens-are p l, tokens-build N (N.gives t) (λ u k. 0) p l);
        counted = λ u k l d. omega (arith, counts_are u k l d, count-build N (N.gives t) (λ u k. 0) u k l d);
        shaped = build-shaped N (N.gives t) (λ u k. 0);
      }

pub changes : (N : Net) (w : ℕ → ℕ) → ChangesUnlessBalanced N w
changes N w proper fits t known off =
    let m = ends N t known proper (λ p l. fits t p known l) in
    record {
      before = before N t known;
      after = after N t known;
      lawful = before-lawful N t known;
      ends = m;
      other = λ same. off (omega (arith, (accounted N w).at_end false (before N t known) t (N.lfd t) (after N t known) m));
    }
