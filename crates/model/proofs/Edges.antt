-- The limits and the bytes of an event are document 01's; the nets of the cases are nets that it accepts.
-- Assumes nothing.
use mathlib.Core.Path.{refl}
use Prim.Native.Nat.{ℕ, ◌<◌, ◌≤◌}
use native.Mathlib.Nat.{not-suc-le-zero}
use native.Mathlib.Omega.{arith}
use Rattle.model.specs.Limits.{Held, duration_limit}
use Rattle.model.specs.Net.{Accepted, HasInput, HasOutput}
use Rattle.model.specs.Cases.{childrens_row, heavy}
use Rattle.model.specs.Edges.{LimitsAtEdges, ColumnsAtEdges, BytesAtEdges}
use Rattle.model.proofs.Tab.{below_suc}

pub limits-at-edges : LimitsAtEdges
limits-at-edges = record {
  places = (refl, refl, refl, refl);
  transitions = (refl, refl, refl);
  durations = (refl, refl, refl, refl);
  events = (refl, refl, refl);
  tokens = (refl, refl, refl);
}

pub columns-at-edges : ColumnsAtEdges
columns-at-edges = record { first = (refl, refl); last = (refl, refl) }

pub bytes-at-edges : BytesAtEdges
bytes-at-edges = record {
  tick = (refl, refl, refl);
  start = (refl, refl, refl, refl);
  end = (refl, refl);
  nothing = (refl, refl);
  called_tick = (refl, refl, refl, refl);
  called_start = (refl, refl, refl, refl, refl, refl);
  of_the_log = refl;
}

-- what holds at 0, at 0 and 1, at 0, 1 and 2 holds below 1, 2, 3
one : (A : ℕ → Type 0) → A 0 → (i : ℕ) → i < 1 → A i
one A a = below_suc A 0 a (λ i h. absurd (not-suc-le-zero h))

two : (A : ℕ → Type 0) → A 0 → A 1 → (i : ℕ) → i < 2 → A i
two A a b = below_suc A 1 b (one A a)

three : (A : ℕ → Type 0) → A 0 → A 1 → A 2 → (i : ℕ) → i < 3 → A i
three A a b c = below_suc A 2 c (two A a b)

pub row-accepted : Accepted childrens_row
unfolding childrens_row
row-accepted = record {
  proper = record {
    interval = two (λ t. childrens_row.sfd t ≤ childrens_row.lfd t) (omega arith) (omega arith);
    preset = two (HasInput childrens_row) (0, omega arith, omega arith) (1, omega arith, omega arith);
    postset = two (HasOutput childrens_row) (1, omega arith, omega arith) (2, omega arith, omega arith);
    initial_held = three (λ p. Held (childrens_row.initial_marking p)) (omega arith) (omega arith) (omega arith);
  };
  sized = ((omega arith, omega arith), (omega arith, omega arith));
  short = two (λ t. childrens_row.lfd t ≤ duration_limit) (omega arith) (omega arith);
}

pub heavy-accepted : Accepted heavy
unfolding heavy
heavy-accepted = record {
  proper = record {
    interval = one (λ t. heavy.sfd t ≤ heavy.lfd t) (omega arith);
    preset = one (HasInput heavy) (0, omega arith, omega arith);
    postset = one (HasOutput heavy) (1, omega arith, omega arith);
    initial_held = two (λ p. Held (heavy.initial_marking p)) (omega arith) (omega arith);
  };
  sized = ((omega arith, omega arith), (omega arith, omega arith));
  short = one (λ t. heavy.lfd t ≤ duration_limit) (omega arith);
}
