-- Each public function's promise determines its answer: two answers that it permits for the same arguments are equal. None is lent
-- bytes that it may change; of the iterator that `next` is lent, what is left is determined too. What is cited is the promise itself, as
-- a caller learns it.
-- Assumes nothing.
use mathlib.Core.Path.{◌≡◌, refl, sym, ap, ◌∙◌}
use mathlib.Core.List.{List}
use Prim.Native.Nat.{ℕ, ◌<◌}
use native.Mathlib.Omega.{arith}
use lib.Seq.{ext_get_or}
use contract.Lifetimes.{Lfts}
use denote.Triple.Clauses.{AtExit}
use borrow.Fn.Kinds.{Dens, res_t, ended_of}
use Rattle.std.proofs.Common.{Option, Some, None}
use Rattle.model.proofs.Determined.{Determined}
use Rattle.forms.specs.Word.{byte}
use Rattle.owed.specs.Marks.{FoundBelow}
use Rattle.owed.specs.Weights.{AreWeights, NextAbove}
use Rattle.owed.proofs.bits.with_bit.Reads as with-bit
use Rattle.owed.proofs.bits.with_bit.Kinds as with-bit-kinds
use Rattle.owed.proofs.bits.has_bit.Reads as has-bit
use Rattle.owed.proofs.bits.has_bit.Kinds as has-bit-kinds
use Rattle.owed.proofs.counts.count.Reads as count
use Rattle.owed.proofs.counts.count.Kinds as count-kinds
use Rattle.owed.proofs.counts.due.Reads as due
use Rattle.owed.proofs.counts.due.Kinds as due-kinds
use Rattle.owed.proofs.counts.no_end_owed.Reads as no_end_owed
use Rattle.owed.proofs.counts.no_end_owed.Kinds as no-end-owed-kinds
use Rattle.owed.proofs.counts.no_old_end_owed.Reads as no_old_end_owed
use Rattle.owed.proofs.counts.no_old_end_owed.Kinds as no-old-end-owed-kinds
use Rattle.owed.proofs.counts.none_fresh.Reads as none-fresh
use Rattle.owed.proofs.counts.none_fresh.Kinds as none-fresh-kinds
use Rattle.owed.proofs.counts.nothing_running.Reads as nothing_running
use Rattle.owed.proofs.counts.nothing_running.Kinds as nothing-running-kinds
use Rattle.owed.proofs.sets.ends_owed.Reads as ends-owed
use Rattle.owed.proofs.sets.ends_owed.Kinds as ends-owed-kinds
use Rattle.owed.proofs.degree.degree.Reads as degree
use Rattle.owed.proofs.degree.degree.Kinds as degree-kinds
use Rattle.owed.proofs.marks.short_place.Reads as short-place
use Rattle.owed.proofs.marks.short_place.Kinds as short-place-kinds
use Rattle.owed.proofs.weights.pass_zero.Reads as pass-zero
use Rattle.owed.proofs.weights.pass_zero.Kinds as pass-zero-kinds
use Rattle.owed.proofs.weights.inputs.Reads as inputs
use Rattle.owed.proofs.weights.inputs.Kinds as inputs-kinds
use Rattle.owed.proofs.weights.outputs.Reads as outputs
use Rattle.owed.proofs.weights.outputs.Kinds as outputs-kinds
use Rattle.owed.proofs.weights.AboveZero.of.Reads as above-zero-of
use Rattle.owed.proofs.weights.AboveZero.of.Kinds as above-zero-of-kinds
use Rattle.owed.proofs.weights.AboveZeroIterator.next.Reads as above-zero-next
use Rattle.owed.proofs.weights.AboveZeroIterator.next.Kinds as above-zero-next-kinds
use Rattle.owed.proofs.starts.lacking.Reads as lacking
use Rattle.owed.proofs.starts.lacking.Kinds as lacking-kinds
use Rattle.owed.proofs.starts.enabled.Reads as enabled
use Rattle.owed.proofs.starts.enabled.Kinds as enabled-kinds
use Rattle.owed.proofs.starts.short.Reads as short
use Rattle.owed.proofs.starts.short.Kinds as short-kinds
use Rattle.owed.proofs.starts.no_start_owed.Reads as no_start_owed
use Rattle.owed.proofs.starts.no_start_owed.Kinds as no-start-owed-kinds
use Rattle.owed.proofs.sets.starts_owed.Reads as starts-owed
use Rattle.owed.proofs.sets.starts_owed.Kinds as starts-owed-kinds
use Rattle.owed.proofs.report.OwedSet.of.Reads as owed-set-of
use Rattle.owed.proofs.report.OwedSet.of.Kinds as owed-set-of-kinds
use Rattle.owed.proofs.report.report.Reads as report
use Rattle.owed.proofs.report.report.Kinds as report-kinds

-- what is found is one
pub found-once : (n p : ℕ) (r s : Option ℕ) → FoundBelow n p r → FoundBelow n p s → r ≡ s
found-once n p None None f g = refl
found-once n p None (Some y) f g = absurd (omega arith)
found-once n p (Some x) None f g = absurd (omega arith)
found-once n p (Some x) (Some y) f g = ap Some (f.1 ∙ sym g.1)

pub with-bit-determined : Determined 0 with-bit-kinds.ps with-bit-kinds.r with-bit.Learnt
with-bit-determined κs args x y s s' p q = p ∙ sym q

pub has-bit-determined : Determined 0 has-bit-kinds.ps has-bit-kinds.r has-bit.Learnt
has-bit-determined κs args x y s s' p q = p ∙ sym q

pub count-determined : Determined 2 count-kinds.ps count-kinds.r count.Learnt
count-determined κs args x y s s' p q = p.0 ∙ sym q.0

pub due-determined : Determined 2 due-kinds.ps due-kinds.r due.Learnt
due-determined κs args x y s s' p q = p.0 ∙ sym q.0

pub no-end-owed-determined : Determined 2 no-end-owed-kinds.ps no-end-owed-kinds.r no_end_owed.Learnt
no-end-owed-determined κs args x y s s' p q = p ∙ sym q

pub no-old-end-owed-determined : Determined 2 no-old-end-owed-kinds.ps no-old-end-owed-kinds.r no_old_end_owed.Learnt
no-old-end-owed-determined κs args x y s s' p q = p ∙ sym q

pub none-fresh-determined : Determined 2 none-fresh-kinds.ps none-fresh-kinds.r none-fresh.Learnt
none-fresh-determined κs args x y s s' p q = p ∙ sym q

pub nothing-running-determined : Determined 2 nothing-running-kinds.ps nothing-running-kinds.r nothing_running.Learnt
nothing-running-determined κs args x y s s' p q = p ∙ sym q

pub ends-owed-determined : Determined 2 ends-owed-kinds.ps ends-owed-kinds.r ends-owed.Learnt
ends-owed-determined κs args x y s s' p q = p ∙ sym q

pub degree-determined : Determined 2 degree-kinds.ps degree-kinds.r degree.Learnt
degree-determined κs args x y s s' p q = p ∙ sym q

pub short-place-determined : Determined 2 short-place-kinds.ps short-place-kinds.r short-place.Learnt
short-place-determined κs args x y s s' p q = found-once _ _ x y p q

pub pass-zero-determined : Determined 1 pass-zero-kinds.ps pass-zero-kinds.r pass-zero.Learnt
pass-zero-determined κs args x y s s' p q = p ∙ sym q

-- the weights w of n places are one list
pub weights-once : (n : ℕ) (w : ℕ → ℕ) (ws vs : List ℕ) → AreWeights n w ws → AreWeights n w vs → ws ≡ vs
weights-once n w ws vs a b =
    ext_get_or 0 ws vs (a.0 ∙ sym b.0) (λ p l. let h : p < n = omega (arith, a.0) in a.1 p h ∙ sym (b.1 p h))

-- two slices that the promise of `inputs` permits hold the same bytes, and so do two that that of `outputs` permits
pub inputs-determined : (κs : Lfts 1) (args : Dens κs inputs-kinds.ps) (x y : (res_t inputs-kinds.r κs).Denot)
    (s s' : AtExit (ended_of 1 inputs-kinds.ps inputs-kinds.r) κs) → inputs.Learnt κs args x s → inputs.Learnt κs args y s' → x.now ≡ y.now
inputs-determined κs args x y s s' p q = weights-once _ _ x.now y.now p q

pub outputs-determined : (κs : Lfts 1) (args : Dens κs outputs-kinds.ps) (x y : (res_t outputs-kinds.r κs).Denot)
    (s s' : AtExit (ended_of 1 outputs-kinds.ps outputs-kinds.r) κs) → outputs.Learnt κs args x s → outputs.Learnt κs args y s' → x.now ≡ y.now
outputs-determined κs args x y s s' p q = weights-once _ _ x.now y.now p q

-- two iterators that the promise of `of` permits hold the same weights, and stand at the same place
pub above-zero-of-determined : (κs : Lfts 1) (args : Dens κs above-zero-of-kinds.ps) (x y : (res_t above-zero-of-kinds.r κs).Denot)
    (s s' : AtExit (ended_of 1 above-zero-of-kinds.ps above-zero-of-kinds.r) κs)
    → above-zero-of.Learnt κs args x s → above-zero-of.Learnt κs args y s' → (x.weights.now ≡ y.weights.now) × (x.at ≡ y.at)
above-zero-of-determined κs args x y s s' p q = (p.0 ∙ sym q.0, p.1 ∙ sym q.1)

-- what is told of the weights from `at` on is one, and so is the place behind it
pub above-once : (ws : List ℕ) (at : ℕ) (x y : Option (ℕ × ℕ)) (t u : ℕ) → NextAbove ws at x t → NextAbove ws at y u → (x ≡ y) × (t ≡ u)
above-once ws at None None t u f g = (refl, f.1 ∙ sym g.1)
above-once ws at None (Some y) t u f g = absurd (omega (arith, f.0 y.0 g.0 g.1, g.2, g.3))
above-once ws at (Some x) None t u f g = absurd (omega (arith, g.0 x.0 f.0 f.1, f.2, f.3))
above-once ws at (Some x) (Some y) t u f g =
    let early : ¬ (x.0 < y.0) = λ l. omega (arith, g.4 x.0 f.0 l, f.2, f.3) in
    let late : ¬ (y.0 < x.0) = λ l. omega (arith, f.4 y.0 g.0 l, g.2, g.3) in
    let place : x.0 ≡ y.0 = omega (arith, early, late) in
    let weight : x.1 ≡ y.1 = f.2 ∙ ap (λ (k : ℕ). byte ws k) place ∙ sym g.2 in
    (ap Some (λ i. (place i, weight i)), omega (arith, f.5, g.5, place))

pub above-zero-next-determined : Determined 2 above-zero-next-kinds.ps above-zero-next-kinds.r above-zero-next.Learnt
above-zero-next-determined κs args x y s s' p q = (above-once _ _ x y _ _ p.0.1 q.0.1).0

pub above-zero-next-leaves : (κs : Lfts 2) (args : Dens κs above-zero-next-kinds.ps) (x y : (res_t above-zero-next-kinds.r κs).Denot)
    (s s' : AtExit (ended_of 2 above-zero-next-kinds.ps above-zero-next-kinds.r) κs)
    → above-zero-next.Learnt κs args x s → above-zero-next.Learnt κs args y s' → (s.0.now.weights ≡ s'.0.now.weights) × (s.0.now.at ≡ s'.0.now.at)
above-zero-next-leaves κs args x y s s' p q = (p.0.0 ∙ sym q.0.0, (above-once _ _ x y _ _ p.0.1 q.0.1).1)

pub lacking-determined : Determined 2 lacking-kinds.ps lacking-kinds.r lacking.Learnt
lacking-determined κs args x y s s' p q = found-once _ _ x y p q

pub enabled-determined : Determined 2 enabled-kinds.ps enabled-kinds.r enabled.Learnt
enabled-determined κs args x y s s' p q = p ∙ sym q

pub short-determined : Determined 2 short-kinds.ps short-kinds.r short.Learnt
short-determined κs args x y s s' p q = p ∙ sym q

pub no-start-owed-determined : Determined 2 no-start-owed-kinds.ps no-start-owed-kinds.r no_start_owed.Learnt
no-start-owed-determined κs args x y s s' p q = p ∙ sym q

pub starts-owed-determined : Determined 2 starts-owed-kinds.ps starts-owed-kinds.r starts-owed.Learnt
starts-owed-determined κs args x y s s' p q = p ∙ sym q

pub owed-set-of-determined : Determined 0 owed-set-of-kinds.ps owed-set-of-kinds.r owed-set-of.Learnt
owed-set-of-determined κs args x y s s' p q = p ∙ sym q

pub report-determined : Determined 2 report-kinds.ps report-kinds.r report.Learnt
report-determined κs args x y s s' p q = p ∙ sym q
