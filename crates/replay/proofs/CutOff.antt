-- How long the net and the state may be, and that a program may stop reading: behind the longest net and the longest log nothing changes the
-- answer.
-- Assumes nothing.
use mathlib.Core.Path.{◌≡◌, refl, sym, ◌∙◌}
use mathlib.Core.Bool.{Bool, false, true, cond, ◌&&◌}
use mathlib.Core.List.{List}
use Prim.Native.Nat.{ℕ, ◌*◌, ◌-◌, ◌/◌, ◌%◌, ◌<◌, ◌≤◌}
use native.Mathlib.Nat.{mul-le-mul}
use native.Mathlib.Omega.{arith}
use lib.Dec.{leb}
use lib.ListN.{length, take, drop, length-drop}
use lib.Seq.{get_or-take, take-take, length-take-le}
use borrow.Author.Tests.{leb-true, le-leb}
use Rattle.model.specs.Limits.{duration_limit, event_limit}
use Rattle.model.specs.Net.{width}
use Rattle.model.proofs.Shape.{width-short}
use Rattle.forms.specs.declared.fault.Fault.{Fault}
use Rattle.forms.specs.declared.fault.Fault.TheVariants as fault
use Rattle.std.specs.Prelude.{Ok, Err}
use Rattle.forms.specs.Word.{byte, word, word32}
use Rattle.forms.specs.Places.{state_length, log_length}
use Rattle.forms.specs.Stored.{net_of}
use Rattle.forms.specs.Nets.{IsNet}
use Rattle.forms.specs.Written.{check_room}
use Rattle.forms.specs.Logs.{check_log}
use Rattle.forms.proofs.Logs.{log-faulty}
use Rattle.forms.proofs.Nets.{few_transitions, few_places}
use Rattle.forms.proofs.Image.{room-exact}
use Rattle.engine.specs.Examined.{Examined, examine_state, examine_log}
use Rattle.engine.specs.Calls.{initial_left, run_told, run_left}
use Rattle.replay.specs.Replayed.{longest_net, enough, longest_state, has_arrived, net_length_in, net_in, log_in, replayed, replay_left}

-- HOW LONG THE NET MAY BE

at_most : (whole fits here : Bool) (field most : ℕ) → (fits ≡ true → field ≤ most) → cond (whole && (fits && here)) field 0 ≤ most
at_most true true true field most h = h refl
at_most true true false field most h = omega arith
at_most true false here field most h = omega arith
at_most false fits here field most h = omega arith

pub net-at-most : (input : List ℕ) → net_length_in input ≤ longest_net
unfolding net_length_in has_arrived
net-at-most input =
    at_most (leb 5 (length input)) (leb (word32 input 1) longest_net) (leb (word32 input 1) (length input)) (word32 input 1) longest_net
    (leb-true (word32 input 1) longest_net)

-- ROOM FOR EVERY STATE

pub every-state-fits : (net state : List ℕ) → IsNet net → longest_state ≤ length state → check_room (net_of net) state ≡ (Ok tt)
unfolding net_of state_length
every-state-fits net state n h =
    let short : width (net_of net) ≤ 64 = width-short (net_of net) duration_limit (λ t l. (n.rows t l).interval.1) in
    let cells : byte net 6 * width (net_of net) ≤ 64 * 64 = mul-le-mul {n₂ = 64} {m₂ = 64} (few_transitions net n) short in
    (room-exact (net_of net) state).1 (omega (arith, h, cells, few_places net n))

-- A LOG THAT IS TOO LONG

pub long-log : (log : List ℕ) → log_length event_limit < length log → check_log log ≡ Err fault.LogFrame
long-log log h = (log-faulty log).1 (λ is. not-few is.few is.least is.whole)
  where
    not-few : (length log - 5) / 2 ≤ event_limit → 5 ≤ length log → (length log - 5) % 2 ≡ 0 → ⊥
    not-few few least whole = omega arith

-- two logs that are refused alike tell and leave the same
module _ (net state log log' : List ℕ) (why : Fault) (bad : check_log log ≡ Err why) (bad' : check_log log' ≡ Err why) where
  alike : examine_log net state log ≡ examine_log net state log'
  unfolding examine_log
  alike = rw (bad, bad') refl

  refused : (x : Examined) → examine_state net state ≡ x → (w : Fault) × (examine_log net state log ≡ Err w)
  unfolding examine_log
  refused (Ok s) e = (why, rw (e, bad) refl)
  refused (Err w) e = (w, rw e refl)

  pub told-alike : run_told net state log false ≡ run_told net state log' false
  unfolding run_told
  told-alike = let r = refused _ refl in rw (r.1, sym alike ∙ r.1) refl

  pub left-alike : run_left net state log false ≡ run_left net state log' false
  unfolding run_left
  left-alike = let r = refused _ refl in rw (r.1, sym alike ∙ r.1) refl

-- WHAT IS CUT OFF CHANGES NOTHING

module _ (input : List ℕ) (m : ℕ) (much : enough ≤ m) (cut : m ≤ length input) where
  same-field : word32 (take m input) 1 ≡ word32 input 1
  unfolding word word32
  same-field =
      rw (
        get_or-take m input 1 0 (omega (arith, much)),
        get_or-take m input 2 0 (omega (arith, much)),
        get_or-take m input 3 0 (omega (arith, much)),
        get_or-take m input 4 0 (omega (arith, much)),
      ) refl

  whole : length (take m input) ≡ m
  whole = length-take-le m input cut

  same_test : (x : Bool) → leb (word32 input 1) longest_net ≡ x → has_arrived (take m input) ≡ has_arrived input
  unfolding has_arrived
  same_test true e =
      let f : word32 input 1 ≤ longest_net = leb-true (word32 input 1) longest_net e in
      rw (
        same-field,
        e,
        whole,
        le-leb 5 m (omega (arith, much)),
        le-leb 5 (length input) (omega (arith, much)),
        le-leb (word32 input 1) m (omega (arith, f, much)),
        le-leb (word32 input 1) (length input) (omega (arith, f, much)),
      ) refl
  same_test false e =
      rw (same-field, e, whole, le-leb 5 m (omega (arith, much)), le-leb 5 (length input) (omega (arith, much))) refl

  same_length : net_length_in (take m input) ≡ net_length_in input
  unfolding net_length_in
  same_length = rw (same_test _ refl, same-field) refl

  same-net : net_in (take m input) ≡ net_in input
  same-net = rw same_length (take-take (net_length_in input) m input (omega (arith, net-at-most input, much)))

  cut-log : check_log (log_in (take m input)) ≡ Err fault.LogFrame
  cut-log = rw same_length (long-log (drop (net_length_in input) (take m input))
      (omega (arith, length-drop (net_length_in input) (take m input), whole, net-at-most input, much)))

  whole-log : check_log (log_in input) ≡ Err fault.LogFrame
  whole-log = long-log (log_in input) (omega (arith, length-drop (net_length_in input) input, net-at-most input, much))

  module _ (state : List ℕ) where
    pub same-told : replayed (take m input) state ≡ replayed input state
    unfolding replayed
    same-told =
        let s = initial_left (net_in input) state in
        let t = told-alike (net_in input) s (log_in (take m input)) (log_in input) fault.LogFrame cut-log whole-log in
        let l = left-alike (net_in input) s (log_in (take m input)) (log_in input) fault.LogFrame cut-log whole-log in
        rw (same-net, t, l) refl

    pub same_left : replay_left (take m input) state ≡ replay_left input state
    unfolding replay_left
    same_left =
        let s = initial_left (net_in input) state in
        let l = left-alike (net_in input) s (log_in (take m input)) (log_in input) fault.LogFrame cut-log whole-log in
        rw (same-net, l) refl
