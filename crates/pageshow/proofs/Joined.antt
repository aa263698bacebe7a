-- A net with a log behind it, as menurun reads them: it finds both.
-- Assumes nothing.
use mathlib.Core.Path.{◌≡◌, refl}
use mathlib.Core.List.{List, ◌++◌}
use Prim.Native.Nat.{ℕ, ◌+◌, ◌*◌, ◌≤◌}
use native.Mathlib.Nat.{mul-le-mul}
use native.Mathlib.Omega.{arith}
use lib.ListN.{length, length-append, get_or-append}
use lib.Seq.{take_at, drop_at}
use borrow.Author.Tests.{le-leb}
use Rattle.forms.specs.Word.{byte, word, word32}
use Rattle.forms.specs.Places.{row_at}
use Rattle.forms.specs.Nets.{IsNet}
use Rattle.forms.proofs.Nets.{few_transitions, few_places}
use Rattle.replay.specs.Replayed.{longest_net, has_arrived, net_length_in, net_in, log_in}

module _ (net log : List ℕ) (is : IsNet net) where
  field_is : word32 (net ++ log) 1 ≡ length net
  unfolding word word32
  field_is =
      let least = is.head.least in
      rw (
        get_or-append net log 0 1 (omega (arith, least)),
        get_or-append net log 0 2 (omega (arith, least)),
        get_or-append net log 0 3 (omega (arith, least)),
        get_or-append net log 0 4 (omega (arith, least)),
      ) is.head.begins.length_is

  net-long : length net ≤ longest_net
  unfolding row_at
  net-long =
      let places = few_places net is in
      let rows : byte net 6 * (2 + 2 * byte net 5) ≤ 64 * 130 = mul-le-mul {n₂ = 64} {m₂ = 130} (few_transitions net is) (omega arith) in
      omega (arith, is.long, places, rows)

  length_is : net_length_in (net ++ log) ≡ length net
  unfolding net_length_in has_arrived
  length_is =
      let least = is.head.least in
      let long = length-append net log in
      rw (
        field_is,
        le-leb 5 (length (net ++ log)) (omega (arith, least, long)),
        le-leb (length net) longest_net net-long,
        le-leb (length net) (length (net ++ log)) (omega (arith, long)),
      ) refl

  pub net-found : net_in (net ++ log) ≡ net
  net-found = rw length_is (take_at net log (length net) refl)

  pub log-found : log_in (net ++ log) ≡ log
  log-found = rw length_is (drop_at net log (length net) refl)
