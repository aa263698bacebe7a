-- The parts of what is printed, put together: the line of the stop, and the lines behind it.
-- Assumes nothing.
use mathlib.Core.Path.{◌≡◌, refl}
use mathlib.Core.List.{List, [], ◌∷◌}
use Prim.Native.Nat.{ℕ}
use lib.ListN.{take}
use Rattle.text.specs.Lines.{Line}
use Rattle.replay.specs.declared.sheet.Sheet.{Sheet}
use Rattle.replay.specs.Lines.{cells_shown, FirstSheet}
use Rattle.pageshow.specs.declared.build.Built.{Built}
use Rattle.pageshow.specs.Built.{alone_length, built, built_state, built_log, AsReplayed}
use Rattle.pageshow.specs.Sheet.{stop_name, Shows, AsMenurun}

module _ (input state log before : List ℕ) (budget n : ℕ) (is : n ≡ alone_length input) (made : Built) (state' log' headed after : List ℕ) (behind : ℕ) (sheet : Sheet)
    (told : made ≡ built (take n input) state log budget)
    (line : Line before 0 stop_name (made.stop ∷ []) [] headed behind)
    (others : FirstSheet headed behind made.told state' after sheet.end sheet.next) where
  pub shows : state' ≡ built_state (take n input) state log budget → log' ≡ built_log (take n input) state log budget
      → sheet.cells ≡ cells_shown made.told.number state'
      → Shows input budget state log before (record { log = made.log; sheet = sheet }) state' log' after
  shows s l cells = record {
    lines = rw (← is, ← told) (record { headed = headed; behind = behind; stop_line = line; others = others });
    cells_are = rw (← is, ← told) cells;
    log_is = rw (← is, ← told) refl;
    state-left = rw (← is) s;
    log-left = rw (← is) l;
  }

  pub as-menurun : AsReplayed (take n input) state made state' log'
      → AsMenurun input budget state log before (record { log = made.log; sheet = sheet }) state' log' after
  as-menurun as-replayed =
      rw (← is, ← told)
      (λ zero.
      let (t, s) = as-replayed zero in
      (record { headed = headed; behind = behind; stop_line = line; others = rw (t, s) at others }, s))
