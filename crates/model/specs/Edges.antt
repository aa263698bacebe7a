-- Document 01's limits and the bytes of an event, at their edges, as numbers that a reader can compare with the document.
-- Assumes nothing.
use Rattle.std.specs.Prelude.{◌≡◌, true, false, [], ◌∷◌}
use Rattle.model.specs.declared.event.Event.TheVariants as event
use Rattle.model.specs.Age.{column_of, age_of}
use Rattle.model.specs.Event.{event_of, is_tick, is_start}
use Rattle.model.specs.Limits.{is_sized, is_interval, is_logged, is_held}
use Rattle.model.specs.Cases.{log}

pub record LimitsAtEdges : Type 0 where
  pub places : (is_sized 1 1 ≡ true) × (is_sized 64 1 ≡ true) × (is_sized 65 1 ≡ false) × (is_sized 0 1 ≡ false)
  pub transitions : (is_sized 1 64 ≡ true) × (is_sized 1 65 ≡ false) × (is_sized 1 0 ≡ false)
  pub durations : (is_interval 0 0 ≡ true) × (is_interval 63 63 ≡ true) × (is_interval 0 64 ≡ false) × (is_interval 1 0 ≡ false)
  pub events : (is_logged 0 ≡ true) × (is_logged 24000 ≡ true) × (is_logged 24001 ≡ false)
  pub tokens : (is_held 0 ≡ true) × (is_held 65535 ≡ true) × (is_held 65536 ≡ false)

-- the column after age j is j + 1
pub record ColumnsAtEdges : Type 0 where
  pub first : (column_of (record { 0 = 0 }) ≡ record { 0 = 1 }) × (age_of (record { 0 = 1 }) ≡ record { 0 = 0 })
  pub last : (column_of (record { 0 = 255 }) ≡ record { 0 = 256 }) × (age_of (record { 0 = 256 }) ≡ record { 0 = 255 })

pub record BytesAtEdges : Type 0 where
  pub tick : (event_of 0 0 ≡ event.Tick) × (event_of 0 1 ≡ event.Malformed) × (event_of 0 255 ≡ event.Malformed)
  pub start : (event_of 1 0 ≡ event.Start 0) × (event_of 64 0 ≡ event.Start 63) × (event_of 64 1 ≡ event.Malformed) × (event_of 1 255 ≡ event.Malformed)
  pub end : (event_of 65 0 ≡ event.End 0 (record { 0 = 0 })) × (event_of 128 255 ≡ event.End 63 (record { 0 = 255 }))
  pub nothing : (event_of 129 0 ≡ event.Malformed) × (event_of 255 255 ≡ event.Malformed)
  -- only the pair 0, 0 is called a tick, and only a pair 1..64, 0 a start
  pub called_tick : (is_tick 0 0 ≡ true) × (is_tick 0 1 ≡ false) × (is_tick 1 0 ≡ false) × (is_tick 255 255 ≡ false)
  pub called_start : (is_start 1 0 ≡ true) × (is_start 64 0 ≡ true) × (is_start 0 0 ≡ false) × (is_start 65 0 ≡ false) × (is_start 64 1 ≡ false) × (is_start 1 255 ≡ false)
  -- the events of document 01's log: 01 00 00 00 41 01 02 00 42 00
  pub of_the_log : (event_of 0x01 0x00 ∷ event_of 0x00 0x00 ∷ event_of 0x41 0x01 ∷ event_of 0x02 0x00 ∷ event_of 0x42 0x00 ∷ []) ≡ log
