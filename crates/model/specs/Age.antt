-- Ages and columns of the clock matrix: "the value h(i, j + 1) represents the number of active transitions t_i with age j"
-- (Definition 3 of document 004).
-- Assumes nothing.
use Rattle.std.specs.Prelude.{◌+◌, ◌-◌}
use Rattle.model.specs.declared.age.Age.{Age}
use Rattle.model.specs.declared.age.Column.{Column}

abbrev pub column_of : Age → Column
column_of a = record { 0 = a.0 + 1 }

abbrev pub age_of : Column → Age
age_of c = record { 0 = c.0 - 1 }
