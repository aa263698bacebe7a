-- How much the terms of a sum weigh at most: a weight of a place is two bytes, an arc one, a marking or a count two, and a width one.
-- Assumes nothing.
use Rattle.std.specs.Prelude.{ℕ, ◌*◌}
use Rattle.model.specs.Limits.{place_limit}

-- the largest number of one byte, and of two
abbrev pub byte_most : ℕ
byte_most = 255

abbrev pub word_most : ℕ
word_most = 65535

-- an arc, and the tokens of a place
abbrev pub arc_most : ℕ
arc_most = word_most * byte_most

abbrev pub tokens_most : ℕ
tokens_most = word_most * word_most

-- all firings of a transition, of as many ages as a width of one byte has, each weighing its arcs from all places
abbrev pub firings_most : ℕ
firings_most = (byte_most * word_most) * (place_limit * arc_most)
