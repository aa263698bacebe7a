-- How much room a phrase has in the buffer: no words have more bytes than 256, and each takes at most so many.
-- Assumes nothing.
use Rattle.std.specs.Prelude.{ℕ, ◌*◌}
use Rattle.phrases.specs.Wording.{piece_most}

abbrev pub words_most : ℕ
words_most = 256

abbrev pub phrase_most : ℕ
phrase_most = words_most * piece_most
