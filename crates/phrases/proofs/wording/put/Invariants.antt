-- What is put from here on completes the words.
use Rattle.std.proofs.Common.{◌≡◌, List, ℕ, ◌+◌, ◌*◌, ◌≤◌, length, drop}
use Rattle.phrases.specs.Wording.{piece_most, Worded}
use Rattle.phrases.proofs.wording.put.Given as goal

abbrev pub invariant-loop-byte : goal.invariant-loop-byte
invariant-loop-byte l =
    (l.end ≤ l.at + l.byte-index * piece_most) × (length l.out ≡ length l.initial.out)
    × ((b : List ℕ) (e : ℕ) → Worded l.fn.numbers l.names l.out l.end (drop l.byte-index l.words) b e → Worded l.fn.numbers l.names l.initial.out l.initial.end l.words b e)
