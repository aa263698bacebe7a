-- The search from the line at hand on is the search through all lines.
use Rattle.std.proofs.Common.{◌≡◌, ◌-◌, ◌≤◌, take, drop}
use Rattle.phrases.specs.Names.{word_of, lines_of, name_in, name_of}
use Rattle.phrases.proofs.Lined.{IsOneLine}
use Rattle.phrases.proofs.names.name_of.Given as goal

abbrev pub invariant-loop-end : goal.invariant-loop-end
invariant-loop-end l = record {
  begun : l.from ≤ l.end;
  one_line : IsOneLine (take (l.end - l.from) (drop l.from l.names));
  searched : name_in (word_of l.kind) l.number l.from (lines_of (drop l.from l.names)) ≡ name_of l.names l.kind l.number;
}
