-- The search from the line at hand on is the search through all lines.
use Rattle.std.proofs.Common.{◌≡◌, ◌-◌, ◌≤◌, take, drop}
use Rattle.phrases.specs.Names.{lines_of, next_bad_in, next_bad}
use Rattle.phrases.proofs.Lined.{IsOneLine}
use Rattle.phrases.proofs.names.next_bad.Given as goal

abbrev pub invariant-loop-end : goal.invariant-loop-end
invariant-loop-end l = record {
  begun : l.from ≤ l.end;
  counted : l.before ≤ l.from;
  one_line : IsOneLine (take (l.end - l.from) (drop l.from l.names));
  searched : next_bad_in l.after l.before (lines_of (drop l.from l.names)) ≡ next_bad l.names l.after;
}
