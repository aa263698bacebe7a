-- What the buffers that are still to come complete, is complete.
use Rattle.std.proofs.Common.{◌≡◌, ◌+◌, ◌≤◌, length, drop}
use Rattle.text.specs.Lines.{contents, buffers_most, all_buffered, behind_buffers}
use Rattle.text.proofs.line.put_buffers.Given as goal

abbrev pub invariant-loop-bytes : goal.invariant-loop-bytes
invariant-loop-bytes l = record {
  room : l.end + buffers_most (contents (drop l.bytes-index l.buffers)) ≤ l.at + buffers_most (contents l.buffers);
  as_long : length l.out ≡ length l.initial.out;
  shown : all_buffered l.out l.end (contents (drop l.bytes-index l.buffers)) ≡ all_buffered l.initial.out l.at (contents l.buffers);
  ends : behind_buffers l.end (contents (drop l.bytes-index l.buffers)) ≡ behind_buffers l.at (contents l.buffers);
}
