use Rattle.std.proofs.Common.{◌≡◌, take}
use Rattle.lynx_status.specs.RecordLines.{request_lines}
use Rattle.lynx_status.proofs.record_lines.request_lines.Given as goal

-- the records so far have their lines
abbrev pub invariant-loop-record : goal.invariant-loop-record
invariant-loop-record l = l.text.items ≡ request_lines l.client l.number (take l.record-index l.records)
