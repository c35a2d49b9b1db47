use Rattle.std.proofs.Common.{◌≡◌, ◌++◌, drop}
use Rattle.std.specs.String.{string_bytes}
use Rattle.lynx_lines.specs.Scripts.{script_of}
use Rattle.lynx_sample.proofs.script.script_text.Given as goal

-- what is written and what is left are the whole
abbrev pub invariant-loop-event : goal.invariant-loop-event
invariant-loop-event l = string_bytes l.text ++ script_of l.set (drop l.event-index l.events) ≡ script_of l.set l.events
