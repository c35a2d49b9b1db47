use Rattle.std.proofs.Common.{◌≡◌, ◌++◌, take}
use Rattle.std.specs.List.{flat_map}
use Rattle.std.specs.String.{string_bytes}
use Rattle.lynx_status.specs.Copies.{follows_line}
use Rattle.lynx_status.proofs.copies.put_follows.Given as goal

-- the lines of the stores so far
abbrev pub invariant-loop-copy : goal.invariant-loop-copy
invariant-loop-copy l =
    string_bytes l.text ≡ string_bytes l.initial.text ++ flat_map follows_line (take l.copy-index l.copies)
