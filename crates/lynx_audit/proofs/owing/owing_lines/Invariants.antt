use Rattle.std.proofs.Common.{◌≡◌, take}
use Rattle.lynx_audit.specs.Owing.{owing_lines}
use Rattle.lynx_audit.proofs.owing.owing_lines.Given as goal

-- the hops so far have their lines
abbrev pub invariant-loop-hop : goal.invariant-loop-hop
invariant-loop-hop l = l.text.items ≡ owing_lines l.world.set l.world.list (take l.hop-index l.owed)
