use Rattle.std.proofs.Common.{◌≡◌, ◌+◌, ◌*◌, ◌≤◌, ◌++◌, drop}
use Rattle.lynx_draw.specs.Changes.{faces_from}
use Rattle.lynx_draw.proofs.changes.faces_of.Given as goal

-- the faces so far and those that are left are the whole; each hop binds few names
abbrev pub invariant-loop-hop : goal.invariant-loop-hop
invariant-loop-hop l = record {
  read : l.faces ++ faces_from l.tables l.names l.place (drop l.hop-index l.hops) ≡ faces_from l.tables l.names l.initial.place l.hops;
  few : l.place ≤ 8 + 16 * l.hop-index;
}
