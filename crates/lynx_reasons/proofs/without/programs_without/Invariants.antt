use Rattle.std.proofs.Common.{◌≡◌, take, []}
use Rattle.lynx_reasons.specs.Culprits.{left_of}
use Rattle.lynx_reasons.proofs.without.programs_without.Given as goal

-- those of the programs so far that are left
abbrev pub invariant-loop-number : goal.invariant-loop-number
invariant-loop-number l =
    l.left ≡ record {
      version = l.set.version;
      servers = l.set.servers;
      tables = [];
      shards = [];
      programs = left_of l.culprit 0 (take l.number l.set.programs);
    }
