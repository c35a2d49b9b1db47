use Rattle.std.proofs.Common.{◌≡◌, take}
use Rattle.std.specs.BTreeMap.{get}
use Rattle.lynx_names.specs.declared.chain.ChainId.{ChainId}
use Rattle.lynx_report.specs.Owed.{chain_cmp}
use Rattle.lynx_audit.specs.Latest.{latest_of}
use Rattle.lynx_audit.proofs.latest.latest_chains.Given as goal

-- the entries so far are noted
abbrev pub invariant-loop-place : goal.invariant-loop-place
invariant-loop-place l = (chain : ChainId) → get chain_cmp l.chains chain ≡ latest_of (take l.place l.world.list) chain
