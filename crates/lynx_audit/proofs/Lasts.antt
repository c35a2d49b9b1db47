-- What a chain did last is told by its last entry.
use Rattle.std.proofs.Common.{◌≡◌, cond, Option, Some}
use Rattle.std.specs.BTreeMap.{is_at}
use Rattle.std.specs.Option.{option_or}
use Rattle.lynx_names.specs.declared.chain.ChainId.{ChainId}
use Rattle.lynx_report.specs.Lasts.{told_of}
use Rattle.lynx_report.specs.Owed.{chain_cmp}
use Rattle.lynx_report.proofs.Lasts.{found_told}
use Rattle.lynx_audit.specs.declared.latest.Latest.{Latest}

-- what is found of a chain where one was noted
pub found_noted : (key chain : ChainId) (last : Latest) (old new : Option Latest) → new ≡ cond (is_at (chain_cmp key) chain) (Some last) old →
    new ≡ option_or (told_of chain (Some (key, last))) old
found_noted key chain last old new is = found_told key chain last old new is
