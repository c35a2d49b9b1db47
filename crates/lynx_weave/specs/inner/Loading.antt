-- What loading keepers gives.
use Rattle.std.specs.Prelude.{ℕ, List, Result, Ok, Err}
use Rattle.std.specs.Global.{Vec}
use Rattle.lynx_entry.specs.declared.entry.Entry.{Entry}
use Rattle.lynx_keep.specs.Kept.{Terms}
use Rattle.lynx_keep.specs.declared.fault.KeepFault.{KeepFault}
use Rattle.lynx_keep.specs.declared.fault.KeepFault.TheVariants as keep
use Rattle.lynx_server.specs.Opening.{FindsFault, FindsNoRoom}
use Rattle.lynx_weave.specs.Rebuilt.{histories_in}
use Rattle.lynx_weave.specs.declared.gather_fault.GatherFault.{GatherFault}
use Rattle.lynx_weave.specs.declared.gather_fault.GatherFault.TheVariants.{Load, Weave, Memory}
use Rattle.lynx_weave.specs.Gathering.{Each, FindsAll, FindsHistory, IsUnloaded}

-- the fault of a gathering, where a keeper failed so
abbrev pub fault_of : ℕ → KeepFault → GatherFault
fault_of server keep.Failed = Load server
fault_of server keep.Memory = Memory

-- one keeper was read
abbrev pub Loads : {K : Type 0} → Terms K → K → K → Result (Vec Entry) KeepFault → Type 0
Loads terms old new (Ok entries) = FindsHistory terms old new entries.items
Loads terms old new (Err keep.Failed) = FindsFault terms old new
Loads terms old new (Err keep.Memory) = FindsNoRoom terms old new

-- all keepers were read
abbrev pub LoadsAll : {K : Type 0} → Terms K → List K → List K
    → Result (Vec (Vec Entry)) GatherFault → Type 0
LoadsAll terms old new (Ok histories) = FindsAll terms old new (histories_in histories.items)
LoadsAll terms old new (Err (Load server)) = IsUnloaded terms old new server
LoadsAll terms old new (Err (Weave fault)) = ⊥
LoadsAll terms old new (Err Memory) = Each (FindsNoRoom terms) old new
