-- Why copies weren't restored, as it is told.
use Rattle.std.specs.Prelude.{ℕ}
use Rattle.lynx_cluster.specs.declared.fault.StartFault.{StartFault}
use Rattle.lynx_cluster.specs.declared.fault.StartFault.TheVariants as start
use Rattle.lynx_restore.specs.declared.fault.RestoreFault.{RestoreFault}
use Rattle.lynx_restore.specs.declared.fault.RestoreFault.TheVariants.{Copy, Memory, Store}
use Rattle.lynx_restore.specs.declared.refill_fault.RefillFault.{RefillFault}
use Rattle.lynx_restore.specs.declared.refill_fault.RefillFault.TheVariants as refill
use Rattle.lynx_server.specs.declared.fault.OpenFault.{OpenFault}
use Rattle.lynx_server.specs.declared.fault.OpenFault.TheVariants as opening
use Rattle.lynx_store.specs.declared.fault.StoreFault.{StoreFault}
use Rattle.lynx_store.specs.declared.fault.StoreFault.TheVariants as store
use Rattle.lynx_weave.specs.declared.fault.WeaveFault.{WeaveFault}
use Rattle.lynx_weave.specs.declared.fault.WeaveFault.TheVariants as weave

-- what is wrong with the new store of that server
abbrev pub store_fault : ℕ → StoreFault → RestoreFault
store_fault server store.Memory = Memory
store_fault server fault = Store server fault

-- what is wrong with what it holds
abbrev pub contents_fault : ℕ → OpenFault → RestoreFault
contents_fault server (opening.Damaged place) = Store server store.Damaged
contents_fault server opening.Store = Store server store.Store
contents_fault server opening.Memory = Memory

-- why it isn't filled
abbrev pub filling_fault : ℕ → RefillFault → RestoreFault
filling_fault server refill.Differs = Store server store.Damaged
filling_fault server refill.Store = Store server store.Store
filling_fault server refill.Memory = Memory

-- why servers don't open over the copies, of which there is one for each; no thread is made
abbrev pub start_fault : StartFault → RestoreFault
start_fault (start.Open server fault) = Copy server fault
start_fault start.OtherCount = Memory
start_fault start.NoThread = Memory
start_fault start.Memory = Memory

-- why the copies don't belong together, where nobody was told anything
abbrev pub apart_fault : WeaveFault → RestoreFault
apart_fault (weave.Mismatch server place) = Copy server (opening.Damaged place)
apart_fault (weave.Told session place) = Memory
apart_fault weave.Memory = Memory
