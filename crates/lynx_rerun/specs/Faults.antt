-- Why a run over stores stops, as it is told.
use Rattle.std.specs.Prelude.{ℕ}
use Rattle.lynx_report.specs.declared.run.RunFault.TheVariants as run
use Rattle.lynx_rerun.specs.declared.fault.RerunFault.{RerunFault}
use Rattle.lynx_rerun.specs.declared.fault.RerunFault.TheVariants.{Apart, Run, Store}
use Rattle.lynx_server.specs.declared.fault.OpenFault.{OpenFault}
use Rattle.lynx_server.specs.declared.fault.OpenFault.TheVariants as opening
use Rattle.lynx_store.specs.declared.fault.StoreFault.{StoreFault}
use Rattle.lynx_store.specs.declared.fault.StoreFault.TheVariants as store
use Rattle.lynx_store_files.specs.declared.folder.FolderFault.{FolderFault}
use Rattle.lynx_store_files.specs.declared.folder.FolderFault.TheVariants as folder
use Rattle.lynx_weave.specs.declared.gather_fault.GatherFault.{GatherFault}
use Rattle.lynx_weave.specs.declared.gather_fault.GatherFault.TheVariants as gather

-- want of memory
abbrev pub no_memory : RerunFault
no_memory = Run run.Memory

-- what is wrong with the store of that server
abbrev pub store_fault : ℕ → StoreFault → RerunFault
store_fault server store.Memory = no_memory
store_fault server fault = Store server fault

-- what is wrong with the stores of a folder: one that is lost is damaged
abbrev pub folder_fault : FolderFault → RerunFault
folder_fault (folder.Store server fault) = store_fault server fault
folder_fault (folder.Missing server) = Store server store.Damaged
folder_fault folder.Memory = no_memory

-- what is wrong with what it holds
abbrev pub contents_fault : ℕ → OpenFault → RerunFault
contents_fault server (opening.Damaged place) = Store server store.Damaged
contents_fault server opening.Store = Store server store.Store
contents_fault server opening.Memory = no_memory

-- why stores can't be gathered
abbrev pub gather_fault : GatherFault → RerunFault
gather_fault (gather.Load server) = Store server store.Store
gather_fault (gather.Weave fault) = Apart fault
gather_fault gather.Memory = no_memory
