-- What is told of stores, starts and closes that fail.
use Rattle.std.specs.Prelude.{ℕ}
use Rattle.lynx_cluster.specs.declared.fault.CloseFault.{CloseFault}
use Rattle.lynx_cluster.specs.declared.fault.CloseFault.TheVariants as close
use Rattle.lynx_cluster.specs.declared.fault.StartFault.{StartFault}
use Rattle.lynx_cluster.specs.declared.fault.StartFault.TheVariants as start
use Rattle.lynx_server.specs.declared.fault.OpenFault.{OpenFault}
use Rattle.lynx_server.specs.declared.fault.OpenFault.TheVariants as opening
use Rattle.lynx_service.specs.declared.fault.CloseWord.TheVariants as word
use Rattle.lynx_service.specs.declared.fault.CopyWord.{CopyWord}
use Rattle.lynx_service.specs.declared.fault.CopyWord.TheVariants as copy
use Rattle.lynx_service.specs.declared.fault.Damage.TheVariants.{At, Missing, Somewhere}
use Rattle.lynx_service.specs.declared.fault.ServeFault.{ServeFault}
use Rattle.lynx_service.specs.declared.fault.ServeFault.TheVariants.{Close, Copy, Memory, NoThread, Store}
use Rattle.lynx_service.specs.declared.fault.StoreWord.TheVariants as words
use Rattle.lynx_store.specs.declared.fault.StoreFault.{StoreFault}
use Rattle.lynx_store.specs.declared.fault.StoreFault.TheVariants as store
use Rattle.lynx_store_files.specs.declared.folder.FolderFault.{FolderFault}
use Rattle.lynx_store_files.specs.declared.folder.FolderFault.TheVariants as folder
use Rattle.lynx_weave.specs.declared.fault.WeaveFault.{WeaveFault}
use Rattle.lynx_weave.specs.declared.fault.WeaveFault.TheVariants as weave

-- what is wrong with the store of that server
abbrev pub store_fault : ℕ → StoreFault → ServeFault
store_fault server store.OtherSet = Store server words.OtherSet
store_fault server store.OtherVersion = Store server words.OtherVersion
store_fault server store.Damaged = Store server (words.Damaged Somewhere)
store_fault server store.Store = Store server words.Store
store_fault server store.Memory = Memory

-- there is no store of that server, where others have entries
abbrev pub missing_fault : ℕ → ServeFault
missing_fault server = Store server (words.Damaged Missing)

-- what is wrong with the stores of a folder
abbrev pub folder_fault : FolderFault → ServeFault
folder_fault (folder.Store server fault) = store_fault server fault
folder_fault (folder.Missing server) = missing_fault server
folder_fault folder.Memory = Memory

-- what is wrong with what the store of that server holds
abbrev pub contents_fault : ℕ → OpenFault → ServeFault
contents_fault server (opening.Damaged place) = Store server (words.Damaged (At place))
contents_fault server opening.Store = Store server words.Store
contents_fault server opening.Memory = Memory

-- why the store of that server can't follow it
abbrev pub copy_fault : ℕ → CopyWord → ServeFault
copy_fault server copy.Memory = Memory
copy_fault server why = Copy server why

-- how a fault of a store that is to follow is told
abbrev pub word_of_store : StoreFault → CopyWord
word_of_store store.OtherSet = copy.OtherSet
word_of_store store.OtherVersion = copy.OtherVersion
word_of_store store.Damaged = copy.Damaged
word_of_store store.Store = copy.Store
word_of_store store.Memory = copy.Memory

-- and one of what it holds
abbrev pub word_of_contents : OpenFault → CopyWord
word_of_contents (opening.Damaged place) = copy.Damaged
word_of_contents opening.Store = copy.Store
word_of_contents opening.Memory = copy.Memory

-- why a cluster doesn't start
abbrev pub start_fault : StartFault → ServeFault
start_fault (start.Open server fault) = contents_fault server fault
start_fault start.OtherCount = NoThread
start_fault start.NoThread = NoThread
start_fault start.Memory = Memory

-- why it doesn't close well
abbrev pub close_fault : CloseFault → ServeFault
close_fault (close.Mismatch server place) = Close (word.Mismatch server place)
close_fault (close.Told session place) = Close (word.Told session place)
close_fault (close.Stopped server) = Close (word.Stopped server)
close_fault (close.Absent session) = Close (word.Absent session)
close_fault (close.Uncounted server) = Close (word.Uncounted server)
close_fault close.Memory = Memory

-- why stores don't belong together
abbrev pub apart_fault : WeaveFault → ServeFault
apart_fault (weave.Mismatch server place) = Close (word.Mismatch server place)
apart_fault (weave.Told session place) = Close (word.Told session place)
apart_fault weave.Memory = Memory
