-- Why stores weren't given to a set.
use Rattle.std.specs.Prelude.{ℕ}
use Rattle.lynx_store.specs.declared.fault.StoreFault.{StoreFault}
use Rattle.lynx_store.specs.declared.fault.StoreFault.TheVariants as stores
use Rattle.lynx_give.specs.declared.fault.GiveFault.{GiveFault}
use Rattle.lynx_give.specs.declared.fault.GiveFault.TheVariants.{Memory, Store}

-- the fault of the store of that server
abbrev pub store_fault : ℕ → StoreFault → GiveFault
store_fault server stores.Memory = Memory
store_fault server fault = Store server fault
