-- What opening servers gives, and the faults that come later.
use Rattle.std.specs.Prelude.{◌≡◌, ℕ, List, Result, Ok, Err}
use Rattle.lynx_keep.specs.Kept.{Terms}
use Rattle.lynx_server.specs.declared.fault.OpenFault.TheVariants as faults
use Rattle.lynx_server.specs.Opening.{Opens}
use Rattle.lynx_server.specs.Serving.{Serving}
use Rattle.lynx_set.specs.Set.{Set}
use Rattle.lynx_cluster.specs.declared.fault.StartFault.{StartFault}
use Rattle.lynx_cluster.specs.declared.fault.StartFault.TheVariants.{OtherCount, Open, NoThread, Memory}
use Rattle.lynx_cluster.specs.Starting.{IsUnopenedAt}

-- one server was opened
abbrev pub OpensOne : {K : Type 0} → Terms K → Set → ℕ → K → Result (Serving K) StartFault → Type 0
OpensOne terms set server keeper (Ok opened) = Opens terms set server keeper (Ok opened)
OpensOne terms set server keeper (Err OtherCount) = ⊥
OpensOne terms set server keeper (Err (Open found fault)) =
    (found ≡ server) × Opens terms set server keeper (Err fault) × (fault ≡ faults.Memory → ⊥)
OpensOne terms set server keeper (Err NoThread) = ⊥
OpensOne terms set server keeper (Err Memory) = Unit {0}

-- one of the servers didn't open
abbrev pub IsOpenFault : {K : Type 0} → Terms K → Set → List K → StartFault → Type 0
IsOpenFault terms set keepers OtherCount = ⊥
IsOpenFault terms set keepers (Open server fault) = IsUnopenedAt terms set keepers server fault
IsOpenFault terms set keepers NoThread = ⊥
IsOpenFault terms set keepers Memory = Unit {0}

-- a fault that comes when all servers were opened
abbrev pub IsLate : StartFault → Type 0
IsLate OtherCount = ⊥
IsLate (Open server fault) = ⊥
IsLate NoThread = Unit {0}
IsLate Memory = Unit {0}
