-- Faults of a run.
use Rattle.lynx_carry.specs.declared.fault.CarryFault.{CarryFault}
use Rattle.lynx_carry.specs.declared.fault.CarryFault.TheVariants.{NoTable, NoWriter, TooMany, Differs, Memory}

-- a run comes to nothing else, or there is no memory
abbrev pub IsRunFault : CarryFault → Type 0
IsRunFault (NoTable table) = ⊥
IsRunFault (NoWriter table server) = ⊥
IsRunFault (TooMany server entries) = ⊥
IsRunFault Differs = Unit {0}
IsRunFault Memory = Unit {0}
