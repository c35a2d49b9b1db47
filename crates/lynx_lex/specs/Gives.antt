-- What a function answers that reads, where reading a list gives a value or none.
use Rattle.std.specs.Prelude.{◌≡◌, Option, Some, None, Result, Ok, Err}
use Rattle.lynx_lex.specs.declared.fault.FaultKind.{FaultKind}
use Rattle.lynx_lex.specs.declared.fault.FaultKind.TheVariants.{Memory, TooLong, BadVersion, Shard}
use Rattle.lynx_shards.specs.declared.fault.ShardFault.{ShardFault}
use Rattle.lynx_shards.specs.declared.fault.ShardFault.TheVariants as shards

-- a fault of a line means that nothing is read, unless memory ran out
abbrev pub Fails : {Y : Type 0} → FaultKind → Option Y → Type 0
Fails Memory read = Unit {0}
Fails TooLong read = ⊥
Fails BadVersion read = ⊥
Fails kind read = read ≡ None

-- a value is what is read
abbrev pub Gives : {X Y : Type 0} → (X → Y) → Result X FaultKind → Option Y → Type 0
Gives view (Ok x) read = read ≡ Some (view x)
Gives view (Err kind) read = Fails kind read

-- the fault of a line whose shard has this one
abbrev pub shard_kind : ShardFault → FaultKind
shard_kind shards.Memory = Memory
shard_kind fault = Shard fault

-- a fault of a line, or want of memory
abbrev pub IsOfLine : FaultKind → Type 0
IsOfLine TooLong = ⊥
IsOfLine BadVersion = ⊥
IsOfLine kind = Unit {0}
