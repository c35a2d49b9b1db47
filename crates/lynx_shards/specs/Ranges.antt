-- Which ranges a table may declare.
use Rattle.std.specs.Prelude.{◌≡◌, ℕ, ◌+◌, ◌≤◌, ◌^◌, List, [], ◌∷◌, Option, Some, None, if◌then◌else◌, nat_lt, nat_le, nat_eq, map, Result, Ok, Err}
use Rattle.std.specs.Global.{Vec}
use Rattle.lynx_shards.specs.declared.range.Range.{Range}
use Rattle.lynx_shards.specs.declared.shard.Shard.{Shard}
use Rattle.lynx_shards.specs.declared.fault.ShardFault.{ShardFault}
use Rattle.lynx_shards.specs.declared.fault.ShardFault.TheVariants.{Gap, Overlap, BadServer, Memory}

-- the key that the next range begins with, after one that ended at before, if there was one
abbrev pub next_key : Option ℕ → ℕ
next_key None = 0
next_key (Some before) = before + 1

-- the first fault of a range that follows one that ended at before
abbrev pub range_fault : ℕ → Option ℕ → ℕ → ℕ → ℕ → Option ShardFault
range_fault servers before low high server =
    if nat_lt (next_key before) low then Some Gap
    else (if nat_lt low (next_key before) then Some Overlap
    else (if nat_lt high low then Some Overlap
    else (if nat_le servers server then Some BadServer else None)))

-- the fault that comes first
abbrev pub first_fault : Option ShardFault → Option ShardFault → Option ShardFault
first_fault (Some fault) later = Some fault
first_fault None later = later

-- the shard of a range
abbrev pub shard_of : Range → Shard
shard_of range = record { low = range.low; high = range.high; server = range.server }

-- where the last of the shards ends, or before where there are none
abbrev pub last_key : Option ℕ → List Shard → Option ℕ
last_key before [] = before
last_key before (shard ∷ shards) = last_key (Some shard.high) shards

-- the shards cut the keys from low on, and below end, into ranges, each beginning where the one
-- before it ended
abbrev pub Cuts : ℕ → List Shard → ℕ → Type 0
Cuts low [] end = low ≡ end
Cuts low (shard ∷ shards) end =
    (shard.low ≡ low) × (low ≤ shard.high) × Cuts (shard.high + 1) shards end

-- the shards cover all keys, none of them twice
abbrev pub Covers : List Shard → Type 0
Covers shards = Cuts 0 shards (2 ^ 64)

-- each table's shards cover all keys
abbrev pub EachCovers : List (List Shard) → Type 0
EachCovers [] = Unit {0}
EachCovers (shards ∷ tables) = Covers shards × EachCovers tables

-- what is answered where this is the first fault: the fault, or want of memory
abbrev pub Judges : {X : Type 0} → Option ShardFault → Result X ShardFault → Type 0
Judges fault (Ok x) = fault ≡ None
Judges fault (Err Memory) = Unit {0}
Judges fault (Err Gap) = fault ≡ Some Gap
Judges fault (Err Overlap) = fault ≡ Some Overlap
Judges fault (Err BadServer) = fault ≡ Some BadServer

-- the first fault of a table's ranges that follow one that ended at before; past the last one there
-- may be a gap
abbrev pub table_fault : ℕ → Option ℕ → List Range → Option ShardFault
table_fault servers before [] = if nat_eq (next_key before) (2 ^ 64) then None else Some Gap
table_fault servers before (range ∷ ranges) =
    first_fault (range_fault servers before range.low range.high range.server)
    (table_fault servers (Some range.high) ranges)

-- the first fault of the ranges of all tables
abbrev pub tables_fault : ℕ → List (List Range) → Option ShardFault
tables_fault servers [] = None
tables_fault servers (ranges ∷ tables) =
    first_fault (table_fault servers None ranges) (tables_fault servers tables)

-- the lists in vectors
abbrev pub lists : List (Vec Range) → List (List Range)
lists vectors = map (λ vector. vector.items) vectors

-- the shards of these ranges
abbrev pub shards_of : List (List Range) → List (List Shard)
shards_of tables = map (map shard_of) tables
