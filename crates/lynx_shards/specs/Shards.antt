-- Which server keeps a key.
use Rattle.std.specs.Prelude.{◌≡◌, ℕ, ◌≤◌, ◌⊎◌, List, [], ◌∷◌, if◌then◌else◌, nat_le, unwrap_or, slice_get}
use Rattle.std.specs.List.{AllByRecursion}
use Rattle.lynx_shards.specs.declared.shard.Shard.{Shard}

-- the server of the first shard that doesn't end below the key
abbrev pub server_in : List Shard → ℕ → ℕ
server_in [] key = 0
server_in (shard ∷ shards) key =
    if nat_le key shard.high then shard.server else server_in shards key

-- the server that keeps a key of a table, where the tables have these shards
abbrev pub server_of : List (List Shard) → ℕ → ℕ → ℕ
server_of tables table key = server_in (unwrap_or (slice_get tables table) []) key

-- the shard has the key
abbrev pub Has : Shard → ℕ → Type 0
Has shard key = (shard.low ≤ key) × (key ≤ shard.high)

-- just one of the shards has the key, and it is at that server
abbrev pub OneHas : List Shard → ℕ → ℕ → Type 0
OneHas [] key server = ⊥
OneHas (shard ∷ shards) key server =
    (Has shard key × (shard.server ≡ server) × AllByRecursion (λ other. ¬ Has other key) shards)
    ⊎ (¬ Has shard key × OneHas shards key server)
