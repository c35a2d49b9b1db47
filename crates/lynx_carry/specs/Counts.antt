-- How many entries chains take.
use Rattle.std.specs.Prelude.{ℕ, ◌==◌, ◌≤◌, ◌<◌, List, count_by, map, sum_by}
use Rattle.std.specs.List.{range_with_len}
use Rattle.lynx_names.specs.declared.limits.TheConstants.{MAX_ENTRIES}
use Rattle.lynx_entry.specs.declared.request.Request.{Request}
use Rattle.lynx_set.specs.Lookups.{hops_of}
use Rattle.lynx_set.specs.Set.{Set}

-- how many hops of a program are at the server
abbrev pub hops_at : Set → ℕ → ℕ → ℕ
hops_at set server program = count_by (λ hop. hop.server == server) (hops_of set program)

-- how many entries the server takes of these chains, all of whose hops are done
abbrev pub entries_at : Set → List Request → ℕ → ℕ
entries_at set requests server = sum_by (λ request. hops_at set server request.program) requests

-- the same for each server of the set
abbrev pub entries_of : Set → List Request → List ℕ
entries_of set requests = map (entries_at set requests) (range_with_len 0 set.servers)

-- Each server of the set can take the entries of these chains.
abbrev pub HaveRoom : Set → List Request → Type 0
HaveRoom set requests =
    (server : ℕ) → server < set.servers → entries_at set requests server ≤ MAX_ENTRIES
