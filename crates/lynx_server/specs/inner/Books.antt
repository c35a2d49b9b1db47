-- How what stands beside a history grows.
use Rattle.std.specs.Prelude.{◌≡◌, ℕ, ◌+◌, ◌<◌, if◌then◌else◌, List, [], ◌∷◌, ◌++◌, length, slice_index}
use Rattle.lynx_names.specs.declared.limits.TheConstants.{MAX_SERVERS}
use Rattle.lynx_cells.specs.Database.{Database}
use Rattle.lynx_set.specs.Set.{Set}
use Rattle.lynx_entry.specs.declared.entry.Entry.{Entry}
use Rattle.lynx_entry.specs.Entry.{History}
use Rattle.lynx_rules.specs.Turns.{is_begun, begins_visiting, ends_visit}
use Rattle.lynx_rules.specs.Tables.{after_entry}
use Rattle.lynx_rules.specs.Lawful.{IsLawful}

-- what stands beside a history grew with a lawful entry
pub record Grows (set : Set) (server : ℕ) (history : History) (entry : Entry)
    (counters turns chains : List ℕ) (cells : Database)
    (more_counters more_turns more_chains : List ℕ) (more_cells : Database) : Type 0 where
  pub lawful : IsLawful set server history entry
  pub counters_rise : (visited : ℕ) → visited < MAX_SERVERS → slice_index more_counters visited
      ≡ (if begins_visiting set visited entry then slice_index counters visited + 1 else slice_index
      counters visited)
  pub turns_rise : (origin : ℕ) → origin < MAX_SERVERS → slice_index more_turns origin
      ≡ (if ends_visit set server origin entry then slice_index turns origin + 1 else slice_index
      turns origin)
  pub chains_grow : more_chains ≡ (if is_begun entry then chains ++ length history ∷ [] else chains)
  pub cells_grow : more_cells ≡ after_entry set cells entry
