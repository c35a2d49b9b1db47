-- What a keeper keeps.
use Rattle.std.specs.Prelude.{ℕ, ◌≡◌, ◌⊎◌, ◌+◌, ◌-◌, ◌^◌, ◌≤◌, min, refl, [], ◌∷◌, ◌++◌}
use Rattle.std.specs.Coded.{Coded, code_by, coded×, coded_ℕ, coded_list}
use Rattle.std.specs.FinMap as map
use Rattle.lynx_cells.specs.Database.{Database, ChangeSet, applied, empty_database}
use Rattle.lynx_entry.specs.declared.entry.Entry.{Entry}
use Rattle.lynx_entry.specs.contracts.entry.Entry as entry
use Rattle.lynx_entry.specs.Entry.{History}
use Rattle.lynx_keep.specs.declared.keeper.Loaded.{Loaded}

-- the entries in order, and the cells after all of them
pub record KeptState : Type 0 where
  pub entries : History
  pub cells : Database

-- What is said of a kind of keeper.
pub record Terms (K : Type 0) : Type 1 where
  -- the store has given back what it was given, so far; it may cease at any call, and no call tells
  -- it
  pub sound : K → Type 0
  -- this is what is kept
  pub keeps : K → KeptState → Type 0
  -- what a stop at this moment leaves for the next open is one of these two
  pub leaves : K → KeptState → KeptState → Type 0
  -- how often the store has failed
  pub counted : K → ℕ
  -- the first is kept for good, and the second is kept, with what is held back behind the first
  pub rests : K → KeptState → KeptState → Type 0
  -- whose store it is, by which what a stop leaves is told
  pub Owner : Type 0
  pub owner : K → Owner

-- what was kept for good is so still, and what is kept goes from the one to the other
abbrev pub RestsOn : {K : Type 0} → Terms K → K → K → KeptState → KeptState → Type 0
RestsOn terms old new before after =
    terms.sound new → (settled : KeptState) → terms.rests old settled before
    → terms.rests new settled after

-- what was read back
abbrev pub kept_in : Loaded → KeptState
kept_in loaded = record { entries = loaded.entries.items; cells = loaded.cells.database }

-- a new keeper keeps nothing
abbrev pub nothing_kept : KeptState
nothing_kept = record { entries = []; cells = empty_database }

-- one more entry, with the changes of its cells
abbrev pub with_entry : KeptState → Entry → ChangeSet → KeptState
with_entry kept entry changes =
    record { entries = kept.entries ++ entry ∷ []; cells = applied changes kept.cells }

-- more entries, with the changes of their cells
abbrev pub with_entries : KeptState → History → ChangeSet → KeptState
with_entries kept entries changes =
    record { entries = kept.entries ++ entries; cells = applied changes kept.cells }

-- a keeper in memory: what it is seen as is kept, and it never fails
abbrev pub memory_terms : Terms KeptState
memory_terms = record {
  sound = λ keeper. Unit {0};
  keeps = λ keeper kept. kept ≡ keeper;
  leaves = λ keeper one other. (keeper ≡ one) ⊎ (keeper ≡ other);
  counted = λ keeper. 0;
  rests = λ keeper settled kept. Unit {0};
  Owner = Unit {0};
  owner = λ keeper. tt;
}

-- the count rose, unless it is at the limit of a u64
abbrev pub HasRisen : ℕ → ℕ → Type 0
HasRisen old new = min (old + 1) (2 ^ 64 - 1) ≤ new

-- what is kept is stored as the pair of its fields
abbrev pub kept_code : Coded KeptState
kept_code =
    code_by (History × Database)
    (coded× (coded_list entry.the_row.coded) (map.code (coded× coded_ℕ coded_ℕ) coded_ℕ))
    (λ kept. (kept.entries, kept.cells)) (λ pair. record { entries = pair.0; cells = pair.1 })
    (λ _. refl)
