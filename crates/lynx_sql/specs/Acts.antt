-- The rows of `acted`.
use Rattle.std.specs.Prelude.{◌≡◌, ℕ, ◌+◌, ◌<◌, ◌≤◌, ◌^◌, ℤ, pos, List, [], ◌∷◌, ◌++◌, map, Option, Some, None, Vec, IsPermutation}
use Rattle.std.specs.Prelude.{◌<ℤ◌}
use Rattle.std.specs.Int.{w64, to_be_bytes}
use Rattle.std.specs.List.{AllByRecursion}
use Rattle.std.specs.declared.alloc.Global.{Global}
use Rattle.sqlite.specs.declared.types.Value.TheVariants.{Int, Blob}
use Rattle.sqlite.specs.Order.{Row}
use Rattle.sqlite_trees.specs.Tree.{IsAscending}
use Rattle.lynx_sql.specs.declared.acts.Acted.{Acted}
use Rattle.lynx_sql.specs.declared.version.StoreVersion.{StoreVersion}
use Rattle.lynx_sql.specs.declared.version.StoreVersion.TheVariants.{One, Two}

-- a hop as it is stored, under its row number
pub record StoredAct : Type 0 where
  pub id : ℤ
  pub act : Acted

-- what the query shows of a hop
abbrev pub shown_act : Acted → Row
shown_act act =
    Int (pos act.origin) ∷ Blob (to_be_bytes w64 act.index) ∷ Int (pos act.hop)
    ∷ Int (pos act.place) ∷ []

abbrev pub act_row : StoredAct → Row
act_row s = Int s.id ∷ shown_act s.act

-- the rows are those of these hops, one for each
pub record HoldsActs (rows : List Row) (acts : List Acted) : Type 0 where
  pub stored : List StoredAct
  pub rows_are : rows ≡ map act_row stored
  pub rise : IsAscending (λ s later. s.id <ℤ later.id) stored
  pub same : IsPermutation (map (λ s. s.act) stored) acts

-- the rows of a store of version 2; one of version 1 has none to speak of
abbrev pub HoldsActed : List Row → Option (List Acted) → Type 0
HoldsActed rows None = Unit {0}
HoldsActed rows (Some acts) = HoldsActs rows acts

-- the query shows these hops; in a store of version 1 there is nothing to show
abbrev pub ShowActed : Option (Vec Row Global) → Option (List Acted) → Type 0
ShowActed None None = Unit {0}
ShowActed None (Some acts) = ⊥
ShowActed (Some rows) None = ⊥
ShowActed (Some rows) (Some acts) = rows.items ≡ map shown_act acts

-- the hops that are kept, none in a store of version 1
abbrev pub acts_in : Option (List Acted) → List Acted
acts_in None = []
acts_in (Some acts) = acts

-- the version whose stores keep hops so
abbrev pub version_of : Option (List Acted) → StoreVersion
version_of None = One
version_of (Some acts) = Two

-- a new store keeps no hop
abbrev pub no_acts : StoreVersion → Option (List Acted)
no_acts One = None
no_acts Two = Some []

-- one more hop, where the store keeps hops and there is one
abbrev pub with_acted : Option (List Acted) → Option Acted → Option (List Acted)
with_acted None acted = None
with_acted (Some acts) None = Some acts
with_acted (Some acts) (Some act) = Some (acts ++ act ∷ [])

-- more hops, where the store keeps hops
abbrev pub with_acts : Option (List Acted) → List Acted → Option (List Acted)
with_acts None more = None
with_acts (Some acts) more = Some (acts ++ more)

-- the hop that is added to a store of a version
abbrev pub noted : StoreVersion → Option Acted → List Acted
noted One act = []
noted Two None = []
noted Two (Some act) = act ∷ []

-- each hop is of a later entry than the one before it, all are of so many entries, and each index
-- is a number of 64 bits
pub record ArePlaced (acts : List Acted) (places : ℕ) : Type 0 where
  pub rise : IsAscending (λ act later. act.place < later.place) acts
  pub low : AllByRecursion (λ act. act.place < places) acts
  pub fit : AllByRecursion (λ act. act.index < 2 ^ 64) acts

-- each hop is of a later entry than the one before it, and all are of so many entries from a place
-- on
pub record AreNext (acts : List Acted) (place count : ℕ) : Type 0 where
  pub rise : IsAscending (λ act later. act.place < later.place) acts
  pub high : AllByRecursion (λ act. place ≤ act.place) acts
  pub low : AllByRecursion (λ act. act.place < place + count) acts
