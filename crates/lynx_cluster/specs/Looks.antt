-- What a look finds, and what a session notes of it.
use Rattle.std.specs.Prelude.{◌≡◌, ℕ, List, [], ◌∷◌, ◌++◌, Option, Some, None}
use Rattle.lynx_entry.specs.declared.entry.Entry.{Entry}
use Rattle.lynx_entry.specs.declared.entry.Entry.TheVariants as entries
use Rattle.lynx_codec.specs.declared.item.Looked.{Looked}
use Rattle.lynx_codec.specs.declared.item.Looked.TheVariants.{Absent, Found}
use Rattle.lynx_names.specs.declared.chain.ChainId.{ChainId}
use Rattle.lynx_set.specs.Lookups.{server_at}
use Rattle.lynx_set.specs.Set.{Set}
use Rattle.lynx_weave.specs.declared.told.ToldItem.{ToldItem}
use Rattle.lynx_weave.specs.declared.told.ToldItem.TheVariants.{Seen}
use Rattle.lynx_cluster.specs.Sessions.{SessionState}

-- what is told of a hop's entry
abbrev pub looked_at : Option Entry → Looked
looked_at None = Absent
looked_at (Some (entries.Begun begun)) = Found begun.stamp begun.results
looked_at (Some (entries.Refused refused)) = Absent
looked_at (Some (entries.Hop ran)) = Found ran.stamp ran.results

-- what a session notes of a look at that server
abbrev pub seen_by : ℕ → ChainId → ℕ → Looked → List ToldItem
seen_by server chain hop Absent = []
seen_by server chain hop (Found stamp results) = Seen server chain hop stamp results ∷ []

-- that was found at the server of that hop of a program of the set, and noted
pub record HasFound (set : Set) (old : SessionState) (chain : ChainId) (hop : ℕ) (looked : Looked)
    (new : SessionState) : Type 0 where
  pub program : ℕ
  pub server : ℕ
  pub server_is : server_at set program hop ≡ Some server
  pub noted : new ≡ record old { told = old.told ++ seen_by server chain hop looked }

-- A look of a session: what was found was noted, and what is absent leaves the session as it was.
abbrev pub Looks : Set → SessionState → ChainId → ℕ → Looked → SessionState → Type 0
Looks set old chain hop Absent new = new ≡ old
Looks set old chain hop (Found stamp results) new =
    HasFound set old chain hop (Found stamp results) new
