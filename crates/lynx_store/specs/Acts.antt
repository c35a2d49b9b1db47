-- The hops that entries are of, as stores of version 2 keep them.
use Rattle.std.specs.Prelude.{◌≡◌, ◌≢◌, ℕ, ◌+◌, List, AllPairs, [], ◌∷◌, ◌++◌, Option, Some, None, map, slice_get}
use Rattle.std.specs.Ordering.{nat_cmp, ordering_then}
use Rattle.std.specs.declared.cmp.Ordering.{Ordering}
use Rattle.lynx_cells.specs.Database.{cell_cmp}
use Rattle.sqlite.specs.Order.{Row}
use Rattle.lynx_entry.specs.declared.entry.Entry.{Entry}
use Rattle.lynx_entry.specs.declared.entry.Entry.TheVariants.{Begun, Refused, Hop}
use Rattle.lynx_entry.specs.Entry.{History}
use Rattle.lynx_sql.specs.declared.acts.Acted.{Acted}
use Rattle.lynx_sql.specs.Acts.{shown_act}
use Rattle.lynx_sql.specs.declared.version.StoreVersion.{StoreVersion}
use Rattle.lynx_sql.specs.declared.version.StoreVersion.TheVariants.{One, Two}

-- the hop of the entry at a place: hop 0 of a chain that began, a later one, none of a request that
-- was refused
abbrev pub act_at : ℕ → Entry → Option Acted
act_at place (Begun begun) =
    Some (record { origin = begun.chain.origin; index = begun.chain.index; hop = 0; place = place })
act_at place (Refused refused) = None
act_at place (Hop ran) =
    Some (record {
      origin = ran.message.chain.origin;
      index = ran.message.chain.index;
      hop = ran.message.hop;
      place = place;
    })

-- that hop before others, if there is one
abbrev pub with_act : Option Acted → List Acted → List Acted
with_act None acts = acts
with_act (Some act) acts = act ∷ acts

-- some hops, and one more behind them, if there is one
abbrev pub added : List Acted → Option Acted → List Acted
added acts None = acts
added acts (Some act) = acts ++ act ∷ []

-- the hops of entries from a place on
abbrev pub acts_from : ℕ → History → List Acted
acts_from place [] = []
acts_from place (entry ∷ entries) = with_act (act_at place entry) (acts_from (place + 1) entries)

-- the hops that a store of a version keeps of its entries
abbrev pub acted_of : StoreVersion → History → Option (List Acted)
acted_of One entries = None
acted_of Two entries = Some (acts_from 0 entries)

-- the row at a place shows the hop there
abbrev pub ShowsAt : List Acted → List Row → ℕ → Type 0
ShowsAt acts rows place =
    (act : Acted) → slice_get acts place ≡ Some act → slice_get rows place ≡ Some (shown_act act)

-- the hop of a row: the chain's origin and index, and its number
abbrev pub hop_in : Acted → (ℕ × ℕ) × ℕ
hop_in act = ((act.origin, act.index), act.hop)

-- the order of hops: by chain, then number
abbrev pub hop_cmp : (ℕ × ℕ) × ℕ → (ℕ × ℕ) × ℕ → Ordering
hop_cmp one other = ordering_then (cell_cmp one.0 other.0) (nat_cmp one.1 other.1)

-- no two are of one hop
abbrev pub AreApart : List Acted → Type 0
AreApart acts = AllPairs (λ one other. one ≢ other) (map hop_in acts)
