-- The entries of hops, first hops and later ones alike.
use Rattle.std.specs.Prelude.{◌≡◌, ℕ, ◌==◌, ◌&&◌, Bool, false, List, find, Option, Some, None}
use Rattle.std.specs.Borrow.{Bor}
use Rattle.lynx_names.specs.declared.chain.ChainId.{ChainId}
use Rattle.lynx_entry.specs.declared.entry.Entry.{Entry}
use Rattle.lynx_entry.specs.declared.entry.Entry.TheVariants.{Begun, Refused, Hop}
use Rattle.lynx_entry.specs.Entry.{History}
use Rattle.lynx_turn.specs.Held.{same_chain}

-- the entry is of that hop of the chain
abbrev pub is_act : ChainId → ℕ → Entry → Bool
is_act chain hop (Begun begun) = same_chain begun.chain chain && (hop == 0)
is_act chain hop (Refused refused) = false
is_act chain hop (Hop ran) = same_chain ran.message.chain chain && (ran.message.hop == hop)

-- the entry of that hop of the chain, if the hop ran here
abbrev pub act_of : ChainId → ℕ → History → Option Entry
act_of chain hop history = find (is_act chain hop) history

-- that stamp and these results are given
abbrev pub IsGiven : ℕ → List ℕ → Option (ℕ × Bor (List ℕ)) → Type 0
IsGiven stamp results None = ⊥
IsGiven stamp results (Some given) = (given.0 ≡ stamp) × (given.1.now ≡ results)

-- the stamp and the results of a hop's entry are given, nothing where there is none
abbrev pub GivesResults : Option Entry → Option (ℕ × Bor (List ℕ)) → Type 0
GivesResults None given = given ≡ None
GivesResults (Some (Begun begun)) given = IsGiven begun.stamp begun.results given
GivesResults (Some (Refused refused)) given = given ≡ None
GivesResults (Some (Hop ran)) given = IsGiven ran.stamp ran.results given
