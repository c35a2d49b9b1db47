-- The stores of a folder that are given to a set which extends theirs. What stands for the servers
-- of the set is listed in their order, from server 0 on.
use Rattle.std.specs.Prelude.{◌≡◌, ◌≢◌, ℕ, suc, Bool, true, List, [], ◌∷◌, ◌++◌, length, map, Option, None, Some}
use Rattle.std.specs.Io.KnownBytes.{Appends}
use Rattle.std.specs.List.{AllByRecursion}
use Rattle.sqlite.specs.State.{State}
use Rattle.lynx_keep.specs.Kept.{KeptState}
use Rattle.lynx_set.specs.Set.{Set}
use Rattle.lynx_extend.specs.Places.{first_lost}
use Rattle.lynx_extend.specs.declared.places.Place.{Place}
use Rattle.lynx_extend.specs.declared.places.Place.TheVariants.{Empty, New, Old}
use Rattle.lynx_store.specs.declared.extending.Extended.{Extended}
use Rattle.lynx_store.specs.Extensions.{ExtendsStore, IsExtendable, IsOfSet, KeepsFor, TellsOld}
use Rattle.lynx_store.specs.Premise.{IsUndisturbed}
use Rattle.lynx_store_files.specs.Terms.{StoreTerms}
use Rattle.lynx_give.specs.Lines.{given_line, made_line}
use Rattle.lynx_give.specs.declared.store.Store.{Store}
use Rattle.lynx_give.specs.declared.store.Store.TheVariants.{Held, Made}

-- each two that stand at one place of two lists that are as long, the first at this number
abbrev pub Each : {A B : Type 0} → (ℕ → A → B → Type 0) → ℕ → List A → List B → Type 0
Each Goes number [] [] = Unit {0}
Each Goes number (x ∷ xs) (y ∷ ys) = Goes number x y × Each Goes (suc number) xs ys
Each Goes number xs ys = ⊥

-- what is told of each, the first at this number
abbrev pub told_of : {A : Type 0} → (ℕ → A → List ℕ) → ℕ → List A → List ℕ
told_of text number [] = []
told_of text number (x ∷ xs) = text number x ++ told_of text (suc number) xs

-- The place says whether the set for which a store is kept is this one, and else how many servers
-- it has.
abbrev pub TellsPlace : State → Set → Place → Type 0
TellsPlace s set place =
    (server : ℕ) (chains : Set) (count : ℕ) (kept : KeptState) → KeepsFor s server chains count kept
    → (chains ≡ set → place ≡ New) × (chains ≢ set → place ≡ Old chains.servers)

-- A database was opened, and what it keeps was read: it is this server's, and the set may have it.
-- It is still kept.
pub record IsRead {C : Type 0} (state_of : C → State) (OpenedAt : ℕ → Option C → Type 0) (set : Set)
    (server : ℕ) (held : C) (place : Place) : Type 0 where
  pub opened : C
  pub at : OpenedAt server (Some opened)
  pub extendable : IsUndisturbed (state_of held)
      → (count : ℕ) × IsExtendable (state_of opened) (state_of held) server set count
  pub tells : IsUndisturbed (state_of held) → TellsPlace (state_of opened) set place

-- what stands in the place of a server's store
abbrev pub IsFound : {C : Type 0} → (C → State) → (ℕ → Option C → Type 0) → Set → ℕ → Option C
    → Place → Type 0
IsFound state_of OpenedAt set server None place = (place ≡ Empty) × OpenedAt server None
IsFound state_of OpenedAt set server (Some held) place =
    IsRead state_of OpenedAt set server held place

-- a store is made for the server where there is none, and only there: it keeps nothing
abbrev pub IsMade : {K C : Type 0} → StoreTerms K → List ℕ → Set → ℕ → Option C → Store K C
    → Type 0
IsMade stores folder set server None (Made keeper) =
    stores.store_in folder set server keeper × (stores.count_of keeper ≡ 0)
IsMade stores folder set server (Some found) (Held held) = held ≡ found
IsMade stores folder set server found store = ⊥

-- the store was let go, well or not
abbrev pub IsLetGo : {K C : Type 0} → (K → Bool → Type 0) → (C → Bool → Type 0) → Bool
    → Store K C → Type 0
IsLetGo Closed DatabaseClosed is_well (Made keeper) = Closed keeper is_well
IsLetGo Closed DatabaseClosed is_well (Held database) = DatabaseClosed database is_well

-- what is told of it: nothing where it was found
abbrev pub made_text : {K C : Type 0} → ℕ → Store K C → List ℕ
made_text server (Made keeper) = made_line server
made_text server (Held held) = []

-- A store that was there is of the set afterwards, with the same entries and cells; one that was
-- made is of it already.
abbrev pub IsGiven : {K C : Type 0} → (C → State) → Set → ℕ → Store K C
    → Store K C × Option Extended → Type 0
IsGiven state_of set server (Made keeper) (Made same, None) = same ≡ keeper
IsGiven state_of set server (Held held) (Held given, Some done) =
    IsUndisturbed (state_of given)
    → ExtendsStore (state_of held) (state_of given) server set done.entries
    × IsOfSet (state_of given) server set done.entries × TellsOld (state_of held) set done
IsGiven state_of set server store given = ⊥

-- what is told of it: nothing where it was made
abbrev pub given_text : {X : Type 0} → ℕ → X × Option Extended → List ℕ
given_text server (store, None) = []
given_text server (store, Some done) = given_line server done

-- all are given to the set, and told of
pub record GivesAll {K C : Type 0} (state_of : C → State) (set : Set)
    (stores given : List (Store K C)) (old new : Option (List ℕ)) : Type 0 where
  pub told : List (Store K C × Option Extended)
  pub each : Each (IsGiven state_of set) 0 stores told
  pub given_is : given ≡ map (λ one. one.0) told
  pub written : Appends old new (told_of given_text 0 told)

-- Of each server it is found what stands in the place of its store.
pub record AreFound {C : Type 0} (state_of : C → State) (OpenedAt : ℕ → Option C → Type 0)
    (set : Set) (found : List (Option C)) (places : List Place) : Type 0 where
  pub many : length found ≡ set.servers
  pub each : Each (IsFound state_of OpenedAt set) 0 found places

-- No store is lost, those of new servers are made, and then each that was there is given to the
-- set; so it is told, line by line. All are let go, each well.
pub record HasGiven {K C : Type 0} (stores : StoreTerms K) (folder : List ℕ) (state_of : C → State)
    (OpenedAt : ℕ → Option C → Type 0) (DatabaseClosed : C → Bool → Type 0) (set : Set)
    (old new : Option (List ℕ)) : Type 0 where
  pub found : List (Option C)
  pub places : List Place
  pub finds : AreFound state_of OpenedAt set found places
  pub none_lost : first_lost places ≡ None
  pub made : List (Store K C)
  pub makes : Each (IsMade stores folder set) 0 found made
  pub given : List (Store K C × Option Extended)
  pub gives : Each (IsGiven state_of set) 0 made given
  pub let_go : AllByRecursion (IsLetGo stores.closed DatabaseClosed true)
      (map (λ one. one.0) given)
  pub written : Appends old new (told_of made_text 0 made ++ told_of given_text 0 given)
