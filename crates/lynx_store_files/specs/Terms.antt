-- What is said of stores, wherever they lie.
use Rattle.std.specs.Prelude.{ℕ, Bool, List}
use Rattle.lynx_set.specs.Set.{Set}

-- What is said of a kind of stores: what each means is theirs to say. Who opens the store of a
-- server in a folder has opened that one and no other.
pub record StoreTerms (K : Type 0) : Type 1 where
  -- the keeper is the store of that server in the folder, for that set
  pub store_in : List ℕ → Set → ℕ → K → Type 0
  -- there is no store of that server in the folder
  pub lacks : List ℕ → ℕ → Type 0
  -- how many entries a keeper keeps
  pub count_of : K → ℕ
  -- the keeper was let go, well or not
  pub closed : K → Bool → Type 0
