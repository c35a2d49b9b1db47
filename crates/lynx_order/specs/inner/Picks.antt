-- Which chains are left, named by their places, and which may be picked next.
use Rattle.std.specs.Prelude.{◌≡◌, ℕ, ◌<◌, Bool, true, false, List, [], ◌∷◌, ◌++◌, length, slice_index_or, ◌⊎◌}
use Rattle.lynx_order.specs.Lists.{IsIn, AreDifferent, StandsBefore}

-- the chain of that place is marked
abbrev pub IsMarked : List Bool → ℕ → Type 0
IsMarked marks place = slice_index_or marks place false ≡ true

-- no place below this one is marked in both
abbrev pub NoneCommon : List Bool → List Bool → ℕ → Type 0
NoneCommon row left end = (place : ℕ) → place < end → IsMarked left place → ¬ IsMarked row place

-- the chain of the one place precedes that of the other, as the table has it
abbrev pub ComesBefore : List (List Bool) → ℕ → ℕ → Type 0
ComesBefore table one other = IsMarked (slice_index_or table other []) one

-- as many columns as rows
abbrev pub IsSquare : List (List Bool) → Type 0
IsSquare table =
    (place : ℕ) → place < length table → length (slice_index_or table place []) ≡ length table

-- a chain that is left, which no other one that is left precedes
pub record IsFree (table : List (List Bool)) (left : List Bool) (place : ℕ) : Type 0 where
  pub within : place < length left
  pub is_left : IsMarked left place
  pub alone : (one : ℕ) → IsMarked left one → ¬ ComesBefore table one place

-- a chain that is left and precedes that one
pub record LeftBefore (table : List (List Bool)) (left : List Bool) (one place : ℕ) : Type 0 where
  pub within : one < length left
  pub is_left : IsMarked left one
  pub before : ComesBefore table one place

-- each chain that is left has one before it that is left
abbrev pub NoneFree : List (List Bool) → List Bool → Type 0
NoneFree table left =
    (place : ℕ) → IsMarked left place → (one : ℕ) × LeftBefore table left one place

-- below a chain's hint none that is left precedes it
pub record AreHints (table : List (List Bool)) (left : List Bool) (hints : List ℕ) : Type 0 where
  pub whole : length hints ≡ length table
  pub none_below : (place : ℕ) → place < length table
      → NoneCommon (slice_index_or table place []) left (slice_index_or hints place 0)

-- these chains are picked, each behind all that precede it, and the others are left
pub record ArePicked (table : List (List Bool)) (picked : List ℕ) (left : List Bool) : Type 0 where
  pub whole : length left ≡ length table
  pub once : AreDifferent picked
  pub within : (place : ℕ) → IsIn place picked → place < length table
  pub either : (place : ℕ) → place < length table → IsIn place picked ⊎ IsMarked left place
  pub apart : (place : ℕ) → IsIn place picked → ¬ IsMarked left place
  pub in_order : (one other : ℕ) → one < length table → IsIn other picked
      → ComesBefore table one other → StandsBefore one other picked

-- the first comes before the next, and so on
abbrev pub AreLinked : {X : Type 0} → (X → X → Type 0) → List X → Type 0
AreLinked R [] = Unit {0}
AreLinked R (x ∷ []) = Unit {0}
AreLinked R (x ∷ y ∷ xs) = R x y × AreLinked R (y ∷ xs)

-- different chains, each of which comes before the next, and the last before the first
pub record IsRound (table : List (List Bool)) (places : List ℕ) : Type 0 where
  pub first : ℕ
  pub rest : List ℕ
  pub whole : places ≡ first ∷ rest
  pub once : AreDifferent places
  pub within : (place : ℕ) → IsIn place places → place < length table
  pub linked : AreLinked (ComesBefore table) (places ++ first ∷ [])

-- a walk back from chain to chain, the newest first, which has come to this one; those that it has
-- not met are fresh
pub record IsTrail (table : List (List Bool)) (left fresh : List Bool) (path : List ℕ)
    (current : ℕ) : Type 0 where
  pub whole : length fresh ≡ length table
  pub is_left : IsMarked left current
  pub all_left : (place : ℕ) → IsIn place path → IsMarked left place
  pub once : AreDifferent path
  pub apart : (place : ℕ) → IsIn place path → ¬ IsMarked fresh place
  pub either : (place : ℕ) → place < length table → IsIn place path ⊎ IsMarked fresh place
  pub linked : AreLinked (ComesBefore table) (current ∷ path)

-- the walk came to a chain that it had met
pub record IsClosed (table : List (List Bool)) (left : List Bool) (path : List ℕ)
    (current : ℕ) : Type 0 where
  pub met : IsIn current path
  pub all_left : (place : ℕ) → IsIn place path → IsMarked left place
  pub once : AreDifferent path
  pub linked : AreLinked (ComesBefore table) (current ∷ path)

-- that chain, and those that the walk met after it, the newest first
pub record IsPart (path : List ℕ) (current : ℕ) (round : List ℕ) : Type 0 where
  pub part : List ℕ
  pub older : List ℕ
  pub whole : path ≡ part ++ current ∷ older
  pub is : round ≡ current ∷ part
