-- The greatest fronts of histories that fit together.
use Rattle.std.specs.Prelude.{◌≡◌, ◌≤◌, ℕ, List, [], ◌∷◌, take, length, slice_get, Some}
use Rattle.lynx_set.specs.Set.{Set}
use Rattle.lynx_entry.specs.Entry.{History}
use Rattle.lynx_world.specs.Placed.{Placed}
use Rattle.lynx_world.specs.Legal.{IsLegal}
use Rattle.lynx_weave.specs.declared.fault.WeaveFault.{WeaveFault}
use Rattle.lynx_weave.specs.declared.fault.WeaveFault.TheVariants.{Mismatch, Told, Memory}
use Rattle.lynx_weave.specs.Parts.{ArePartsOf}
use Rattle.lynx_weave.specs.Weaving.{IsUnlawfulAt}

-- of each history as many of its first entries as its count says
abbrev pub fronts : List ℕ → List History → List History
fronts [] histories = []
fronts (count ∷ counts) [] = []
fronts (count ∷ counts) (history ∷ histories) = take count history ∷ fronts counts histories

-- A count for each history, no higher than it is long: so many first entries of each are the parts
-- of a legal list.
pub record FitTogether (set : Set) (histories : List History) (counts : List ℕ) : Type 0 where
  pub many : length counts ≡ length histories
  pub within : (server count : ℕ) (history : History) → slice_get counts server ≡ Some count
      → slice_get histories server ≡ Some history → count ≤ length history
  pub list : List Placed
  pub legal : IsLegal set list
  pub parts : ArePartsOf set list (fronts counts histories)

-- These counts fit together, and of no server have any others that do more.
pub record IsCut (set : Set) (histories : List History) (counts : List ℕ) : Type 0 where
  pub fit : FitTogether set histories counts
  pub greatest : (others : List ℕ) (server count other : ℕ) → FitTogether set histories others
      → slice_get counts server ≡ Some count → slice_get others server ≡ Some other
      → other ≤ count

-- one of the histories is unlawful
abbrev pub IsCutFault : Set → List History → WeaveFault → Type 0
IsCutFault set histories (Mismatch server place) = IsUnlawfulAt set histories server place
IsCutFault set histories (Told session place) = ⊥
IsCutFault set histories Memory = Unit {0}
