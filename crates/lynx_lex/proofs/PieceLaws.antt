-- The pieces of a text between the bytes at which it is cut.
use Rattle.std.proofs.Common.{◌≡◌, ℕ, ◌+◌, Bool, List, [], ◌∷◌, take, drop, Option, Some, None, refl}
use Rattle.std.specs.Prelude.{position}
use Rattle.std.specs.List.{slice_split}
use Rattle.lynx_lex.proofs.WordLaws.{split_found, split_none}

-- there is always a piece
pub has_piece : (p : ℕ → Bool) (text : List ℕ) → (first : List ℕ) × (rest : List (List ℕ)) × (slice_split p text ≡ first ∷ rest)
has_piece p text = by (position p text) refl
  where
    by : (place : Option ℕ) → position p text ≡ place → (first : List ℕ) × (rest : List (List ℕ)) × (slice_split p text ≡ first ∷ rest)
    by None is = (text, [], split_none p text is)
    by (Some i) is = (take i text, slice_split p (drop (i + 1) text), split_found p text i is)
