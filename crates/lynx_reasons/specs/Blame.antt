-- The lines of the programs to blame.
use Rattle.std.specs.Prelude.{◌≡◌, Bool, ℕ, List, [], ◌∷◌, ◌++◌, codes, decimal, if◌then◌else◌}
use Rattle.std.specs.List.{flat_map}
use Rattle.lynx_lex.specs.Lines.{with_feed}
use Rattle.lynx_set.specs.Set.{Set}
use Rattle.lynx_set.specs.Lookups.{program_name}
use Rattle.lynx_reasons.specs.Culprits.{AreCulprits, AreFewest, most_looks}
use Rattle.lynx_reasons.specs.declared.culprit.Culprit.{Culprit}
use Rattle.lynx_reasons.specs.declared.culprit.Culprit.TheVariants.{One, Two, Three}

-- the name of a program after a space, and of each of these
abbrev pub name_text : Set → ℕ → List ℕ
name_text set program = 32 ∷ program_name set program

abbrev pub culprit_text : Set → Culprit → List ℕ
culprit_text set (One first) = name_text set first
culprit_text set (Two first second) = name_text set first ++ name_text set second
culprit_text set (Three first second third) =
    name_text set first ++ name_text set second ++ name_text set third

-- the line of programs whose taking away makes the set accepted
abbrev pub without_line : Set → Culprit → List ℕ
without_line set culprit = with_feed (codes "without" ++ culprit_text set culprit)

abbrev pub without_lines : Set → List Culprit → List ℕ
without_lines set found = flat_map (without_line set) found

-- how many sets were looked at, where one was not for want of looks
abbrev pub bound_text : Bool → ℕ → List ℕ
bound_text is_bound most = if is_bound then with_feed (codes "bound " ++ decimal most) else []

-- the programs to blame, just those that the search is to find, and its bound where it is met
pub record AreBlameLines (set : Set) (lines : List ℕ) : Type 0 where
  pub found : List Culprit
  pub is_bound : Bool
  pub right : AreCulprits set found
  pub fewest : AreFewest set found is_bound
  pub whole : lines ≡ without_lines set found ++ bound_text is_bound (most_looks set)
