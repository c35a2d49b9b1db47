-- The input: a set text, a line that is exactly `--`, and a script.
use Rattle.std.specs.Prelude.{◌≡◌, ◌≢◌, not, true, ℕ, List, [], ◌++◌, ◌⊎◌, codes}
use Rattle.std.specs.List.{flat_map, list_all, AllByRecursion}
use Rattle.lynx_lex.specs.Lines.{is_feed, with_feed}

-- a line, without its LF, that isn't `--`
abbrev pub IsOther : List ℕ → Type 0
IsOther text = (list_all (λ byte. not (is_feed byte)) text ≡ true) × (text ≢ codes "--")

-- Before the first line that is `--` stand whole lines, and none of them is. It ends with its LF,
-- or the input ends with it.
pub record IsCut (input before after : List ℕ) : Type 0 where
  pub lines : List (List ℕ)
  pub others : AllByRecursion IsOther lines
  pub spelled : before ≡ flat_map with_feed lines
  pub whole : (input ≡ before ++ (with_feed (codes "--") ++ after))
      ⊎ ((input ≡ before ++ codes "--") × (after ≡ []))

-- no line is `--`
abbrev pub HasNoCut : List ℕ → Type 0
HasNoCut input = (before after : List ℕ) → IsCut input before after → ⊥
