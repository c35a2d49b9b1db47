-- The lines of programs that can never begin.
use Rattle.std.specs.Prelude.{◌≡◌, ℕ, ◌+◌, List, [], ◌∷◌, ◌++◌, length, codes, decimal}
use Rattle.std.specs.List.{flat_map, range_with_len}
use Rattle.std.specs.Option.{option_map_or}
use Rattle.lynx_lex.specs.Lines.{with_feed}
use Rattle.lynx_set.specs.Lookups.{program_name}
use Rattle.lynx_set.specs.Set.{Set}
use Rattle.lynx_entry.specs.declared.entry.Entry.{Entry}
use Rattle.lynx_entry.specs.Entry.{History}
use Rattle.lynx_rules.specs.Lawful.{IsLawful}
use Rattle.lynx_reasons.specs.declared.never.first.NeverAt.{NeverAt}
use Rattle.lynx_reasons.specs.Begins.{first_never}
use Rattle.lynx_reasons.specs.HopLines.{line_of}

-- the line of the set's text on which an action stands: the first of a hop stands behind the hop
abbrev pub action_line : Set → ℕ → NeverAt → ℕ
action_line set program at =
    line_of set (record { program = program; hop = at.hop }) + 1 + at.action

abbrev pub never_line : Set → ℕ → NeverAt → List ℕ
never_line set program at =
    with_feed (codes "never " ++ program_name set program ++ codes " line "
    ++ decimal (action_line set program at))

-- of a program that can never begin, the first action that shows it
abbrev pub never_text : Set → ℕ → List ℕ
never_text set program = option_map_or (never_line set program) (first_never set program) []

-- a line for each such program
abbrev pub never_lines : Set → List ℕ
never_lines set = flat_map (never_text set) (range_with_len 0 (length set.programs))

-- each entry of a server's history is lawful after those before it
abbrev pub EachIsLawful : Set → ℕ → History → Type 0
EachIsLawful set server history =
    (before after : History) (entry : Entry) → history ≡ before ++ entry ∷ after
    → IsLawful set server before entry
