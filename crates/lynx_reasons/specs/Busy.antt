-- The lines of programs that return to the server where they begin.
use Rattle.std.specs.Prelude.{Bool, ◌==◌, ℕ, List, [], ◌∷◌, ◌++◌, length, codes, decimal, if◌then◌else◌}
use Rattle.std.specs.List.{flat_map, list_any, range_with_len}
use Rattle.lynx_lex.specs.Lines.{with_feed}
use Rattle.lynx_set.specs.declared.program.Hop.{Hop}
use Rattle.lynx_set.specs.Set.{Set}
use Rattle.lynx_set.specs.Lookups.{hops_of, program_name}

-- one of these hops is at the server
abbrev pub is_there_again : ℕ → List Hop → Bool
is_there_again server later = list_any (λ hop. hop.server == server) later

abbrev pub busy_line : Set → ℕ → ℕ → List ℕ
busy_line set program server =
    with_feed (codes "busy " ++ program_name set program ++ 32 ∷ decimal server)

-- a program of these hops returns where a later one is at the server of the first
abbrev pub busy_line_of : Set → ℕ → List Hop → List ℕ
busy_line_of set program [] = []
busy_line_of set program (first ∷ later) =
    if is_there_again first.server later then busy_line set program first.server else []

abbrev pub busy_text : Set → ℕ → List ℕ
busy_text set program = busy_line_of set program (hops_of set program)

-- a line for each program that returns
abbrev pub busy_lines : Set → List ℕ
busy_lines set = flat_map (busy_text set) (range_with_len 0 (length set.programs))
