-- Counts of the chains that are through, and how a number stands to them.
use Rattle.std.specs.Prelude.{ℕ, List, [], ◌∷◌, if◌then◌else◌, nat_lt}
use Rattle.lynx_turn.specs.declared.turns.Stand.{Stand}
use Rattle.lynx_turn.specs.declared.turns.Stand.TheVariants.{Now, Early, Past}

abbrev pub no_turns : List ℕ
no_turns = 0 ∷ 0 ∷ 0 ∷ 0 ∷ 0 ∷ 0 ∷ 0 ∷ 0 ∷ 0 ∷ 0 ∷ 0 ∷ 0 ∷ 0 ∷ 0 ∷ 0 ∷ 0 ∷ []

-- how a number stands to the turn
abbrev pub stand : ℕ → ℕ → Stand
stand number turn = if nat_lt number turn then Past else (if nat_lt turn number then Early else Now)
