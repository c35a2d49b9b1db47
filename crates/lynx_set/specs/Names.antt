-- Names and their places.
use Rattle.std.specs.Prelude.{ℕ, List, Option, Some, None, position, nat_lt, if◌then◌else◌}
use Rattle.std.specs.Str.{bytes_eq}
use Rattle.lynx_lex.specs.Lines.{◌>>=◌}

-- the place of a name
abbrev pub place_of : List (List ℕ) → List ℕ → Option ℕ
place_of names name = position (λ known. bytes_eq known name) names

-- the place of a name among the first
abbrev pub place_below : ℕ → List (List ℕ) → List ℕ → Option ℕ
place_below limit names name =
    place_of names name >>= λ place. if nat_lt place limit then Some place else None
