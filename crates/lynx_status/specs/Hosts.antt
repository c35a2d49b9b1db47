-- Which values of the field Host are of this machine.
use Rattle.std.specs.Prelude.{ℕ, Bool, true, ◌==◌, ◌&&◌, ◌||◌, List, [], ◌∷◌, length, map, take, drop, nat_le, bytes_eq, codes}
use Rattle.std.specs.List.{list_all}
use Rattle.std.specs.Char.{is_ascii_digit, to_ascii_lowercase}

-- nothing, or a colon and digits
abbrev pub is_port : List ℕ → Bool
is_port [] = true
is_port (first ∷ digits) = (first == 58) && list_all is_ascii_digit digits

abbrev pub lowercase : List ℕ → List ℕ
lowercase text = map to_ascii_lowercase text

-- the host of this name, in any case, and any port
abbrev pub is_at : List ℕ → List ℕ → Bool
is_at name field =
    nat_le (length name) (length field)
    && (bytes_eq (lowercase (take (length name) field)) (lowercase name)
    && is_port (drop (length name) field))

-- this machine, and any port
abbrev pub is_local : List ℕ → Bool
is_local field =
    is_at (codes "127.0.0.1") field || (is_at (codes "localhost") field
    || is_at (codes "[::1]") field)
