-- Counters, and the numbers that are drawn from them.
use Rattle.std.specs.Prelude.{ℕ, ◌≡◌, ◌+◌, ◌<◌, ◌==◌, Bool, List, [], ◌∷◌, map, fold, length, slice_index, slice_set, Option, IfSome, All, option_map}
use Rattle.std.specs.List.{list_any}
use Rattle.lynx_names.specs.declared.limits.TheConstants.{MAX_ENTRIES, MAX_SERVERS}
use Rattle.lynx_names.specs.declared.numbers.NumberAt.{NumberAt}

-- a counter for each server, and the numbers of the draw that is out
pub record Sequence : Type 0 where
  pub counters : List ℕ
  pub out : Option (List NumberAt)

abbrev pub no_counts : List ℕ
no_counts = 0 ∷ 0 ∷ 0 ∷ 0 ∷ 0 ∷ 0 ∷ 0 ∷ 0 ∷ 0 ∷ 0 ∷ 0 ∷ 0 ∷ 0 ∷ 0 ∷ 0 ∷ 0 ∷ []

-- the counter of a server, with the server
abbrev pub counted : List ℕ → ℕ → NumberAt
counted counters server = record { server = server; number = slice_index counters server }

abbrev pub numbers_from : List ℕ → List ℕ → List NumberAt
numbers_from counters visits = map (counted counters) visits

-- the counter of one server is one above its number
abbrev pub raised_one : List ℕ → NumberAt → List ℕ
raised_one counters drawn = slice_set counters drawn.server (drawn.number + 1)

abbrev pub raised : List NumberAt → List ℕ → List ℕ
raised numbers counters = fold raised_one counters numbers

-- there is a number for the server
abbrev pub has_number : List NumberAt → ℕ → Bool
has_number numbers server = list_any (λ drawn. drawn.server == server) numbers

-- the number is that of its counter, which can rise
pub record IsNumber (counters : List ℕ) (drawn : NumberAt) : Type 0 where
  pub is_next : drawn.number ≡ slice_index counters drawn.server
  pub small : drawn.number < MAX_ENTRIES
  pub inside : drawn.server < MAX_SERVERS

-- the numbers of the servers whose numbers are out
abbrev pub drawn_of : List ℕ → Option (List ℕ) → Option (List NumberAt)
drawn_of counters out = option_map (numbers_from counters) out

-- a counter for each server, and a draw of them
pub record IsSequencer (counters : List ℕ) (out : Option (List ℕ)) : Type 0 where
  pub room : length counters ≡ MAX_SERVERS
  pub drawn : IfSome (drawn_of counters out) (All (IsNumber counters))

-- the numbers of these servers
pub record AreSoFar (counters visits : List ℕ) (numbers : List NumberAt) : Type 0 where
  pub are : numbers ≡ numbers_from counters visits
  pub inside : All (λ drawn. drawn.server < MAX_SERVERS) numbers
