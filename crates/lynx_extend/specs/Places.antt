-- What stands in the places of the stores of a folder, as a set is to take them over.
use Rattle.std.specs.Prelude.{ℕ, ◌==◌, ◌||◌, Bool, true, false, if◌then◌else◌, List, length, fold, max, take, position, Option}
use Rattle.std.specs.List.{list_any}
use Rattle.lynx_extend.specs.declared.places.Place.{Place}
use Rattle.lynx_extend.specs.declared.places.Place.TheVariants.{Empty, Old, New}

-- how many servers the earlier set has that the store is of
abbrev pub servers_in : Place → ℕ
servers_in (Old servers) = servers
servers_in place = 0

-- as many servers as the greatest of the earlier sets has, 0 where there are only stores of the new
-- one
abbrev pub old_servers : List Place → ℕ
old_servers places = fold (λ most place. max most (servers_in place)) 0 places

abbrev pub is_new : Place → Bool
is_new New = true
is_new place = false

abbrev pub is_empty : Place → Bool
is_empty Empty = true
is_empty place = false

-- Stores are given to the new set once those of its new servers are made. So all are made where a
-- server of an earlier set has a store of the new one, or none has a store of an earlier one.
abbrev pub are_made : List Place → Bool
are_made places =
    (old_servers places == 0) || list_any is_new (take (old_servers places) places)

-- how many stores were there: those of all servers, or of the servers of the earlier sets
abbrev pub were_there : List Place → ℕ
were_there places = if are_made places then length places else old_servers places

-- the first store that was there and isn't
abbrev pub first_lost : List Place → Option ℕ
first_lost places = position is_empty (take (were_there places) places)
