-- The actions that leave a number, hop by hop.
use Rattle.std.specs.Prelude.{ℕ, ◌+◌, Bool, true, List, take}
use Rattle.std.specs.List.{list_all}
use Rattle.std.specs.Option.{option_map_or}
use Rattle.lynx_shards.specs.declared.shard.Shard.{Shard}
use Rattle.lynx_set.specs.declared.action.Action.{Action}
use Rattle.lynx_set.specs.declared.program.ParameterRange.{ParameterRange}
use Rattle.lynx_set.specs.Intervals.{range_of}
use Rattle.lynx_set.specs.Lookups.{hop_at, hops_of}
use Rattle.lynx_set.specs.Set.{Set}
use Rattle.lynx_reasons.specs.declared.never.first.NeverAt.{NeverAt}
use Rattle.lynx_reasons.specs.Begins.{is_home}

-- each of the actions of a hop at the server leaves the number
abbrev pub are_home : List (List Shard) → ℕ → ℕ → ℕ → List Action → Bool
are_home shards parameter number server actions =
    list_all (λ action. is_home shards parameter number (server, action)) actions

-- and so do all of the hops before that one
abbrev pub are_home_before : Set → ℕ → ℕ → ℕ → ℕ → Bool
are_home_before set program hop parameter number =
    list_all (λ earlier. are_home set.shards parameter number earlier.server earlier.actions)
    (take hop (hops_of set program))

-- and those of its own hop up to an action
abbrev pub are_home_in : Set → ℕ → NeverAt → ℕ → ℕ → Bool
are_home_in set program at parameter number =
    option_map_or
    (λ hop. are_home set.shards parameter number hop.server (take (at.action + 1) hop.actions))
    (hop_at set program at.hop) true

-- the least number that the parameter's argument may be
abbrev pub least_argument : List ParameterRange → ℕ → ℕ
least_argument ranges parameter =
    option_map_or (λ interval. interval.low) (range_of ranges parameter) 0
