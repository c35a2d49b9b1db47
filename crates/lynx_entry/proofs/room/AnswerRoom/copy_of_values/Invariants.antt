use Rattle.std.proofs.Common.{◌≡◌, ◌≤◌, take, vec_capacity}
use Rattle.lynx_names.specs.declared.limits.TheConstants.{MAX_ACTIONS}
use Rattle.lynx_entry.proofs.room.AnswerRoom.copy_of_values.Given as goal

abbrev pub invariant-loop-value : goal.invariant-loop-value
invariant-loop-value l = (l.results.items ≡ take l.value-index l.values) × (MAX_ACTIONS ≤ vec_capacity l.results)
