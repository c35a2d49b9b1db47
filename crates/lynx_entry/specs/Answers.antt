-- Answers that say nothing of a request or a message, but that memory was wanting; and the results
-- that answers tell.
use Rattle.std.specs.Prelude.{◌≤◌, ℕ, Bool, true, false, List, [], length}
use Rattle.lynx_names.specs.declared.limits.TheConstants.{MAX_ACTIONS}
use Rattle.lynx_entry.specs.declared.answer.Answer.{Answer}
use Rattle.lynx_entry.specs.declared.answer.Answer.TheVariants as answers
use Rattle.lynx_entry.specs.declared.answer.Delivered.{Delivered}
use Rattle.lynx_entry.specs.declared.answer.Delivered.TheVariants as deliveries

-- a request was not served
abbrev pub is_unserved : Answer → Bool
is_unserved answers.Memory = true
is_unserved given = false

-- a message was not delivered
abbrev pub is_undelivered : Delivered → Bool
is_undelivered deliveries.Memory = true
is_undelivered given = false

-- the results that an answer tells
abbrev pub results_of : Answer → List ℕ
results_of (answers.Begun chain stamp results was_there) = results
results_of given = []

-- the same answer with these results, where a chain began
abbrev pub with_results : Answer → List ℕ → Answer
with_results (answers.Begun chain stamp results was_there) others =
    answers.Begun chain stamp others was_there
with_results given others = given

-- it tells few results: as many as a hop has actions, at most
abbrev pub HasFewResults : Answer → Type 0
HasFewResults given = length (results_of given) ≤ MAX_ACTIONS
