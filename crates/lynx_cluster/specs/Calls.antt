-- What a begin by a session comes to.
use Rattle.std.specs.Prelude.{◌≡◌, ◌++◌, ◌∷◌, List, []}
use Rattle.lynx_cluster.specs.Answers.{FitsRequest, IsAbove}
use Rattle.lynx_cluster.specs.Clusters.{home_of}
use Rattle.lynx_cluster.specs.Sessions.{SessionState, told_by}
use Rattle.lynx_codec.specs.Ranges.{IsAnswerInRange}
use Rattle.lynx_entry.specs.declared.answer.Answer.{Answer}
use Rattle.lynx_entry.specs.declared.request.Request.{Request}
use Rattle.lynx_set.specs.Set.{Set}
use Rattle.lynx_weave.specs.Told.{greatest_told}

-- A begin by a session: just the answer is told to the session, a fresh stamp is above all that
-- it was told before, and the answer fits the request and its encoding.
pub record AnswersBegin (set : Set) (old : SessionState) (request : Request) (answer : Answer)
    (new : SessionState) : Type 0 where
  pub told : new ≡ record old { told = old.told ++ told_by (home_of set request) request answer }
  pub above : IsAbove (greatest_told old.told) answer
  pub fits : FitsRequest set (home_of set request) request answer
  pub range : IsAnswerInRange answer

-- begins by a session, in order, from its first state to its last
abbrev pub AnswersBeginAll : Set → SessionState → List Request → List Answer → SessionState → Type 0
AnswersBeginAll set old [] [] new = new ≡ old
AnswersBeginAll set old [] (answer ∷ answers) new = ⊥
AnswersBeginAll set old (request ∷ requests) [] new = ⊥
AnswersBeginAll set old (request ∷ requests) (answer ∷ answers) new =
    (next : SessionState) × AnswersBegin set old request answer next
    × AnswersBeginAll set next requests answers new
