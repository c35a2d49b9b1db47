-- Begins that are answered together.
use Rattle.std.specs.Prelude.{◌≡◌, ◌++◌, List}
use Rattle.lynx_cluster.specs.Calls.{AnswersBeginAll}
use Rattle.lynx_cluster.specs.Sessions.{SessionState}
use Rattle.lynx_entry.specs.declared.answer.Answer.{Answer}
use Rattle.lynx_entry.specs.declared.request.Request.{Request}
use Rattle.lynx_set.specs.Set.{Set}

-- Those that lead a list of requests are answered, behind what was answered before, and the rest
-- isn't.
pub record BeginsLeading (set : Set) (old : SessionState) (requests rest : List Request)
    (before given : List Answer) (new : SessionState) : Type 0 where
  pub leading : List Request
  pub answers : List Answer
  pub split : requests ≡ leading ++ rest
  pub given_is : given ≡ before ++ answers
  pub begins : AnswersBeginAll set old leading answers new
