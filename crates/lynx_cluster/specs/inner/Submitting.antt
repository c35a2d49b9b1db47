-- Requests that a session begins at one server, and answers to the first of them.
use Rattle.std.specs.Prelude.{◌≡◌, ◌++◌, ◌∷◌, ℕ, zero, suc, Bool, if◌then◌else◌, List, [], max}
use Rattle.lynx_cluster.specs.Answers.{FitsRequest, IsAbove}
use Rattle.lynx_cluster.specs.Clusters.{home_of}
use Rattle.lynx_cluster.specs.Sessions.{told_by}
use Rattle.lynx_codec.specs.Ranges.{IsAnswerInRange}
use Rattle.lynx_entry.specs.declared.answer.Answer.{Answer}
use Rattle.lynx_entry.specs.declared.answer.Answer.TheVariants.{Memory, Stopped}
use Rattle.lynx_entry.specs.Answers.{HasFewResults}
use Rattle.lynx_entry.specs.declared.request.Request.{Request}
use Rattle.lynx_set.specs.Set.{Set}
use Rattle.lynx_weave.specs.declared.told.ToldItem.{ToldItem}
use Rattle.lynx_weave.specs.Told.{stamp_answered}

-- Requests of one server of a set, by a session that was told of no stamp above that one, and the
-- answers so far.
pub record Submitted : Type 0 where
  pub set : Set
  pub server : ℕ
  pub seen : ℕ
  pub requests : List Request
  pub answers : List Answer

-- .. and how many entries of the server have to be settled before its answers are told
pub record Pending : Type 0 where
  pub asked : Submitted
  pub reached : ℕ

-- a server's answer to a request of a session that had seen that stamp
pub record IsFit (set : Set) (server seen : ℕ) (request : Request) (answer : Answer) : Type 0 where
  pub above : IsAbove seen answer
  pub fits : FitsRequest set server request answer
  pub range : IsAnswerInRange answer

-- the greatest stamp that a session has seen once it is told these answers
abbrev pub seen_after : ℕ → List Answer → ℕ
seen_after seen [] = seen
seen_after seen (answer ∷ answers) = seen_after (max seen (stamp_answered answer)) answers

-- the answers are to the first of these requests, in order
abbrev pub AreFit : Set → ℕ → ℕ → List Request → List Answer → Type 0
AreFit set server seen requests [] = Unit {0}
AreFit set server seen [] (answer ∷ answers) = ⊥
AreFit set server seen (request ∷ requests) (answer ∷ answers) =
    IsFit set server seen request answer
    × AreFit set server (max seen (stamp_answered answer)) requests answers

-- what a session notes of that server's answers to requests
abbrev pub told_by_all : ℕ → List Request → List Answer → List ToldItem
told_by_all server (request ∷ requests) (answer ∷ answers) =
    told_by server request answer ++ told_by_all server requests answers
told_by_all server requests answers = []

-- all of these requests begin at that server
abbrev pub BeginAt : Set → ℕ → List Request → Type 0
BeginAt set server [] = Unit {0}
BeginAt set server (request ∷ requests) =
    (home_of set request ≡ server) × BeginAt set server requests

-- all of these answers tell few results
abbrev pub AreFew : List Answer → Type 0
AreFew [] = Unit {0}
AreFew (answer ∷ answers) = HasFewResults answer × AreFew answers

-- so many requests of which none was begun
abbrev pub unanswered : Bool → ℕ → List Answer
unanswered is_stopped zero = []
unanswered is_stopped (suc count) =
    (if is_stopped then Stopped else Memory) ∷ unanswered is_stopped count
