-- What the desk of a client answers to a look, by its session with a cluster, and to begins where
-- all servers stopped.
use Rattle.std.specs.Prelude.{◌≡◌, ℕ, Result, Ok, Err}
use Rattle.lynx_cluster.specs.Looks.{Looks}
use Rattle.lynx_cluster.specs.Sessions.{SessionState}
use Rattle.lynx_codec.specs.declared.item.Looked.{Looked}
use Rattle.lynx_entry.specs.declared.answer.Answer.{Answer}
use Rattle.lynx_entry.specs.declared.answer.Answer.TheVariants.{Stopped}
use Rattle.lynx_entry.specs.declared.request.Request.{Request}
use Rattle.lynx_names.specs.declared.chain.ChainId.{ChainId}
use Rattle.lynx_names.specs.declared.memory.Memory.{Memory}
use Rattle.lynx_set.specs.Set.{Set}

-- A look at the cluster: what was found is told to the session, and where memory is wanting nothing
-- is.
abbrev pub AnswersLook : Set → SessionState → ChainId → ℕ → Result Looked Memory → SessionState
    → Type 0
AnswersLook set old chain hop (Ok looked) new = Looks set old chain hop looked new
AnswersLook set old chain hop (Err wanting) new = new ≡ old

-- what is answered to a request where all servers stopped
abbrev pub stopped : Request → Answer
stopped request = Stopped
