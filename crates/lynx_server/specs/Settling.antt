-- What a settling leaves of a server whose keeper holds entries back.
use Rattle.std.specs.Prelude.{◌≡◌, Bool, None, []}
use Rattle.std.specs.Bool.{MatchBool}
use Rattle.std.specs.FinMap as map
use Rattle.lynx_keep.specs.Kept.{KeptState, Terms}
use Rattle.lynx_keep.specs.HeldBack.{Holding, RestsBehind, held_terms}
use Rattle.lynx_server.specs.Keeping.{kept_of}
use Rattle.lynx_server.specs.Serving.{Becomes, HasStopped, Serving}

-- all that the server did is kept for good, and it runs on as it was
pub record IsSettled {K : Type 0} (terms : Terms K) (old new : Serving (Holding K)) : Type 0 where
  pub becomes : Becomes old None old.held new
  pub kept : terms.sound new.keeper.inner
      → terms.keeps new.keeper.inner (kept_of new.set new.history)

-- A settling of a server that runs: all is kept, or the keeper failed and the server stopped. A
-- stop within it leaves what was settled before, or all that the server did. Nothing waits then.
pub record Settles {K : Type 0} (terms : Terms K) (old : Serving (Holding K)) (done : Bool)
    (new : Serving (Holding K)) : Type 0 where
  pub ends : MatchBool done (IsSettled terms old new) (HasStopped (held_terms terms) old new)
  pub sound_before : terms.sound new.keeper.inner → terms.sound old.keeper.inner
  pub stop : terms.sound new.keeper.inner → (settled : KeptState)
      → RestsBehind terms old.keeper settled (kept_of old.set old.history)
      → terms.leaves new.keeper.inner settled (kept_of old.set old.history)
  pub empty : new.keeper.waiting ≡ []
  pub unchanged : new.keeper.changes ≡ map.empty
