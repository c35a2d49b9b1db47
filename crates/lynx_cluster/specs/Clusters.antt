-- What a cluster is known by, and where its requests begin.
use Rattle.std.specs.Prelude.{◌≡◌, ℕ, List, unwrap_or}
use Rattle.lynx_entry.specs.declared.request.Request.{Request}
use Rattle.lynx_server.specs.Serving.{Serving}
use Rattle.lynx_set.specs.Lookups.{origin_of}
use Rattle.lynx_set.specs.Set.{Set}

-- A cluster: its set, and how long each server's history was at the start.
pub record ClusterState : Type 0 where
  pub set : Set
  pub starts : List ℕ

-- the server at which a request begins: the origin of its program, server 0 where the set hasn't
-- the program
abbrev pub home_of : Set → Request → ℕ
home_of set request = unwrap_or (origin_of set request.program) 0

-- it is the state of that server of that set
pub record IsOf {K : Type 0} (set : Set) (server : ℕ) (state : Serving K) : Type 0 where
  pub set_is : state.set ≡ set
  pub server_is : state.server ≡ server
