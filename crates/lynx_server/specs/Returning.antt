-- Programs that return to the server where they begin.
use Rattle.std.specs.Prelude.{◌≡◌, ◌<◌, ℕ, true, slice_get, Some}
use Rattle.lynx_set.specs.Set.{Set}
use Rattle.lynx_set.specs.Lookups.{hops_of}
use Rattle.lynx_set.specs.declared.program.Hop.{Hop}
use Rattle.lynx_rules.specs.Visits.{is_origin}

-- a program that begins at the server has a later hop there
pub record HasReturn (set : Set) (server : ℕ) : Type 0 where
  pub program : ℕ
  pub begins_here : is_origin set program server ≡ true
  pub place : ℕ
  pub later : 0 < place
  pub hop : Hop
  pub there : slice_get (hops_of set program) place ≡ Some hop
  pub here : hop.server ≡ server
