-- The store that a fault names is of the server that doesn't open.
use Rattle.std.proofs.Common.{◌≡◌, ℕ, List, Some, Result, Ok, Err, slice_get, refl, subst, sym}
use Rattle.std.specs.Prelude.{IfErr}
use Rattle.std.specs.Result.{IsErrAnd}
use Rattle.lynx_keep.specs.Kept.{Terms}
use Rattle.lynx_server.specs.Opening.{Opens}
use Rattle.lynx_server.specs.declared.fault.OpenFault.{OpenFault}
use Rattle.lynx_server.specs.declared.fault.OpenFault.TheVariants as opening
use Rattle.lynx_service.specs.Faults.{contents_fault}
use Rattle.lynx_service.specs.declared.fault.ServeFault.{ServeFault}
use Rattle.lynx_set.specs.Set.{Set}
use Rattle.lynx_audit.specs.Audits.{BlamesRight, DoesntOpen}

blames_for : {K : Type 0} (terms : Terms K) (set : Set) (keepers : List K) (server : ℕ) (keeper : K) (why : OpenFault) → slice_get keepers server ≡ Some keeper →
    Opens terms set server keeper (Err why) → BlamesRight terms set keepers (contents_fault server why)
blames_for terms set keepers server keeper (opening.Damaged place) there unopened =
    record { keeper = keeper; there = there; unopened = record { why = opening.Damaged place; told = refl; unopened = unopened } }
blames_for terms set keepers server keeper opening.Store there unopened =
    record { keeper = keeper; there = there; unopened = record { why = opening.Store; told = refl; unopened = unopened } }
blames_for terms set keepers server keeper opening.Memory there unopened = tt

pub blames : {K : Type 0} (terms : Terms K) (set : Set) (keepers : List K) (server : ℕ) (keeper : K) (fault : ServeFault) → slice_get keepers server ≡ Some keeper →
    DoesntOpen terms set server keeper fault → BlamesRight terms set keepers fault
blames terms set keepers server keeper fault there is =
    subst (BlamesRight terms set keepers) (sym is.told) (blames_for terms set keepers server keeper is.why there is.unopened)

-- a fault that is passed on
pub passed_on : {A E : Type 0} (P : E → Type 0) (result : Result A E) (fault : E) → IsErrAnd result (λ told. told ≡ fault) → P fault → IfErr result P
passed_on P (Ok value) fault is holds = tt
passed_on P (Err told) fault is holds = subst P (sym is) holds
