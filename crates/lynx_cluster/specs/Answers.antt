-- What an answer to a begin says of its request, of what was told before, and of the server that
-- gave it.
use Rattle.std.specs.Prelude.{◌≡◌, ◌<◌, ◌⊎◌, ℕ, false, List, [], Some, None, Ok, Err}
use Rattle.lynx_cells.specs.Database.{Database}
use Rattle.lynx_entry.specs.declared.answer.Answer.{Answer}
use Rattle.lynx_entry.specs.declared.answer.Answer.TheVariants.{Begun, Refused, Clash, UnknownProgram, WrongOrigin, ArgCount, OutsideRange, WrongShard, Full, Busy, Stopped, Memory}
use Rattle.lynx_entry.specs.declared.request.Request.{Request}
use Rattle.lynx_hops.specs.Meaning.{meaning}
use Rattle.lynx_keep.specs.Kept.{Terms}
use Rattle.lynx_names.specs.declared.chain.ChainId.{ChainId}
use Rattle.lynx_rules.specs.Checks.{request_fault}
use Rattle.lynx_server.specs.Returning.{HasReturn}
use Rattle.lynx_server.specs.Serving.{Begins, Lasts, Serving, begins_here}
use Rattle.lynx_set.specs.Set.{Set}

-- a fresh stamp is above this one
abbrev pub IsAbove : ℕ → Answer → Type 0
IsAbove seen (Begun chain stamp results again) = again ≡ false → seen < stamp
IsAbove seen (Refused need stamp again) = again ≡ false → seen < stamp
IsAbove seen given = Unit {0}

-- Nothing is wrong with the request at this server; the chain is of this server, and the results
-- are those of its first hop over some database.
pub record FitsBegun (set : Set) (server : ℕ) (request : Request) (chain : ChainId)
    (results : List ℕ) : Type 0 where
  pub in_order : request_fault set server request ≡ None
  pub of_server : chain.origin ≡ server
  pub before : Database
  pub after : Database
  pub gives : meaning set request.program 0 request.args [] before ≡ Ok (results, after)

-- Nothing is wrong with the request at this server, and its first hop refuses by that need over
-- some database.
pub record FitsRefused (set : Set) (server : ℕ) (request : Request) (need : ℕ) : Type 0 where
  pub in_order : request_fault set server request ≡ None
  pub before : Database
  pub refuses : meaning set request.program 0 request.args [] before ≡ Err need

-- What is wrong with a request is answered only where just that is wrong with it at this server. A
-- begin or a refusal comes only where nothing is, fresh or from the record, with a chain of the
-- server and with what the request's first hop may come to; Full and Busy come only where nothing
-- is, and Busy besides only where a program that begins at the server returns there.
abbrev pub FitsRequest : Set → ℕ → Request → Answer → Type 0
FitsRequest set server request (Begun chain stamp results again) =
    FitsBegun set server request chain results
FitsRequest set server request (Refused need stamp again) = FitsRefused set server request need
FitsRequest set server request Full = request_fault set server request ≡ None
FitsRequest set server request Busy =
    (request_fault set server request ≡ None) × HasReturn set server
FitsRequest set server request UnknownProgram =
    request_fault set server request ≡ Some UnknownProgram
FitsRequest set server request WrongOrigin = request_fault set server request ≡ Some WrongOrigin
FitsRequest set server request ArgCount = request_fault set server request ≡ Some ArgCount
FitsRequest set server request OutsideRange = request_fault set server request ≡ Some OutsideRange
FitsRequest set server request WrongShard = request_fault set server request ≡ Some WrongShard
FitsRequest set server request Clash = Unit {0}
FitsRequest set server request Stopped = Unit {0}
FitsRequest set server request Memory = Unit {0}

-- the server answered as a server that runs does, by what its session had seen, and its keeper
-- lasts
pub record IsServed {K : Type 0} (terms : Terms K) (old : Serving K) (request : Request) (seen : ℕ)
    (given : Answer) (new : Serving K) : Type 0 where
  pub begins : Begins terms old request seen given new
  pub lasts : Lasts terms old (begins_here old request seen).added new

-- A begin on the state of a server that runs: memory was wanting, which changes nothing, or the
-- server was asked.
abbrev pub IsLeft : {K : Type 0} → Terms K → Serving K → Request → ℕ → Answer → Serving K → Type 0
IsLeft terms old request seen given new =
    ((given ≡ Memory) × (new ≡ old)) ⊎ IsServed terms old request seen given new

-- what a server answers that stopped
abbrev pub IsUnserved : Answer → Type 0
IsUnserved given = (given ≡ Stopped) ⊎ (given ≡ Memory)
