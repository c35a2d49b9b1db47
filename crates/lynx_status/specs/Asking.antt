-- What a request asks for.
use Rattle.std.specs.Prelude.{◌≡◌, ◌≢◌, ℕ, ◌<◌, ◌^◌, Bool, ◌==◌, List, ◌++◌, codes, bytes_eq, Option, Some, None, Result, Ok, Err, IfSome, IfOk, if◌then◌else◌}
use Rattle.lynx_names.specs.declared.chain.ChainId.{ChainId}
use Rattle.lynx_names.specs.declared.limits.TheConstants.{MAX_SERVERS}
use Rattle.lynx_names.specs.Chain.{chain_text}
use Rattle.lynx_status.specs.Hosts.{is_local}
use Rattle.lynx_status.specs.declared.asking.Asked.{Asked}
use Rattle.lynx_status.specs.declared.asking.Asked.TheVariants.{Health, Metrics, Status, Set, Chain}
use Rattle.lynx_status.specs.declared.asking.Refusal.{Refusal}
use Rattle.lynx_status.specs.declared.asking.Refusal.TheVariants.{NoHost, OtherHost, OtherMethod, NotFound}

abbrev pub is_colon : ℕ → Bool
is_colon byte = byte == 58

-- the path of a chain
abbrev pub chain_path : ChainId → List ℕ
chain_path chain = codes "/chain/" ++ chain_text chain

-- the path of what is asked for
abbrev pub path_of : Asked → List ℕ
path_of Health = codes "/healthz"
path_of Metrics = codes "/metrics"
path_of Status = codes "/status"
path_of Set = codes "/set"
path_of (Chain chain) = chain_path chain

-- a chain that there may be
pub record FitsChain (chain : ChainId) : Type 0 where
  pub origin : chain.origin < MAX_SERVERS
  pub index : chain.index < 2 ^ 64

-- what there may be
abbrev pub Fits : Asked → Type 0
Fits (Chain chain) = FitsChain chain
Fits other = Unit {0}

-- why a request is refused before its path is looked at
abbrev pub refused_by : List ℕ → Option (List ℕ) → Option Refusal
refused_by method None = Some NoHost
refused_by method (Some host) =
    if is_local host then (if bytes_eq method (codes "GET") then None else Some OtherMethod)
    else Some OtherHost

-- a request is refused so, or asks for what its path is of
pub record IsAsked (method : List ℕ) (host : Option (List ℕ)) (path : List ℕ)
    (asked : Result Asked Refusal) : Type 0 where
  pub refused : IfSome (refused_by method host) (λ why. asked ≡ Err why)
  pub only : IfOk asked (λ one. (refused_by method host ≡ None) × (path ≡ path_of one))
  pub found : (one : Asked) → refused_by method host ≡ None → Fits one → path ≡ path_of one
      → asked ≡ Ok one
  pub not_found : refused_by method host ≡ None
      → ((one : Asked) → Fits one → path ≢ path_of one) → asked ≡ Err NotFound
