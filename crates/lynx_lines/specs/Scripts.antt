-- The one text of a script.
use Rattle.std.specs.Prelude.{◌≡◌, ◌==◌, Bool, true, ℕ, ◌^◌, ◌<◌, ◌≤◌, List, [], ◌∷◌, length, map, codes, decimal}
use Rattle.std.specs.List.{AllByRecursion}
use Rattle.lynx_names.specs.declared.limits.TheConstants.{MAX_PARAMETERS, MAX_PROGRAMS, MAX_SERVERS, MAX_TEXT_BYTES}
use Rattle.lynx_names.specs.declared.chain.ChainId.{ChainId}
use Rattle.lynx_set.specs.Set.{Set}
use Rattle.lynx_set.specs.Text.{name_at, text}
use Rattle.lynx_lex.specs.Word.{is_name}
use Rattle.lynx_entry.specs.declared.request.Request.{Request}
use Rattle.lynx_entry.specs.declared.event.Event.{Event}
use Rattle.lynx_entry.specs.declared.event.Event.TheVariants.{Begin, Deliver, Wake, Lost, Restart}
use Rattle.lynx_names.specs.Chain.{chain_text}
use Rattle.lynx_set.specs.Lookups.{program_names}

abbrev pub is_colon : ℕ → Bool
is_colon byte = byte == 58

-- the words behind `begin`, where programs have these names
abbrev pub begin_words : List (List ℕ) → ℕ → Request → List (List ℕ)
begin_words names server request =
    decimal server ∷ decimal request.client ∷ decimal request.number ∷ name_at names request.program
    ∷ map decimal request.args

-- the words of the message of a chain's hop
abbrev pub message_words : ChainId → ℕ → List (List ℕ)
message_words chain hop = chain_text chain ∷ decimal hop ∷ []

-- the words of an event, where programs have these names
abbrev pub event_words : List (List ℕ) → Event → List (List ℕ)
event_words names (Begin server request seen) = codes "begin" ∷ begin_words names server request
event_words names (Deliver chain hop) = codes "deliver" ∷ message_words chain hop
event_words names (Wake server) = codes "wake" ∷ decimal server ∷ []
event_words names (Lost chain hop) = codes "lose" ∷ message_words chain hop
event_words names (Restart server) = codes "restart" ∷ decimal server ∷ []

-- a server of the set, which has a number in range, as each has of a set that has a text
pub record FitsServer (set : Set) (server : ℕ) : Type 0 where
  pub declared : server < set.servers
  pub numbered : server < MAX_SERVERS

-- a program of the set, which has a name and a number in range, as each has of a set that has a
-- text
pub record FitsProgram (set : Set) (program : ℕ) : Type 0 where
  pub declared : program < length set.programs
  pub named : is_name (name_at (program_names set) program) ≡ true
  pub numbered : program < MAX_PROGRAMS

-- a begin at a server of the set, of one of its programs, with no more arguments than a program may
-- have, by a client that was told nothing
pub record FitsBegin (set : Set) (server : ℕ) (request : Request) (seen : ℕ) : Type 0 where
  pub server_is : FitsServer set server
  pub client : request.client < 2 ^ 64
  pub number : request.number < 2 ^ 64
  pub program : FitsProgram set request.program
  pub few : length request.args ≤ MAX_PARAMETERS
  pub args : AllByRecursion (λ arg. arg < 2 ^ 64) request.args
  pub unseen : seen ≡ 0

-- a hop, in a byte, of a chain whose origin is a server of the set
pub record FitsMessage (set : Set) (chain : ChainId) (hop : ℕ) : Type 0 where
  pub origin_is : FitsServer set chain.origin
  pub index : chain.index < 2 ^ 64
  pub small : hop < 2 ^ 8

-- An event that a script over the set may ask for.
abbrev pub FitsEvent : Set → Event → Type 0
FitsEvent set (Begin server request seen) = FitsBegin set server request seen
FitsEvent set (Deliver chain hop) = FitsMessage set chain hop
FitsEvent set (Wake server) = FitsServer set server
FitsEvent set (Lost chain hop) = FitsMessage set chain hop
FitsEvent set (Restart server) = FitsServer set server

-- a line for each event
abbrev pub script_of : Set → List Event → List ℕ
script_of set events = text (map (event_words (program_names set)) events)

-- events that a script can ask for: each of them may be, and the text isn't too long
abbrev pub IsScript : Set → List Event → Type 0
IsScript set events =
    AllByRecursion (FitsEvent set) events × (length (script_of set events) ≤ MAX_TEXT_BYTES)
