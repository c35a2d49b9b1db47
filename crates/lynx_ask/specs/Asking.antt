-- What a line asks, and what a client sends.
use Rattle.std.specs.Prelude.{◌≡◌, ◌<◌, ◌==◌, ◌&&◌, ℕ, Bool, Option, List, [], ◌∷◌, ◌++◌, length, true, false, codes, nat_lt, option_map, slice_get, unwrap_or}
use Rattle.std.specs.Io.KnownBytes.{Appends}
use Rattle.std.specs.List.{list_any}
use Rattle.lynx_codec.specs.Encoding.{encoding}
use Rattle.lynx_codec.specs.declared.item.Item.{Item}
use Rattle.lynx_codec.specs.declared.item.Item.TheVariants.{Request, Look, Quit, Shut}
use Rattle.lynx_entry.specs.declared.event.Event.{Event}
use Rattle.lynx_entry.specs.declared.event.Event.TheVariants.{Begin, Deliver}
use Rattle.lynx_entry.specs.declared.request.Request as requests
use Rattle.lynx_lex.specs.declared.fault.FaultKind.{FaultKind}
use Rattle.lynx_lex.specs.declared.fault.FaultKind.TheVariants.{LimitPassed}
use Rattle.lynx_names.specs.declared.chain.ChainId.{ChainId}
use Rattle.lynx_names.specs.declared.limits.TheConstants.{MAX_PARAMETERS}
use Rattle.lynx_lines.specs.Scripts.{script_of}
use Rattle.lynx_set.specs.Set.{Set}
use Rattle.lynx_set.specs.declared.program.Program.{Program}
use Rattle.lynx_ask.specs.declared.reading.Asked.{Asked}
use Rattle.lynx_ask.specs.declared.reading.Asked.TheVariants as asks

-- an item that a client may send
abbrev pub IsFromClient : Item → Type 0
IsFromClient (Request request) = Unit {0}
IsFromClient (Look look) = Unit {0}
IsFromClient Quit = Unit {0}
IsFromClient Shut = Unit {0}
IsFromClient other = ⊥

-- these words, behind others, are the line of a script that has one event
abbrev pub Spells : Set → List ℕ → List ℕ → Event → Type 0
Spells set verb words event = script_of set (event ∷ []) ≡ verb ++ words ++ 10 ∷ []

-- A begin that a script spells at server 0.
pub record AsksBegin (set : Set) (words : List ℕ) (request : requests.Request) : Type 0 where
  pub server : ℕ
  pub seen : ℕ
  pub spelled : Spells set (codes "begin 0 ") words (Begin server request seen)

-- the words of a look, with `wait` behind it where it waits
abbrev pub with_wait : Bool → List ℕ → List ℕ
with_wait true message = message ++ codes " wait"
with_wait false message = message

-- A look that a script spells as a delivery.
pub record AsksLook (set : Set) (words : List ℕ) (chain : ChainId) (hop : ℕ) (waits : Bool) : Type
    0 where
  pub message : List ℕ
  pub told : words ≡ with_wait waits message
  pub spelled : Spells set (codes "deliver ") message (Deliver chain hop)

-- what the words behind `begin` ask: a begin
abbrev pub IsBeginOf : Set → List ℕ → Asked → Type 0
IsBeginOf set words (asks.Begin request) = AsksBegin set words request
IsBeginOf set words other = ⊥

-- what the words behind `look` ask: a look
abbrev pub IsLookOf : Set → List ℕ → Asked → Type 0
IsLookOf set words (asks.Look chain hop waits) = AsksLook set words chain hop waits
IsLookOf set words other = ⊥

-- what a line asks, without its LF
abbrev pub IsAskedBy : Set → List ℕ → Asked → Type 0
IsAskedBy set line asks.Quit = line ≡ codes "quit"
IsAskedBy set line asks.Shut = line ≡ codes "shut"
IsAskedBy set line (asks.Begin request) =
    (words : List ℕ) × (line ≡ codes "begin " ++ words) × AsksBegin set words request
IsAskedBy set line (asks.Look chain hop waits) =
    (words : List ℕ) × (line ≡ codes "look " ++ words) × AsksLook set words chain hop waits

-- what a client sends for what a line asks
abbrev pub item_of : Asked → Item
item_of (asks.Begin request) = Request request
item_of (asks.Look chain hop waits) = Look (record { chain = chain; hop = hop })
item_of asks.Quit = Quit
item_of asks.Shut = Shut

-- a program that begins at that server and has that hop
abbrev pub has_hop_from : ℕ → ℕ → List ℕ × Program → Bool
has_hop_from origin hop named =
    unwrap_or (option_map (λ first. first.server == origin) (slice_get named.1.hops 0)) false
    && nat_lt hop (length named.1.hops)

-- a chain that began there may do that hop
abbrev pub may_run : Set → ChainId → ℕ → Bool
may_run set chain hop = list_any (has_hop_from chain.origin hop) set.programs

-- whether it is asked until a hop is done: where it says so, and a chain may do it
abbrev pub waits_in : Set → Asked → Bool
waits_in set (asks.Look chain hop waits) = waits && may_run set chain hop
waits_in set other = false

-- a begin with more arguments than any program has parameters, which has no encoding
abbrev pub IsTooLong : Asked → FaultKind → Type 0
IsTooLong (asks.Begin request) fault =
    (fault ≡ LimitPassed) × (MAX_PARAMETERS < length request.args)
IsTooLong other fault = ⊥

-- The item that a client sends for a line, and whether it is asked until a hop is done.
pub record Sends (set : Set) (line : List ℕ) (item : Item) (waits : Bool) : Type 0 where
  pub asked : Asked
  pub asks_it : IsAskedBy set line asked
  pub item_is : item ≡ item_of asked
  pub waits_is : waits ≡ waits_in set asked

-- The bytes were sent right behind all that was sent before: with nothing between them, the stream
-- held them.
pub record IsSentFirst {S : Type 0} (contents : S → Option (List ℕ)) (bytes : List ℕ)
    (old : S) : Type 0 where
  pub held : S
  pub sent : Appends (contents old) (contents held) bytes

-- the encoding of the item that a line asks for was so sent
pub record IsSentFor {S : Type 0} (contents : S → Option (List ℕ)) (set : Set) (line : List ℕ)
    (old : S) : Type 0 where
  pub item : Item
  pub waits : Bool
  pub asked : Sends set line item waits
  pub first : IsSentFirst contents (encoding item) old
