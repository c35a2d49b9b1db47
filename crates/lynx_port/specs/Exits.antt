-- How the serving of a client ends.
use Rattle.std.specs.Prelude.{◌≡◌, ◌≢◌, ℕ, ◌<◌, ◌++◌, Bool, false, List, [], map, length, Option, Some, None, Ok, Err, ◌⊎◌}
use Rattle.std.specs.List.{flat_map, AllByRecursion}
use Rattle.std.specs.Io.KnownBytes.{Consumes, IsAtEnd}
use Rattle.lynx_entry.specs.declared.request.Request.{Request}
use Rattle.lynx_codec.specs.declared.fault.DecodeFault.{DecodeFault}
use Rattle.lynx_codec.specs.declared.fault.DecodeFault.TheVariants as decoding
use Rattle.lynx_codec.specs.declared.item.Item.{Item}
use Rattle.lynx_codec.specs.declared.item.Item.TheVariants as items
use Rattle.lynx_codec.specs.Encoding.{encoding}
use Rattle.lynx_codec.specs.Front.{front}
use Rattle.lynx_codec.specs.Ranges.{IsItem}
use Rattle.lynx_port.specs.declared.limits.TheConstants.{MAX_TOGETHER}
use Rattle.lynx_port.specs.declared.fault.PortFault.{PortFault}
use Rattle.lynx_port.specs.declared.fault.PortFault.TheVariants as faults
use Rattle.lynx_port.specs.declared.serving.Served.{Served}
use Rattle.lynx_port.specs.Desks.{Begins, Looks, Answering, Replies}
use Rattle.lynx_port.specs.Talks.{Talks, Talked, Answered, GoOn}

-- the encoding of that frame stands next
abbrev pub StandsNext : List ℕ → Item → Type 0
StandsNext left frame = (more : List ℕ) × IsItem frame × (left ≡ encoding frame ++ more)

-- no client sends it
abbrev pub IsUnasked : Item → Type 0
IsUnasked (items.Request request) = ⊥
IsUnasked (items.Look look) = ⊥
IsUnasked items.Quit = ⊥
IsUnasked items.Shut = ⊥
IsUnasked frame = Unit {0}

-- the desk looked, and wanted memory
abbrev pub LooksInVain : {D : Type 0} → Looks D → D → Item → D → Type 0
LooksInVain looks first (items.Look look) last =
    looks first look.chain look.hop (Err (record {})) last
LooksInVain looks first frame last = ⊥

-- no item can be read of what stands next; bytes are missing only where the input has ended
abbrev pub IsBad : DecodeFault → List ℕ → Type 0 → Type 0
IsBad decoding.Memory left has_ended = ⊥
IsBad decoding.Short left has_ended = (front left ≡ Ok None) × (left ≢ []) × has_ended
IsBad fault left has_ended = front left ≡ Err fault

-- The requests that stand next were answered, and no byte of the answers was written.
pub record Unwritten {D : Type 0} (replies : Answering D) (first last : D)
    (left : List ℕ) : Type 0 where
  pub requests : List Request
  pub given : List Item
  pub more : List ℕ
  pub talks : Talks replies first (map items.Request requests) given last
  pub are_items : AllByRecursion IsItem (map items.Request requests)
  pub stand : left ≡ flat_map encoding (map items.Request requests) ++ more
  pub few : length requests < MAX_TOGETHER

-- The frame that stands next was answered, and its answer was not written whole. Requests behind
-- it may have been asked together with it.
pub record BrokeOff {D : Type 0} (replies : Answering D) (first last : D)
    (left part : List ℕ) : Type 0 where
  pub frame : Item
  pub reply : Item
  pub stands : StandsNext left frame
  pub next : D
  pub replied : replies first frame reply next
  pub is_reply : IsItem reply
  pub rest : List ℕ
  pub cut : encoding reply ≡ part ++ rest
  pub missing : rest ≢ []
  pub behind : Unwritten replies next last stands.0

-- nothing more was asked, and nothing more was written
abbrev pub Stays : {D : Type 0} → D → D → List ℕ → Type 0
Stays first last part = (last ≡ first) × (part ≡ [])

-- what a fault means for what stands next
abbrev pub Stops : {D : Type 0} → Begins D → Looks D → D → D → List ℕ → List ℕ → Type 0
    → PortFault → Type 0
Stops begins looks first last left part has_ended faults.Read =
    Stays first last part × (front left ≡ Ok None)
Stops begins looks first last left part has_ended faults.Write =
    BrokeOff (Replies begins looks) first last left part
Stops begins looks first last left part has_ended (faults.Bad fault) =
    Stays first last part × IsBad fault left has_ended
Stops begins looks first last left part has_ended faults.Turns =
    (Stays first last part × (front left ≡ Ok None))
    ⊎ BrokeOff (Replies begins looks) first last left part
Stops begins looks first last left part has_ended faults.Memory =
    (part ≡ [])
    × ((last ≡ first)
    ⊎ ((frame : Item) × StandsNext left frame × LooksInVain looks first frame last))
Stops begins looks first last left part has_ended faults.NotAsked =
    Stays first last part × ((frame : Item) × StandsNext left frame × IsUnasked frame)

-- All frames so far were answered, and a fault stopped the talk there.
pub record Stopped {D : Type 0} (begins : Begins D) (looks : Looks D) (first last : D)
    (unwritten wrote : Option (List ℕ)) (bytes : List ℕ) (has_ended : Type 0)
    (fault : PortFault) : Type 0 where
  pub frames : List Item
  pub middle : D
  pub left : List ℕ
  pub part : List ℕ
  pub talked : Talked (Replies begins looks) first middle unwritten wrote bytes frames left part
  pub go_on : GoOn frames
  pub stops : Stops begins looks middle last left part has_ended fault

-- The client ended the talk, or its input ended behind a whole frame.
pub record HasServed {D : Type 0} (begins : Begins D) (looks : Looks D) (first last : D)
    (unread read unwritten wrote : Option (List ℕ)) (served : Served) : Type 0 where
  pub bytes : List ℕ
  pub left : List ℕ
  pub ended : Option Bool
  pub consumed : Consumes unread read bytes
  pub answered :
      Answered (Replies begins looks) first last unwritten wrote bytes left 0 served.answers ended
  pub how : (ended ≡ Some served.shut)
      ⊎ ((ended ≡ None) × (left ≡ []) × IsAtEnd read × (served.shut ≡ false))

-- A fault stopped the talk after these bytes were read.
pub record HasFailed {D : Type 0} (begins : Begins D) (looks : Looks D) (first last : D)
    (unread read unwritten wrote : Option (List ℕ)) (fault : PortFault) : Type 0 where
  pub bytes : List ℕ
  pub consumed : Consumes unread read bytes
  pub stopped : Stopped begins looks first last unwritten wrote bytes (IsAtEnd read) fault
