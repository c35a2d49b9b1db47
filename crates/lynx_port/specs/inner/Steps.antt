-- One step of a talk: an encoding that is written, a frame that is read, a frame that is answered.
use Rattle.std.specs.Prelude.{◌≡◌, ◌≢◌, ℕ, ◌+◌, ◌≤◌, ◌++◌, List, [], map, length, Option, Some, None, IfSome, ◌⊎◌}
use Rattle.std.specs.List.{flat_map, AllByRecursion}
use Rattle.std.specs.Io.KnownBytes.{Appends, Consumes}
use Rattle.lynx_entry.specs.declared.request.Request.{Request}
use Rattle.lynx_codec.specs.declared.item.Item.{Item}
use Rattle.lynx_codec.specs.declared.item.Item.TheVariants as items
use Rattle.lynx_codec.specs.Encoding.{encoding}
use Rattle.lynx_codec.specs.Ranges.{IsItem}
use Rattle.lynx_port.specs.declared.fault.PortFault.{PortFault}
use Rattle.lynx_port.specs.declared.fault.PortFault.TheVariants as faults
use Rattle.lynx_port.specs.Desks.{Looks, Answering}
use Rattle.lynx_port.specs.Talks.{Talks, Answered}
use Rattle.lynx_port.specs.Exits.{IsUnasked, LooksInVain, IsBad}

-- A front of the bytes is written, and the rest is not.
pub record Wrote (old new : Option (List ℕ)) (bytes rest : List ℕ) : Type 0 where
  pub part : List ℕ
  pub cut : bytes ≡ part ++ rest
  pub appended : Appends old new part

-- some bytes were not written
abbrev pub CutsShort : Option (List ℕ) → Option (List ℕ) → List ℕ → PortFault → Type 0
CutsShort old new bytes fault =
    ((fault ≡ faults.Write) ⊎ (fault ≡ faults.Turns))
    × ((rest : List ℕ) × (rest ≢ []) × Wrote old new bytes rest)

-- no frame was read of what stands next
abbrev pub NoFrame : List ℕ → PortFault → Type 0
NoFrame left (faults.Bad fault) = IsBad fault left ⊥
NoFrame left faults.Memory = Unit {0}
NoFrame left fault = ⊥

-- a frame was not answered
abbrev pub Refuses : {D : Type 0} → Looks D → D → D → Item → PortFault → Type 0
Refuses looks first last frame faults.Memory = (last ≡ first) ⊎ LooksInVain looks first frame last
Refuses looks first last frame faults.NotAsked = (last ≡ first) × IsUnasked frame
Refuses looks first last frame fault = ⊥

-- The desk answered a frame, and these bytes are the encoding of its answer.
pub record IsReply {D : Type 0} (replies : Answering D) (first last : D) (frame : Item)
    (bytes : List ℕ) : Type 0 where
  pub reply : Item
  pub replied : replies first frame reply last
  pub is_reply : IsItem reply
  pub bytes_are : bytes ≡ encoding reply

-- the encoding of a frame's answer was written
abbrev pub WritesReply : {D : Type 0} → Answering D → D → D → Option (List ℕ)
    → Option (List ℕ) → Item → Type 0
WritesReply replies first last unwritten wrote frame =
    (bytes : List ℕ) × IsReply replies first last frame bytes × Appends unwritten wrote bytes

-- requests as frames
abbrev pub as_frames : List Request → List Item
as_frames requests = map items.Request requests

-- the encoding of a frame, if there is one
abbrev pub encoding_if : Option Item → List ℕ
encoding_if None = []
encoding_if (Some frame) = encoding frame

-- From the front of the bytes requests were taken, and the frame behind them if there is one.
pub record Takes (bytes : List ℕ) (requests : List Request) (other : Option Item)
    (left : List ℕ) : Type 0 where
  pub are_items : AllByRecursion IsItem (as_frames requests)
  pub is_item : IfSome other IsItem
  pub stood : bytes ≡ flat_map encoding (as_frames requests) ++ (encoding_if other ++ left)

-- Frames were answered, none of which ends the talk, and the one behind them was taken if there is
-- one. The count grew by no more than the bytes that were taken.
pub record GoesOn {D : Type 0} (replies : Answering D) (first last : D)
    (unwritten wrote : Option (List ℕ)) (bytes : List ℕ) (other : Option Item) (left : List ℕ)
    (before count : ℕ) : Type 0 where
  pub answered :
      Answered replies first last unwritten wrote bytes (encoding_if other ++ left) before count
      None
  pub is_item : IfSome other IsItem
  pub room : count + length (encoding_if other ++ left) ≤ before + length bytes

-- The desk answered frames in order, and these bytes are the encodings of its answers.
pub record AreReplies {D : Type 0} (replies : Answering D) (first last : D) (frames : List Item)
    (bytes : List ℕ) : Type 0 where
  pub given : List Item
  pub talks : Talks replies first frames given last
  pub are_replies : AllByRecursion IsItem given
  pub bytes_are : bytes ≡ flat_map encoding given

-- the encodings of the frames' answers were written
abbrev pub WritesReplies : {D : Type 0} → Answering D → D → D → Option (List ℕ)
    → Option (List ℕ) → List Item → Type 0
WritesReplies replies first last unwritten wrote frames =
    (bytes : List ℕ) × AreReplies replies first last frames bytes × Appends unwritten wrote bytes

-- A talk that goes on: of the bytes that were read these are left behind the frames that were
-- answered.
pub record Going {D : Type 0} (replies : Answering D) (first last : D)
    (unread read unwritten wrote : Option (List ℕ)) (left : List ℕ) (count : ℕ) : Type 0 where
  pub bytes : List ℕ
  pub consumed : Consumes unread read bytes
  pub answered : Answered replies first last unwritten wrote bytes left 0 count None
