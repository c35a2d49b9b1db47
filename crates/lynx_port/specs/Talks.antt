-- What a client sends, and what it is answered.
use Rattle.std.specs.Prelude.{◌≡◌, ℕ, ◌+◌, ◌++◌, Bool, true, false, List, [], ◌∷◌, length, Option, Some, None}
use Rattle.std.specs.List.{flat_map, AllByRecursion}
use Rattle.std.specs.Io.KnownBytes.{Appends}
use Rattle.lynx_codec.specs.declared.item.Item.{Item}
use Rattle.lynx_codec.specs.declared.item.Item.TheVariants as items
use Rattle.lynx_codec.specs.Encoding.{encoding}
use Rattle.lynx_codec.specs.Ranges.{IsItem}
use Rattle.lynx_port.specs.Desks.{Answering}

-- each frame is answered in order, from the desk's first state to its last
abbrev pub Talks : {D : Type 0} → Answering D → D → List Item → List Item → D → Type 0
Talks replies first [] [] last = last ≡ first
Talks replies first [] (reply ∷ given) last = ⊥
Talks replies first (frame ∷ frames) [] last = ⊥
Talks {D} replies first (frame ∷ frames) (reply ∷ given) last =
    (next : D) × replies first frame reply next × Talks replies next frames given last

-- whether a frame ends the talk, and whether all is to shut then
abbrev pub ended_by : Item → Option Bool
ended_by items.Quit = Some false
ended_by items.Shut = Some true
ended_by frame = None

-- no frame ends the talk
abbrev pub GoOn : List Item → Type 0
GoOn frames = AllByRecursion (λ frame. ended_by frame ≡ None) frames

-- the last frame ends the talk so, and none before it does
abbrev pub Closes : List Item → Bool → Type 0
Closes frames shut =
    (before : List Item) × (last : Item) × (frames ≡ before ++ last ∷ []) × GoOn before
    × (ended_by last ≡ Some shut)

-- how far a talk is: it goes on, or it ended
abbrev pub AreAt : List Item → Option Bool → Type 0
AreAt frames None = GoOn frames
AreAt frames (Some shut) = Closes frames shut

-- A stretch of a talk: the bytes are the encodings of the frames and then what is left, and what
-- was written is the encodings of the replies to them and then a part of one more.
pub record Talked {D : Type 0} (replies : Answering D) (first last : D)
    (unwritten wrote : Option (List ℕ)) (bytes : List ℕ) (frames : List Item)
    (left part : List ℕ) : Type 0 where
  pub given : List Item
  pub talks : Talks replies first frames given last
  pub are_frames : AllByRecursion IsItem frames
  pub are_replies : AllByRecursion IsItem given
  pub taken : bytes ≡ flat_map encoding frames ++ left
  pub appended : Appends unwritten wrote (flat_map encoding given ++ part)

-- All frames so far were answered whole, and counted on from the count before.
pub record Answered {D : Type 0} (replies : Answering D) (first last : D)
    (unwritten wrote : Option (List ℕ)) (bytes left : List ℕ) (before count : ℕ)
    (ended : Option Bool) : Type 0 where
  pub frames : List Item
  pub talked : Talked replies first last unwritten wrote bytes frames left []
  pub counted : count ≡ before + length frames
  pub are_at : AreAt frames ended
