-- Talks over many reads.
use Rattle.std.proofs.Common.{◌≡◌, ℕ, List, [], ◌++◌, Option, Some, None, append_assoc, refl, ap, ◌∙◌, inl, inr}
use Rattle.std.specs.Prelude.{Bool, false}
use Rattle.std.specs.List.{flat_map}
use Rattle.std.specs.Io.KnownBytes.{Consumes, Keeps, IsAtEnd}
use Rattle.std.proofs.KnownBytes.{Consumes-nil, Consumes-trans, Consumes-kept, Appends-nil}
use Rattle.lynx_codec.specs.Encoding.{encoding}
use Rattle.lynx_port.specs.declared.fault.PortFault.{PortFault}
use Rattle.lynx_port.specs.declared.serving.Served.{Served}
use Rattle.lynx_port.specs.Desks.{Begins, Looks, Answering, Replies}
use Rattle.lynx_port.specs.Talks.{Answered}
use Rattle.lynx_port.specs.Exits.{Stops, Stopped, HasServed, HasFailed}
use Rattle.lynx_port.specs.inner.Steps.{Going}
use Rattle.lynx_port.proofs.TalkLemmas.{answered_none, answered_join}
use Rattle.lynx_port.proofs.StopLemmas.{stopped_first, stopped_join, stopped_later}

pub going_none : {D : Type 0} (replies : Answering D) (desk : D) (read wrote : Option (List ℕ)) → Going replies desk desk read read wrote wrote [] 0
going_none replies desk read wrote = record { bytes = []; consumed = Consumes-nil read; answered = answered_none replies desk wrote [] 0 }

pub going_kept : {D : Type 0} (replies : Answering D) (first last : D) (unread read later unwritten wrote : Option (List ℕ)) (left : List ℕ) (count : ℕ)
    → Going replies first last unread read unwritten wrote left count → Keeps read later → Going replies first last unread later unwritten wrote left count
going_kept replies first last unread read later unwritten wrote left count a same =
    record { bytes = a.bytes; consumed = Consumes-kept unread read later a.bytes a.consumed same; answered = a.answered }

-- more was read
pub going_more : {D : Type 0} (replies : Answering D) (first last : D) (unread read later unwritten wrote : Option (List ℕ)) (left more : List ℕ) (count : ℕ)
    → Going replies first last unread read unwritten wrote left count → Consumes read later more → Going replies first last unread later unwritten wrote (left ++ more) count
going_more replies first last unread read later unwritten wrote left more count a consumed = record {
  bytes = a.bytes ++ more;
  consumed = Consumes-trans unread read later a.bytes more a.consumed consumed;
  answered = record {
    frames = a.answered.frames;
    talked = record {
      given = a.answered.talked.given;
      talks = a.answered.talked.talks;
      are_frames = a.answered.talked.are_frames;
      are_replies = a.answered.talked.are_replies;
      taken = ap (λ bytes. bytes ++ more) a.answered.talked.taken ∙ append_assoc (flat_map encoding a.answered.frames) left more;
      appended = a.answered.talked.appended;
    };
    counted = a.answered.counted;
    are_at = a.answered.are_at;
  };
}

-- what was read is the front of a buffer, and was put behind what is left
pub going_read : {D : Type 0} (replies : Answering D) (first last : D) (unread read later unwritten wrote : Option (List ℕ)) (left pushed front more : List ℕ) (count : ℕ)
    → Going replies first last unread read unwritten wrote left count → Consumes read later more → front ≡ more → pushed ≡ left ++ front
    → Going replies first last unread later unwritten wrote pushed count
going_read replies first last unread read later unwritten wrote left pushed front more count a consumed is_front is_pushed =
    rw (is_pushed, is_front) (going_more replies first last unread read later unwritten wrote left more count a consumed)

pub going_on : {D : Type 0} (replies : Answering D) (first middle last : D) (unread read unwritten wrote longer : Option (List ℕ)) (feed left : List ℕ) (count more : ℕ)
    → Going replies first middle unread read unwritten wrote feed count → Answered replies middle last wrote longer feed left count more None
    → Going replies first last unread read unwritten longer left more
going_on replies first middle last unread read unwritten wrote longer feed left count more a b =
    record { bytes = a.bytes; consumed = a.consumed; answered = answered_join replies first middle last unwritten wrote longer a.bytes feed left 0 count more None a.answered b }

-- a fault at which nothing more was asked or written
pub fails_here : {D : Type 0} (begins : Begins D) (looks : Looks D) (first last : D) (unread read unwritten wrote : Option (List ℕ)) (left : List ℕ) (count : ℕ) (fault : PortFault)
    → Going (Replies begins looks) first last unread read unwritten wrote left count → Stops begins looks last last left [] (IsAtEnd read) fault
    → HasFailed begins looks first last unread read unwritten wrote fault
fails_here begins looks first last unread read unwritten wrote left count fault a stops = record {
  bytes = a.bytes;
  consumed = a.consumed;
  stopped = stopped_join begins looks first last last unwritten wrote wrote a.bytes left 0 count (IsAtEnd read) fault a.answered
      (stopped_first begins looks last last wrote wrote left [] (IsAtEnd read) fault (Appends-nil wrote) stops);
}

-- a fault among the frames that were read
pub fails_there : {D : Type 0} (begins : Begins D) (looks : Looks D) (first middle last : D) (unread read unwritten wrote longer : Option (List ℕ)) (left : List ℕ) (count : ℕ) (fault : PortFault)
    → Going (Replies begins looks) first middle unread read unwritten wrote left count → Stopped begins looks middle last wrote longer left ⊥ fault
    → HasFailed begins looks first last unread read unwritten longer fault
fails_there begins looks first middle last unread read unwritten wrote longer left count fault a stopped = record {
  bytes = a.bytes;
  consumed = a.consumed;
  stopped = stopped_join begins looks first middle last unwritten wrote longer a.bytes left 0 count (IsAtEnd read) fault a.answered
      (stopped_later begins looks middle last wrote longer left (IsAtEnd read) fault stopped);
}

-- the client ended the talk
pub served_to_the_end : {D : Type 0} (begins : Begins D) (looks : Looks D) (first middle last : D) (unread read unwritten wrote longer : Option (List ℕ)) (feed left : List ℕ) (count more : ℕ) (shut : Bool)
    → Going (Replies begins looks) first middle unread read unwritten wrote feed count → Answered (Replies begins looks) middle last wrote longer feed left count more (Some shut)
    → HasServed begins looks first last unread read unwritten longer (record { answers = more; shut = shut })
served_to_the_end begins looks first middle last unread read unwritten wrote longer feed left count more shut a b = record {
  bytes = a.bytes;
  left = left;
  ended = Some shut;
  consumed = a.consumed;
  answered = answered_join (Replies begins looks) first middle last unwritten wrote longer a.bytes feed left 0 count more (Some shut) a.answered b;
  how = inl refl;
}

-- the input ended
pub served_dry : {D : Type 0} (begins : Begins D) (looks : Looks D) (first last : D) (unread read unwritten wrote : Option (List ℕ)) (left : List ℕ) (count : ℕ) (served : Served)
    → Going (Replies begins looks) first last unread read unwritten wrote left count → left ≡ [] → served.answers ≡ count → served.shut ≡ false → IsAtEnd read
    → HasServed begins looks first last unread read unwritten wrote served
served_dry begins looks first last unread read unwritten wrote left count served a none counted stays end = record {
  bytes = a.bytes;
  left = left;
  ended = None;
  consumed = a.consumed;
  answered = rw counted a.answered;
  how = inr (refl, none, end, stays);
}
