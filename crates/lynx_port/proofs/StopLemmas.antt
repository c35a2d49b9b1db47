-- Talks that a fault stopped.
use Rattle.std.proofs.Common.{◌≡◌, ℕ, List, [], ◌++◌, Option, None, Ok, Err, refl, sym, ◌∙◌, subst, inl, inr, arith}
use Rattle.std.specs.Prelude.{Result, IfErr}
use Rattle.std.specs.Io.KnownBytes.{Appends}
use Rattle.std.proofs.KnownBytes.{Appends-nil}
use Rattle.lynx_codec.specs.declared.fault.DecodeFault.{DecodeFault}
use Rattle.lynx_codec.specs.declared.fault.DecodeFault.TheVariants as decoding
use Rattle.lynx_codec.specs.declared.item.Item.{Item}
use Rattle.lynx_codec.specs.Encoding.{encoding}
use Rattle.lynx_codec.specs.Ranges.{IsItem}
use Rattle.lynx_port.specs.declared.fault.PortFault.{PortFault}
use Rattle.lynx_port.specs.declared.fault.PortFault.TheVariants as faults
use Rattle.lynx_port.specs.Desks.{Begins, Looks, Answering, Replies}
use Rattle.lynx_port.specs.Talks.{Answered}
use Rattle.lynx_port.specs.Exits.{IsBad, Unwritten, BrokeOff, Stops, Stopped}
use Rattle.lynx_port.specs.inner.Steps.{CutsShort, NoFrame, Refuses, IsReply}
use Rattle.lynx_port.proofs.TalkLemmas.{talked_none, talked_join, go_on_join}

bad_later : (ended : Type 0) (fault : DecodeFault) (left : List ℕ) → IsBad fault left ⊥ → IsBad fault left ended
bad_later ended decoding.Memory left a = absurd a
bad_later ended decoding.Short left a = absurd a.2
bad_later ended decoding.BadTag left a = a
bad_later ended decoding.BadLength left a = a
bad_later ended decoding.OutOfRange left a = a

stops_later : {D : Type 0} (begins : Begins D) (looks : Looks D) (first last : D) (left part : List ℕ) (ended : Type 0) (fault : PortFault)
    → Stops begins looks first last left part ⊥ fault → Stops begins looks first last left part ended fault
stops_later begins looks first last left part ended faults.Read a = a
stops_later begins looks first last left part ended faults.Write a = a
stops_later begins looks first last left part ended (faults.Bad fault) a = (a.0, bad_later ended fault left a.1)
stops_later begins looks first last left part ended faults.Turns a = a
stops_later begins looks first last left part ended faults.Memory a = a
stops_later begins looks first last left part ended faults.NotAsked a = a

-- a fault that is known before the input has ended
pub stopped_later : {D : Type 0} (begins : Begins D) (looks : Looks D) (first last : D) (unwritten wrote : Option (List ℕ)) (bytes : List ℕ) (ended : Type 0) (fault : PortFault)
    → Stopped begins looks first last unwritten wrote bytes ⊥ fault → Stopped begins looks first last unwritten wrote bytes ended fault
stopped_later begins looks first last unwritten wrote bytes ended fault a = record {
  frames = a.frames;
  middle = a.middle;
  left = a.left;
  part = a.part;
  talked = a.talked;
  go_on = a.go_on;
  stops = stops_later begins looks a.middle last a.left a.part ended fault a.stops;
}

-- no frame was answered before
pub stopped_first : {D : Type 0} (begins : Begins D) (looks : Looks D) (first last : D) (unwritten wrote : Option (List ℕ)) (bytes part : List ℕ) (ended : Type 0) (fault : PortFault)
    → Appends unwritten wrote part → Stops begins looks first last bytes part ended fault → Stopped begins looks first last unwritten wrote bytes ended fault
stopped_first begins looks first last unwritten wrote bytes part ended fault appended stops = record {
  frames = [];
  middle = first;
  left = bytes;
  part = part;
  talked = talked_none (Replies begins looks) first unwritten wrote bytes part appended;
  go_on = tt;
  stops = stops;
}

-- frames were answered before
pub stopped_join : {D : Type 0} (begins : Begins D) (looks : Looks D) (first middle last : D) (unwritten wrote longer : Option (List ℕ)) (bytes feed : List ℕ) (before count : ℕ) (ended : Type 0) (fault : PortFault)
    → Answered (Replies begins looks) first middle unwritten wrote bytes feed before count None → Stopped begins looks middle last wrote longer feed ended fault
    → Stopped begins looks first last unwritten longer bytes ended fault
stopped_join begins looks first middle last unwritten wrote longer bytes feed before count ended fault a b = record {
  frames = a.frames ++ b.frames;
  middle = b.middle;
  left = b.left;
  part = b.part;
  talked = talked_join (Replies begins looks) first middle b.middle unwritten wrote longer bytes feed b.left b.part a.frames b.frames a.talked b.talked;
  go_on = go_on_join a.frames b.frames a.are_at b.go_on;
  stops = b.stops;
}

no_frame_stops : {D : Type 0} (begins : Begins D) (looks : Looks D) (desk : D) (left : List ℕ) (fault : PortFault)
    → NoFrame left fault → Stops begins looks desk desk left [] ⊥ fault
no_frame_stops begins looks desk left faults.Read a = absurd a
no_frame_stops begins looks desk left faults.Write a = absurd a
no_frame_stops begins looks desk left (faults.Bad fault) a = ((refl, refl), a)
no_frame_stops begins looks desk left faults.Turns a = absurd a
no_frame_stops begins looks desk left faults.Memory a = (refl, inl refl)
no_frame_stops begins looks desk left faults.NotAsked a = absurd a

-- no frame was read of what stands next
pub stopped_unread : {D : Type 0} (begins : Begins D) (looks : Looks D) (desk : D) (wrote : Option (List ℕ)) (left : List ℕ) (fault : PortFault)
    → NoFrame left fault → Stopped begins looks desk desk wrote wrote left ⊥ fault
stopped_unread begins looks desk wrote left fault none =
    stopped_first begins looks desk desk wrote wrote left [] ⊥ fault (Appends-nil wrote) (no_frame_stops begins looks desk left fault none)

refused_stops : {D : Type 0} (begins : Begins D) (looks : Looks D) (first last : D) (frame : Item) (more : List ℕ) (fault : PortFault)
    → IsItem frame → Refuses looks first last frame fault → Stops begins looks first last (encoding frame ++ more) [] ⊥ fault
refused_stops begins looks first last frame more faults.Read is_item a = absurd a
refused_stops begins looks first last frame more faults.Write is_item a = absurd a
refused_stops begins looks first last frame more (faults.Bad fault) is_item a = absurd a
refused_stops begins looks first last frame more faults.Turns is_item a = absurd a
refused_stops begins looks first last frame more faults.Memory is_item (inl same) = (refl, inl same)
refused_stops begins looks first last frame more faults.Memory is_item (inr vain) = (refl, inr (frame, (more, is_item, refl), vain))
refused_stops begins looks first last frame more faults.NotAsked is_item a = ((a.0, refl), (frame, (more, is_item, refl), a.1))

-- the frame was not answered
pub stopped_refused : {D : Type 0} (begins : Begins D) (looks : Looks D) (first last : D) (wrote : Option (List ℕ)) (frame : Item) (fault : PortFault)
    → IsItem frame → Refuses looks first last frame fault → (more : List ℕ) → Stopped begins looks first last wrote wrote (encoding frame ++ more) ⊥ fault
stopped_refused begins looks first last wrote frame fault is_item refuses more =
    stopped_first begins looks first last wrote wrote (encoding frame ++ more) [] ⊥ fault (Appends-nil wrote) (refused_stops begins looks first last frame more fault is_item refuses)

-- nothing more was asked
unwritten_none : {D : Type 0} (replies : Answering D) (desk : D) (left : List ℕ) → Unwritten replies desk desk left
unwritten_none replies desk left = record { requests = []; given = []; more = left; talks = refl; are_items = tt; stand = refl; few = omega arith }

-- the frame's answer was not written whole
pub stopped_cut : {D : Type 0} (begins : Begins D) (looks : Looks D) (first last : D) (unwritten wrote : Option (List ℕ)) (frame : Item) (bytes : List ℕ) (fault : PortFault)
    → IsItem frame → IsReply (Replies begins looks) first last frame bytes → CutsShort unwritten wrote bytes fault
    → (more : List ℕ) → Stopped begins looks first last unwritten wrote (encoding frame ++ more) ⊥ fault
stopped_cut begins looks first last unwritten wrote frame bytes fault is_item reply cut more =
    let broke : BrokeOff (Replies begins looks) first last (encoding frame ++ more) cut.1.2.part = record {
      frame = frame;
      reply = reply.reply;
      stands = (more, is_item, refl);
      next = last;
      replied = reply.replied;
      is_reply = reply.is_reply;
      rest = cut.1.0;
      cut = sym reply.bytes_are ∙ cut.1.2.cut;
      missing = cut.1.1;
      behind = unwritten_none (Replies begins looks) last more;
    } in
    let at : PortFault → Type 0 = λ fault. Stopped begins looks first last unwritten wrote (encoding frame ++ more) ⊥ fault in
    elim cut.0 [
      | inl write ↦ subst at (sym write) (stopped_first begins looks first last unwritten wrote (encoding frame ++ more) cut.1.2.part ⊥ faults.Write cut.1.2.appended broke)
      | inr turns ↦ subst at (sym turns) (stopped_first begins looks first last unwritten wrote (encoding frame ++ more) cut.1.2.part ⊥ faults.Turns cut.1.2.appended (inr broke))
    ]

pub if_cut : {D : Type 0} (begins : Begins D) (looks : Looks D) (first last : D) (unwritten wrote : Option (List ℕ)) (frame : Item) (bytes : List ℕ) {T : Type 0} (r : Result T PortFault)
    → IsItem frame → IsReply (Replies begins looks) first last frame bytes → IfErr r (CutsShort unwritten wrote bytes)
    → IfErr r (λ fault. (more : List ℕ) → Stopped begins looks first last unwritten wrote (encoding frame ++ more) ⊥ fault)
if_cut begins looks first last unwritten wrote frame bytes (Ok x) is_item reply cut = tt
if_cut begins looks first last unwritten wrote frame bytes (Err fault) is_item reply cut =
    stopped_cut begins looks first last unwritten wrote frame bytes fault is_item reply cut

-- the frame that stood next stopped the talk
pub stopped_next : {D : Type 0} (begins : Begins D) (looks : Looks D) (first middle last : D) (unwritten wrote longer : Option (List ℕ)) (bytes feed left : List ℕ) (before count : ℕ) (frame : Item) (fault : PortFault)
    → Answered (Replies begins looks) first middle unwritten wrote bytes feed before count None → feed ≡ encoding frame ++ left
    → ((more : List ℕ) → Stopped begins looks middle last wrote longer (encoding frame ++ more) ⊥ fault)
    → Stopped begins looks first last unwritten longer bytes ⊥ fault
stopped_next begins looks first middle last unwritten wrote longer bytes feed left before count frame fault a stood stopped =
    stopped_join begins looks first middle last unwritten wrote longer bytes (encoding frame ++ left) before count ⊥ fault
    (subst (λ feed. Answered (Replies begins looks) first middle unwritten wrote bytes feed before count None) stood a) (stopped left)
