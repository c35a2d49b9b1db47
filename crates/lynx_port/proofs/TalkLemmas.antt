-- Talks that go on.
use Rattle.std.proofs.Common.{◌≡◌, ℕ, ◌+◌, List, [], ◌∷◌, ◌++◌, length, Option, Some, None, append_assoc, append-nil, length-append, refl, sym, ap, ◌∙◌, subst, arith, ◌≤◌}
use Rattle.std.specs.Prelude.{Bool, false, is_some}
use Rattle.std.specs.List.{flat_map, AllByRecursion}
use Rattle.std.proofs.lemmas.Grind.{flat_map-append}
use Rattle.std.specs.Io.KnownBytes.{Appends}
use Rattle.std.proofs.KnownBytes.{Appends-nil, Appends-trans}
use Rattle.lynx_codec.specs.declared.item.Item.{Item}
use Rattle.lynx_codec.specs.Encoding.{encoding}
use Rattle.lynx_codec.specs.Ranges.{IsItem}
use Rattle.lynx_port.specs.Desks.{Answering}
use Rattle.lynx_port.specs.Talks.{Talks, Talked, Answered, AreAt, GoOn, ended_by}
use Rattle.lynx_port.specs.inner.Steps.{WritesReply}

pub all_join : {X : Type 0} (P : X → Type 0) (xs ys : List X) → AllByRecursion P xs → AllByRecursion P ys → AllByRecursion P (xs ++ ys)
all_join P [] ys a b = b
all_join P (x ∷ xs) ys a b = (a.0, all_join P xs ys a.1 b)

talks_join : {D : Type 0} (replies : Answering D) (first middle last : D) (frames more given others : List Item)
    → Talks replies first frames given middle → Talks replies middle more others last → Talks replies first (frames ++ more) (given ++ others) last
talks_join replies first middle last [] more [] others a b = subst (λ d. Talks replies d more others last) a b
talks_join replies first middle last [] more (reply ∷ given) others a b = absurd a
talks_join replies first middle last (frame ∷ frames) more [] others a b = absurd a
talks_join replies first middle last (frame ∷ frames) more (reply ∷ given) others a b =
    (a.0, a.1, talks_join replies a.0 middle last frames more given others a.2 b)

pub encodings_join : (frames more : List Item) (rest : List ℕ) → flat_map encoding frames ++ (flat_map encoding more ++ rest) ≡ flat_map encoding (frames ++ more) ++ rest
encodings_join frames more rest =
    sym (append_assoc (flat_map encoding frames) (flat_map encoding more) rest) ∙ ap (λ encodings. encodings ++ rest) (sym (flat_map-append encoding frames more))

pub talked_join : {D : Type 0} (replies : Answering D) (first middle last : D) (unwritten wrote longer : Option (List ℕ)) (bytes feed left part : List ℕ) (frames more : List Item)
    → Talked replies first middle unwritten wrote bytes frames feed [] → Talked replies middle last wrote longer feed more left part
    → Talked replies first last unwritten longer bytes (frames ++ more) left part
talked_join replies first middle last unwritten wrote longer bytes feed left part frames more a b = record {
  given = a.given ++ b.given;
  talks = talks_join replies first middle last frames more a.given b.given a.talks b.talks;
  are_frames = all_join IsItem frames more a.are_frames b.are_frames;
  are_replies = all_join IsItem a.given b.given a.are_replies b.are_replies;
  taken = a.taken ∙ ap (λ end. flat_map encoding frames ++ end) b.taken ∙ encodings_join frames more left;
  appended = subst (Appends unwritten longer)
      (ap (λ start. start ++ (flat_map encoding b.given ++ part)) (append-nil (flat_map encoding a.given)) ∙ encodings_join a.given b.given part)
      (Appends-trans unwritten wrote longer (flat_map encoding a.given ++ []) (flat_map encoding b.given ++ part) a.appended b.appended);
}

pub talked_none : {D : Type 0} (replies : Answering D) (desk : D) (unwritten wrote : Option (List ℕ)) (bytes part : List ℕ)
    → Appends unwritten wrote part → Talked replies desk desk unwritten wrote bytes [] bytes part
talked_none replies desk unwritten wrote bytes part appended =
    record { given = []; talks = refl; are_frames = tt; are_replies = tt; taken = refl; appended = appended }

pub go_on_join : (frames more : List Item) → GoOn frames → GoOn more → GoOn (frames ++ more)
go_on_join frames more a b = all_join (λ frame. ended_by frame ≡ None) frames more a b

are_at_join : (frames more : List Item) (ended : Option Bool) → GoOn frames → AreAt more ended → AreAt (frames ++ more) ended
are_at_join frames more None a b = go_on_join frames more a b
are_at_join frames more (Some shut) a b =
    (frames ++ b.0, b.1, ap (λ end. frames ++ end) b.2 ∙ sym (append_assoc frames b.0 (b.1 ∷ [])), go_on_join frames b.0 a b.3, b.4)

are_at_one : (frame : Item) (ended : Option Bool) → ended_by frame ≡ ended → AreAt (frame ∷ []) ended
are_at_one frame None same = (same, tt)
are_at_one frame (Some shut) same = ([], frame, refl, tt, same)

pub answered_none : {D : Type 0} (replies : Answering D) (desk : D) (wrote : Option (List ℕ)) (bytes : List ℕ) (count : ℕ)
    → Answered replies desk desk wrote wrote bytes bytes count count None
answered_none replies desk wrote bytes count = record {
  frames = [];
  talked = talked_none replies desk wrote wrote bytes [] (Appends-nil wrote);
  counted = omega arith;
  are_at = tt;
}

pub answered_join : {D : Type 0} (replies : Answering D) (first middle last : D) (unwritten wrote longer : Option (List ℕ)) (bytes feed left : List ℕ) (before count more : ℕ) (ended : Option Bool)
    → Answered replies first middle unwritten wrote bytes feed before count None → Answered replies middle last wrote longer feed left count more ended
    → Answered replies first last unwritten longer bytes left before more ended
answered_join replies first middle last unwritten wrote longer bytes feed left before count more ended a b = record {
  frames = a.frames ++ b.frames;
  talked = talked_join replies first middle last unwritten wrote longer bytes feed left [] a.frames b.frames a.talked b.talked;
  counted = omega (arith, a.counted, b.counted, length-append a.frames b.frames);
  are_at = are_at_join a.frames b.frames ended a.are_at b.are_at;
}

-- one frame, whose answer was written
pub answered_one : {D : Type 0} (replies : Answering D) (first last : D) (unwritten wrote : Option (List ℕ)) (left : List ℕ) (count : ℕ) (frame : Item)
    → IsItem frame → WritesReply replies first last unwritten wrote frame
    → Answered replies first last unwritten wrote (encoding frame ++ left) left count (count + 1) (ended_by frame)
answered_one replies first last unwritten wrote left count frame is_item w = record {
  frames = frame ∷ [];
  talked = record {
    given = w.1.reply ∷ [];
    talks = (last, w.1.replied, refl);
    are_frames = (is_item, tt);
    are_replies = (w.1.is_reply, tt);
    taken = ap (λ bytes. bytes ++ left) (sym (append-nil (encoding frame)));
    appended = subst (Appends unwritten wrote) (w.1.bytes_are ∙ sym (append-nil (encoding w.1.reply)) ∙ sym (append-nil (encoding w.1.reply ++ []))) w.2;
  };
  counted = refl;
  are_at = are_at_one frame (ended_by frame) refl;
}

-- one frame more, which stood next
pub answered_more : {D : Type 0} (replies : Answering D) (first middle last : D) (unwritten wrote longer : Option (List ℕ)) (bytes feed left : List ℕ) (before count : ℕ) (frame : Item)
    → Answered replies first middle unwritten wrote bytes feed before count None → feed ≡ encoding frame ++ left → IsItem frame
    → WritesReply replies middle last wrote longer frame
    → Answered replies first last unwritten longer bytes left before (count + 1) (ended_by frame)
answered_more replies first middle last unwritten wrote longer bytes feed left before count frame a stood is_item w =
    answered_join replies first middle last unwritten wrote longer bytes (encoding frame ++ left) left before count (count + 1) (ended_by frame)
    (subst (λ feed. Answered replies first middle unwritten wrote bytes feed before count None) stood a)
    (answered_one replies middle last wrote longer left count frame is_item w)

-- a frame that doesn't end the talk, or no frame at all
pub none_of : {T : Type 0} (found : Option T) → is_some found ≡ false → found ≡ None
none_of None same = refl
none_of (Some x) same = absurd cc

pub encoding_some : (item : Item) → 1 ≤ length (encoding item)
unfolding encoding
encoding_some item = omega arith

-- a frame takes at least one byte of the feed
pub frame_left : (feed left : List ℕ) (frame : Item) → feed ≡ encoding frame ++ left → length left + 1 ≤ length feed
frame_left feed left frame stood =
    omega (arith, encoding_some frame, length-append (encoding frame) left, ap length stood)
