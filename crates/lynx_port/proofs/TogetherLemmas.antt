-- Requests that are taken and answered together.
use Rattle.std.proofs.Common.{◌≡◌, ℕ, ◌+◌, ◌≤◌, List, [], ◌∷◌, ◌++◌, length, map, Option, Some, None, append_assoc, append-nil, length-append, refl, sym, ap, ◌∙◌, subst, arith, Ok, Err, inl}
use Rattle.std.proofs.lemmas.List.{map-append, length-map}
use Rattle.std.proofs.lemmas.Grind.{flat_map-append}
use Rattle.std.specs.Prelude.{Result, OnOk, IfErr}
use Rattle.std.specs.List.{flat_map, AllByRecursion}
use Rattle.std.specs.Io.KnownBytes.{Appends}
use Rattle.std.proofs.KnownBytes.{Appends-nil}
use Rattle.lynx_entry.specs.declared.request.Request.{Request}
use Rattle.lynx_entry.specs.declared.answer.Answer.{Answer}
use Rattle.lynx_codec.specs.declared.fault.DecodeFault.{DecodeFault}
use Rattle.lynx_codec.specs.declared.fault.DecodeFault.TheVariants as decoding
use Rattle.lynx_codec.specs.declared.item.Item.{Item}
use Rattle.lynx_codec.specs.declared.item.Item.TheVariants as items
use Rattle.lynx_codec.specs.Feeding.{Stream, Faults}
use Rattle.lynx_codec.specs.Encoding.{encoding, body, length_bytes}
use Rattle.lynx_codec.specs.Ranges.{IsItem}
use Rattle.lynx_codec.proofs.Items.{body_short, length-length_bytes}
use Rattle.lynx_port.specs.declared.fault.PortFault.{PortFault}
use Rattle.lynx_port.specs.declared.fault.PortFault.TheVariants as faults
use Rattle.lynx_port.specs.Desks.{Begins, Looks, Answering, Replies}
use Rattle.lynx_port.specs.Talks.{GoOn, Answered}
use Rattle.lynx_port.specs.Exits.{Stopped}
use Rattle.lynx_port.specs.inner.Steps.{as_frames, encoding_if, Takes, GoesOn, WritesReply, WritesReplies}
use Rattle.lynx_port.proofs.TalkLemmas.{all_join, encodings_join, encoding_some, answered_none, answered_join}
use Rattle.lynx_port.proofs.StopLemmas.{stopped_first, stopped_join}

pub requests_go_on : (requests : List Request) → GoOn (as_frames requests)
requests_go_on [] = tt
requests_go_on (request ∷ requests) = (refl, requests_go_on requests)

-- a fault takes nothing
pub faults_keep : (old new : Stream) (fault : DecodeFault) → Faults old new fault → new.rest ≡ old.rest
faults_keep old new decoding.Memory a = ap (λ stream. stream.rest) a.unchanged
faults_keep old new decoding.Short a = absurd a
faults_keep old new decoding.BadTag a = ap (λ stream. stream.rest) a.ended
faults_keep old new decoding.BadLength a = ap (λ stream. stream.rest) a.ended
faults_keep old new decoding.OutOfRange a = ap (λ stream. stream.rest) a.ended

pub takes_none : (bytes : List ℕ) → Takes bytes [] None bytes
takes_none bytes = record { are_items = tt; is_item = tt; stood = refl }

-- one request more
pub takes_more : (bytes left more : List ℕ) (requests : List Request) (request : Request)
    → Takes bytes requests None left → left ≡ encoding (items.Request request) ++ more → IsItem (items.Request request)
    → Takes bytes (requests ++ request ∷ []) None more
takes_more bytes left more requests request a stood is_item =
    let frames : as_frames requests ++ items.Request request ∷ [] ≡ as_frames (requests ++ request ∷ []) = sym (map-append items.Request requests (request ∷ [])) in
    let encoding_of : List ℕ = encoding (items.Request request) in
    record {
      are_items = subst (AllByRecursion IsItem) frames (all_join IsItem (as_frames requests) (items.Request request ∷ []) a.are_items (is_item, tt));
      is_item = tt;
      stood = a.stood ∙ ap (λ end. flat_map encoding (as_frames requests) ++ end) (stood ∙ ap (λ start. start ++ more) (sym (append-nil encoding_of)))
          ∙ encodings_join (as_frames requests) (items.Request request ∷ []) more ∙ ap (λ all. flat_map encoding all ++ more) frames;
    }

-- the frame behind them
pub takes_other : (bytes left more : List ℕ) (requests : List Request) (other : Item)
    → Takes bytes requests None left → left ≡ encoding other ++ more → IsItem other → Takes bytes requests (Some other) more
takes_other bytes left more requests other a stood is_item =
    record { are_items = a.are_items; is_item = is_item; stood = a.stood ∙ ap (λ end. flat_map encoding (as_frames requests) ++ end) stood }

pub takes_first : (bytes left : List ℕ) (first : Request) (requests : List Request) (other : Option Item)
    → IsItem (items.Request first) → Takes bytes requests other left → Takes (encoding (items.Request first) ++ bytes) (first ∷ requests) other left
takes_first bytes left first requests other is_item a = record {
  are_items = (is_item, a.are_items);
  is_item = a.is_item;
  stood = ap (λ end. encoding (items.Request first) ++ end) a.stood
      ∙ sym (append_assoc (encoding (items.Request first)) (flat_map encoding (as_frames requests)) (encoding_if other ++ left));
}

-- each encoding takes at least one byte
encodings_some : (frames : List Item) → length frames ≤ length (flat_map encoding frames)
encodings_some [] = omega arith
encodings_some (frame ∷ frames) = omega (arith, encoding_some frame, encodings_some frames, length-append (encoding frame) (flat_map encoding frames))

pub goes_on_none : {D : Type 0} (replies : Answering D) (desk : D) (wrote : Option (List ℕ)) (bytes : List ℕ) (count : ℕ)
    → GoesOn replies desk desk wrote wrote bytes None bytes count count
goes_on_none replies desk wrote bytes count = record { answered = answered_none replies desk wrote bytes count; is_item = tt; room = omega arith }

-- the requests that were taken were answered
pub goes_on_all : {D : Type 0} (replies : Answering D) (first last : D) (unwritten wrote : Option (List ℕ)) (bytes : List ℕ) (requests : List Request) (other : Option Item) (left : List ℕ) (before count : ℕ)
    → Takes bytes requests other left → WritesReplies replies first last unwritten wrote (as_frames requests) → count ≡ before + length requests
    → GoesOn replies first last unwritten wrote bytes other left before count
goes_on_all replies first last unwritten wrote bytes requests other left before count a w counted =
    let frames : length (as_frames requests) ≡ length requests = length-map requests items.Request in
    record {
      answered = record {
        frames = as_frames requests;
        talked = record {
          given = w.1.given;
          talks = w.1.talks;
          are_frames = a.are_items;
          are_replies = w.1.are_replies;
          taken = a.stood;
          appended = subst (Appends unwritten wrote) (w.1.bytes_are ∙ sym (append-nil (flat_map encoding w.1.given))) w.2;
        };
        counted = omega (arith, frames);
        are_at = requests_go_on requests;
      };
      is_item = a.is_item;
      room = omega (arith, frames, encodings_some (as_frames requests), ap length a.stood, length-append (flat_map encoding (as_frames requests)) (encoding_if other ++ left));
    }

-- one answer, as answers
pub writes_one : {D : Type 0} (replies : Answering D) (first last : D) (unwritten wrote : Option (List ℕ)) (frame : Item)
    → WritesReply replies first last unwritten wrote frame → WritesReplies replies first last unwritten wrote (frame ∷ [])
writes_one replies first last unwritten wrote frame w = (
  w.0,
  record {
    given = w.1.reply ∷ [];
    talks = (last, w.1.replied, refl);
    are_replies = (w.1.is_reply, tt);
    bytes_are = w.1.bytes_are ∙ sym (append-nil (encoding w.1.reply));
  },
  w.2,
)

pub goes_on_join : {D : Type 0} (replies : Answering D) (first middle last : D) (unwritten wrote longer : Option (List ℕ)) (bytes feed next : List ℕ) (other : Option Item) (left : List ℕ) (before count more : ℕ)
    → GoesOn replies first middle unwritten wrote bytes None feed before count → feed ≡ next → GoesOn replies middle last wrote longer next other left count more
    → GoesOn replies first last unwritten longer bytes other left before more
goes_on_join replies first middle last unwritten wrote longer bytes feed next other left before count more a same b =
    let answered = subst (λ feed. Answered replies first middle unwritten wrote bytes feed before count None) same a.answered in
    record {
      answered = answered_join replies first middle last unwritten wrote longer bytes next (encoding_if other ++ left) before count more None answered b.answered;
      is_item = b.is_item;
      room = omega (arith, a.room, b.room, ap length same);
    }

-- the frame that stood next was taken
pub goes_on_other : {D : Type 0} (replies : Answering D) (first last : D) (unwritten wrote : Option (List ℕ)) (bytes feed : List ℕ) (other : Item) (left : List ℕ) (before count : ℕ)
    → GoesOn replies first last unwritten wrote bytes None feed before count → feed ≡ encoding other ++ left → IsItem other
    → GoesOn replies first last unwritten wrote bytes (Some other) left before count
goes_on_other replies first last unwritten wrote bytes feed other left before count a stood is_item = record {
  answered = subst (λ feed. Answered replies first last unwritten wrote bytes feed before count None) stood a.answered;
  is_item = is_item;
  room = omega (arith, a.room, ap length stood);
}

-- the encodings of the answers in front of the rest were appended
pub record Appended (old : List ℕ) (answers rest : List Answer) (new : List ℕ) : Type 0 where
  pub done : List Answer
  pub split : answers ≡ done ++ rest
  pub are_items : AllByRecursion IsItem (map items.Answer done)
  pub encodings : new ≡ old ++ flat_map encoding (map items.Answer done)

pub appended_none : (old : List ℕ) (answers : List Answer) → Appended old answers answers old
appended_none old answers = record { done = []; split = refl; are_items = tt; encodings = sym (append-nil old) }

pub appended_more : (old : List ℕ) (answers rest more : List Answer) (new newer : List ℕ) (answer : Answer)
    → Appended old answers rest new → rest ≡ answer ∷ more → newer ≡ new ++ encoding (items.Answer answer) → IsItem (items.Answer answer) → Appended old answers more newer
appended_more old answers rest more new newer answer a next written is_item =
    let frames : map items.Answer a.done ++ items.Answer answer ∷ [] ≡ map items.Answer (a.done ++ answer ∷ []) = sym (map-append items.Answer a.done (answer ∷ [])) in
    let begun : List ℕ = flat_map encoding (map items.Answer a.done) in
    record {
      done = a.done ++ answer ∷ [];
      split = a.split ∙ ap (λ end. a.done ++ end) next ∙ sym (append_assoc a.done (answer ∷ []) more);
      are_items = subst (AllByRecursion IsItem) frames (all_join IsItem (map items.Answer a.done) (items.Answer answer ∷ []) a.are_items (is_item, tt));
      encodings = written ∙ ap (λ start. start ++ encoding (items.Answer answer)) a.encodings ∙ append_assoc old begun (encoding (items.Answer answer))
          ∙ ap (λ end. old ++ (begun ++ end)) (sym (append-nil (encoding (items.Answer answer))))
          ∙ ap (λ end. old ++ end) (sym (flat_map-append encoding (map items.Answer a.done) (items.Answer answer ∷ [])))
          ∙ ap (λ all. old ++ flat_map encoding all) frames;
    }

pub appended_all : (old : List ℕ) (answers rest : List Answer) (new : List ℕ) → Appended old answers rest new → rest ≡ []
    → AllByRecursion IsItem (map items.Answer answers) × (new ≡ old ++ flat_map encoding (map items.Answer answers))
appended_all old answers rest new a none =
    let all : answers ≡ a.done = a.split ∙ ap (λ end. a.done ++ end) none ∙ append-nil a.done in
    (subst (λ answers. AllByRecursion IsItem (map items.Answer answers)) (sym all) a.are_items, a.encodings ∙ ap (λ answers. old ++ flat_map encoding (map items.Answer answers)) (sym all))

-- no answer's encoding is longer than there is room for
pub encoding_short : (item : Item) → IsItem item → length (encoding item) ≤ 2053
unfolding encoding
encoding_short item is_item = omega (arith, body_short item is_item, length-length_bytes (length (body item)), length-append (length_bytes (length (body item))) (body item))

-- a request that is alone
pub writes_alone : {D : Type 0} (replies : Answering D) (first last : D) (unwritten wrote : Option (List ℕ)) (request : Request) (others : List Request) {T : Type 0} (r : Result T PortFault)
    → OnOk r (WritesReply replies first last unwritten wrote (items.Request request)) → others ≡ [] → OnOk r (WritesReplies replies first last unwritten wrote (as_frames (request ∷ others)))
writes_alone replies first last unwritten wrote request others (Ok x) w none =
    subst (λ others. WritesReplies replies first last unwritten wrote (as_frames (request ∷ others))) (sym none) (writes_one replies first last unwritten wrote (items.Request request) w)
writes_alone replies first last unwritten wrote request others (Err fault) w none = tt

-- its fault
pub stops_alone : {D : Type 0} (begins : Begins D) (looks : Looks D) (first last : D) (unwritten wrote : Option (List ℕ)) (request : Request) (others : List Request) {T : Type 0} (r : Result T PortFault)
    → IfErr r (λ fault. (more : List ℕ) → Stopped begins looks first last unwritten wrote (encoding (items.Request request) ++ more) ⊥ fault) → others ≡ []
    → IfErr r (λ fault. (more : List ℕ) → Stopped begins looks first last unwritten wrote (flat_map encoding (as_frames (request ∷ others)) ++ more) ⊥ fault)
stops_alone begins looks first last unwritten wrote request others (Ok x) stopped none = tt
stops_alone begins looks first last unwritten wrote request others (Err fault) stopped none = λ more.
    subst (λ others. Stopped begins looks first last unwritten wrote (flat_map encoding (as_frames (request ∷ others)) ++ more) ⊥ fault) (sym none)
    (subst (λ start. Stopped begins looks first last unwritten wrote (start ++ more) ⊥ fault) (sym (append-nil (encoding (items.Request request)))) (stopped more))

-- memory was wanting before anything was asked
pub stopped_lacking : {D : Type 0} (begins : Begins D) (looks : Looks D) (first last : D) (wrote : Option (List ℕ)) (bytes : List ℕ) → last ≡ first
    → Stopped begins looks first last wrote wrote bytes ⊥ faults.Memory
stopped_lacking begins looks first last wrote bytes same =
    stopped_first begins looks first last wrote wrote bytes [] ⊥ faults.Memory (Appends-nil wrote) (refl, inl same)

-- a fault at requests that were taken
pub stopped_taken : {D : Type 0} (begins : Begins D) (looks : Looks D) (first last : D) (unwritten wrote : Option (List ℕ)) (bytes left : List ℕ) (requests : List Request) (other : Option Item) (fault : PortFault)
    → Takes bytes requests other left → ((more : List ℕ) → Stopped begins looks first last unwritten wrote (flat_map encoding (as_frames requests) ++ more) ⊥ fault)
    → Stopped begins looks first last unwritten wrote bytes ⊥ fault
stopped_taken begins looks first last unwritten wrote bytes left requests other fault a stopped =
    subst (λ bytes. Stopped begins looks first last unwritten wrote bytes ⊥ fault) (sym a.stood) (stopped (encoding_if other ++ left))

-- a fault behind frames that were answered
pub stopped_behind : {D : Type 0} (begins : Begins D) (looks : Looks D) (first middle last : D) (unwritten wrote longer : Option (List ℕ)) (bytes feed next : List ℕ) (before count : ℕ) (fault : PortFault)
    → GoesOn (Replies begins looks) first middle unwritten wrote bytes None feed before count → feed ≡ next → Stopped begins looks middle last wrote longer next ⊥ fault
    → Stopped begins looks first last unwritten longer bytes ⊥ fault
stopped_behind begins looks first middle last unwritten wrote longer bytes feed next before count fault a same stopped =
    stopped_join begins looks first middle last unwritten wrote longer bytes next before count ⊥ fault
    (subst (λ feed. Answered (Replies begins looks) first middle unwritten wrote bytes feed before count None) same a.answered) stopped

-- what is left is no more than there was
pub takes_left : (bytes left : List ℕ) (requests : List Request) (other : Option Item) → Takes bytes requests other left → length left ≤ length bytes
takes_left bytes left requests other a =
    omega (arith, ap length a.stood, length-append (flat_map encoding (as_frames requests)) (encoding_if other ++ left), length-append (encoding_if other) left)

-- no frame behind them was taken
pub goes_on_still : {D : Type 0} (replies : Answering D) (first last : D) (unwritten wrote : Option (List ℕ)) (bytes : List ℕ) (other : Option Item) (left : List ℕ) (before count : ℕ)
    → GoesOn replies first last unwritten wrote bytes other left before count → other ≡ None → GoesOn replies first last unwritten wrote bytes None left before count
goes_on_still replies first last unwritten wrote bytes other left before count a none =
    subst (λ other. GoesOn replies first last unwritten wrote bytes other left before count) none a

-- the frame behind them takes at least one byte
pub goes_on_left : {D : Type 0} (replies : Answering D) (first last : D) (unwritten wrote : Option (List ℕ)) (bytes : List ℕ) (other : Item) (left : List ℕ) (before count : ℕ)
    → GoesOn replies first last unwritten wrote bytes (Some other) left before count → (count + length left + 1 ≤ before + length bytes) × (length left + 1 ≤ length bytes)
goes_on_left replies first last unwritten wrote bytes other left before count a =
    let long : length (encoding other ++ left) ≡ length (encoding other) + length left = length-append (encoding other) left in
    (omega (arith, a.room, long, encoding_some other), omega (arith, a.room, a.answered.counted, long, encoding_some other))

-- in a talk that went on before
pub answered_on : {D : Type 0} (replies : Answering D) (first middle last : D) (unwritten wrote longer : Option (List ℕ)) (bytes feed : List ℕ) (other : Option Item) (left : List ℕ) (before count more : ℕ)
    → Answered replies first middle unwritten wrote bytes feed before count None → GoesOn replies middle last wrote longer feed other left count more
    → Answered replies first last unwritten longer bytes (encoding_if other ++ left) before more None
answered_on replies first middle last unwritten wrote longer bytes feed other left before count more a b =
    answered_join replies first middle last unwritten wrote longer bytes feed (encoding_if other ++ left) before count more None a b.answered
