-- Answers together that are not written whole.
use Rattle.std.proofs.Common.{◌≡◌, ℕ, ◌≤◌, List, [], ◌∷◌, ◌++◌, length, Option, Ok, Err, append_assoc, refl, sym, ap, ◌∙◌, subst, inl, inr, arith}
use Rattle.std.specs.Prelude.{◌≢◌, ◌⊎◌, Result, IfErr}
use Rattle.std.specs.List.{flat_map, AllByRecursion}
use Rattle.std.specs.Io.KnownBytes.{Appends}
use Rattle.lynx_entry.specs.declared.request.Request.{Request}
use Rattle.lynx_codec.specs.declared.item.Item.{Item}
use Rattle.lynx_codec.specs.declared.item.Item.TheVariants as items
use Rattle.lynx_codec.specs.Encoding.{encoding}
use Rattle.lynx_codec.specs.Ranges.{IsItem}
use Rattle.lynx_port.specs.declared.fault.PortFault.{PortFault}
use Rattle.lynx_port.specs.declared.fault.PortFault.TheVariants as faults
use Rattle.lynx_port.specs.declared.limits.TheConstants.{MAX_TOGETHER}
use Rattle.lynx_port.specs.Desks.{Begins, Looks, Answering, Replies}
use Rattle.lynx_port.specs.Talks.{Talks, GoOn}
use Rattle.lynx_port.specs.Exits.{BrokeOff, Stops, Stopped}
use Rattle.lynx_port.specs.inner.Steps.{as_frames, CutsShort, AreReplies}

-- one list cut in two ways: the second cut is behind the first, or in front of it
cut_twice : (xs ys part rest : List ℕ) → xs ++ ys ≡ part ++ rest
    → ((more : List ℕ) × (part ≡ xs ++ more) × (ys ≡ more ++ rest)) ⊎ ((end : List ℕ) × (xs ≡ part ++ end) × (end ≢ []))
cut_twice [] ys part rest same = inl (part, refl, same)
cut_twice (x ∷ xs) ys [] rest same = inr (x ∷ xs, refl, λ none. absurd cc)
cut_twice (x ∷ xs) ys (byte ∷ part) rest same =
    elim (cut_twice xs ys part rest cc) [
      | inl a ↦ inl (a.0, cc (a.1), a.2)
      | inr a ↦ inr (a.0, cc (a.1), a.2)
    ]

-- nothing is left of no bytes
nothing_left : (part rest : List ℕ) → [] ≡ part ++ rest → rest ≡ []
nothing_left [] rest same = sym same
nothing_left (byte ∷ part) rest same = absurd cc

-- the frames in front were answered whole, and the answer of the next one was not written whole
record CutAt {D : Type 0} (replies : Answering D) (first last : D) (bytes part : List ℕ) : Type 0 where
  frames : List Item
  given : List Item
  middle : D
  left : List ℕ
  end : List ℕ
  talks : Talks replies first frames given middle
  are_frames : AllByRecursion IsItem frames
  are_replies : AllByRecursion IsItem given
  taken : bytes ≡ flat_map encoding frames ++ left
  wrote : part ≡ flat_map encoding given ++ end
  go_on : GoOn frames
  broke : BrokeOff replies middle last left end

-- the first answer is not written whole
cut_here : {D : Type 0} (replies : Answering D) (first next last : D) (request : Request) (requests : List Request) (reply : Item) (given : List Item) (part end more : List ℕ)
    → replies first (items.Request request) reply next → Talks replies next (as_frames requests) given last → AllByRecursion IsItem (as_frames (request ∷ requests)) → IsItem reply
    → length (request ∷ requests) ≤ MAX_TOGETHER → encoding reply ≡ part ++ end → end ≢ [] → CutAt replies first last (flat_map encoding (as_frames (request ∷ requests)) ++ more) part
cut_here replies first next last request requests reply given part end more replied talks are_items is_reply few cut missing =
    let behind : List ℕ = flat_map encoding (as_frames requests) ++ more in
    record {
      frames = [];
      given = [];
      middle = first;
      left = flat_map encoding (as_frames (request ∷ requests)) ++ more;
      end = part;
      talks = refl;
      are_frames = tt;
      are_replies = tt;
      taken = refl;
      wrote = refl;
      go_on = tt;
      broke = record {
        frame = items.Request request;
        reply = reply;
        stands = (behind, are_items.0, append_assoc (encoding (items.Request request)) (flat_map encoding (as_frames requests)) more);
        next = next;
        replied = replied;
        is_reply = is_reply;
        rest = end;
        cut = cut;
        missing = missing;
        behind = record { requests = requests; given = given; more = more; talks = talks; are_items = are_items.1; stand = refl; few = omega (arith, few) };
      };
    }

-- the first answer is written whole
cut_later : {D : Type 0} (replies : Answering D) (first next last : D) (request : Request) (requests : List Request) (reply : Item) (part later more : List ℕ)
    → replies first (items.Request request) reply next → IsItem (items.Request request) → IsItem reply → part ≡ encoding reply ++ later
    → CutAt replies next last (flat_map encoding (as_frames requests) ++ more) later → CutAt replies first last (flat_map encoding (as_frames (request ∷ requests)) ++ more) part
cut_later replies first next last request requests reply part later more replied is_item is_reply written a =
    let start : List ℕ = encoding (items.Request request) in
    record {
      frames = items.Request request ∷ a.frames;
      given = reply ∷ a.given;
      middle = a.middle;
      left = a.left;
      end = a.end;
      talks = (next, replied, a.talks);
      are_frames = (is_item, a.are_frames);
      are_replies = (is_reply, a.are_replies);
      taken = append_assoc start (flat_map encoding (as_frames requests)) more ∙ ap (λ end. start ++ end) a.taken ∙ sym (append_assoc start (flat_map encoding a.frames) a.left);
      wrote = written ∙ ap (λ end. encoding reply ++ end) a.wrote ∙ sym (append_assoc (encoding reply) (flat_map encoding a.given) a.end);
      go_on = (refl, a.go_on);
      broke = a.broke;
    }

cut_at : {D : Type 0} (replies : Answering D) (first last : D) (requests : List Request) (given : List Item) (part rest more : List ℕ)
    → Talks replies first (as_frames requests) given last → AllByRecursion IsItem (as_frames requests) → AllByRecursion IsItem given → length requests ≤ MAX_TOGETHER
    → flat_map encoding given ≡ part ++ rest → rest ≢ [] → CutAt replies first last (flat_map encoding (as_frames requests) ++ more) part
cut_at replies first last [] [] part rest more talks are_items are_replies few cut missing = absurd (missing (nothing_left part rest cut))
cut_at replies first last [] (reply ∷ given) part rest more talks are_items are_replies few cut missing = absurd talks
cut_at replies first last (request ∷ requests) [] part rest more talks are_items are_replies few cut missing = absurd talks
cut_at replies first last (request ∷ requests) (reply ∷ given) part rest more talks are_items are_replies few cut missing =
    elim (cut_twice (encoding reply) (flat_map encoding given) part rest cut) [
      | inl a ↦ cut_later replies first talks.0 last request requests reply part a.0 more talks.1 are_items.0 are_replies.0 a.1
          (cut_at replies talks.0 last requests given a.0 rest more talks.2 are_items.1 are_replies.1 (omega (arith, few)) a.2 missing)
      | inr a ↦ cut_here replies first talks.0 last request requests reply given part a.0 more talks.1 talks.2 are_items are_replies.0 few a.1 a.2
    ]

-- the answers were not written whole
stopped_together : {D : Type 0} (begins : Begins D) (looks : Looks D) (first last : D) (unwritten wrote : Option (List ℕ)) (requests : List Request) (bytes : List ℕ) (fault : PortFault)
    → AllByRecursion IsItem (as_frames requests) → length requests ≤ MAX_TOGETHER → AreReplies (Replies begins looks) first last (as_frames requests) bytes → CutsShort unwritten wrote bytes fault
    → (more : List ℕ) → Stopped begins looks first last unwritten wrote (flat_map encoding (as_frames requests) ++ more) ⊥ fault
stopped_together begins looks first last unwritten wrote requests bytes fault are_items few replies cut more =
    let all : List ℕ = flat_map encoding (as_frames requests) ++ more in
    let part : List ℕ = cut.1.2.part in
    let at : CutAt (Replies begins looks) first last all part =
    cut_at (Replies begins looks) first last requests replies.given part cut.1.0 more replies.talks are_items replies.are_replies few (sym replies.bytes_are ∙ cut.1.2.cut) cut.1.1 in
    let stopped : (fault : PortFault) → Stops begins looks at.middle last at.left at.end ⊥ fault → Stopped begins looks first last unwritten wrote all ⊥ fault = λ fault stops. record {
      frames = at.frames;
      middle = at.middle;
      left = at.left;
      part = at.end;
      talked = record {
        given = at.given;
        talks = at.talks;
        are_frames = at.are_frames;
        are_replies = at.are_replies;
        taken = at.taken;
        appended = subst (Appends unwritten wrote) at.wrote cut.1.2.appended;
      };
      go_on = at.go_on;
      stops = stops;
    } in
    let of_fault : PortFault → Type 0 = λ fault. Stopped begins looks first last unwritten wrote all ⊥ fault in
    elim cut.0 [
      | inl write ↦ subst of_fault (sym write) (stopped faults.Write at.broke)
      | inr turns ↦ subst of_fault (sym turns) (stopped faults.Turns (inr at.broke))
    ]

pub if_cut_together : {D : Type 0} (begins : Begins D) (looks : Looks D) (first last : D) (unwritten wrote : Option (List ℕ)) (requests : List Request) (bytes : List ℕ) {T : Type 0} (r : Result T PortFault)
    → AllByRecursion IsItem (as_frames requests) → length requests ≤ MAX_TOGETHER → AreReplies (Replies begins looks) first last (as_frames requests) bytes → IfErr r (CutsShort unwritten wrote bytes)
    → IfErr r (λ fault. (more : List ℕ) → Stopped begins looks first last unwritten wrote (flat_map encoding (as_frames requests) ++ more) ⊥ fault)
if_cut_together begins looks first last unwritten wrote requests bytes (Ok x) are_items few replies cut = tt
if_cut_together begins looks first last unwritten wrote requests bytes (Err fault) are_items few replies cut =
    stopped_together begins looks first last unwritten wrote requests bytes fault are_items few replies cut
