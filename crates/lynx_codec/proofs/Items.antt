-- Each item is read from its encoding, and nothing else is; where an item can't be read, more bytes don't help.
use Rattle.std.proofs.Common.{◌≡◌, ℕ, ◌^◌, ◌<◌, ◌≤◌, Bool, true, false, cond, eqb, List, [], ◌∷◌, ◌++◌, length, Some, Ok, Err, refl, sym, ap, subst, ◌∙◌, arith, inl, inr}
use Rattle.std.specs.Prelude.{find}
use Rattle.std.specs.Int.{w32, from_be_bytes}
use Rattle.std.proofs.lemmas.Bool.{eqb-true}
use Rattle.std.proofs.lemmas.List.{append-nil, nil_from_length}
use Rattle.lynx_entry.specs.declared.entry.Entry.TheVariants as entries
use Rattle.lynx_codec.specs.declared.fault.DecodeFault.{DecodeFault}
use Rattle.lynx_codec.specs.declared.fault.DecodeFault.TheVariants as faults
use Rattle.lynx_codec.specs.declared.item.Item.{Item}
use Rattle.lynx_codec.specs.declared.item.Item.TheVariants as items
use Rattle.lynx_codec.specs.declared.tag.Tag.{Tag}
use Rattle.lynx_codec.specs.declared.tag.Tag.TheVariants as tags
use Rattle.lynx_codec.specs.Encoding.{body, tag, byte_of, length_bytes}
use Rattle.lynx_codec.specs.Ranges.{IsItem}
use Rattle.lynx_codec.specs.Reading.{Reading, made, nothing}
use Rattle.lynx_codec.specs.Bodies.{fields_at, body_at}
use Rattle.lynx_codec.specs.Front.{all_tags, tag_of}
use Rattle.lynx_codec.proofs.Codec.{IsBytes, Takes, IsFieldFault, IsCodec, bind_ok, bind_err, ok_is, ok_is_no_err, if_ok, if_err, made_takes, made_again, made_faulty}
use Rattle.lynx_codec.proofs.FieldCodecs.{wide32}
use Rattle.lynx_codec.proofs.ItemCodecs.{request_codec, look_codec, answer_codec, looked_codec, message_codec, begun_codec, refused_codec, hop_codec}

-- what the fields behind a tag are
abbrev IsReadAs : Tag → List ℕ → Item → List ℕ → Type 0
IsReadAs t bytes item rest = Takes bytes (body item) rest × (IsItem item × (tag item ≡ t))

module _ {A : Type 0} {w : A → List ℕ} {F : A → Type 0} {m : ℕ} {r : List ℕ → Reading A} where
  made_item : IsCodec w F m r → (t : Tag) (make : A → Item) → ((x : A) → body (make x) ≡ w x) → ((x : A) → F x → IsItem (make x)) → ((x : A) → tag (make x) ≡ t) → (bytes : List ℕ) (item : Item) (rest : List ℕ) → IsBytes bytes → made make r bytes ≡ Ok (item, rest) → IsReadAs t bytes item rest
  made_item c t make text fits_too same bytes item rest fits e =
      let a = made_takes c make bytes item rest fits e in
      let taken : Takes bytes (body (make a.0)) rest = subst (λ (z : List ℕ). Takes bytes z rest) (sym (text a.0)) a.2 in
      subst (λ (i : Item). IsReadAs t bytes i rest) a.1 (taken, (fits_too a.0 a.3, same a.0))

plain_item : (t : Tag) (i : Item) → body i ≡ [] → IsItem i → tag i ≡ t → (bytes : List ℕ) (item : Item) (rest : List ℕ) → IsBytes bytes → nothing i bytes ≡ Ok (item, rest) → IsReadAs t bytes item rest
plain_item t i text is_item same bytes item rest fits e =
    let taken : Takes bytes (body i) bytes = record { parts = ap (λ (z : List ℕ). z ++ bytes) (sym text); rest_fits = fits } in
    subst (λ (p : Item × List ℕ). IsReadAs t bytes p.0 p.1) (ok_is (i, bytes) (item, rest) e) (taken, (is_item, same))

fields_take : (t : Tag) (bytes : List ℕ) (item : Item) (rest : List ℕ) → IsBytes bytes → fields_at t bytes ≡ Ok (item, rest) → IsReadAs t bytes item rest
fields_take tags.Request = made_item request_codec tags.Request items.Request (λ x. refl) (λ x fits. fits) (λ x. refl)
fields_take tags.Look = made_item look_codec tags.Look items.Look (λ x. refl) (λ x fits. fits) (λ x. refl)
fields_take tags.Quit = plain_item tags.Quit items.Quit refl tt refl
fields_take tags.Shut = plain_item tags.Shut items.Shut refl tt refl
fields_take tags.Answer = made_item answer_codec tags.Answer items.Answer (λ x. refl) (λ x fits. fits) (λ x. refl)
fields_take tags.Looked = made_item looked_codec tags.Looked items.Looked (λ x. refl) (λ x fits. fits) (λ x. refl)
fields_take tags.Bye = plain_item tags.Bye items.Bye refl tt refl
fields_take tags.Message = made_item message_codec tags.Message items.Message (λ x. refl) (λ x fits. fits) (λ x. refl)
fields_take tags.Begun = made_item begun_codec tags.Begun (λ e. items.Entry (entries.Begun e)) (λ x. refl) (λ x fits. fits) (λ x. refl)
fields_take tags.Refused = made_item refused_codec tags.Refused (λ e. items.Entry (entries.Refused e)) (λ x. refl) (λ x fits. fits) (λ x. refl)
fields_take tags.Hop = made_item hop_codec tags.Hop (λ e. items.Entry (entries.Hop e)) (λ x. refl) (λ x fits. fits) (λ x. refl)

fields_again : (item : Item) (rest : List ℕ) → IsItem item → fields_at (tag item) (body item ++ rest) ≡ Ok (item, rest)
fields_again (items.Request r) rest fits = made_again request_codec items.Request r rest fits
fields_again (items.Look l) rest fits = made_again look_codec items.Look l rest fits
fields_again items.Quit rest fits = refl
fields_again items.Shut rest fits = refl
fields_again (items.Answer a) rest fits = made_again answer_codec items.Answer a rest fits
fields_again (items.Looked l) rest fits = made_again looked_codec items.Looked l rest fits
fields_again items.Bye rest fits = refl
fields_again (items.Message m) rest fits = made_again message_codec items.Message m rest fits
fields_again (items.Entry (entries.Begun e)) rest fits = made_again begun_codec (λ x. items.Entry (entries.Begun x)) e rest fits
fields_again (items.Entry (entries.Refused e)) rest fits = made_again refused_codec (λ x. items.Entry (entries.Refused x)) e rest fits
fields_again (items.Entry (entries.Hop e)) rest fits = made_again hop_codec (λ x. items.Entry (entries.Hop x)) e rest fits

plain_faulty : (i : Item) (bytes : List ℕ) (fault : DecodeFault) → nothing i bytes ≡ Err fault → IsFieldFault fault
plain_faulty i bytes fault e = absurd (ok_is_no_err (i, bytes) fault e)

fields_faulty : (t : Tag) (bytes : List ℕ) (fault : DecodeFault) → fields_at t bytes ≡ Err fault → IsFieldFault fault
fields_faulty tags.Request = made_faulty request_codec items.Request
fields_faulty tags.Look = made_faulty look_codec items.Look
fields_faulty tags.Quit = plain_faulty items.Quit
fields_faulty tags.Shut = plain_faulty items.Shut
fields_faulty tags.Answer = made_faulty answer_codec items.Answer
fields_faulty tags.Looked = made_faulty looked_codec items.Looked
fields_faulty tags.Bye = plain_faulty items.Bye
fields_faulty tags.Message = made_faulty message_codec items.Message
fields_faulty tags.Begun = made_faulty begun_codec (λ e. items.Entry (entries.Begun e))
fields_faulty tags.Refused = made_faulty refused_codec (λ e. items.Entry (entries.Refused e))
fields_faulty tags.Hop = made_faulty hop_codec (λ e. items.Entry (entries.Hop e))

-- no body is longer than the longest that a hop's entry can have
pub body_short : (item : Item) → IsItem item → length (body item) ≤ 1327
body_short (items.Request r) fits = omega (arith, request_codec.short r fits)
body_short (items.Look l) fits = omega (arith, look_codec.short l fits)
body_short items.Quit fits = omega arith
body_short items.Shut fits = omega arith
body_short (items.Answer a) fits = omega (arith, answer_codec.short a fits)
body_short (items.Looked l) fits = omega (arith, looked_codec.short l fits)
body_short items.Bye fits = omega arith
body_short (items.Message m) fits = omega (arith, message_codec.short m fits)
body_short (items.Entry (entries.Begun e)) fits = omega (arith, begun_codec.short e fits)
body_short (items.Entry (entries.Refused e)) fits = omega (arith, refused_codec.short e fits)
body_short (items.Entry (entries.Hop e)) fits = omega (arith, hop_codec.short e fits)

-- ---- a whole body

pub body_takes : (t : Tag) (bytes : List ℕ) (item : Item) → IsBytes bytes → body_at t bytes ≡ Ok item → (bytes ≡ body item) × (IsItem item × (tag item ≡ t))
unfolding body_at
body_takes t bytes item fits e =
    let a = bind_ok (fields_at t bytes) (λ read. cond (eqb (length read.1) 0) (Ok read.0) (Err faults.BadLength)) item e in
    let g = if_ok (eqb (length a.0.1) 0) faults.BadLength a.0.0 item a.2 in
    let taken = fields_take t bytes a.0.0 a.0.1 fits a.1 in
    let ended : a.0.1 ≡ [] = nil_from_length a.0.1 (eqb-true _ _ g.0) in
    let whole : bytes ≡ body a.0.0 = taken.0.parts ∙ ap (λ (z : List ℕ). body a.0.0 ++ z) ended ∙ append-nil (body a.0.0) in
    subst (λ (i : Item). (bytes ≡ body i) × (IsItem i × (tag i ≡ t))) g.1 (whole, taken.1)

pub body_again : (item : Item) → IsItem item → body_at (tag item) (body item) ≡ Ok item
unfolding body_at
body_again item fits =
    let read : fields_at (tag item) (body item) ≡ Ok (item, []) = ap (fields_at (tag item)) (sym (append-nil (body item))) ∙ fields_again item [] fits in
    rw read refl

pub body_faulty : (t : Tag) (bytes : List ℕ) (fault : DecodeFault) → body_at t bytes ≡ Err fault → IsFieldFault fault
unfolding body_at
body_faulty t bytes fault e =
    elim (bind_err (fields_at t bytes) (λ read. cond (eqb (length read.1) 0) (Ok read.0) (Err faults.BadLength)) fault e) [
      | inl h ↦ fields_faulty t bytes fault h
      | inr a ↦ inl (sym (if_err (eqb (length a.0.1) 0) faults.BadLength fault a.0.0 a.2))
    ]

-- ---- tags and lengths

find_passes : {A : Type 0} (test : A → Bool) (xs : List A) (x : A) → find test xs ≡ Some x → test x ≡ true
find_passes test [] x e = absurd cc
find_passes test (y ∷ ys) x e =
    let P : Bool → Type 0 = λ b. test y ≡ b → cond b (Some y) (find test ys) ≡ Some x → test x ≡ true in
    elim (test y) as P [
      | true ↦ λ passed found. let same : y ≡ x = cc in subst (λ (z : _). test z ≡ true) same passed
      | false ↦ λ failed found. find_passes test ys x found
    ] refl e

pub tag_takes : (b : ℕ) (t : Tag) → tag_of b ≡ Some t → b ≡ byte_of t
unfolding tag_of
tag_takes b t e = sym (eqb-true (byte_of t) b (find_passes (λ u. eqb (byte_of u) b) all_tags t e))

pub tag_again : (t : Tag) → tag_of (byte_of t) ≡ Some t
unfolding tag_of
tag_again tags.Request = refl
tag_again tags.Look = refl
tag_again tags.Quit = refl
tag_again tags.Shut = refl
tag_again tags.Answer = refl
tag_again tags.Looked = refl
tag_again tags.Bye = refl
tag_again tags.Message = refl
tag_again tags.Begun = refl
tag_again tags.Refused = refl
tag_again tags.Hop = refl

pub length-length_bytes : (n : ℕ) → length (length_bytes n) ≡ 4
unfolding length_bytes
length-length_bytes n = refl

pub from-length_bytes : (n : ℕ) → n < 2 ^ 32 → from_be_bytes w32 (length_bytes n) ≡ n
unfolding length_bytes
from-length_bytes n lt = wide32.again n lt

pub length_bytes-from : (bytes : List ℕ) → length bytes ≡ 4 → IsBytes bytes → length_bytes (from_be_bytes w32 bytes) ≡ bytes
unfolding length_bytes
length_bytes-from bytes len fits = wide32.back bytes len fits
