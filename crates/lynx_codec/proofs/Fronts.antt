-- What stands at the front of a stream: an item exactly where its encoding does, and a fault that more bytes don't mend.
use Rattle.std.proofs.Common.{◌≡◌, ℕ, ◌≤◌, ◌⊎◌, Bool, true, false, cond, ltb, List, [], ◌∷◌, ◌++◌, length, take, drop, Option, Some, None, Ok, Err, refl, sym, ap, subst, ◌∙◌, append_assoc, arith, inl, inr}
use Rattle.std.specs.Int.{w32, from_be_bytes}
use Rattle.std.proofs.lemmas.Bool.{ltb-false, le-ltb}
use Rattle.std.proofs.lemmas.List.{take_at, drop_at, take-append-drop, take-append-le, drop-append-le, length-append, length-take}
use Rattle.lynx_codec.specs.declared.fault.DecodeFault.{DecodeFault}
use Rattle.lynx_codec.specs.declared.fault.DecodeFault.TheVariants as faults
use Rattle.lynx_codec.specs.declared.item.Item.{Item}
use Rattle.lynx_codec.specs.declared.limits.TheConstants.{MAX_BODY_BYTES}
use Rattle.lynx_codec.specs.declared.tag.Tag.{Tag}
use Rattle.lynx_codec.specs.Encoding.{body, tag, byte_of, length_bytes, encoding}
use Rattle.lynx_codec.specs.Ranges.{IsItem}
use Rattle.lynx_codec.specs.Reading.{◌>>=◌}
use Rattle.lynx_codec.specs.Bodies.{body_at}
use Rattle.lynx_codec.specs.Front.{tag_of, sized, tagged, Found, front}
use Rattle.lynx_codec.proofs.Codec.{IsBytes, IsBytes-rest, bind_ok, bind_err}
use Rattle.lynx_codec.proofs.FieldCodecs.{IsBytes-take, IsBytes-drop}
use Rattle.lynx_codec.proofs.Items.{body_short, body_takes, body_again, body_faulty, tag_takes, tag_again, length-length_bytes, from-length_bytes, length_bytes-from}

chosen : {A : Type 0} (b : Bool) (x y z : A) → cond b x y ≡ z → ((b ≡ true) × (x ≡ z)) ⊎ ((b ≡ false) × (y ≡ z))
chosen true x y z e = inl (refl, e)
chosen false x y z e = inr (refl, e)

abbrev pub whole : Item → List ℕ → Found
whole item rest = Ok (Some (item, rest))

abbrev nothing_yet : Found
nothing_yet = Ok None

abbrev faulty : DecodeFault → Found
faulty fault = Err fault

-- what comes of a body that is all there
abbrev ended : Tag → ℕ → List ℕ → Found
ended t size bytes = body_at t (take size bytes) >>= λ item. Ok (Some (item, drop size bytes))

abbrev pair : Item → List ℕ → Item × List ℕ
pair item rest = (item, rest)

pub whole_is : (a b : Item) (x y : List ℕ) → whole a x ≡ whole b y → (a ≡ b) × (x ≡ y)
whole_is a b x y e =
    let pairs : pair a x ≡ pair b y = cc in
    (ap (λ (p : Item × List ℕ). p.0) pairs, ap (λ (p : Item × List ℕ). p.1) pairs)

-- ---- behind a tag and a length

record IsWhole (t : Tag) (size : ℕ) (bytes : List ℕ) (item : Item) (rest : List ℕ) : Type 0 where
  small : size ≤ MAX_BODY_BYTES
  long : size ≤ length bytes
  text : take size bytes ≡ body item
  is_item : IsItem item
  same : tag item ≡ t
  left : drop size bytes ≡ rest

sized_takes : (t : Tag) (size : ℕ) (bytes : List ℕ) (item : Item) (rest : List ℕ) → IsBytes bytes → sized t size bytes ≡ whole item rest → IsWhole t size bytes item rest
sized_takes t size bytes item rest fits e =
    elim (chosen (ltb MAX_BODY_BYTES size) (faulty faults.BadLength) (cond (ltb (length bytes) size) nothing_yet (ended t size bytes)) (whole item rest) e) [
      | inl h ↦ absurd (let no : faulty faults.BadLength ≡ whole item rest = h.1 in cc)
      | inr h ↦ elim (chosen (ltb (length bytes) size) nothing_yet (ended t size bytes) (whole item rest) h.1) [
        | inl g ↦ absurd (let no : nothing_yet ≡ whole item rest = g.1 in cc)
        | inr g ↦
            let a = bind_ok (body_at t (take size bytes)) (λ found. whole found (drop size bytes)) (Some (item, rest)) g.1 in
            let taken = body_takes t (take size bytes) a.0 (IsBytes-take size bytes fits) a.1 in
            let both = whole_is a.0 item (drop size bytes) rest a.2 in
            record {
              small = ltb-false _ _ h.0;
              long = ltb-false _ _ g.0;
              text = taken.0 ∙ ap body both.0;
              is_item = subst IsItem both.0 taken.1.0;
              same = sym (ap tag both.0) ∙ taken.1.1;
              left = both.1;
            }
      ]
    ]

sized_again : (item : Item) (rest : List ℕ) → IsItem item → sized (tag item) (length (body item)) (body item ++ rest) ≡ whole item rest
sized_again item rest fits =
    let size = length (body item) in
    let small : ltb MAX_BODY_BYTES size ≡ false = le-ltb _ _ (omega (arith, body_short item fits)) in
    let long : ltb (length (body item ++ rest)) size ≡ false = le-ltb _ _ (omega (arith, length-append (body item) rest)) in
    rw (small, long, take_at (body item) rest size refl, drop_at (body item) rest size refl, body_again item fits) refl

-- the faults of streams
abbrev pub IsStreamFault : DecodeFault → Type 0
IsStreamFault fault = (fault ≡ faults.BadTag) ⊎ ((fault ≡ faults.BadLength) ⊎ (fault ≡ faults.OutOfRange))

faulty_is : (c d : DecodeFault) → faulty c ≡ faulty d → c ≡ d
faulty_is c d e = cc

sized_faulty : (t : Tag) (size : ℕ) (bytes : List ℕ) (fault : DecodeFault) → sized t size bytes ≡ faulty fault → IsStreamFault fault
sized_faulty t size bytes fault e =
    elim (chosen (ltb MAX_BODY_BYTES size) (faulty faults.BadLength) (cond (ltb (length bytes) size) nothing_yet (ended t size bytes)) (faulty fault) e) [
      | inl h ↦ inr (inl (sym (faulty_is faults.BadLength fault h.1)))
      | inr h ↦ elim (chosen (ltb (length bytes) size) nothing_yet (ended t size bytes) (faulty fault) h.1) [
        | inl g ↦ absurd (let no : nothing_yet ≡ faulty fault = g.1 in cc)
        | inr g ↦ elim (bind_err (body_at t (take size bytes)) (λ found. whole found (drop size bytes)) fault g.1) [
          | inl f ↦ inr (body_faulty t (take size bytes) fault f)
          | inr a ↦ absurd (let no : whole a.0 (drop size bytes) ≡ faulty fault = a.2 in cc)
        ]
      ]
    ]

sized_stays : (t : Tag) (size : ℕ) (bytes more : List ℕ) (fault : DecodeFault) → sized t size bytes ≡ faulty fault → sized t size (bytes ++ more) ≡ faulty fault
sized_stays t size bytes more fault e =
    elim (chosen (ltb MAX_BODY_BYTES size) (faulty faults.BadLength) (cond (ltb (length bytes) size) nothing_yet (ended t size bytes)) (faulty fault) e) [
      | inl h ↦ rw h.0 h.1
      | inr h ↦ elim (chosen (ltb (length bytes) size) nothing_yet (ended t size bytes) (faulty fault) h.1) [
        | inl g ↦ absurd (let no : nothing_yet ≡ faulty fault = g.1 in cc)
        | inr g ↦
            let enough : size ≤ length bytes = ltb-false _ _ g.0 in
            let longer : ltb (length (bytes ++ more)) size ≡ false = le-ltb _ _ (omega (arith, length-append bytes more)) in
            let same : take size (bytes ++ more) ≡ take size bytes = take-append-le size bytes more enough in
            elim (bind_err (body_at t (take size bytes)) (λ found. whole found (drop size bytes)) fault g.1) [
              | inl f ↦ rw (h.0, longer, same, f) refl
              | inr a ↦ absurd (let no : whole a.0 (drop size bytes) ≡ faulty fault = a.2 in cc)
            ]
      ]
    ]

-- ---- from the tag on

abbrev headed : Tag → List ℕ → Found
headed t bytes = cond (ltb (length bytes) 4) nothing_yet (sized t (from_be_bytes w32 (take 4 bytes)) (drop 4 bytes))

pub front_takes : (bytes : List ℕ) (item : Item) (rest : List ℕ) → IsBytes bytes → front bytes ≡ whole item rest → (bytes ≡ encoding item ++ rest) × IsItem item
unfolding front encoding
front_takes [] item rest fits e = absurd cc
front_takes (b ∷ bytes) item rest fits e =
    let P : Option Tag → Type 0 = λ o. tag_of b ≡ o → tagged o bytes ≡ whole item rest → (b ∷ bytes ≡ encoding item ++ rest) × IsItem item in
    elim (tag_of b) as P [
      | None ↦ λ is e. absurd (let no : faulty faults.BadTag ≡ whole item rest = e in cc)
      | Some t ↦ λ is e. elim (chosen (ltb (length bytes) 4) nothing_yet (sized t (from_be_bytes w32 (take 4 bytes)) (drop 4 bytes)) (whole item rest) e) [
        | inl g ↦ absurd (let no : nothing_yet ≡ whole item rest = g.1 in cc)
        | inr g ↦
            let rest_fits = IsBytes-rest b bytes fits in
            let size = from_be_bytes w32 (take 4 bytes) in
            let long : 4 ≤ length bytes = ltb-false _ _ g.0 in
            let w = sized_takes t size (drop 4 bytes) item rest (IsBytes-drop 4 bytes rest_fits) g.1 in
            let head : b ≡ byte_of (tag item) = tag_takes b t is ∙ ap byte_of (sym w.same) in
            let len : size ≡ length (body item) = omega (arith, length-take size (drop 4 bytes), w.long, ap length w.text) in
            let size_text : take 4 bytes ≡ length_bytes (length (body item)) = sym (length_bytes-from (take 4 bytes) (omega (arith, length-take 4 bytes)) (IsBytes-take 4 bytes rest_fits)) ∙ ap length_bytes len in
            let body_text : drop 4 bytes ≡ body item ++ rest = sym (take-append-drop size (drop 4 bytes)) ∙ ap (λ (z : List ℕ). z ++ drop size (drop 4 bytes)) w.text ∙ ap (λ (z : List ℕ). body item ++ z) w.left in
            let tail : bytes ≡ (length_bytes (length (body item)) ++ body item) ++ rest =
            sym (take-append-drop 4 bytes) ∙ ap (λ (z : List ℕ). z ++ drop 4 bytes) size_text
            ∙ ap (λ (z : List ℕ). length_bytes (length (body item)) ++ z) body_text ∙ sym (append_assoc (length_bytes (length (body item))) (body item) rest) in
            (ap (λ (z : ℕ). z ∷ bytes) head ∙ ap (λ (z : List ℕ). byte_of (tag item) ∷ z) tail, w.is_item)
      ]
    ] refl e

pub front_again : (item : Item) (rest : List ℕ) → IsItem item → front (encoding item ++ rest) ≡ whole item rest
unfolding front encoding
front_again item rest fits =
    let size = length (body item) in
    let after : List ℕ = body item ++ rest in
    let bytes : List ℕ = length_bytes size ++ after in
    let regrouped : encoding item ++ rest ≡ byte_of (tag item) ∷ bytes = ap (λ (z : List ℕ). byte_of (tag item) ∷ z) (append_assoc (length_bytes size) (body item) rest) in
    let len = length-length_bytes size in
    let long : ltb (length bytes) 4 ≡ false = le-ltb _ _ (omega (arith, length-append (length_bytes size) after, len)) in
    let said : from_be_bytes w32 (take 4 bytes) ≡ size = ap (from_be_bytes w32) (take_at (length_bytes size) after 4 len) ∙ from-length_bytes size (omega (arith, body_short item fits)) in
    let left : drop 4 bytes ≡ after = drop_at (length_bytes size) after 4 len in
    let here : headed (tag item) bytes ≡ whole item rest =
    ap (λ (t : Bool). cond t nothing_yet (sized (tag item) (from_be_bytes w32 (take 4 bytes)) (drop 4 bytes))) long
    ∙ ap (λ (n : ℕ). sized (tag item) n (drop 4 bytes)) said
    ∙ ap (λ (z : List ℕ). sized (tag item) size z) left
    ∙ sized_again item rest fits in
    ap front regrouped ∙ ap (λ (o : Option Tag). tagged o bytes) (tag_again (tag item)) ∙ here

pub front_faulty : (bytes : List ℕ) (fault : DecodeFault) → front bytes ≡ faulty fault → IsStreamFault fault
unfolding front
front_faulty [] fault e = absurd cc
front_faulty (b ∷ bytes) fault e =
    let P : Option Tag → Type 0 = λ o. tagged o bytes ≡ faulty fault → IsStreamFault fault in
    elim (tag_of b) as P [
      | None ↦ λ e. inl (sym (faulty_is faults.BadTag fault e))
      | Some t ↦ λ e. elim (chosen (ltb (length bytes) 4) nothing_yet (sized t (from_be_bytes w32 (take 4 bytes)) (drop 4 bytes)) (faulty fault) e) [
        | inl g ↦ absurd (let no : nothing_yet ≡ faulty fault = g.1 in cc)
        | inr g ↦ sized_faulty t (from_be_bytes w32 (take 4 bytes)) (drop 4 bytes) fault g.1
      ]
    ] e

-- a fault stays, whatever comes behind it
pub front_stays : (bytes more : List ℕ) (fault : DecodeFault) → front bytes ≡ faulty fault → front (bytes ++ more) ≡ faulty fault
unfolding front
front_stays [] more fault e = absurd cc
front_stays (b ∷ bytes) more fault e =
    let P : Option Tag → Type 0 = λ o. tagged o bytes ≡ faulty fault → tagged o (bytes ++ more) ≡ faulty fault in
    elim (tag_of b) as P [
      | None ↦ λ e. e
      | Some t ↦ λ e. elim (chosen (ltb (length bytes) 4) nothing_yet (sized t (from_be_bytes w32 (take 4 bytes)) (drop 4 bytes)) (faulty fault) e) [
        | inl g ↦ absurd (let no : nothing_yet ≡ faulty fault = g.1 in cc)
        | inr g ↦
            let enough : 4 ≤ length bytes = ltb-false _ _ g.0 in
            let longer : ltb (length (bytes ++ more)) 4 ≡ false = le-ltb _ _ (omega (arith, length-append bytes more)) in
            let size = from_be_bytes w32 (take 4 bytes) in
            ap (λ (t' : Bool). cond t' nothing_yet (sized t (from_be_bytes w32 (take 4 (bytes ++ more))) (drop 4 (bytes ++ more)))) longer
            ∙ ap (λ (z : List ℕ). sized t (from_be_bytes w32 z) (drop 4 (bytes ++ more))) (take-append-le 4 bytes more enough)
            ∙ ap (λ (z : List ℕ). sized t size z) (drop-append-le 4 bytes more enough)
            ∙ sized_stays t size (drop 4 bytes) more fault g.1
      ]
    ] e
