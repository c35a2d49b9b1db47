-- What stands at the front of a feed's bytes, as its callers see it.
use Rattle.std.proofs.Common.{◌≡◌, true, false, not, ℕ, ◌+◌, ◌≤◌, ◌⊎◌, ◌↔◌, List, [], ◌∷◌, ◌++◌, length, drop, Option, Some, None, Result, Ok, Err, refl, sym, ap, subst, ◌∙◌, append_assoc, arith, inl, inr}
use Rattle.std.specs.Prelude.{IfOk, IfErr, IfSome, IfNone}
use Rattle.std.specs.List.{flat_map, AllByRecursion}
use Rattle.std.proofs.lemmas.List.{append-nil, drop-drop, drop-append-le, length-append}
use denote.Enum.Bare.{sameb}
use Rattle.lynx_codec.specs.declared.fault.DecodeFault.{DecodeFault}
use Rattle.lynx_codec.specs.declared.fault.DecodeFault.TheVariants as faults
use Rattle.lynx_codec.specs.contracts.fault.DecodeFault.{the_type}
use Rattle.lynx_codec.specs.declared.item.Item.{Item}
use Rattle.lynx_codec.specs.Encoding.{encoding}
use Rattle.lynx_codec.specs.Ranges.{IsItem}
use Rattle.lynx_codec.specs.Reading.{Fails}
use Rattle.lynx_codec.specs.Front.{Found, front}
use Rattle.lynx_codec.specs.Feeding.{Stream, Finds, IsFront, IsFailing, BeginsNoItem, Gives, Waits, Ends, Faults}
use Rattle.lynx_codec.proofs.Codec.{IsBytes}
use Rattle.lynx_codec.proofs.Ranges.{is_in_range}
use Rattle.lynx_codec.proofs.Fronts.{whole_is, front_takes, front_again, front_faulty, front_stays}

-- no encoding of an item begins another's
pub no_encoding_begins_another : (a b : Item) (x y : List ℕ) → IsItem a → IsItem b → encoding a ++ x ≡ encoding b ++ y → (a ≡ b) × (x ≡ y)
no_encoding_begins_another a b x y fits_a fits_b e = whole_is a b x y (sym (front_again a x fits_a) ∙ ap front e ∙ front_again b y fits_b)

pub nothing_yet-begins_none : (bytes : List ℕ) → front bytes ≡ Ok None → BeginsNoItem bytes
nothing_yet-begins_none bytes e item more fits is =
    let stands = sym (front_again item more fits) ∙ ap front (sym is) ∙ e in
    absurd cc

pub fault-begins_none : (bytes : List ℕ) (fault : DecodeFault) → front bytes ≡ Err fault → BeginsNoItem bytes
fault-begins_none bytes fault e item more fits is =
    let stands = sym (front_again item more fits) ∙ ap front (sym is) ∙ e in
    absurd cc

pub found : (bytes : List ℕ) (r : Result (Option (Item × ℕ)) DecodeFault) → IsBytes bytes → Finds bytes r → IfOk r (λ o. IfSome o (λ f. f.1 ≤ length bytes)) → IfOk r (λ o. IfSome o (λ f. IsFront bytes f.0 f.1))
found bytes (Ok None) fits is within = tt
found bytes (Ok (Some f)) fits is within =
    let taken = front_takes bytes f.0 (drop f.1 bytes) fits is in
    record { within = within; encoding_stands = taken.0; is_item = taken.1 }
found bytes (Err fault) fits is within = tt

pub waits : (s : Stream) (bytes : List ℕ) → bytes ≡ s.rest → s.failed ≡ None → front bytes ≡ Ok None → Waits s s
waits s bytes same was_open e =
    let stands : front s.rest ≡ Ok None = ap front (sym same) ∙ e in
    record { unchanged = refl; was_open = was_open; nothing_yet = stands; no_item = nothing_yet-begins_none s.rest stands }

pub gives : (s : Stream) (bytes all : List ℕ) (given size : ℕ) (item : Item) (failed : Option DecodeFault) → bytes ≡ s.rest → drop given all ≡ s.rest → s.failed ≡ None → failed ≡ None → IsFront bytes item size
    → Gives s item (record { rest = drop (given + size) all; failed = failed })
gives s bytes all given size item failed same is was_open stays_open f =
    let left : drop size bytes ≡ drop (given + size) all = ap (drop size) (same ∙ sym is) ∙ drop-drop size given all in
    record {
      encoding_stood = sym same ∙ f.encoding_stands ∙ ap (λ (z : List ℕ). encoding item ++ z) left;
      is_item = f.is_item;
      in_range = is_in_range item f.is_item;
      was_open = was_open;
      stays_open = stays_open;
    }

ends : (s : Stream) (fault : DecodeFault) (new : Stream) → front s.rest ≡ Err fault → new ≡ record s { failed = Some fault } → Ends s fault new
ends s fault new e is = record { stood = e; no_item = fault-begins_none s.rest fault e; ended = is }

-- a fault that stands at the front ends the feed
pub is_fault : (s : Stream) (fault : DecodeFault) (new : Stream) → front s.rest ≡ Err fault → new ≡ record s { failed = Some fault } → Faults s new fault
is_fault s fault new e is =
    let P : DecodeFault → Type 0 = λ f. Faults s new f in
    elim (front_faulty s.rest fault e) [
      | inl a ↦ subst P (sym a) (ends s faults.BadTag new (e ∙ ap (λ (f : DecodeFault). Err f) a) (is ∙ ap (λ (f : DecodeFault). record s { failed = Some f }) a))
      | inr b ↦ elim b [
        | inl a ↦ subst P (sym a) (ends s faults.BadLength new (e ∙ ap (λ (f : DecodeFault). Err f) a) (is ∙ ap (λ (f : DecodeFault). record s { failed = Some f }) a))
        | inr a ↦ subst P (sym a) (ends s faults.OutOfRange new (e ∙ ap (λ (f : DecodeFault). Err f) a) (is ∙ ap (λ (f : DecodeFault). record s { failed = Some f }) a))
      ]
    ]

is_not_memory : (fault : DecodeFault) → not (sameb the_type fault faults.Memory) ≡ true → fault ≡ faults.Memory → ⊥
is_not_memory faults.Memory e is = absurd cc
is_not_memory faults.Short e is = absurd cc
is_not_memory faults.BadTag e is = absurd cc
is_not_memory faults.BadLength e is = absurd cc
is_not_memory faults.OutOfRange e is = absurd cc

is_memory : (fault : DecodeFault) → not (sameb the_type fault faults.Memory) ≡ false → fault ≡ faults.Memory
is_memory faults.Memory e = refl
is_memory faults.Short e = absurd cc
is_memory faults.BadTag e = absurd cc
is_memory faults.BadLength e = absurd cc
is_memory faults.OutOfRange e = absurd cc

-- a call that answers no want of memory answers what stands at the front
pub other_fault : (s : Stream) (bytes : List ℕ) (fault : DecodeFault) (new : Stream) → Fails fault (front bytes) → bytes ≡ s.rest → not (sameb the_type fault faults.Memory) ≡ true → new ≡ record s { failed = Some fault } → Faults s new fault
other_fault s bytes fault new fails same other is =
    elim fails [
      | inl memory ↦ absurd (is_not_memory fault other memory)
      | inr stands ↦ is_fault s fault new (ap front (sym same) ∙ stands) is
    ]

pub want_of_memory : (s : Stream) (fault : DecodeFault) (new : Stream) → not (sameb the_type fault faults.Memory) ≡ false → new ≡ s → s.failed ≡ None → (fault ≡ faults.Memory → front s.rest ≡ Ok None → ⊥) → Faults s new fault
want_of_memory s fault new e is was_open something =
    let P : DecodeFault → Type 0 = λ f. Faults s new f in
    subst P (sym (is_memory fault e)) (record { unchanged = is; was_open = was_open; something_stands = something (is_memory fault e) })

-- a feed that has failed is as its fault left it
pub failed-faults : (s : Stream) (fault : DecodeFault) → s.failed ≡ Some fault → IsFailing s → Faults s s fault
failed-faults s fault e failing =
    let stands : front s.rest ≡ Err fault = subst (λ (o : Option DecodeFault). IfSome o (λ f. front s.rest ≡ Err f)) e failing in
    is_fault s fault s stands (ap (λ (o : Option DecodeFault). record s { failed = o }) e)

-- what is whole is given
pub only : (s new : Stream) (r : Result (Option Item) DecodeFault) → IfOk r (λ o. IfSome o (λ item. Gives s item new)) → IfOk r (λ o. IfNone o (Waits s new)) → IfErr r (Faults s new)
    → (item : Item) (more : List ℕ) → IsItem item → s.rest ≡ encoding item ++ more → (r ≡ Ok (Some item)) ⊎ (r ≡ Err faults.Memory)
only s new (Ok None) given waits fault item more fits is = absurd (waits.no_item item more fits is)
only s new (Ok (Some other)) given waits fault item more fits is =
    let same = no_encoding_begins_another other item new.rest more given.is_item fits (sym given.encoding_stood ∙ is) in
    inl (ap (λ (i : Item). Ok (Some i)) same.0)
only s new (Err faults.Memory) given waits fault item more fits is = inr refl
only s new (Err faults.Short) given waits fault item more fits is = absurd fault
only s new (Err faults.BadTag) given waits fault item more fits is = absurd (fault.no_item item more fits is)
only s new (Err faults.BadLength) given waits fault item more fits is = absurd (fault.no_item item more fits is)
only s new (Err faults.OutOfRange) given waits fault item more fits is = absurd (fault.no_item item more fits is)

-- what a feed keeps of its bytes and its fault
abbrev pub IsKept : List ℕ → ℕ → Option DecodeFault → Type 0
IsKept all given failed = (given ≤ length all) × IsFailing (record { rest = drop given all; failed = failed })

-- it is kept where bytes are added
pub added-kept : (all more : List ℕ) (given : ℕ) (failed : Option DecodeFault) → IsKept all given failed → IsKept (all ++ more) given failed
added-kept all more given None kept = (omega (arith, kept.0, length-append all more), tt)
added-kept all more given (Some fault) kept =
    let stays : front (drop given all ++ more) ≡ Err fault = front_stays (drop given all) more fault kept.1 in
    (omega (arith, kept.0, length-append all more), ap front (drop-append-le given all more kept.0) ∙ stays)

-- a stream is read in one way
pub one_reading : (ours theirs : List Item) (x y : List ℕ) → AllByRecursion IsItem ours → AllByRecursion IsItem theirs → BeginsNoItem x → BeginsNoItem y
    → flat_map encoding ours ++ x ≡ flat_map encoding theirs ++ y → (ours ≡ theirs) × (x ≡ y)
one_reading [] [] x y fits_ours fits_theirs x_none y_none e = (refl, e)
one_reading [] (b ∷ theirs) x y fits_ours fits_theirs x_none y_none e =
    absurd (x_none b (flat_map encoding theirs ++ y) fits_theirs.0 (e ∙ append_assoc (encoding b) (flat_map encoding theirs) y))
one_reading (a ∷ ours) [] x y fits_ours fits_theirs x_none y_none e =
    absurd (y_none a (flat_map encoding ours ++ x) fits_ours.0 (sym e ∙ append_assoc (encoding a) (flat_map encoding ours) x))
one_reading (a ∷ ours) (b ∷ theirs) x y fits_ours fits_theirs x_none y_none e =
    let split : encoding a ++ (flat_map encoding ours ++ x) ≡ encoding b ++ (flat_map encoding theirs ++ y) = sym (append_assoc (encoding a) (flat_map encoding ours) x) ∙ e ∙ append_assoc (encoding b) (flat_map encoding theirs) y in
    let first = no_encoding_begins_another a b (flat_map encoding ours ++ x) (flat_map encoding theirs ++ y) fits_ours.0 fits_theirs.0 split in
    let others = one_reading ours theirs x y fits_ours.1 fits_theirs.1 x_none y_none first.1 in
    (ap (λ (i : Item). i ∷ ours) first.0 ∙ ap (λ (is : List Item). b ∷ is) others.0, others.1)

-- an item is read from its encoding, and from nothing else
pub read_from_encoding : (bytes : List ℕ) (item : Item) (rest : List ℕ) → IsBytes bytes → (front bytes ≡ Ok (Some (item, rest))) ↔ (IsItem item × (bytes ≡ encoding item ++ rest))
read_from_encoding bytes item rest fits = (
  (λ e. let taken = front_takes bytes item rest fits e in (taken.1, taken.0)),
  (λ h. ap front h.1 ∙ front_again item rest h.0),
)

none_of_both : (r rest : List ℕ) → (rest ≡ [] → ⊥) → [] ≡ r ++ rest → ⊥
none_of_both [] rest some e = some (sym e)
none_of_both (x ∷ r) rest some e = absurd cc

-- an encoding without its end is no fault
pub cut_encoding_waits : (item : Item) (begun rest : List ℕ) → IsItem item → IsBytes begun → (rest ≡ [] → ⊥) → encoding item ≡ begun ++ rest → front begun ≡ Ok None
cut_encoding_waits item begun rest is_item fits some e =
    let whole_stands : front (begun ++ rest) ≡ Ok (Some (item, [])) = ap front (sym e ∙ sym (append-nil (encoding item))) ∙ front_again item [] is_item in
    let P : Found → Type 0 = λ f. front begun ≡ f → f ≡ Ok None in
    elim (front begun) as P [
      | Err fault ↦ λ is. let no = sym (front_stays begun rest fault is) ∙ whole_stands in absurd cc
      | Ok found ↦ λ is.
          let ok : Option (Item × List ℕ) → Found = λ o. Ok o in
          let Q : Option (Item × List ℕ) → Type 0 = λ o. front begun ≡ ok o → ok o ≡ ok None in
          elim found as Q [
            | None ↦ λ is. refl
            | Some other ↦ λ is.
                let taken = front_takes begun other.0 other.1 fits is in
                let split : encoding item ++ [] ≡ encoding other.0 ++ (other.1 ++ rest) = append-nil (encoding item) ∙ e ∙ ap (λ (z : List ℕ). z ++ rest) taken.0 ∙ append_assoc (encoding other.0) other.1 rest in
                let same = no_encoding_begins_another item other.0 [] (other.1 ++ rest) is_item taken.1 split in
                absurd (none_of_both other.1 rest some same.1)
          ] is
    ] refl
