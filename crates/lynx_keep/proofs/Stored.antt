-- Entries are read back from their encodings, and from nothing else.
use Rattle.std.proofs.Common.{◌≡◌, ℕ, zero, suc, ◌≤◌, List, [], ◌∷◌, ◌++◌, length, None, Ok, Err, refl, sym, ap, ◌∙◌, subst, arith, length-append}
use Rattle.std.specs.List.{AllByRecursion}
use Rattle.std.proofs.lemmas.List.{append-nil}
use Rattle.std.proofs.lemmas.List.Concat.{flat_map-append}
use Rattle.lynx_entry.specs.declared.entry.Entry.{Entry}
use Rattle.lynx_entry.specs.Entry.{History}
use Rattle.lynx_codec.specs.declared.fault.DecodeFault.{DecodeFault}
use Rattle.lynx_codec.specs.declared.fault.DecodeFault.TheVariants as faults
use Rattle.lynx_codec.specs.declared.item.Item.{Item}
use Rattle.lynx_codec.specs.declared.item.Item.TheVariants as items
use Rattle.lynx_codec.specs.Encoding.{encoding}
use Rattle.lynx_codec.specs.Front.{Found, front}
use Rattle.lynx_codec.specs.Ranges.{IsItem}
use Rattle.lynx_codec.specs.Feeding.{Stream, BeginsNoItem, Gives, Faults}
use Rattle.lynx_codec.proofs.Fronts.{front_again}
use Rattle.lynx_codec.proofs.Feeds.{no_encoding_begins_another}
use Rattle.lynx_keep.specs.Stored.{encoding_of, HasEncoding, encodings_of, entries_from, first_entries, entries_in, AreStored, HasEntries}

-- an encoding has a byte at least
encoding_some : (item : Item) → 1 ≤ length (encoding item)
unfolding encoding
encoding_some item = omega arith

-- so entries are no more than the bytes of their encodings
encodings_long : (entries : History) → length entries ≤ length (encodings_of entries)
encodings_long [] = omega arith
encodings_long (entry ∷ entries) =
    omega (arith, encoding_some (items.Entry entry), encodings_long entries, length-append (encoding_of entry) (encodings_of entries))

nothing_first : front [] ≡ Ok None
unfolding front
nothing_first = refl

first-encodings : (n : ℕ) (entries : History) → AllByRecursion HasEncoding entries → length entries ≤ n → first_entries n (encodings_of entries) ≡ entries
unfolding first_entries
first-encodings zero [] are few = refl
first-encodings zero (entry ∷ entries) are few = absurd (omega (arith, few))
first-encodings (suc n) [] are few = ap (λ (found : Found). entries_from found (first_entries n)) nothing_first
first-encodings (suc n) (entry ∷ entries) are few =
    ap (λ (found : Found). entries_from found (first_entries n)) (front_again (items.Entry entry) (encodings_of entries) are.0)
    ∙ ap (λ (others : History). entry ∷ others) (first-encodings n entries are.1 (omega (arith, few)))

-- entries are read from their encodings
pub entries_in-encodings : (entries : History) → AllByRecursion HasEncoding entries → entries_in (encodings_of entries) ≡ entries
unfolding entries_in
entries_in-encodings entries are = first-encodings (length (encodings_of entries)) entries are (encodings_long entries)

pub stored-encodings : (bytes : List ℕ) (entries : History) → AllByRecursion HasEncoding entries → bytes ≡ encodings_of entries →
    AreStored bytes × (entries_in bytes ≡ entries)
stored-encodings bytes entries are is =
    let read : entries_in bytes ≡ entries = ap entries_in is ∙ entries_in-encodings entries are in
    (record { have_encodings = subst (AllByRecursion HasEncoding) (sym read) are; encodings = is ∙ ap encodings_of (sym read) }, read)

-- no bytes are no entries
pub stored-nothing : AreStored [] × (entries_in [] ≡ [])
stored-nothing = stored-encodings [] [] tt refl

all_more : (entries : History) (entry : Entry) → AllByRecursion HasEncoding entries → HasEncoding entry → AllByRecursion HasEncoding (entries ++ entry ∷ [])
all_more [] entry are more = (more, tt)
all_more (first ∷ entries) entry are more = (are.0, all_more entries entry are.1 more)

-- one more encoding behind others
pub stored-more : (bytes more : List ℕ) (entry : Entry) → AreStored bytes → HasEncoding entry → more ≡ bytes ++ encoding_of entry →
    AreStored more × (entries_in more ≡ entries_in bytes ++ entry ∷ [])
stored-more bytes more entry are has is =
    let entries = entries_in bytes in
    stored-encodings more (entries ++ entry ∷ []) (all_more entries entry are.have_encodings has)
    (is ∙ ap (λ (b : List ℕ). b ++ encoding_of entry) are.encodings
    ∙ ap (λ (b : List ℕ). encodings_of entries ++ b) (sym (append-nil (encoding_of entry)))
    ∙ sym (flat_map-append encoding_of entries (entry ∷ [])))

all_both : (entries others : History) → AllByRecursion HasEncoding entries → AllByRecursion HasEncoding others → AllByRecursion HasEncoding (entries ++ others)
all_both [] others are more = more
all_both (first ∷ entries) others are more = (are.0, all_both entries others are.1 more)

-- stored entries behind others
pub stored-both : (bytes more all : List ℕ) → AreStored bytes → AreStored more → all ≡ bytes ++ more →
    AreStored all × (entries_in all ≡ entries_in bytes ++ entries_in more)
stored-both bytes more all are has is =
    let entries = entries_in bytes in
    let others = entries_in more in
    stored-encodings all (entries ++ others) (all_both entries others are.have_encodings has.have_encodings)
    (is ∙ ap (λ (b : List ℕ). b ++ more) are.encodings
    ∙ ap (λ (b : List ℕ). encodings_of entries ++ b) has.encodings
    ∙ sym (flat_map-append encoding_of entries others))

-- what is given of stored entries is the first of them
pub record IsFirst (old new : List ℕ) (item : Item) : Type 0 where
  pub entry : Entry
  pub is : item ≡ items.Entry entry
  pub entries : entries_in old ≡ entry ∷ entries_in new
  pub others : AreStored new

first_given : (old new : List ℕ) (item : Item) (entries : History) → entries_in old ≡ entries → AllByRecursion HasEncoding entries →
    encoding item ++ new ≡ encodings_of entries → IsItem item → IsFirst old new item
first_given old new item [] read are parts is_item =
    absurd (omega (arith, encoding_some item, length-append (encoding item) new, ap length parts))
first_given old new item (entry ∷ entries) read are parts is_item =
    let first = no_encoding_begins_another item (items.Entry entry) new (encodings_of entries) is_item are.0 parts in
    let behind = stored-encodings new entries are.1 first.1 in
    record {
      entry = entry;
      is = first.0;
      entries = read ∙ ap (λ (others : History). entry ∷ others) (sym behind.1);
      others = behind.0;
    }

pub given_first : (old new : Stream) (item : Item) → HasEntries old → Gives old item new → IsFirst old.rest new.rest item
given_first old new item has gives =
    first_given old.rest new.rest item (entries_in old.rest) refl has.stored.have_encodings
    (sym gives.encoding_stood ∙ has.stored.encodings) gives.is_item

-- where no encoding begins, no entry is left
none_left : (bytes : List ℕ) (entries : History) → AllByRecursion HasEncoding entries → bytes ≡ encodings_of entries → BeginsNoItem bytes → entries ≡ []
none_left bytes [] are is none = refl
none_left bytes (entry ∷ entries) are is none = absurd (none (items.Entry entry) (encodings_of entries) are.0 is)

pub stored-none : (bytes : List ℕ) → AreStored bytes → BeginsNoItem bytes → entries_in bytes ≡ []
stored-none bytes are none = none_left bytes (entries_in bytes) are.have_encodings are.encodings none

-- and no fault stands there
no_fault : (bytes : List ℕ) (fault : DecodeFault) → AreStored bytes → BeginsNoItem bytes → front bytes ≡ Err fault → ⊥
no_fault bytes fault are none stands =
    let empty : bytes ≡ [] = are.encodings ∙ ap encodings_of (stored-none bytes are none) in
    let both : ◌≡◌ {A = Found} (Ok None) (Err fault) = sym nothing_first ∙ ap front (sym empty) ∙ stands in
    cc

pub only_memory : (old new : Stream) (fault : DecodeFault) → HasEntries old → Faults old new fault → fault ≡ faults.Memory
only_memory old new faults.Memory has is = refl
only_memory old new faults.Short has is = absurd is
only_memory old new faults.BadTag has is = absurd (no_fault old.rest faults.BadTag has.stored is.no_item is.stood)
only_memory old new faults.BadLength has is = absurd (no_fault old.rest faults.BadLength has.stored is.no_item is.stood)
only_memory old new faults.OutOfRange has is = absurd (no_fault old.rest faults.OutOfRange has.stored is.no_item is.stood)

-- a feed that gave the first of its entries has the others before it
pub others_left : (old new : Stream) (item : Item) → HasEntries old → Gives old item new → HasEntries new
others_left old new item has gives = record { stored = (given_first old new item has gives).others; open_so = gives.stays_open }

entry_is : (one other : Entry) → ◌≡◌ {A = Item} (items.Entry one) (items.Entry other) → one ≡ other
entry_is one other e = cc

-- and gave an entry
pub entry_first : (old new : Stream) (item : Item) (entry : Entry) → HasEntries old → Gives old item new → item ≡ items.Entry entry →
    entries_in old.rest ≡ entry ∷ entries_in new.rest
entry_first old new item entry has gives is =
    let first = given_first old new item has gives in
    first.entries ∙ ap (λ (e : Entry). e ∷ entries_in new.rest) (entry_is first.entry entry (sym first.is ∙ is))
