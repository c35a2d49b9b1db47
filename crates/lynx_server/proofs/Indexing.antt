-- An index of a history, as the history grows.
use Rattle.std.proofs.Common.{ℕ, ◌≡◌, ◌<◌, ◌==◌, ◌&&◌, [], ◌∷◌, ◌++◌, length, Bool, true, false, cond, Option, Some, None, Ok, Err, refl, sym, ap, ◌∙◌, subst, arith, Less, Equal, Greater, slice_get, find}
use Rattle.std.proofs.lemmas.Option.{slice_get-get_or, none-some}
use Rattle.std.specs.Ordering.{nat_cmp, eq_by_cmp, is_eq, ordering_then}
use Rattle.std.specs.declared.cmp.Ordering.{Ordering}
use Rattle.std.specs.Cmp.{unsigned_tied}
use Rattle.std.specs.BTreeMap.{BTreeMap, get, UpdatesBy}
use Rattle.std.proofs.lemmas.Map.Lookups.{exact_pairs, exact_unsigned}
use Rattle.lynx_cells.specs.Database.{cell_cmp}
use Rattle.lynx_entry.specs.declared.entry.Entry.{Entry}
use Rattle.lynx_entry.specs.Entry.{History}
use Rattle.lynx_names.specs.declared.chain.ChainId.{ChainId}
use Rattle.lynx_hops.specs.Meaning.{HopOutcome, meaning}
use Rattle.lynx_entry.specs.declared.entry.Entry.TheVariants.{Begun, Refused, Hop}
use Rattle.lynx_entry.specs.declared.request.Request.{Request}
use Rattle.lynx_rules.specs.Answers.{begun_by}
use Rattle.lynx_rules.specs.Lawful.{is_record_of, record_of, is_hop_of, hop_entry_of}
use Rattle.lynx_rules.specs.Tables.{tables_of}
use Rattle.lynx_entry.specs.declared.message.Message.{Message}
use Rattle.std.proofs.Common.{List}
use Rattle.lynx_server.specs.inner.Hops.{hop_entry}
use Rattle.lynx_server.specs.inner.Begins.{due}
use Rattle.lynx_server.specs.Books.{BooksState, IsFoundAt}
use Rattle.lynx_server.specs.Indexes.{IsIndexed, hop_cmp, keeps_request, is_hop_at}
use Rattle.lynx_server.proofs.Chains.{found_more, found_new, found_nowhere}

then_tied : (r t : Ordering) → is_eq (ordering_then r t) ≡ (is_eq r && is_eq t)
then_tied Less t = refl
then_tied Equal t = refl
then_tied Greater t = refl

-- two pairs tie where both parts are equal
pub tied_pairs : (a b : ℕ × ℕ) → eq_by_cmp cell_cmp a b ≡ ((a.0 == b.0) && (a.1 == b.1))
tied_pairs a b =
    then_tied (nat_cmp a.0 b.0) (nat_cmp a.1 b.1)
    ∙ ap (λ t. t && is_eq (nat_cmp a.1 b.1)) (unsigned_tied a.0 b.0)
    ∙ ap (λ t. (a.0 == b.0) && t) (unsigned_tied a.1 b.1)

-- two hops tie where all parts are equal
pub tied_hops : (a b : (ℕ × ℕ) × ℕ) → eq_by_cmp hop_cmp a b ≡ (((a.0.0 == b.0.0) && (a.0.1 == b.0.1)) && (a.1 == b.1))
tied_hops a b =
    then_tied (cell_cmp a.0 b.0) (nat_cmp a.1 b.1)
    ∙ ap (λ t. t && is_eq (nat_cmp a.1 b.1)) (tied_pairs a.0 b.0)
    ∙ ap (λ t. ((a.0.0 == b.0.0) && (a.0.1 == b.0.1)) && t) (unsigned_tied a.1 b.1)

exact_by : {Key : Type 0} (cmp : Key → Key → Ordering) → ((a b : Key) → cmp a b ≡ Equal → a ≡ b) → (a b : Key) → eq_by_cmp cmp a b ≡ true → a ≡ b
exact_by {Key} cmp exact a b e =
    elim (cmp a b) as (λ r. cmp a b ≡ r → is_eq r ≡ true → a ≡ b) [
      | Less ↦ λ p h. cc
      | Equal ↦ λ p h. exact a b p
      | Greater ↦ λ p h. cc
    ] refl e

-- pairs that tie are one pair
pub same_pair : (a b : ℕ × ℕ) → eq_by_cmp cell_cmp a b ≡ true → a ≡ b
same_pair = exact_by cell_cmp (exact_pairs nat_cmp nat_cmp exact_unsigned exact_unsigned)

-- hops that tie are one hop
pub same_hop_key : (a b : (ℕ × ℕ) × ℕ) → eq_by_cmp hop_cmp a b ≡ true → a ≡ b
same_hop_key = exact_by hop_cmp (exact_pairs cell_cmp nat_cmp (exact_pairs nat_cmp nat_cmp exact_unsigned exact_unsigned) exact_unsigned)

-- an entry that is of no key changes nothing
pub indexed_other : {Key : Type 0} (cmp : Key → Key → Ordering) (test : Key → Entry → Bool) (history : History) (entry : Entry) (index : BTreeMap Key ℕ) →
    ((key : Key) → test key entry ≡ false) → IsIndexed cmp test history index → IsIndexed cmp test (history ++ entry ∷ []) index
indexed_other {Key} cmp test history entry index other indexed key = found_more history entry (get cmp index key) (test key) (indexed key) (other key)

-- a new key gets the place of its entry
pub indexed_more : {Key : Type 0} (cmp : Key → Key → Ordering) (test : Key → Entry → Bool) (history : History) (entry : Entry) (new : Key) (index more : BTreeMap Key ℕ) →
    ((a b : Key) → eq_by_cmp cmp a b ≡ true → a ≡ b) → ((key : Key) → test key entry ≡ eq_by_cmp cmp new key) →
    find (test new) history ≡ None → IsIndexed cmp test history index →
    UpdatesBy cmp (cmp new) index more (Some (length history)) → IsIndexed cmp test (history ++ entry ∷ []) more
indexed_more {Key} cmp test history entry new index more exact tied absent indexed updates key =
    rw (updates.0 key)
    (elim (eq_by_cmp cmp new key) as (λ b. (b ≡ true → find (test key) history ≡ None) → test key entry ≡ b → IsFoundAt (history ++ entry ∷ []) (cond b (Some (length history)) (get cmp index key)) (find (test key) (history ++ entry ∷ []))) [
      | true ↦ λ none passes. found_new history entry (test key) (none refl) passes
      | false ↦ λ none other. found_more history entry (get cmp index key) (test key) (indexed key) other
    ] (λ e. ap (λ k. find (test k) history) (sym (exact new key e)) ∙ absent) (tied key))

back : (b : Bool) (place old : Option ℕ) → (b ≡ true → old ≡ None) → cond b None (cond b place old) ≡ old
back true place old none = sym (none refl)
back false place old none = refl

some_at : (history : History) (place : ℕ) → place < length history → slice_get history place ≡ None → ⊥
some_at [] place within none = omega (arith, within)
some_at (entry ∷ history) place within none = none-some _ (sym none ∙ slice_get-get_or (entry ∷ history) place entry within)

none_from_found : (history : History) (place : Option ℕ) (found : Option Entry) → found ≡ None → IsFoundAt history place found → place ≡ None
none_from_found history None found none is = refl
none_from_found history (Some place) found none is = absurd (some_at history place is.0 (is.1 ∙ none))

-- a key that was added and removed again
pub indexed_back : {Key : Type 0} (cmp : Key → Key → Ordering) (test : Key → Entry → Bool) (history : History) (new : Key) (index middle after : BTreeMap Key ℕ) (place : Option ℕ) →
    ((a b : Key) → eq_by_cmp cmp a b ≡ true → a ≡ b) → find (test new) history ≡ None → IsIndexed cmp test history index →
    UpdatesBy cmp (cmp new) index middle place → UpdatesBy cmp (cmp new) middle after None → IsIndexed cmp test history after
indexed_back {Key} cmp test history new index middle after place exact absent indexed added removed key =
    let absent_new : get cmp index new ≡ None = none_from_found history (get cmp index new) (find (test new) history) absent (indexed new) in
    let same : eq_by_cmp cmp new key ≡ true → get cmp index key ≡ None = λ e. ap (get cmp index) (sym (exact new key e)) ∙ absent_new in
    rw (removed.0 key, added.0 key, back (eq_by_cmp cmp new key) place (get cmp index key) same) (indexed key)

-- what is at the place that an index has
pub place_found : (history : History) (at : ℕ) (place : Option ℕ) (found : Option Entry) → IsFoundAt history place found →
    Some at ≡ place → slice_get history at ≡ found
place_found history at place found is same = (subst (λ o. IsFoundAt history o found) (sym same) is).1

-- nothing is found where an index has no place
pub nothing_found : (history : History) (place : Option ℕ) (found : Option Entry) → IsFoundAt history place found →
    place ≡ None → found ≡ None
nothing_found history place found is none = found_nowhere history place found is none

find_alike : (p q : Entry → Bool) → ((entry : Entry) → p entry ≡ q entry) → (history : History) → find p history ≡ find q history
find_alike p q alike [] = refl
find_alike p q alike (entry ∷ history) =
    ap (λ b. cond b (Some entry) (find p history)) (alike entry) ∙ ap (λ o. cond (q entry) (Some entry) o) (find_alike p q alike history)

record_alike : (request : Request) (entry : Entry) → keeps_request (request.client, request.number) entry ≡ is_record_of request entry
record_alike request (Begun begun) = refl
record_alike request (Refused refused) = refl
record_alike request (Hop ran) = refl

-- the record of a request is found by its client and number
pub record_at : (request : Request) (history : History) → find (keeps_request (request.client, request.number)) history ≡ record_of request history
record_at request history = find_alike _ _ (record_alike request) history

hop_alike : (chain : ChainId) (hop : ℕ) (entry : Entry) → is_hop_at ((chain.origin, chain.index), hop) entry ≡ is_hop_of chain hop entry
hop_alike chain hop (Begun begun) = refl
hop_alike chain hop (Refused refused) = refl
hop_alike chain hop (Hop ran) = refl

-- the entry of a later hop is found by its chain and hop
pub hop_at_key : (chain : ChainId) (hop : ℕ) (history : History) → find (is_hop_at ((chain.origin, chain.index), hop)) history ≡ hop_entry_of chain hop history
hop_at_key chain hop history = find_alike _ _ (hop_alike chain hop) history

-- one entry was added, which keeps the answer to the request, and is of no later hop
pub record OneRecord (request : Request) (added : Option Entry) : Type 0 where
  pub entry : Entry
  pub added_is : added ≡ Some entry
  pub tied : (key : ℕ × ℕ) → keeps_request key entry ≡ eq_by_cmp cell_cmp (request.client, request.number) key
  pub no_hop : (key : (ℕ × ℕ) × ℕ) → is_hop_at key entry ≡ false

one_by : (books : BooksState) (request : Request) (seen : ℕ) (outcome : HopOutcome) →
    OneRecord request (begun_by books.set books.server books.history request seen outcome).added
one_by books request seen (Ok outcome) = record {
  entry = _;
  added_is = refl;
  tied = λ key. sym (tied_pairs (request.client, request.number) key);
  no_hop = λ key. refl;
}
one_by books request seen (Err need) = record {
  entry = _;
  added_is = refl;
  tied = λ key. sym (tied_pairs (request.client, request.number) key);
  no_hop = λ key. refl;
}

pub one_record : (books : BooksState) (request : Request) (seen : ℕ) → OneRecord request (due books request seen).added
one_record books request seen = one_by books request seen (meaning books.set request.program 0 request.args [] (tables_of books.set books.history))

grouped : (a b c : Bool) → (a && b && c) ≡ ((a && b) && c)
grouped true b c = refl
grouped false b c = refl

-- the entry of a later hop is of its key
pub hop_tied : (message : Message) (stamp : ℕ) (results : List ℕ) (key : (ℕ × ℕ) × ℕ) →
    is_hop_at key (Hop (hop_entry message stamp results)) ≡ eq_by_cmp hop_cmp ((message.chain.origin, message.chain.index), message.hop) key
hop_tied message stamp results key =
    grouped (message.chain.origin == key.0.0) (message.chain.index == key.0.1) (message.hop == key.1)
    ∙ sym (tied_hops ((message.chain.origin, message.chain.index), message.hop) key)
