-- What stands beside a history stays what the definitions say, where a lawful entry is added.
use Rattle.std.proofs.Common.{◌≡◌, ℕ, ◌+◌, ◌==◌, Bool, true, false, cond, if◌then◌else◌, ◌||◌, ◌&&◌, List, [], ◌∷◌, ◌++◌, length, slice_get, slice_index, find, Option, Some, None, ◌≢◌, append_assoc, eq-eqb, refl, sym, ap, ◌∙◌, subst, arith}
use Rattle.std.specs.Prelude.{count_by}
use Rattle.std.specs.List.{list_any}
use Rattle.std.specs.Prelude.{nat_eq}
use Rattle.std.specs.Cmp.Lexicographic.{pointwise}
use Rattle.std.specs.Option.{option_or}
use Rattle.std.proofs.lemmas.List.Sums.{sum_by-append, fold-append}
use Rattle.std.proofs.lemmas.List.Folds.{list_any-append}
use Rattle.std.proofs.lemmas.List.{append-nil, length-append}
use Rattle.std.proofs.lemmas.Bool.{eqb-true}
use Rattle.std.proofs.lemmas.Option.{none-some, slice_get_past}
use Rattle.lynx_cells.specs.Database.{Database, ChangeSet, applied, empty_database}
use Rattle.lynx_entry.specs.declared.entry.BegunEntry.{BegunEntry}
use Rattle.lynx_keep.specs.Kept.{KeptState, with_entry}
use Rattle.lynx_seq.specs.Counters.{has_number}
use Rattle.lynx_server.specs.Keeping.{kept_of}
use Rattle.lynx_server.specs.inner.Keeping.{AreChangesOf}
use Rattle.lynx_server.proofs.Numbers.{numbers_visit}
use Rattle.lynx_set.specs.Set.{Set}
use Rattle.lynx_entry.specs.declared.entry.Entry.{Entry}
use Rattle.lynx_entry.specs.declared.entry.Entry.TheVariants.{Begun, Refused, Hop}
use Rattle.lynx_entry.specs.declared.message.Message.{Message}
use Rattle.lynx_entry.specs.Entry.{History}
use Rattle.lynx_rules.specs.Turns.{is_begun, begun_count, begins_visiting, number_for, ends_visit}
use Rattle.lynx_rules.specs.Tables.{after_entry, tables_of}
use Rattle.lynx_rules.specs.Checks.{begins, same_numbers}
use Rattle.lynx_rules.specs.Lawful.{IsLawful}
use Rattle.lynx_rules.proofs.Steps.{begins_visiting-lawful}
use Rattle.lynx_server.specs.History.{IsLawfulAfter, IsLawfulHistory}
use Rattle.lynx_server.specs.Books.{IsBooks, IsFoundAt, begins_as, begins_found}
use Rattle.lynx_server.specs.inner.Books.{Grows}
use Rattle.lynx_server.proofs.Chains.{found_more, found_new, found_nowhere, find_one_more, get_last, get_elsewhere}

lawful_after-push : (set : Set) (server : ℕ) (before history : History) (entry : Entry) →
    IsLawfulAfter set server before history → IsLawful set server (before ++ history) entry →
    IsLawfulAfter set server before (history ++ entry ∷ [])
lawful_after-push set server before [] entry lawful next = (subst (λ h. IsLawful set server h entry) (append-nil before) next, tt)
lawful_after-push set server before (first ∷ history) entry lawful next = (
  lawful.0,
  lawful_after-push set server (before ++ first ∷ []) history entry lawful.1
      (subst (λ h. IsLawful set server h entry) (sym (append_assoc before (first ∷ []) history)) next),
)

-- one more entry that is lawful
pub lawful-push : (set : Set) (server : ℕ) (history : History) (entry : Entry) →
    IsLawfulHistory set server history → IsLawful set server history entry → IsLawfulHistory set server (history ++ entry ∷ [])
lawful-push set server history entry lawful next = lawful_after-push set server [] history entry lawful next

-- how a count grows
pub count_more : (test : Entry → Bool) (history : History) (entry : Entry) →
    count_by test (history ++ entry ∷ []) ≡ (if test entry then count_by test history + 1 else count_by test history)
count_more test history entry = by (test entry) refl
  where
    by : (b : Bool) → test entry ≡ b → count_by test (history ++ entry ∷ []) ≡ (if b then count_by test history + 1 else count_by test history)
    by true is = sum_by-append (λ e. cond (test e) 1 0) history (entry ∷ []) ∙ rw is (omega arith)
    by false is = sum_by-append (λ e. cond (test e) 1 0) history (entry ∷ []) ∙ rw is (omega arith)

-- a counter that rises with its count
pub counter_more : (test : Entry → Bool) (history : History) (entry : Entry) (counter more : ℕ) →
    counter ≡ count_by test history → more ≡ (if test entry then counter + 1 else counter) →
    more ≡ count_by test (history ++ entry ∷ [])
counter_more test history entry counter more counts rises =
    rises ∙ ap (λ n. if test entry then n + 1 else n) counts ∙ sym (count_more test history entry)

-- the tables after one more entry
pub tables_more : (set : Set) (history : History) (entry : Entry) → tables_of set (history ++ entry ∷ []) ≡ after_entry set (tables_of set history) entry
tables_more set history entry = fold-append (after_entry set) empty_database history (entry ∷ [])

-- a begun entry has the next index
index_of : (set : Set) (server : ℕ) (history : History) (entry : Entry) (index : ℕ) → IsLawful set server history entry →
    begins_as index entry ≡ true → index ≡ begun_count history
index_of set server history (Begun begun) index lawful named = sym (eqb-true _ _ named) ∙ lawful.index
index_of set server history (Refused refused) index lawful named = cc
index_of set server history (Hop ran) index lawful named = cc

-- a chain of the next index didn't begin yet
not_yet : (set : Set) (server : ℕ) (history : History) (entry : Entry) (chains : List ℕ) (index : ℕ) → IsLawful set server history entry →
    ((index : ℕ) → IsFoundAt history (slice_get chains index) (find (begins_as index) history)) → length chains ≡ begun_count history →
    begins_as index entry ≡ true → find (begins_as index) history ≡ None
not_yet set server history entry chains index lawful are counted named =
    let next : index ≡ length chains = index_of set server history entry index lawful named ∙ sym counted in
    found_nowhere history (slice_get chains index) _ (are index) (slice_get_past chains index (omega arith))

second_fails : (a b p q r : Bool) → b ≡ false → (a && b && p && q && r) ≡ false
second_fails true b p q r is = ap (λ t. t && p && q && r) is
second_fails false b p q r is = refl

or_false : (b : Bool) → (b || false) ≡ b
or_false true = refl
or_false false = refl

-- an entry of another index began another chain
other_begins : (message : Message) (entry : Entry) → begins_as message.chain.index entry ≡ false → begins message entry ≡ false
other_begins message (Begun begun) other =
    second_fails (begun.chain.origin == message.chain.origin) (begun.chain.index == message.chain.index)
    (begun.request.program == message.program) (pointwise nat_eq begun.request.args message.args)
    (same_numbers begun.numbers message.numbers) other
other_begins message (Refused refused) other = refl
other_begins message (Hop ran) other = refl

sole_by : (message : Message) (entry : Entry) (found : Option Entry) (any test : Bool) → any ≡ begins_found message found →
    (test ≡ true → found ≡ None) → (test ≡ false → begins message entry ≡ false) →
    (any || (begins message entry || false)) ≡ begins_found message (option_or found (cond test (Some entry) None))
sole_by message entry None any true sole fresh other =
    ap (λ b. b || (begins message entry || false)) sole ∙ or_false (begins message entry)
sole_by message entry None any false sole fresh other =
    ap (λ b. b || (begins message entry || false)) sole ∙ ap (λ b. b || false) (other refl)
sole_by message entry (Some first) any true sole fresh other = absurd (none-some first (sym (fresh refl)))
sole_by message entry (Some first) any false sole fresh other =
    ap (λ b. b || (begins message entry || false)) sole ∙ ap (λ b. begins message first || (b || false)) (other refl)
    ∙ or_false (begins message first)

sole_more : (set : Set) (server : ℕ) (history : History) (entry : Entry) (chains : List ℕ) (message : Message) → IsLawful set server history entry →
    ((index : ℕ) → IsFoundAt history (slice_get chains index) (find (begins_as index) history)) → length chains ≡ begun_count history →
    list_any (begins message) history ≡ begins_found message (find (begins_as message.chain.index) history) →
    list_any (begins message) (history ++ entry ∷ []) ≡ begins_found message (find (begins_as message.chain.index) (history ++ entry ∷ []))
sole_more set server history entry chains message lawful are counted sole =
    list_any-append (begins message) history (entry ∷ [])
    ∙ sole_by message entry (find (begins_as message.chain.index) history) _ (begins_as message.chain.index entry) sole
    (not_yet set server history entry chains message.chain.index lawful are counted) (other_begins message entry)
    ∙ ap (begins_found message) (sym (find_one_more history entry (begins_as message.chain.index)))

-- where chains began, after one more entry
chains_more : (set : Set) (server : ℕ) (history : History) (entry : Entry) (chains : List ℕ) (index : ℕ) → IsLawful set server history entry →
    ((index : ℕ) → IsFoundAt history (slice_get chains index) (find (begins_as index) history)) → length chains ≡ begun_count history →
    IsFoundAt (history ++ entry ∷ []) (slice_get (if is_begun entry then chains ++ length history ∷ [] else chains) index) (find (begins_as index) (history ++ entry ∷ []))
chains_more set server history (Begun begun) chains index lawful are counted =
    let next : begun.chain.index ≡ length chains = lawful.index ∙ sym counted in
    let more = history ++ Begun begun ∷ [] in
    let Found : Option ℕ → Type 0 = λ place. IsFoundAt more place (find (begins_as index) more) in
    elim (begun.chain.index == index) as (λ b. (begun.chain.index == index) ≡ b → Found (slice_get (chains ++ length history ∷ []) index)) [
      | true ↦ λ same.
          let last : index ≡ length chains = sym (eqb-true _ _ same) ∙ next in
          subst Found (sym (ap (slice_get (chains ++ length history ∷ [])) last ∙ get_last chains (length history)))
          (found_new history (Begun begun) (begins_as index) (not_yet set server history (Begun begun) chains index lawful are counted same) same)
      | false ↦ λ other.
          let differs : index ≢ length chains = λ last. let same : (begun.chain.index == index) ≡ true = eq-eqb _ _ (next ∙ sym last) in cc in
          subst Found (sym (get_elsewhere chains (length history) index differs))
          (found_more history (Begun begun) (slice_get chains index) (begins_as index) (are index) other)
    ] refl
chains_more set server history (Refused refused) chains index lawful are counted = found_more history (Refused refused) (slice_get chains index) (begins_as index) (are index) refl
chains_more set server history (Hop ran) chains index lawful are counted = found_more history (Hop ran) (slice_get chains index) (begins_as index) (are index) refl

count_chains : (set : Set) (history : History) (entry : Entry) (chains : List ℕ) → length chains ≡ begun_count history →
    length (if is_begun entry then chains ++ length history ∷ [] else chains) ≡ begun_count (history ++ entry ∷ [])
count_chains set history entry chains counted =
    elim (is_begun entry) as (λ b. length (cond b (chains ++ length history ∷ []) chains) ≡ cond b (begun_count history + 1) (begun_count history)) [
      | true ↦ length-append chains (length history ∷ []) ∙ ap (λ n. n + 1) counted
      | false ↦ counted
    ]
    ∙ sym (count_more is_begun history entry)

home_more : (set : Set) (server : ℕ) (history : History) (entry : Entry) → IsLawful set server history entry →
    number_for set history server ≡ begun_count history → number_for set (history ++ entry ∷ []) server ≡ begun_count (history ++ entry ∷ [])
home_more set server history entry lawful home =
    counter_more is_begun history entry (number_for set history server) _ home
    (count_more (begins_visiting set server) history entry
    ∙ ap (λ b. if b then number_for set history server + 1 else number_for set history server) (begins_visiting-lawful set server history entry lawful))

-- Books stay books where they grow with a lawful entry.
pub books_more : (set : Set) (server : ℕ) (history : History) (entry : Entry) (counters turns chains : List ℕ) (cells : Database)
    (more_counters more_turns more_chains : List ℕ) (more_cells : Database) →
    IsBooks set server history counters turns chains cells →
    Grows set server history entry counters turns chains cells more_counters more_turns more_chains more_cells →
    IsBooks set server (history ++ entry ∷ []) more_counters more_turns more_chains more_cells
books_more set server history entry counters turns chains cells more_counters more_turns more_chains more_cells books grows = record {
  lawful = lawful-push set server history entry books.lawful grows.lawful;
  counters_are = λ visited within. counter_more (begins_visiting set visited) history entry _ _ (books.counters_are visited within) (grows.counters_rise visited within);
  turns_are = λ origin within. counter_more (ends_visit set server origin) history entry _ _ (books.turns_are origin within) (grows.turns_rise origin within);
  home_is = home_more set server history entry grows.lawful books.home_is;
  chains_are = λ index. rw grows.chains_grow (chains_more set server history entry chains index grows.lawful books.chains_are books.chains_count);
  chains_count = ap length grows.chains_grow ∙ count_chains set history entry chains books.chains_count;
  sole = λ message. sole_more set server history entry chains message grows.lawful books.chains_are books.chains_count (books.sole message);
  cells_are = grows.cells_grow ∙ ap (λ db. after_entry set db entry) books.cells_are ∙ sym (tables_more set history entry);
}

-- what was written is what the entry writes
changed_cells : (set : Set) (history : History) (entry : Entry) (changes : ChangeSet) (cells more : Database) →
    more ≡ applied changes cells → cells ≡ tables_of set history → AreChangesOf set history entry changes → more ≡ after_entry set cells entry
changed_cells set history entry changes cells more is cells_are changes_are =
    is ∙ ap (applied changes) cells_are ∙ changes_are ∙ sym (ap (λ db. after_entry set db entry) cells_are)

-- what is kept with one more entry
pub kept_more : (set : Set) (history : History) (entry : Entry) (changes : ChangeSet) → AreChangesOf set history entry changes →
    with_entry (kept_of set history) entry changes ≡ kept_of set (history ++ entry ∷ [])
kept_more set history entry changes changes_are =
    let with_cells : Database → KeptState = λ db. record { entries = history ++ entry ∷ []; cells = db } in
    ap with_cells (changes_are ∙ sym (tables_more set history entry))

visits_nobody : (set : Set) (visited : ℕ) (entry : Entry) → is_begun entry ≡ false → begins_visiting set visited entry ≡ false
visits_nobody set visited (Begun begun) other = cc
visits_nobody set visited (Refused refused) other = refl
visits_nobody set visited (Hop ran) other = refl

-- Books stay books where an entry is added in which no chain began.
pub books_with_other : (set : Set) (server : ℕ) (history : History) (entry : Entry) (counters turns chains : List ℕ) (cells : Database)
    (changes : ChangeSet) (more_turns more_chains : List ℕ) (more_cells : Database) →
    IsBooks set server history counters turns chains cells → is_begun entry ≡ false → IsLawful set server history entry →
    ((origin : ℕ) → slice_index more_turns origin ≡ (if ends_visit set server origin entry then slice_index turns origin + 1 else slice_index turns origin)) →
    more_chains ≡ chains → more_cells ≡ applied changes cells → AreChangesOf set history entry changes →
    IsBooks set server (history ++ entry ∷ []) counters more_turns more_chains more_cells
books_with_other set server history entry counters turns chains cells changes more_turns more_chains more_cells books other lawful rise same is changes_are =
    books_more set server history entry counters turns chains cells counters more_turns more_chains more_cells books (record {
      lawful = lawful;
      counters_rise = λ visited within.
          sym (ap (λ b. if b then slice_index counters visited + 1 else slice_index counters visited) (visits_nobody set visited entry other));
      turns_rise = λ origin within. rise origin;
      chains_grow = same ∙ sym (ap (λ b. if b then chains ++ length history ∷ [] else chains) other);
      cells_grow = changed_cells set history entry changes cells more_cells is books.cells_are changes_are;
    })

-- Books stay books where a chain begins whose numbers are bound.
pub books_with_begun : (set : Set) (server : ℕ) (history : History) (begun : BegunEntry) (counters turns chains : List ℕ) (cells : Database)
    (changes : ChangeSet) (more_counters more_turns more_chains : List ℕ) (more_cells : Database) →
    IsBooks set server history counters turns chains cells → IsLawful set server history (Begun begun) →
    ((visited : ℕ) → slice_index more_counters visited ≡ (if has_number begun.numbers visited then slice_index counters visited + 1 else slice_index counters visited)) →
    ((origin : ℕ) → slice_index more_turns origin ≡ (if ends_visit set server origin (Begun begun) then slice_index turns origin + 1 else slice_index turns origin)) →
    more_chains ≡ chains ++ length history ∷ [] → more_cells ≡ applied changes cells → AreChangesOf set history (Begun begun) changes →
    IsBooks set server (history ++ Begun begun ∷ []) more_counters more_turns more_chains more_cells
books_with_begun set server history begun counters turns chains cells changes more_counters more_turns more_chains more_cells books lawful raise rise grow is changes_are =
    books_more set server history (Begun begun) counters turns chains cells more_counters more_turns more_chains more_cells books (record {
      lawful = lawful;
      counters_rise = λ visited within. raise visited
          ∙ ap (λ b. if b then slice_index counters visited + 1 else slice_index counters visited)
          (ap (λ numbers. has_number numbers visited) lawful.numbers ∙ numbers_visit set history begun.request.program visited within);
      turns_rise = λ origin within. rise origin;
      chains_grow = grow;
      cells_grow = changed_cells set history (Begun begun) changes cells more_cells is books.cells_are changes_are;
    })
