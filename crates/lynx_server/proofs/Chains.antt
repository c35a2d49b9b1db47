-- Where chains began.
use Rattle.std.proofs.Common.{◌≡◌, ℕ, ◌<◌, ◌==◌, Bool, true, false, not, cond, ◌||◌, List, [], ◌∷◌, ◌++◌, length, slice_get, find, Option, Some, None, ◌≢◌, refl, sym, ap, ◌∙◌, inl, inr, arith, subst}
use Rattle.std.specs.List.{list_any}
use Rattle.std.specs.Option.{option_or}
use Rattle.std.proofs.lemmas.Option.{slice_get-get_or, slice_get_past}
use Rattle.std.proofs.lemmas.Bool.{cases_lt}
use Rattle.std.proofs.lemmas.List.{get_or_append_left}
use Rattle.std.proofs.Math.Seq.{get_or-append_seam}
use Rattle.std.proofs.lemmas.List.Folds.{find-append}
use Rattle.std.proofs.lemmas.Grind.{common_steps}
use Rattle.lynx_entry.specs.declared.entry.Entry.{Entry}
use Rattle.lynx_entry.specs.declared.message.Message.{Message}
use Rattle.lynx_entry.specs.Entry.{History}
use Rattle.lynx_rules.specs.Checks.{begins, has_begun}
use Rattle.lynx_server.specs.Books.{IsFoundAt, begins_as, begins_found}

-- nothing is found where there is no place
pub found_nowhere : (history : History) (place : Option ℕ) (found : Option Entry) → IsFoundAt history place found → place ≡ None → found ≡ None
found_nowhere history None found is none = is
found_nowhere history (Some place) found is none = cc

-- the same place, of the same entry
pub found_as : (history : History) (place same : Option ℕ) (found other : Option Entry) → IsFoundAt history same found → place ≡ same → found ≡ other →
    IsFoundAt history place other
found_as history place same found other is at alike = subst (λ p. IsFoundAt history p other) (sym at) (subst (IsFoundAt history same) alike is)

-- an entry that began this very chain is found by its index
pub has_begun_here : (server : ℕ) (history : History) (message : Message) (found : Option Entry) →
    not (message.chain.origin == server) ≡ false → found ≡ find (begins_as message.chain.index) history →
    list_any (begins message) history ≡ begins_found message (find (begins_as message.chain.index) history) →
    begins_found message found ≡ has_begun server history message
has_begun_here server history message found here is sole =
    sym (ap (λ b. b || list_any (begins message) history) here ∙ sole ∙ ap (begins_found message) (sym is))

or_none : (found : Option Entry) → option_or found None ≡ found
or_none None = refl
or_none (Some entry) = refl

-- what is found where there is one more entry
pub find_one_more : (history : History) (entry : Entry) (test : Entry → Bool) →
    find test (history ++ entry ∷ []) ≡ option_or (find test history) (cond (test entry) (Some entry) None)
find_one_more history entry test = find-append test history (entry ∷ [])

find_other : (history : History) (entry : Entry) (test : Entry → Bool) → test entry ≡ false →
    find test (history ++ entry ∷ []) ≡ find test history
find_other history entry test other =
    find_one_more history entry test ∙ ap (λ b. option_or (find test history) (cond b (Some entry) None)) other ∙ or_none (find test history)

-- the item before one more is where it was
pub get_before : {X : Type 0} (items : List X) (item : X) (place : ℕ) → place < length items →
    slice_get (items ++ item ∷ []) place ≡ slice_get items place
get_before items item place within =
    slice_get-get_or (items ++ item ∷ []) place item (grind (arith, common_steps, within))
    ∙ ap Some (get_or_append_left items (item ∷ []) item place within)
    ∙ sym (slice_get-get_or items place item within)

-- one more item is last
pub get_last : {X : Type 0} (items : List X) (item : X) → slice_get (items ++ item ∷ []) (length items) ≡ Some item
get_last items item =
    slice_get-get_or (items ++ item ∷ []) (length items) item (grind (arith, common_steps))
    ∙ ap Some (get_or-append_seam items item [] item)

-- what was found is found where it was
pub found_more : (history : History) (entry : Entry) (place : Option ℕ) (test : Entry → Bool) →
    IsFoundAt history place (find test history) → test entry ≡ false →
    IsFoundAt (history ++ entry ∷ []) place (find test (history ++ entry ∷ []))
found_more history entry None test found other = find_other history entry test other ∙ found
found_more history entry (Some place) test found other =
    (grind (arith, common_steps, found.0), get_before history entry place found.0 ∙ found.1 ∙ sym (find_other history entry test other))

-- what is new is found at the end
pub found_new : (history : History) (entry : Entry) (test : Entry → Bool) → find test history ≡ None → test entry ≡ true →
    IsFoundAt (history ++ entry ∷ []) (Some (length history)) (find test (history ++ entry ∷ []))
found_new history entry test absent passes =
    let found : find test (history ++ entry ∷ []) ≡ Some entry =
    find_one_more history entry test ∙ ap (λ b. option_or (find test history) (cond b (Some entry) None)) passes
    ∙ ap (λ o. option_or o (Some entry)) absent in
    let there : slice_get (history ++ entry ∷ []) (length history) ≡ Some entry = get_last history entry in
    (grind (arith, common_steps), there ∙ sym found)

-- another place has what it had
pub get_elsewhere : {X : Type 0} (items : List X) (item : X) (place : ℕ) → place ≢ length items →
    slice_get (items ++ item ∷ []) place ≡ slice_get items place
get_elsewhere items item place differs =
    elim (cases_lt place (length items)) [
      | inl before ↦ get_before items item place before
      | inr behind ↦ slice_get_past (items ++ item ∷ []) place (grind (arith, common_steps, behind, differs)) ∙ sym (slice_get_past items place behind)
    ]
