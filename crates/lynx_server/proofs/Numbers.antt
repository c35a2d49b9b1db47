-- The numbers of a chain, and the counters from which they are drawn.
use Rattle.std.proofs.Common.{◌≡◌, ℕ, ◌<◌, ◌≤◌, ◌+◌, ◌==◌, ◌||◌, ◌&&◌, Bool, true, false, cond, List, [], ◌∷◌, map, filter, All, length, slice_index, zero, suc, refl, sym, ap, ◌∙◌, subst, inl, inr, arith}
use Rattle.std.specs.Prelude.{count_by}
use Rattle.std.specs.List.{list_any, range_with_len}
use Rattle.std.proofs.lemmas.List.Sums.{count_by-le-length}
use Rattle.std.proofs.lemmas.List.Elements.{All-filter, All-head, All-tail, All-nil, All-cons}
use Rattle.std.proofs.lemmas.Bool.{eqb-true}
use Rattle.std.proofs.lemmas.Bool.Decides.{eqb_tells}
use Rattle.lynx_names.specs.declared.limits.TheConstants.{MAX_ENTRIES, MAX_SERVERS}
use Rattle.lynx_set.specs.Set.{Set}
use Rattle.lynx_entry.specs.declared.entry.Entry.{Entry}
use Rattle.lynx_entry.specs.declared.entry.Entry.TheVariants.{Begun, Refused, Hop}
use Rattle.lynx_entry.specs.Entry.{History}
use Rattle.lynx_rules.specs.Visits.{visits, visited}
use Rattle.lynx_rules.specs.Turns.{number_for, numbered, numbers_of}
use Rattle.lynx_rules.specs.Lawful.{IsLawful}
use Rattle.lynx_seq.specs.Counters.{numbers_from, has_number}
use Rattle.lynx_set.specs.Lookups.{hops_of}

-- numbers from one on, below an end
below_end : (a n : ℕ) → All (λ k. k < a + n) (range_with_len a n)
below_end a zero = All-nil (λ k. k < a + 0)
below_end a (suc n) =
    All-cons (λ k. k < a + suc n) a _ (omega arith)
    (subst (λ end. All (λ k. k < end) (range_with_len (a + 1) n)) (omega arith) (below_end (a + 1) n))

filtered_within : (test : ℕ → Bool) (n : ℕ) → All (λ server. server < n) (filter test (range_with_len 0 n))
filtered_within test n =
    All-filter test (λ server. server < n) (range_with_len 0 n)
    (subst (λ end. All (λ k. k < end) (range_with_len 0 n)) (omega arith) (below_end 0 n))

-- each visited server is one of those that there may be
pub visited_within : (set : Set) (program : ℕ) → All (λ server. server < MAX_SERVERS) (visited set program)
unfolding visited
visited_within set program = filtered_within (λ server. visits (hops_of set program) server) MAX_SERVERS

-- a number is in a range
in_range : (a n server : ℕ) → a ≤ server → server < a + n → list_any (λ k. k == server) (range_with_len a n) ≡ true
in_range a zero server from below = absurd (omega arith)
in_range a (suc n) server from below =
    elim (eqb_tells a server) [
      | inl same ↦ ap (λ b. b || list_any (λ k. k == server) (range_with_len (a + 1) n)) same.0
      | inr other ↦ let differs : a ≡ server → ⊥ = other.1 in
          ap (λ b. b || list_any (λ k. k == server) (range_with_len (a + 1) n)) other.0
          ∙ in_range (a + 1) n server (grind (arith, differs)) (omega arith)
    ]

any_if_kept : (test : ℕ → Bool) (b : Bool) (first : ℕ) (rest : List ℕ) →
    list_any test (cond b (first ∷ rest) rest) ≡ cond b (test first || list_any test rest) (list_any test rest)
any_if_kept test true first rest = refl
any_if_kept test false first rest = refl

kept_alike : (t e any p s : Bool) → (e ≡ true → s ≡ t) → any ≡ (s && p) → cond t (e || any) any ≡ (s && (e || p))
kept_alike true true any p s alike is = sym (ap (λ x. x && true) (alike refl))
kept_alike true false any p s alike is = is
kept_alike false true any p s alike is = is ∙ ap (λ x. x && p) (alike refl) ∙ sym (ap (λ x. x && true) (alike refl))
kept_alike false false any p s alike is = is

none_there : (s : Bool) → false ≡ (s && false)
none_there true = refl
none_there false = refl

any_in_filter : (test : ℕ → Bool) (servers : List ℕ) (server : ℕ) →
    list_any (λ k. k == server) (filter test servers) ≡ (test server && list_any (λ k. k == server) servers)
any_in_filter test [] server = none_there (test server)
any_in_filter test (first ∷ servers) server =
    any_if_kept (λ k. k == server) (test first) first (filter test servers)
    ∙ kept_alike (test first) (first == server) _ (list_any (λ k. k == server) servers) (test server)
    (λ same. sym (ap test (eqb-true _ _ same))) (any_in_filter test servers server)

any_numbered : (set : Set) (history : History) (servers : List ℕ) (server : ℕ) →
    has_number (map (numbered set history) servers) server ≡ list_any (λ k. k == server) servers
any_numbered set history [] server = refl
any_numbered set history (first ∷ servers) server = ap (λ b. (first == server) || b) (any_numbered set history servers server)

and_true : (b : Bool) → (b && true) ≡ b
and_true true = refl
and_true false = refl

any_below : (test : ℕ → Bool) (n server : ℕ) → server < n → list_any (λ k. k == server) (filter test (range_with_len 0 n)) ≡ test server
any_below test n server within =
    any_in_filter test (range_with_len 0 n) server
    ∙ ap (λ b. test server && b) (in_range 0 n server (omega arith) (omega arith))
    ∙ and_true (test server)

visited_once : (set : Set) (program server : ℕ) → server < MAX_SERVERS → list_any (λ k. k == server) (visited set program) ≡ visits (hops_of set program) server
unfolding visited
visited_once set program server within = any_below (λ server. visits (hops_of set program) server) MAX_SERVERS server within

-- there is a number for a server where the program visits it
pub numbers_visit : (set : Set) (history : History) (program server : ℕ) → server < MAX_SERVERS →
    has_number (numbers_of set history program) server ≡ visits (hops_of set program) server
numbers_visit set history program server within =
    any_numbered set history (visited set program) server ∙ visited_once set program server within

-- the counters of visited servers are their numbers
same_numbers : (set : Set) (history : History) (counters servers : List ℕ) →
    ((server : ℕ) → server < MAX_SERVERS → slice_index counters server ≡ number_for set history server) →
    All (λ server. server < MAX_SERVERS) servers → numbers_from counters servers ≡ map (numbered set history) servers
same_numbers set history counters [] are within = refl
same_numbers set history counters (server ∷ servers) are within =
    let here = are server (All-head (λ server. server < MAX_SERVERS) server servers within) in
    ap (λ n. record { server = server; number = n } ∷ numbers_from counters servers) here
    ∙ ap (λ rest. numbered set history server ∷ rest) (same_numbers set history counters servers are (All-tail (λ server. server < MAX_SERVERS) server servers within))

pub numbers_drawn : (set : Set) (history : History) (counters : List ℕ) (program : ℕ) →
    ((server : ℕ) → server < MAX_SERVERS → slice_index counters server ≡ number_for set history server) →
    numbers_from counters (visited set program) ≡ numbers_of set history program
numbers_drawn set history counters program are = same_numbers set history counters (visited set program) are (visited_within set program)

-- a count of a history that has room is small
pub small_count : (test : Entry → Bool) (history : History) (count : ℕ) → count ≡ count_by test history → length history < MAX_ENTRIES → count < MAX_ENTRIES
small_count test history count is room = omega (arith, count_by-le-length test history)

pub small_counters : (set : Set) (history : History) (counters : List ℕ) (program : ℕ) → length history < MAX_ENTRIES →
    ((server : ℕ) → server < MAX_SERVERS → slice_index counters server ≡ number_for set history server) →
    All (λ server. slice_index counters server < MAX_ENTRIES) (visited set program)
small_counters set history counters program room are k d within =
    small_count _ history _ (are _ (visited_within set program k d within)) room

-- an entry that is lawful has room
pub room_of : (set : Set) (server : ℕ) (history : History) (entry : Entry) → IsLawful set server history entry → length history < MAX_ENTRIES
room_of set server history (Begun begun) lawful = lawful.room.entries
room_of set server history (Refused refused) lawful = lawful.room.entries
room_of set server history (Hop ran) lawful = lawful.room.entries
