-- Which entries stand in a list, and which numbers in a range.
use Rattle.std.proofs.Common.{◌≡◌, ◌≢◌, ℕ, zero, suc, ◌+◌, ◌<◌, ◌≤◌, Bool, true, false, cond, ◌||◌, List, [], ◌∷◌, ◌++◌, Option, Some, None, is_some, find, filter, inl, inr, ◌⊎◌, nat_eq, eq-eqb, refl, sym, ap, ◌∙◌, subst, arith}
use Rattle.std.proofs.lemmas.Bool.{eqb-true}
use Rattle.std.proofs.lemmas.Bool.Decides.{eqb_tells}
use Rattle.std.specs.List.{cons_option, list_any, range_with_len}
use Rattle.lynx_entry.specs.declared.entry.Entry.{Entry}
use Rattle.lynx_names.specs.declared.chain.ChainId.{ChainId}
use Rattle.lynx_set.specs.Set.{Set}
use Rattle.lynx_entry.specs.declared.message.Message.{Message}
use Rattle.lynx_rules.specs.Messages.{next_message}
pub use Rattle.lynx_server.proofs.Members.{IsIn, found_in}
use Rattle.lynx_world.specs.Placed.{Placed}
use Rattle.lynx_world.specs.Worlds.{history_of}
use Rattle.lynx_world.specs.Legal.{IsSent}
use Rattle.lynx_world.specs.Order.{hop_in, done_hops}

pub in-push : {X : Type 0} (x y : X) (xs : List X) → IsIn x (xs ++ y ∷ []) → IsIn x xs ⊎ (y ≡ x)
in-push x y [] (inl same) = inr same
in-push x y [] (inr never) = absurd never
in-push x y (first ∷ xs) (inl same) = inl (inl same)
in-push x y (first ∷ xs) (inr later) = elim (in-push x y xs later) [ inl there ↦ inl (inr there) | inr same ↦ inr same ]

-- a value of a list is one of a longer list
pub in-append : {X : Type 0} (x : X) (xs ys : List X) → IsIn x xs → IsIn x (xs ++ ys)
in-append x [] ys never = absurd never
in-append x (first ∷ xs) ys (inl same) = inl same
in-append x (first ∷ xs) ys (inr later) = inr (in-append x xs ys later)

-- the value at the end of a list
pub in-last : {X : Type 0} (x y : X) (xs : List X) → y ≡ x → IsIn x (xs ++ y ∷ [])
in-last x y [] same = inl same
in-last x y (first ∷ xs) same = inr (in-last x y xs same)

-- a test passes somewhere where it passes at a value of the list
pub any_of : {X : Type 0} (test : X → Bool) (xs : List X) (x : X) → IsIn x xs → test x ≡ true → list_any test xs ≡ true
any_of test [] x never passes = absurd never
any_of test (first ∷ xs) x (inl same) passes = ap (λ b. b || list_any test xs) (ap test same ∙ passes)
any_of test (first ∷ xs) x (inr later) passes = behind (test first) (any_of test xs x later passes)
  where
    behind : (b : Bool) → list_any test xs ≡ true → (b || list_any test xs) ≡ true
    behind true there = refl
    behind false there = there

-- a value that passes the test is in what the test lets through
pub in-filter : {X : Type 0} (test : X → Bool) (xs : List X) (x : X) → IsIn x xs → test x ≡ true → IsIn x (filter test xs)
in-filter test [] x never passes = absurd never
in-filter {X} test (first ∷ xs) x (inl same) passes =
    subst (λ b. IsIn x (cond b (first ∷ filter test xs) (filter test xs))) (sym (ap test same ∙ passes)) (inl same)
in-filter {X} test (first ∷ xs) x (inr later) passes = behind (test first) (in-filter test xs x later passes)
  where
    behind : (b : Bool) → IsIn x (filter test xs) → IsIn x (cond b (first ∷ filter test xs) (filter test xs))
    behind true there = inr there
    behind false there = there

pub in_range : (a n h : ℕ) → a ≤ h → h < a + n → IsIn h (range_with_len a n)
in_range a zero h low high = absurd (omega arith)
in_range a (suc n) h low high =
    elim (eqb_tells a h) [
      | inl same ↦ inl same.1
      | inr differs ↦ let apart : a ≢ h = differs.1 in inr (in_range (a + 1) n h (omega arith) (omega arith))
    ]

pub below_range : (a n h : ℕ) → IsIn h (range_with_len a n) → h < a + n
below_range a zero h never = absurd never
below_range a (suc n) h (inl same) = omega arith
below_range a (suc n) h (inr later) = let below : h < (a + 1) + n = below_range (a + 1) n h later in omega arith

-- the first number of a range is its least
pub above_range : (a n h : ℕ) → IsIn h (range_with_len a n) → a ≤ h
above_range a zero h never = absurd never
above_range a (suc n) h (inl same) = omega arith
above_range a (suc n) h (inr later) = let above : a + 1 ≤ h = above_range (a + 1) n h later in omega arith

-- an entry of a done hop
done_here : (chain : ChainId) (hop : ℕ) (placed : Placed) (list : List Placed) (o : Option ℕ) → hop_in chain placed.entry ≡ o →
    IsIn hop (cons_option o (done_hops chain list)) →
    (IsIn hop (done_hops chain list) → (q : Placed) × IsIn q list × (hop_in chain q.entry ≡ Some hop)) →
    (q : Placed) × IsIn q (placed ∷ list) × (hop_in chain q.entry ≡ Some hop)
done_here chain hop placed list None is there later = let r = later there in (r.0, inr r.1, r.2)
done_here chain hop placed list (Some other) is (inl same) later = (placed, inl refl, is ∙ ap Some same)
done_here chain hop placed list (Some other) is (inr there) later = let r = later there in (r.0, inr r.1, r.2)

pub entry_of_done : (chain : ChainId) (hop : ℕ) (list : List Placed) → IsIn hop (done_hops chain list) →
    (q : Placed) × IsIn q list × (hop_in chain q.entry ≡ Some hop)
entry_of_done chain hop [] never = absurd never
entry_of_done chain hop (placed ∷ list) there =
    done_here chain hop placed list (hop_in chain placed.entry) refl there (entry_of_done chain hop list)

pub done_of_entry : (chain : ChainId) (hop : ℕ) (list : List Placed) (q : Placed) → IsIn q list → hop_in chain q.entry ≡ Some hop →
    IsIn hop (done_hops chain list)
done_of_entry chain hop [] q never is = absurd never
done_of_entry chain hop (placed ∷ list) q (inl same) is =
    subst (λ o. IsIn hop (cons_option o (done_hops chain list))) (sym (ap (λ (p : Placed). hop_in chain p.entry) same ∙ is)) (inl refl)
done_of_entry chain hop (placed ∷ list) q (inr later) is =
    behind (hop_in chain placed.entry) (done_of_entry chain hop list q later is)
  where
    behind : (o : Option ℕ) → IsIn hop (done_hops chain list) → IsIn hop (cons_option o (done_hops chain list))
    behind None there = there
    behind (Some other) there = inr there

-- an entry of a server's history stands in the list at that server
pub in_list : (server : ℕ) (list : List Placed) (entry : Entry) → IsIn entry (history_of server list) →
    IsIn (record { server = server; entry = entry }) list
in_list server [] entry never = absurd never
in_list server (placed ∷ list) entry there = by (nat_eq placed.server server) refl there (in_list server list entry)
  where
    by : (b : Bool) → nat_eq placed.server server ≡ b → IsIn entry (cons_option (cond b (Some placed.entry) None) (history_of server list)) →
        (IsIn entry (history_of server list) → IsIn (record { server = server; entry = entry }) list) →
        IsIn (record { server = server; entry = entry }) (placed ∷ list)
    by false is there later = inr (later there)
    by true is (inl same) later = let here = eqb-true placed.server server is in inl (λ i. record { server = here i; entry = same i })
    by true is (inr there) later = inr (later there)

-- and one that stands at a server is in its history
pub in_history : (server : ℕ) (list : List Placed) (placed : Placed) → IsIn placed list → placed.server ≡ server →
    IsIn placed.entry (history_of server list)
in_history server [] placed never here = absurd never
in_history server (first ∷ list) placed (inl same) here =
    subst (λ b. IsIn placed.entry (cons_option (cond b (Some first.entry) None) (history_of server list)))
    (sym (eq-eqb first.server server (ap (λ (p : Placed). p.server) same ∙ here))) (inl (ap (λ (p : Placed). p.entry) same))
in_history server (first ∷ list) placed (inr later) here =
    behind (nat_eq first.server server) (in_history server list placed later here)
  where
    behind : (b : Bool) → IsIn placed.entry (history_of server list) →
        IsIn placed.entry (cons_option (cond b (Some first.entry) None) (history_of server list))
    behind true there = inr there
    behind false there = there

-- the entry that sends a message
pub sender_of : (set : Set) (list : List Placed) (message : Message) → IsSent set list message →
    (q : Placed) × IsIn q list × (next_message set q.entry ≡ Some message)
sender_of set [] message never = absurd never
sender_of set (placed ∷ list) message (inl sends) = (placed, inl refl, sends)
sender_of set (placed ∷ list) message (inr later) = let r = sender_of set list message later in (r.0, inr r.1, r.2)

-- what a server's history doesn't have, none of its entries in the list is
none_here : (test : Entry → Bool) (server : ℕ) (placed : Placed) (list : List Placed) (b : Bool) → nat_eq placed.server server ≡ b →
    is_some (find test (cons_option (cond b (Some placed.entry) None) (history_of server list))) ≡ false →
    (placed.server ≡ server → test placed.entry ≡ false) × (is_some (find test (history_of server list)) ≡ false)
none_here test server placed list false is none =
    (λ same. absurd (apart same is), none)
  where
    apart : placed.server ≡ server → nat_eq placed.server server ≡ false → ⊥
    apart same differs = cc (eq-eqb placed.server server same)
none_here test server placed list true is none = first (test placed.entry) refl none
  where
    first : (t : Bool) → test placed.entry ≡ t → is_some (cond t (Some placed.entry) (find test (history_of server list))) ≡ false →
        (placed.server ≡ server → test placed.entry ≡ false) × (is_some (find test (history_of server list)) ≡ false)
    first true e found = cc
    first false e rest = (λ same. e, rest)

pub none_of : (test : Entry → Bool) (server : ℕ) (list : List Placed) (q : Placed) →
    is_some (find test (history_of server list)) ≡ false → IsIn q list → q.server ≡ server → test q.entry ≡ false
none_of test server [] q none never same = absurd never
none_of test server (placed ∷ list) q none (inl is) same =
    let here = none_here test server placed list (nat_eq placed.server server) refl none in
    subst (λ (p : Placed). test p.entry ≡ false) is (here.0 (ap (λ (p : Placed). p.server) is ∙ same))
none_of test server (placed ∷ list) q none (inr later) same =
    let here = none_here test server placed list (nat_eq placed.server server) refl none in
    none_of test server list q here.1 later same
