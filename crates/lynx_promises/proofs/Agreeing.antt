-- Entries that agree with what was told: one at most, and still there when the list has grown.
use Rattle.std.proofs.Common.{◌≡◌, ◌∙◌, ℕ, ◌≤◌, ◌&&◌, Bool, true, false, not, cond, nat_lt, nat_eq, length, List, [], ◌∷◌, ◌++◌, slice_get, Some, inl, inr, ◌⊎◌, eq-eqb, ap, subst, arith}
use Rattle.std.specs.List.{list_any}
use Rattle.std.proofs.lemmas.Bool.{cases_lt, eqb-true, le-ltb, lt-ltb}
use Rattle.std.proofs.Common.{length-append}
use Rattle.std.proofs.lemmas.Option.{slice_get_within}
use Rattle.lynx_names.specs.declared.limits.TheConstants.{MAX_ENTRIES}
use Rattle.lynx_set.specs.Set.{Set}
use Rattle.lynx_entry.specs.Entry.{History}
use Rattle.lynx_server.specs.History.{IsLawfulHistory}
use Rattle.lynx_server.proofs.Chains.{get_before, get_last}
use Rattle.lynx_world.specs.Legal.{IsLegal, MayFollow}
use Rattle.lynx_world.specs.Placed.{Placed}
use Rattle.lynx_world.specs.Worlds.{history_of}
use Rattle.lynx_world.proofs.Histories.{history_of-push}
use Rattle.lynx_world.proofs.LegalSteps.{legal-push}
use Rattle.lynx_world.proofs.Members.{IsIn, any_of, in-append, in_history}
use Rattle.lynx_world.proofs.Once.{both}
use Rattle.lynx_weave.specs.declared.told.ToldItem.{ToldItem}
use Rattle.lynx_weave.specs.Told.{agrees, bears, is_fresh, is_fresh_by, is_full_in, is_topmost, server_told, stands, tells_full}
use Rattle.lynx_weave.proofs.Agreements.{sole_sought, sought}
use Rattle.lynx_weave.proofs.Bridging.{any_at, not_true, or_either, or_left, or_right}
use Rattle.lynx_weave.proofs.Gets.{place_in}
use Rattle.lynx_weave.proofs.Marking.{full_stale}
use Rattle.lynx_weave.proofs.Parted.{part_lawful}

-- ---- one entry at most

-- the place of an entry in its server's history
at_place : (server : ℕ) (list : List Placed) (placed : Placed) → IsIn placed list → placed.server ≡ server →
    (place : ℕ) × (slice_get (history_of server list) place ≡ Some placed.entry)
at_place server list placed there here = place_in placed.entry (history_of server list) (in_history server list placed there here)

-- entries that agree with one item stand at one place
pub agree_once : (set : Set) (server : ℕ) (history : History) (told : ToldItem) (i j : ℕ) (one other : Placed) → IsLawfulHistory set server history →
    slice_get history i ≡ Some one.entry → slice_get history j ≡ Some other.entry → agrees told one ≡ true → agrees told other ≡ true → i ≡ j
agree_once set server history told i j one other lawful first second agreed too =
    let left = both (nat_eq one.server (server_told told)) (bears told one.entry) agreed in
    let right = both (nat_eq other.server (server_told told)) (bears told other.entry) too in
    sole_sought set server history told lawful i j one.entry other.entry first second (sought told one.entry left.1) (sought told other.entry right.1)

server_of : (told : ToldItem) (placed : Placed) → agrees told placed ≡ true → placed.server ≡ server_told told
server_of told placed agreed = eqb-true _ _ (both (nat_eq placed.server (server_told told)) (bears told placed.entry) agreed).0

-- no item agrees with an entry and with one that is added behind it
pub never_again : (set : Set) (list : List Placed) (last placed : Placed) (told : ToldItem) → IsLegal set list → MayFollow set list last → IsIn placed list →
    agrees told placed ≡ true → agrees told last ≡ true → ⊥
never_again set list last placed told legal may there agreed too =
    let server = server_told told in
    let history : History = history_of server list in
    let old = at_place server list placed there (server_of told placed agreed) in
    let within = slice_get_within history old.0 placed.entry old.1 in
    let grown : history_of server (list ++ last ∷ []) ≡ history ++ last.entry ∷ [] =
    history_of-push server list last ∙ ap (λ b. history ++ cond b (last.entry ∷ []) []) (eq-eqb last.server server (server_of told last too)) in
    let lawful : IsLawfulHistory set server (history ++ last.entry ∷ []) =
    subst (IsLawfulHistory set server) grown (part_lawful set server (list ++ last ∷ []) (legal-push set list last legal may)) in
    let same = agree_once set server (history ++ last.entry ∷ []) told old.0 (length history) placed last lawful
    (get_before history last.entry old.0 within ∙ old.1) (get_last history last.entry) agreed too in
    absurd (omega arith)

-- ---- what stands

-- an entry that agrees, or a server that is full
pub stands_by : (list : List Placed) (told : ToldItem) → stands list told ≡ true →
    ((placed : Placed) × IsIn placed list × (agrees told placed ≡ true)) ⊎ ((tells_full told ≡ true) × (is_full_in (server_told told) list ≡ true))
stands_by list told is = elim (or_either (list_any (agrees told) list) (tells_full told && is_full_in (server_told told) list) is) [
  | inl agreed ↦ inl (any_at (agrees told) list agreed)
  | inr full ↦ inr (both (tells_full told) (is_full_in (server_told told) list) full)
]

pub stands_so : (list : List Placed) (told : ToldItem) (placed : Placed) → IsIn placed list → agrees told placed ≡ true → stands list told ≡ true
stands_so list told placed there agreed = or_left _ _ (any_of (agrees told) list placed there agreed)

and_both : (a b : Bool) → a ≡ true → b ≡ true → (a && b) ≡ true
and_both true b first second = second
and_both false b first second = cc

pub stands_full : (list : List Placed) (told : ToldItem) → tells_full told ≡ true → is_full_in (server_told told) list ≡ true → stands list told ≡ true
stands_full list told full is = or_right (list_any (agrees told) list) _ (and_both _ _ full is)

-- a server that is full stays so
not_below : (n m : ℕ) → not (nat_lt n MAX_ENTRIES) ≡ true → n ≤ m → not (nat_lt m MAX_ENTRIES) ≡ true
not_below n m full more = elim (cases_lt m MAX_ENTRIES) [
  | inl below ↦ let few : nat_lt n MAX_ENTRIES ≡ true = lt-ltb n MAX_ENTRIES (omega arith) in cc
  | inr many ↦ ap not (le-ltb m MAX_ENTRIES many)
]

history_grows : (server : ℕ) (list : List Placed) (last : Placed) → length (history_of server list) ≤ length (history_of server (list ++ last ∷ []))
history_grows server list last =
    by (nat_eq last.server server) (history_of-push server list last)
  where
    by : (b : Bool) → history_of server (list ++ last ∷ []) ≡ history_of server list ++ cond b (last.entry ∷ []) [] →
        length (history_of server list) ≤ length (history_of server (list ++ last ∷ []))
    by b is = let whole = ap length is ∙ length-append (history_of server list) (cond b (last.entry ∷ []) []) in omega arith

full_grows : (server : ℕ) (list : List Placed) (last : Placed) → is_full_in server list ≡ true → is_full_in server (list ++ last ∷ []) ≡ true
full_grows server list last is = elim (or_either (not (nat_lt (length (history_of server list)) MAX_ENTRIES)) (list_any (λ placed. is_topmost placed.entry) list) is) [
  | inl many ↦ or_left _ _ (not_below (length (history_of server list)) (length (history_of server (list ++ last ∷ []))) many (history_grows server list last))
  | inr top ↦
      let at = any_at (λ (placed : Placed). is_topmost placed.entry) list top in
      or_right (not (nat_lt (length (history_of server (list ++ last ∷ []))) MAX_ENTRIES)) _
      (any_of (λ (placed : Placed). is_topmost placed.entry) (list ++ last ∷ []) at.0 (in-append at.0 list (last ∷ []) at.1) at.2)
]

-- what stands goes on standing
pub stands_on : (list : List Placed) (last : Placed) (told : ToldItem) → stands list told ≡ true → stands (list ++ last ∷ []) told ≡ true
stands_on list last told is = elim (stands_by list told is) [
  | inl found ↦ stands_so (list ++ last ∷ []) told found.0 (in-append found.0 list (last ∷ []) found.1) found.2
  | inr full ↦ stands_full (list ++ last ∷ []) told full.0 (full_grows (server_told told) list last full.1)
]

-- ---- what is fresh

pub fresh_parts : (placed : Placed) (told : ToldItem) → is_fresh_by placed told ≡ true → (is_fresh told ≡ true) × (agrees told placed ≡ true)
fresh_parts placed told is = both (is_fresh told) (agrees told placed) is

-- no item that stands is fresh by an entry that is added
pub stale_for_new : (set : Set) (list : List Placed) (last : Placed) (told : ToldItem) → IsLegal set list → MayFollow set list last → stands list told ≡ true →
    is_fresh_by last told ≡ false
stale_for_new set list last told legal may is = not_true (is_fresh_by last told) (λ fresh.
    let parts = fresh_parts last told fresh in
    elim (stands_by list told is) [
      | inl found ↦ never_again set list last found.0 told legal may found.1 found.2 parts.1
      | inr full ↦ let stale = full_stale told full.0 in let fresh_one = parts.0 in apart stale fresh_one
    ])
  where
    apart : is_fresh told ≡ false → is_fresh told ≡ true → ⊥
    apart isnt is_it = cc
