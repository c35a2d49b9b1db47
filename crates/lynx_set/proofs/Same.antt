-- Copies of maps and sets whose keys are names.
use Rattle.std.proofs.Common.{◌≡◌, ℕ, ◌+◌, ◌<◌, List, [], ◌∷◌, ◌++◌, Bool, false, cond, ◌||◌, map, length, get_or, take, drop, refl, sym, ap, subst, ◌∙◌, rules}
use Rattle.std.specs.List.{IsDistinct, AllByRecursion, list_any}
use Rattle.std.proofs.lemmas.Map.Keys.{IsDistinct-head, IsDistinct-tail}
use Rattle.std.proofs.lemmas.List.{take-append-drop, drop_more, take_more}
use Rattle.std.proofs.Common.{append_assoc}
use Rattle.std.proofs.Common.{◌-◌, ◌&&◌, eqb, true, replicate, Decides}
use Rattle.std.specs.Prelude.{position}
use Rattle.std.specs.Str.{bytes_eq}
use Rattle.std.proofs.lemmas.Slice.Eq.{bytes_eq-Decides}
use Rattle.std.proofs.lemmas.Bool.{eqb-true, eq-eqb}
use Rattle.std.proofs.lemmas.Bool.Decides.{same_from_decides}
use Rattle.std.proofs.lemmas.List.{take_at}
use Rattle.std.proofs.Common.{◌≤◌, ltb, None, arith}
use Rattle.std.specs.List.{position_or_len}
use Rattle.std.proofs.lemmas.Bool.{ltb-false}
use Rattle.std.proofs.lemmas.List.Sums.{fails_before_first}
use Rattle.std.proofs.lemmas.List.Folds.{list_any_none}
use Rattle.lynx_set.specs.Names.{place_of}
use Rattle.indexmap.specs.IndexMap.{insert_entry}
use Rattle.indexmap.specs.IndexSet.{insert_key}
use Rattle.lynx_lex.specs.contracts.name.NamePartialEq.TheImpl.{eq-value}
use Rattle.lynx_lex.proofs.WordLaws.{and_true, cond_none}

abbrev pub same_name : List ℕ → List ℕ → Bool
same_name a b = eq-value.it a b

pub same_name-symm : (a b : List ℕ) → same_name a b ≡ same_name b a
same_name-symm a b = search rules

at_middle : {X : Type 0} (P : X → Type 0) (xs : List X) (y : X) (ys : List X) → AllByRecursion P (xs ++ y ∷ ys) → P y
at_middle P [] y ys all = all.0
at_middle P (x ∷ xs) y ys all = at_middle P xs y ys all.1

-- of distinct names none stands before itself
pub none_before : (xs : List (List ℕ)) (y : List ℕ) (ys : List (List ℕ)) → IsDistinct same_name (xs ++ y ∷ ys) → list_any (same_name y) xs ≡ false
none_before [] y ys distinct = refl
none_before (x ∷ xs) y ys distinct =
    let here : same_name y x ≡ false = same_name-symm y x ∙ at_middle (λ z. same_name x z ≡ false) xs y ys (IsDistinct-head same_name x (xs ++ y ∷ ys) distinct) in
    let there : list_any (same_name y) xs ≡ false = none_before xs y ys (IsDistinct-tail same_name x (xs ++ y ∷ ys) distinct) in
    ap (λ b. b || list_any (same_name y) xs) here ∙ there

-- the next of distinct names goes last
pub insert_key-next : (names : List (List ℕ)) (i : ℕ) (d : List ℕ) → i < length names → IsDistinct same_name names
    → insert_key same_name (take i names) (get_or names i d) ≡ take (i + 1) names
insert_key-next names i d lt distinct =
    let whole : names ≡ take i names ++ get_or names i d ∷ drop (i + 1) names = sym (take-append-drop i names) ∙ ap (λ rest. take i names ++ rest) (drop_more names i d lt) in
    let new : list_any (same_name (get_or names i d)) (take i names) ≡ false = none_before (take i names) (get_or names i d) (drop (i + 1) names) (subst (IsDistinct same_name) whole distinct) in
    ap (λ b. cond b (take i names) (take i names ++ get_or names i d ∷ [])) new ∙ sym (take_more names i d lt)

at_entry : {W : Type 0} (P : List ℕ → Type 0) (es : List (List ℕ × W)) (name : List ℕ) (value : W) (rest : List (List ℕ × W)) → AllByRecursion P (map (λ entry. entry.0) (es ++ (name, value) ∷ rest)) → P name
at_entry P [] name value rest all = all.0
at_entry P (e ∷ es) name value rest all = at_entry P es name value rest all.1

-- and so does the next entry of a map
pub insert_entry-next : {W : Type 0} (xs : List (List ℕ × W)) (name : List ℕ) (value : W) (ys : List (List ℕ × W)) → IsDistinct same_name (map (λ entry. entry.0) (xs ++ (name, value) ∷ ys))
    → insert_entry same_name xs name value ≡ xs ++ (name, value) ∷ []
insert_entry-next [] name value ys distinct = refl
insert_entry-next (x ∷ xs) name value ys distinct =
    let here : same_name name x.0 ≡ false = same_name-symm name x.0 ∙ at_entry (λ z. same_name x.0 z ≡ false) xs name value ys (IsDistinct-head same_name x.0 (map (λ entry. entry.0) (xs ++ (name, value) ∷ ys)) distinct) in
    let there : insert_entry same_name xs name value ≡ xs ++ (name, value) ∷ [] = insert_entry-next xs name value ys (IsDistinct-tail same_name x.0 (map (λ entry. entry.0) (xs ++ (name, value) ∷ ys)) distinct) in
    ap (λ b. cond b ((x.0, value) ∷ xs) (x ∷ insert_entry same_name xs name value)) here ∙ ap (λ es. x ∷ es) there

-- a step of the loop that copies a map
pub copied-next : {W : Type 0} (copied left rest all made : List (List ℕ × W)) (name : List ℕ) (value given : W)
    → copied ++ left ≡ all → left ≡ (name, value) ∷ rest → given ≡ value → IsDistinct same_name (map (λ entry. entry.0) all)
    → made ≡ insert_entry same_name copied name given → made ++ rest ≡ all
copied-next copied left rest all made name value given whole next same distinct inserted =
    let split : copied ++ (name, value) ∷ rest ≡ all = ap (λ es. copied ++ es) (sym next) ∙ whole in
    let new : insert_entry same_name copied name value ≡ copied ++ (name, value) ∷ [] = insert_entry-next copied name value rest (subst (λ es. IsDistinct same_name (map (λ entry. entry.0) es)) (sym split) distinct) in
    ap (λ es. es ++ rest) (inserted ∙ ap (insert_entry same_name copied name) same ∙ new) ∙ append_assoc copied ((name, value) ∷ []) rest ∙ split

pub same_name-exact : (a b : List ℕ) → same_name a b ≡ true → a ≡ b
same_name-exact a b h =
    let both = and_true (bytes_eq (a ++ replicate (24 - length a) 0) (b ++ replicate (24 - length b) 0)) (eqb (length a) (length b)) h in
    let padded : a ++ replicate (24 - length a) 0 ≡ b ++ replicate (24 - length b) 0 = (bytes_eq-Decides _ _).0 both.0 in
    let long : length a ≡ length b = eqb-true _ _ both.1 in
    sym (take_at a (replicate (24 - length a) 0) (length a) refl) ∙ ap (take (length a)) padded ∙ take_at b (replicate (24 - length b) 0) (length a) (sym long)

pub same_name-refl : (a : List ℕ) → same_name a a ≡ true
same_name-refl a =
    let whole : List ℕ = a ++ replicate (24 - length a) 0 in
    let bytes : bytes_eq whole whole ≡ true = (bytes_eq-Decides whole whole).1 refl in
    let long : eqb (length a) (length a) ≡ true = eq-eqb _ _ refl in
    ap (λ b. b && eqb (length a) (length a)) bytes ∙ long

-- names are the same where their bytes are
pub same_name-is : (a b : List ℕ) → same_name a b ≡ bytes_eq a b
same_name-is a b =
    let same : Decides (same_name a b) (a ≡ b) = (same_name-exact a b, λ e. subst (λ x. same_name a x ≡ true) e (same_name-refl a)) in
    same_from_decides (same_name a b) (bytes_eq a b) same (bytes_eq-Decides a b)

-- and so are their places
pub place-same : (names : List (List ℕ)) (name : List ℕ) → position (λ known. same_name known name) names ≡ place_of names name
place-same names name = ap (λ (p : List ℕ → Bool). position p names) (λ i known. same_name-is known name i)

pub place-same_turned : (names : List (List ℕ)) (name : List ℕ) → position (λ known. same_name name known) names ≡ place_of names name
place-same_turned names name = ap (λ (p : List ℕ → Bool). position p names) (λ i known. same_name-symm name known i) ∙ place-same names name

-- where no place is found no key is the same
pub none_same : (names : List (List ℕ)) (name : List ℕ) → place_of names name ≡ None → list_any (same_name name) names ≡ false
none_same names name none =
    let absent : position (same_name name) names ≡ None = place-same_turned names name ∙ none in
    let past : length names ≤ position_or_len (same_name name) names = ltb-false _ _ (cond_none (ltb (position_or_len (same_name name) names) (length names)) (position_or_len (same_name name) names) absent) in
    list_any_none (same_name name) names (λ k d lt. fails_before_first (same_name name) names k d (omega arith))

-- a new key goes last
pub insert_key-new : (names : List (List ℕ)) (name : List ℕ) → place_of names name ≡ None → insert_key same_name names name ≡ names ++ name ∷ []
insert_key-new names name none = ap (λ b. cond b names (names ++ name ∷ [])) (none_same names name none)

or_false : (a b : Bool) → (a || b) ≡ false → (a ≡ false) × (b ≡ false)
or_false true b e = absurd cc
or_false false b e = (refl, e)

-- and so does the entry of a new key
pub insert_entry-new : {W : Type 0} (entries : List (List ℕ × W)) (name : List ℕ) (value : W) → list_any (same_name name) (map (λ entry. entry.0) entries) ≡ false → insert_entry same_name entries name value ≡ entries ++ (name, value) ∷ []
insert_entry-new [] name value none = refl
insert_entry-new (entry ∷ entries) name value none =
    let parts = or_false (same_name name entry.0) (list_any (same_name name) (map (λ e. e.0) entries)) none in
    ap (λ b. cond b ((entry.0, value) ∷ entries) (entry ∷ insert_entry same_name entries name value)) parts.0
    ∙ ap (λ es. entry ∷ es) (insert_entry-new entries name value parts.1)
