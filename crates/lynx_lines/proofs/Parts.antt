-- Writing one thing after another, where a fault may stop it.
use Rattle.std.proofs.Common.{◌≡◌, ℕ, List, [], ◌∷◌, ◌++◌, Option, Some, None, Result, Ok, Err, OnErr, append_assoc, take, drop, get_or, length, ◌<◌, ◌+◌, refl, sym, ap, ◌∙◌, subst}
use Rattle.std.specs.List.{flat_map}
use Rattle.std.proofs.lemmas.Grind.{flat_map-append}
use Rattle.std.specs.Io.KnownBytes.{Appends, Keeps}
use Rattle.std.proofs.lemmas.List.{append-nil, drop_more, take-append-drop}
use Rattle.lynx_lines.specs.Written.{AppendsPart}

-- what is written in two steps
pub appends_both : (first second third : Option (List ℕ)) (xs ys : List ℕ) → Appends first second xs → Appends second third ys → Appends first third (xs ++ ys)
appends_both None second third xs ys a b = tt
appends_both (Some f) None third xs ys a b = absurd a
appends_both (Some f) (Some s) None xs ys a b = absurd b
appends_both (Some f) (Some s) (Some t) xs ys a b = b ∙ ap (λ bytes. bytes ++ ys) a ∙ append_assoc f xs ys

-- nothing more is written
pub appends_nil : (a : Option (List ℕ)) → Appends a a []
appends_nil None = tt
appends_nil (Some bytes) = sym (append-nil bytes)

-- nothing was written
pub nothing_written : (a : Option (List ℕ)) (owed : List ℕ) → AppendsPart a a owed
nothing_written a owed = ([], (owed, refl), appends_nil a)

-- what was written before stands
pub part_on : (first second third : Option (List ℕ)) (xs ys : List ℕ) → Appends first second xs → AppendsPart second third ys → AppendsPart first third (xs ++ ys)
part_on first second third xs ys before part = (
  xs ++ part.0,
  (part.1.0, ap (λ bytes. xs ++ bytes) part.1.1 ∙ sym (append_assoc xs part.0 part.1.0)),
  appends_both first second third xs part.0 before part.2,
)

-- more is owed behind
pub part_of_more : (first second : Option (List ℕ)) (xs ys : List ℕ) → AppendsPart first second xs → AppendsPart first second (xs ++ ys)
part_of_more first second xs ys part = (
  part.0,
  (part.1.0 ++ ys, ap (λ bytes. bytes ++ ys) part.1.1 ∙ append_assoc part.0 part.1.0 ys),
  part.2,
)

-- one thing after another, the second of which may fail
pub part_after : {X E : Type 0} (first second third : Option (List ℕ)) (xs ys : List ℕ) (r : Result X E) → Appends first second xs →
    OnErr r (AppendsPart second third ys) → OnErr r (AppendsPart first third (xs ++ ys))
part_after first second third xs ys (Ok done) before now = tt
part_after first second third xs ys (Err fault) before now = part_on first second third xs ys before now

-- a fault, where this holds
pub on_err : {X E P : Type 0} (r : Result X E) → P → OnErr r P
on_err (Ok done) holds = tt
on_err (Err fault) holds = holds

-- more of the bytes was written
pub more_written : (first second third : Option (List ℕ)) (bytes part rest more left : List ℕ) → bytes ≡ part ++ rest → Appends first second part →
    rest ≡ more ++ left → Appends second third more → (all : List ℕ) × (bytes ≡ all ++ left) × Appends first third all
more_written first second third bytes part rest more left whole before split now = (
  part ++ more,
  whole ∙ ap (λ r. part ++ r) split ∙ sym (append_assoc part more left),
  appends_both first second third part more before now,
)

-- nothing of the rest was taken
pub kept_on : (first second third : Option (List ℕ)) (part : List ℕ) → Appends first second part → Keeps second third → Appends first third part
kept_on None second third part before kept = tt
kept_on (Some a) None third part before kept = absurd before
kept_on (Some a) (Some b) None part before kept = absurd kept
kept_on (Some a) (Some b) (Some c) part before kept = kept ∙ before

-- what was written so far is a beginning
pub stopped_at : (first second third : Option (List ℕ)) (bytes part rest : List ℕ) → bytes ≡ part ++ rest → Appends first second part → Keeps second third →
    AppendsPart first third bytes
stopped_at first second third bytes part rest whole before kept = (part, (rest, whole), kept_on first second third part before kept)

-- the lines of the first of these stand
pub lines_so_far : {X : Type 0} (f : X → List ℕ) (first second : Option (List ℕ)) (xs : List X) (i : ℕ) → Appends first second (flat_map f (take i xs)) →
    AppendsPart first second (flat_map f xs)
lines_so_far f first second xs i before = (
  flat_map f (take i xs),
  (flat_map f (drop i xs), ap (flat_map f) (sym (take-append-drop i xs)) ∙ flat_map-append f (take i xs) (drop i xs)),
  before,
)

-- .. and a beginning of the next line
pub line_cut : {X : Type 0} (f : X → List ℕ) (first second third : Option (List ℕ)) (xs : List X) (i : ℕ) (x : X) → i < length xs → x ≡ get_or xs i x →
    Appends first second (flat_map f (take i xs)) → AppendsPart second third (f x) → AppendsPart first third (flat_map f xs)
line_cut f first second third xs i x within there before part =
    let rest : x ∷ drop (i + 1) xs ≡ drop i xs = ap (λ y. y ∷ drop (i + 1) xs) there ∙ sym (drop_more xs i x within) in
    let whole : flat_map f (take i xs) ++ (f x ++ flat_map f (drop (i + 1) xs)) ≡ flat_map f xs =
    ap (λ ys. flat_map f (take i xs) ++ flat_map f ys) rest ∙ sym (flat_map-append f (take i xs) (drop i xs)) ∙ ap (flat_map f) (take-append-drop i xs) in
    subst (AppendsPart first third) whole
    (part_on first second third _ _ before (part_of_more second third (f x) (flat_map f (drop (i + 1) xs)) part))
