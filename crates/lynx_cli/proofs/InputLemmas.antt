-- Where an input is cut, after one more line.
use Rattle.std.proofs.Common.{◌≡◌, ◌⊎◌, ℕ, ◌+◌, not, true, false, List, [], ◌∷◌, ◌++◌, length, take, Some, None, inl, inr, refl, sym, ap, ◌∙◌, append_assoc, arith}
use Rattle.std.specs.Prelude.{codes}
use Rattle.std.specs.List.{flat_map, AllByRecursion}
use Rattle.std.proofs.lemmas.Grind.{flat_map-append}
use Rattle.std.proofs.lemmas.List.{append-nil, length-append}
use Rattle.std.proofs.Math.Seq.{take-append_seam}
use Rattle.lynx_lex.specs.Lines.{is_feed, next_line, with_feed}
use Rattle.lynx_lex.proofs.WordLaws.{and_true}
use Rattle.lynx_cli.specs.Inputs.{IsOther, IsCut, HasNoCut}
use Rattle.lynx_lex.proofs.NextLine.{HasNoFeed, line_taken, last_line}
use Rattle.lynx_lex.proofs.Equal.{first_is, rest_is}

feed_not : (y : ℕ) → 10 ≡ y → not (is_feed y) ≡ true → ⊥
feed_not y is none = let bad : false ≡ true = ap (λ n. not (is_feed n)) is ∙ none in cc

-- a text has one first line
one_line : (a b r s : List ℕ) → HasNoFeed a → HasNoFeed b → a ++ 10 ∷ r ≡ b ++ 10 ∷ s → (a ≡ b) × (r ≡ s)
one_line [] [] r s p q e = (refl, rest_is 10 10 r s e)
one_line [] (y ∷ b) r s p q e = absurd (feed_not y (first_is 10 y r (b ++ 10 ∷ s) e) (and_true (not (is_feed y)) _ q).0)
one_line (x ∷ a) [] r s p q e = absurd (feed_not x (sym (first_is x 10 (a ++ 10 ∷ r) s e)) (and_true (not (is_feed x)) _ p).0)
one_line (x ∷ a) (y ∷ b) r s p q e =
    let both = one_line a b r s (and_true (not (is_feed x)) _ p).1 (and_true (not (is_feed y)) _ q).1 (rest_is x y (a ++ 10 ∷ r) (b ++ 10 ∷ s) e) in
    let same = first_is x y (a ++ 10 ∷ r) (b ++ 10 ∷ s) e in
    let tails = both.0 in
    (cc, both.1)

-- a text with a line feed has one
no_feed_in : (a r text : List ℕ) → HasNoFeed text → text ≡ a ++ 10 ∷ r → ⊥
no_feed_in a r [] none e = shorter (ap length e)
  where
    shorter : 0 ≡ length (a ++ 10 ∷ r) → ⊥
    shorter e = absurd (omega (arith, length-append a (10 ∷ r)))
no_feed_in [] r (y ∷ text) none e = feed_not y (sym (first_is y 10 text r e)) (and_true (not (is_feed y)) _ none).0
no_feed_in (x ∷ a) r (y ∷ text) none e = no_feed_in a r text (and_true (not (is_feed y)) _ none).1 (rest_is y x text (a ++ 10 ∷ r) e)

-- a line before some text, and its LF
line_before : (l more : List ℕ) → with_feed l ++ more ≡ l ++ 10 ∷ more
line_before l more = append_assoc l (10 ∷ []) more

-- a cut behind a first line that is no separator is one of the rest
cut_less : (l rest text before after : List ℕ) → text ≡ l ++ 10 ∷ rest → IsOther l → IsCut text before after → (less : List ℕ) × IsCut rest less after
cut_less l rest text before after is other cut = by cut.lines cut.others cut.spelled
  where
    separator : before ≡ [] → (text ≡ before ++ (with_feed (codes "--") ++ after)) ⊎ ((text ≡ before ++ codes "--") × (after ≡ [])) → ⊥
    separator none (inl whole) = other.1 (one_line l (codes "--") rest after other.0 refl (sym is ∙ whole ∙ ap (λ (b : List ℕ). b ++ (with_feed (codes "--") ++ after)) none)).0
    separator none (inr whole) = no_feed_in l rest (codes "--") refl (sym (whole.0 ∙ ap (λ (b : List ℕ). b ++ codes "--") none) ∙ is)

    behind : (m : List ℕ) (ms : List (List ℕ)) (tail : List ℕ) → before ≡ flat_map with_feed (m ∷ ms) → text ≡ before ++ tail → HasNoFeed m → (l ≡ m) × (rest ≡ flat_map with_feed ms ++ tail)
    behind m ms tail spelled whole none =
        one_line l m rest (flat_map with_feed ms ++ tail) other.0 none
        (sym is ∙ whole ∙ ap (λ (b : List ℕ). b ++ tail) spelled ∙ append_assoc (with_feed m) (flat_map with_feed ms) tail ∙ line_before m (flat_map with_feed ms ++ tail))

    cut_rest : (m : List ℕ) (ms : List (List ℕ)) → HasNoFeed m → AllByRecursion IsOther ms → before ≡ flat_map with_feed (m ∷ ms)
        → (text ≡ before ++ (with_feed (codes "--") ++ after)) ⊎ ((text ≡ before ++ codes "--") × (after ≡ [])) → IsCut rest (flat_map with_feed ms) after
    cut_rest m ms none others spelled (inl whole) = record {
      lines = ms;
      others = others;
      spelled = refl;
      whole = inl (behind m ms (with_feed (codes "--") ++ after) spelled whole none).1;
    }
    cut_rest m ms none others spelled (inr whole) = record {
      lines = ms;
      others = others;
      spelled = refl;
      whole = inr ((behind m ms (codes "--") spelled whole.0 none).1, whole.1);
    }

    by : (lines : List (List ℕ)) → AllByRecursion IsOther lines → before ≡ flat_map with_feed lines → (less : List ℕ) × IsCut rest less after
    by [] others spelled = absurd (separator spelled cut.whole)
    by (m ∷ ms) others spelled = (flat_map with_feed ms, cut_rest m ms others.0.0 others.1 spelled cut.whole)

-- so far as it was read, no line of the input is `--`, and each cut of it is one of the rest
pub record HasRead (input : List ℕ) (read : ℕ) (rest : List ℕ) : Type 0 where
  pub lines : List (List ℕ)
  pub others : AllByRecursion IsOther lines
  pub place : read ≡ length (flat_map with_feed lines)
  pub spelled : input ≡ flat_map with_feed lines ++ rest
  pub kept : (before after : List ℕ) → IsCut input before after → (less : List ℕ) × IsCut rest less after

pub nothing_read : (input : List ℕ) → HasRead input 0 input
nothing_read input = record {
  lines = [];
  others = tt;
  place = refl;
  spelled = refl;
  kept = λ before after cut. (before, cut);
}

pub read_within : (input rest : List ℕ) (read : ℕ) → HasRead input read rest → read + length rest ≡ length input
read_within input rest read so_far = omega (arith, so_far.place, ap length so_far.spelled, length-append (flat_map with_feed so_far.lines) rest)

-- the input before the place is the lines that were read
read_front : (input rest : List ℕ) (read : ℕ) (so_far : HasRead input read rest) → take read input ≡ flat_map with_feed so_far.lines
read_front input rest read so_far =
    ap (λ n. take n input) so_far.place ∙ ap (take (length (flat_map with_feed so_far.lines))) so_far.spelled ∙ take-append_seam (flat_map with_feed so_far.lines) rest

others_push : (lines : List (List ℕ)) (l : List ℕ) → AllByRecursion IsOther lines → IsOther l → AllByRecursion IsOther (lines ++ l ∷ [])
others_push [] l all one = (one, tt)
others_push (m ∷ lines) l all one = (all.0, others_push lines l all.1 one)

lines_push : (lines : List (List ℕ)) (l : List ℕ) → flat_map with_feed (lines ++ l ∷ []) ≡ flat_map with_feed lines ++ with_feed l
lines_push lines l = flat_map-append with_feed lines (l ∷ []) ∙ ap (λ (bytes : List ℕ). flat_map with_feed lines ++ bytes) (append-nil (with_feed l))

-- one more line
pub line_read : (input rest l after : List ℕ) (read : ℕ) → HasRead input read rest → next_line rest ≡ Some (l, after) → (l ≡ codes "--" → ⊥)
    → HasRead input (read + (length l + 1)) after
line_read input rest l after read so_far next other =
    let taken = line_taken rest l after next in
    record {
      lines = so_far.lines ++ l ∷ [];
      others = others_push so_far.lines l so_far.others (taken.1, other);
      place = omega (arith, so_far.place, ap length (lines_push so_far.lines l), length-append (flat_map with_feed so_far.lines) (with_feed l), length-append l (10 ∷ []));
      spelled = so_far.spelled ∙ ap (λ (bytes : List ℕ). flat_map with_feed so_far.lines ++ bytes) (taken.0 ∙ sym (line_before l after))
          ∙ sym (append_assoc (flat_map with_feed so_far.lines) (with_feed l) after) ∙ ap (λ (bytes : List ℕ). bytes ++ after) (sym (lines_push so_far.lines l));
      kept = λ before behind cut.
          let less = so_far.kept before behind cut in cut_less l after rest less.0 behind taken.0 (taken.1, other) less.1;
    }

-- the separator with its LF
pub cut_here : (input rest l after : List ℕ) (read : ℕ) → HasRead input read rest → next_line rest ≡ Some (l, after) → l ≡ codes "--" → IsCut input (take read input) after
cut_here input rest l after read so_far next is =
    let taken = line_taken rest l after next in
    record {
      lines = so_far.lines;
      others = so_far.others;
      spelled = read_front input rest read so_far;
      whole = inl (so_far.spelled ∙ ap (λ (bytes : List ℕ). bytes ++ rest) (sym (read_front input rest read so_far))
          ∙ ap (λ (bytes : List ℕ). take read input ++ bytes) (taken.0 ∙ ap (λ (word : List ℕ). word ++ 10 ∷ after) is ∙ sym (line_before (codes "--") after)));
    }

-- the separator at the end
pub cut_at_end : (input rest : List ℕ) (read : ℕ) → HasRead input read rest → rest ≡ codes "--" → IsCut input (take read input) []
cut_at_end input rest read so_far is = record {
  lines = so_far.lines;
  others = so_far.others;
  spelled = read_front input rest read so_far;
  whole = inr (so_far.spelled ∙ ap (λ (bytes : List ℕ). bytes ++ rest) (sym (read_front input rest read so_far)) ∙ ap (λ (bytes : List ℕ). take read input ++ bytes) is, refl);
}

-- no separator
pub no_cut : (input rest : List ℕ) (read : ℕ) → HasRead input read rest → next_line rest ≡ None → (rest ≡ codes "--" → ⊥) → HasNoCut input
no_cut input rest read so_far last other before after cut =
    let less = so_far.kept before after cut in none less.0 less.1
  where
    ends : (less : List ℕ) → less ≡ [] → (rest ≡ less ++ (with_feed (codes "--") ++ after)) ⊎ ((rest ≡ less ++ codes "--") × (after ≡ [])) → ⊥
    ends less is (inl whole) = no_feed_in (codes "--") after rest (last_line rest last) (whole ∙ ap (λ (b : List ℕ). b ++ (with_feed (codes "--") ++ after)) is)
    ends less is (inr whole) = other (whole.0 ∙ ap (λ (b : List ℕ). b ++ codes "--") is)

    goes_on : (less m : List ℕ) (ms : List (List ℕ)) (tail : List ℕ) → less ≡ flat_map with_feed (m ∷ ms) → rest ≡ less ++ tail → ⊥
    goes_on less m ms tail spelled whole =
        no_feed_in m (flat_map with_feed ms ++ tail) rest (last_line rest last)
        (whole ∙ ap (λ (b : List ℕ). b ++ tail) spelled ∙ append_assoc (with_feed m) (flat_map with_feed ms) tail ∙ line_before m (flat_map with_feed ms ++ tail))

    later : (less m : List ℕ) (ms : List (List ℕ)) → less ≡ flat_map with_feed (m ∷ ms) → (rest ≡ less ++ (with_feed (codes "--") ++ after)) ⊎ ((rest ≡ less ++ codes "--") × (after ≡ [])) → ⊥
    later less m ms spelled (inl whole) = goes_on less m ms (with_feed (codes "--") ++ after) spelled whole
    later less m ms spelled (inr whole) = goes_on less m ms (codes "--") spelled whole.0

    by : (less : List ℕ) (lines : List (List ℕ)) → less ≡ flat_map with_feed lines → (rest ≡ less ++ (with_feed (codes "--") ++ after)) ⊎ ((rest ≡ less ++ codes "--") × (after ≡ [])) → ⊥
    by less [] spelled whole = ends less spelled whole
    by less (m ∷ ms) spelled whole = later less m ms spelled whole

    none : (less : List ℕ) → IsCut rest less after → ⊥
    none less cut = by less cut.lines cut.spelled cut.whole
