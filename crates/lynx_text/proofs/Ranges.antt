-- Ranges of parameters: what is read is spelled so.
use Rattle.std.proofs.Common.{◌≡◌, inl, inr, ℕ, zero, suc, ◌+◌, ◌<◌, ◌≤◌, ◌^◌, leb, List, [], ◌∷◌, ◌++◌, map, length, slice_index_or, Option, Some, None, refl, sym, ap, subst, ◌∙◌, append_assoc, arith}
use Rattle.std.specs.Prelude.{codes, decimal}
use Rattle.std.specs.Str.{bytes_eq}
use Rattle.std.proofs.lemmas.Bool.{leb-true}
use Rattle.std.proofs.lemmas.List.{append-nil}
use Rattle.std.proofs.lemmas.Slice.Eq.{bytes_eq-Decides}
use Rattle.lynx_set.specs.declared.interval.Interval.{Interval}
use Rattle.lynx_set.specs.declared.program.ParameterRange.{ParameterRange}
use Rattle.lynx_set.specs.declared.version.Version.{Version}
use Rattle.lynx_set.specs.declared.version.Version.TheVariants.{One, Two}
use Rattle.lynx_set.specs.Plain.{PlainProgram}
use Rattle.lynx_set.specs.Rules.{FitRanges, HasRanges}
use Rattle.lynx_set.specs.Text.{name_at, interval_word, range_words}
use Rattle.lynx_lex.specs.Digits.{read_number}
use Rattle.lynx_lex.specs.Lines.{◌>>=◌, only_if, joined}
use Rattle.lynx_lex.proofs.NumberLaws.{number_takes}
use Rattle.lynx_lex.proofs.Equal.{some_is, none_some}
use Rattle.lynx_text.specs.Pieces.{next_words}
use Rattle.lynx_text.specs.Reading.{known_name}
use Rattle.lynx_text.specs.Parts.{parts}
use Rattle.lynx_text.specs.Ranges.{ends_of, next_parameter, range_line, next_range, goes_range}
use Rattle.lynx_text.proofs.Dots.{ends_take}
use Rattle.lynx_text.proofs.Hops.{raw, next_words_take}
use Rattle.lynx_text.proofs.Lookups.{bind_some, only_if_some, choose, both, both_is, known_take, name_at-append}

-- the ranges' next parameter is behind the last of them
pub next_parameter-push : (ranges : List ParameterRange) (range : ParameterRange) → next_parameter (ranges ++ range ∷ []) ≡ range.parameter + 1
next_parameter-push [] range = refl
next_parameter-push (first ∷ []) range = refl
next_parameter-push (first ∷ second ∷ ranges) range = next_parameter-push (second ∷ ranges) range

pub next_parameter-last : (ranges : List ParameterRange) (i : ℕ) (d : ParameterRange) → length ranges ≡ i + 1 → (slice_index_or ranges i d).parameter + 1 ≡ next_parameter ranges
next_parameter-last [] i d count = absurd (omega arith)
next_parameter-last (range ∷ []) zero d count = refl
next_parameter-last (range ∷ []) (suc i) d count = absurd (omega arith)
next_parameter-last (range ∷ next ∷ ranges) zero d count = absurd (omega arith)
next_parameter-last (range ∷ next ∷ ranges) (suc i) d count = next_parameter-last (next ∷ ranges) i d (omega arith)

-- a range that may stand there, and its words, whatever names come after
pub record IsRange (names : List (List ℕ)) (first : ℕ) (range : ParameterRange) (words : List (List ℕ)) : Type 0 where
  pub behind : first ≤ range.parameter
  pub within : range.parameter < length names
  pub rising : range.interval.low ≤ range.interval.high
  pub fits : range.interval.high < 2 ^ 64
  pub spelled : (more : List (List ℕ)) → words ≡ range_words (names ++ more) range

pub range_take : (names : List (List ℕ)) (first : ℕ) (words : List (List ℕ)) (range : ParameterRange) → range_line names first words ≡ Some range → IsRange names first range words
unfolding range_line
range_take names first [] range e = absurd cc
range_take names first (a ∷ []) range e = absurd cc
range_take names first (a ∷ b ∷ []) range e = absurd cc
range_take names first (a ∷ b ∷ c ∷ d ∷ words) range e = absurd cc
range_take names first (word ∷ parameter ∷ interval ∷ []) range e =
    let made : ℕ → ℕ → ℕ → ParameterRange = λ p l h. record { parameter = p; interval = record { low = l; high = h } } in
    let s_is = bind_some (only_if {X = Unit {0}} (bytes_eq word (codes "range")) tt) (λ is. ends_of interval >>= λ ends. known_name names parameter >>= λ place. only_if {X = Unit {0}} (leb first place) tt >>= λ behind. read_number ends.0 >>= λ low. read_number ends.1 >>= λ high. only_if (leb low high) (made place low high)) range e in
    let s_ends = bind_some (ends_of interval) (λ ends. known_name names parameter >>= λ place. only_if {X = Unit {0}} (leb first place) tt >>= λ behind. read_number ends.0 >>= λ low. read_number ends.1 >>= λ high. only_if (leb low high) (made place low high)) range s_is.2 in
    let s_place = bind_some (known_name names parameter) (λ place. only_if {X = Unit {0}} (leb first place) tt >>= λ behind. read_number s_ends.0.0 >>= λ low. read_number s_ends.0.1 >>= λ high. only_if (leb low high) (made place low high)) range s_ends.2 in
    let s_behind = bind_some (only_if {X = Unit {0}} (leb first s_place.0) tt) (λ behind. read_number s_ends.0.0 >>= λ low. read_number s_ends.0.1 >>= λ high. only_if (leb low high) (made s_place.0 low high)) range s_place.2 in
    let s_low = bind_some (read_number s_ends.0.0) (λ low. read_number s_ends.0.1 >>= λ high. only_if (leb low high) (made s_place.0 low high)) range s_behind.2 in
    let s_high = bind_some (read_number s_ends.0.1) (λ high. only_if (leb s_low.0 high) (made s_place.0 s_low.0 high)) range s_low.2 in
    let test = only_if_some (leb s_low.0 s_high.0) (made s_place.0 s_low.0 s_high.0) range s_high.2 in
    let known = known_take names parameter s_place.0 s_place.1 in
    let low = number_takes s_ends.0.0 s_low.0 s_low.1 in
    let high = number_takes s_ends.0.1 s_high.0 s_high.1 in
    let word_is : word ≡ codes "range" = (bytes_eq-Decides word (codes "range")).0 (only_if_some (bytes_eq word (codes "range")) tt s_is.0 s_is.1).0 in
    let interval_is : interval ≡ decimal s_low.0 ++ 46 ∷ 46 ∷ decimal s_high.0 = ends_take interval s_ends.0 s_ends.1 ∙ ap (λ l. l ++ 46 ∷ 46 ∷ s_ends.0.1) low.0 ∙ ap (λ h. decimal s_low.0 ++ 46 ∷ 46 ∷ h) high.0 in
    subst (λ (r : ParameterRange). IsRange names first r (word ∷ parameter ∷ interval ∷ [])) test.1 (record {
      behind = leb-true _ _ (only_if_some (leb first s_place.0) tt s_behind.0 s_behind.1).0;
      within = known.0;
      rising = leb-true _ _ test.0;
      fits = high.1;
      spelled = λ more.
          ap (λ w. w ∷ parameter ∷ interval ∷ []) word_is
          ∙ ap (λ p. codes "range" ∷ p ∷ interval ∷ []) (known.1 ∙ sym (name_at-append names more s_place.0 known.0))
          ∙ ap (λ i. codes "range" ∷ name_at (names ++ more) s_place.0 ∷ i ∷ []) (interval_is ∙ sym (append_assoc (decimal s_low.0) (codes "..") (decimal s_high.0)));
    })

-- the lines of ranges
abbrev pub lines_of_ranges : List (List ℕ) → List ParameterRange → List (List (List ℕ))
lines_of_ranges names ranges = map (range_words names) ranges

-- what one more range leaves
record RangeRead (program : PlainProgram) (lines : List (List ℕ)) (out : PlainProgram) (rest : List (List ℕ)) : Type 0 where
  range : ParameterRange
  words : List (List ℕ)
  is : IsRange program.names (next_parameter program.ranges) range words
  leaves : out ≡ record program { ranges = program.ranges ++ range ∷ [] }
  spelled : lines ≡ joined words ∷ rest

next_range_take : (program : PlainProgram) (lines : List (List ℕ)) (out : PlainProgram) (rest : List (List ℕ)) → next_range program lines ≡ Some (out, rest) → RangeRead program lines out rest
unfolding next_range
next_range_take program lines out rest e =
    let added : ParameterRange → PlainProgram = λ range. record program { ranges = program.ranges ++ range ∷ [] } in
    let words = bind_some (next_words lines) (λ w. range_line program.names (next_parameter program.ranges) w.0 >>= λ range. both (added range) w.1) (out, rest) e in
    let range = bind_some (range_line program.names (next_parameter program.ranges) words.0.0) (λ range. both (added range) words.0.1) (out, rest) words.2 in
    let same = both_is (added range.0) out words.0.1 rest range.2 in
    record {
      range = range.0;
      words = words.0.0;
      is = range_take program.names (next_parameter program.ranges) words.0.0 range.0 range.1;
      leaves = sym same.0;
      spelled = (next_words_take lines words.0.0 words.0.1 words.1).spelled ∙ ap (λ r. joined words.0.0 ∷ r) same.1;
    }

-- what ranges leave
pub record RangesLeft (version : Version) (program : PlainProgram) (lines : List (List ℕ)) (out : PlainProgram) (rest : List (List ℕ)) : Type 0 where
  pub added : List ParameterRange
  pub fit : FitRanges (length program.names) (next_parameter program.ranges) added
  pub has : HasRanges version added
  pub leaves : out ≡ record program { ranges = program.ranges ++ added }
  pub spelled : (more : List (List ℕ)) → lines ≡ raw (lines_of_ranges (program.names ++ more) added) ++ rest

no_ranges_left : (version : Version) (program : PlainProgram) (lines : List (List ℕ)) (out : PlainProgram) (rest : List (List ℕ)) → both program lines ≡ both out rest → RangesLeft version program lines out rest
no_ranges_left version program lines out rest e =
    let same = both_is program out lines rest e in
    record {
      added = [];
      fit = tt;
      has = tt;
      leaves = sym same.0 ∙ ap (λ (r : List ParameterRange). let p : PlainProgram = record program { ranges = r } in p) (sym (append-nil program.ranges));
      spelled = λ more. same.1;
    }

more_ranges : (program : PlainProgram) (lines mid : List (List ℕ)) (next out : PlainProgram) (rest : List (List ℕ)) → RangeRead program lines next mid → RangesLeft Two next mid out rest → RangesLeft Two program lines out rest
more_ranges program lines mid next out rest first later =
    let range : ParameterRange = first.range in
    let moved = subst (λ (p : PlainProgram). RangesLeft Two p mid out rest) first.leaves later in
    record {
      added = range ∷ moved.added;
      fit = (first.is.behind, first.is.within, first.is.rising, first.is.fits, subst (λ (n : ℕ). FitRanges (length program.names) n moved.added) (next_parameter-push program.ranges range) moved.fit);
      has = refl;
      leaves = moved.leaves ∙ ap (λ (r : List ParameterRange). let p : PlainProgram = record program { ranges = r } in p) (append_assoc program.ranges (range ∷ []) moved.added);
      spelled = λ more. first.spelled ∙ ap (λ w. joined w ∷ mid) (first.is.spelled more) ∙ ap (λ m. joined (range_words (program.names ++ more) range) ∷ m) (moved.spelled more);
    }

pub ranges_take : (version : Version) (room : ℕ) (program : PlainProgram) (lines : List (List ℕ)) (out : PlainProgram) (rest : List (List ℕ)) → parts (goes_range version) next_range room program lines ≡ Some (out, rest) → RangesLeft version program lines out rest
unfolding parts
ranges_take One zero program lines out rest e = no_ranges_left One program lines out rest e
ranges_take One (suc room) program lines out rest e = no_ranges_left One program lines out rest e
ranges_take Two zero program lines out rest e =
    elim (choose (goes_range Two lines) None (both program lines) (Some (out, rest)) e) [
      | inl p ↦ absurd (none_some p.1)
      | inr p ↦ no_ranges_left Two program lines out rest p.1
    ]
ranges_take Two (suc room) program lines out rest e =
    elim (choose (goes_range Two lines) (next_range program lines >>= λ n. parts (goes_range Two) next_range room n.0 n.1) (both program lines) (Some (out, rest)) e) [
      | inl p ↦
          let step = bind_some (next_range program lines) (λ n. parts (goes_range Two) next_range room n.0 n.1) (out, rest) p.1 in
          more_ranges program lines step.0.1 step.0.0 out rest (next_range_take program lines step.0.0 step.0.1 step.1) (ranges_take Two room step.0.0 step.0.1 out rest step.2)
      | inr p ↦ no_ranges_left Two program lines out rest p.1
    ]
