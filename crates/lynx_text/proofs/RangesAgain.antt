-- Ranges of parameters: what is spelled so is read.
use Rattle.std.proofs.Common.{◌≡◌, ℕ, zero, suc, ◌+◌, ◌<◌, ◌≤◌, ◌^◌, Bool, true, false, not, eqb, leb, ◌&&◌, List, [], ◌∷◌, ◌++◌, map, length, Option, Some, None, refl, sym, ap, subst, ◌∙◌, append_assoc, arith}
use Rattle.std.specs.Prelude.{codes, decimal}
use Rattle.std.specs.List.{list_all}
use Rattle.std.specs.Str.{bytes_eq}
use Rattle.std.proofs.lemmas.Bool.{le-leb}
use Rattle.std.proofs.lemmas.Bool.Decides.{nat_tests}
use Rattle.std.proofs.lemmas.List.{append-nil, length-append}
use Rattle.std.proofs.lemmas.List.Folds.{list_all-append}
use Rattle.lynx_set.specs.declared.interval.Interval.{Interval}
use Rattle.lynx_set.specs.declared.program.ParameterRange.{ParameterRange}
use Rattle.lynx_set.specs.declared.version.Version.{Version}
use Rattle.lynx_set.specs.declared.version.Version.TheVariants.{One, Two}
use Rattle.lynx_set.specs.Plain.{PlainProgram}
use Rattle.lynx_set.specs.Rules.{FitRanges, HasRanges}
use Rattle.lynx_set.specs.Text.{name_at, interval_word, range_words}
use Rattle.lynx_lex.specs.Digits.{read_number}
use Rattle.lynx_lex.specs.Lines.{◌>>=◌, is_filled, is_graphic, is_word, AreWords, only_if, joined}
use Rattle.lynx_lex.proofs.WordLaws.{and_true, both_true, name-word, number-word}
use Rattle.lynx_lex.proofs.NumberLaws.{number_again}
use Rattle.lynx_text.specs.Pieces.{next_words}
use Rattle.lynx_text.specs.Reading.{known_name}
use Rattle.lynx_text.specs.Parts.{parts}
use Rattle.lynx_text.specs.Ranges.{ends_of, next_parameter, range_line, next_range, goes_range}
use Rattle.lynx_text.proofs.Dots.{ends_again}
use Rattle.lynx_text.proofs.Hops.{raw}
use Rattle.lynx_text.proofs.HopsAgain.{IsMore, begins_again, more_behind, next_words_again, parts_stop, parts_step}
use Rattle.lynx_text.proofs.Known.{bind_is, only_if_yes, Known, known_again}
use Rattle.lynx_text.proofs.Lookups.{both, name_at-append}
use Rattle.lynx_text.proofs.Ranges.{lines_of_ranges, next_parameter-push}

filled_more : (byte : ℕ) (bytes : List ℕ) → is_filled (byte ∷ bytes) ≡ true
filled_more byte bytes = by (length bytes)
  where
    by : (n : ℕ) → not (eqb (suc n) 0) ≡ true
    by n = grind (arith, nat_tests)

-- an interval is a word
interval_is_word : (interval : Interval) → interval.low < 2 ^ 64 → interval.high < 2 ^ 64 → is_word (interval_word interval) ≡ true
interval_is_word interval low high =
    let first = and_true (is_filled (decimal interval.low)) (list_all is_graphic (decimal interval.low)) (number-word interval.low low).0 in
    let second = and_true (is_filled (decimal interval.high)) (list_all is_graphic (decimal interval.high)) (number-word interval.high high).0 in
    both_true (is_filled (interval_word interval)) (list_all is_graphic (interval_word interval)) (filled_front (decimal interval.low) (codes "..") (decimal interval.high) first.0)
    (list_all-append is_graphic (decimal interval.low ++ codes "..") (decimal interval.high)
    ∙ both_true (list_all is_graphic (decimal interval.low ++ codes "..")) (list_all is_graphic (decimal interval.high))
    (list_all-append is_graphic (decimal interval.low) (codes "..") ∙ both_true (list_all is_graphic (decimal interval.low)) (list_all is_graphic (codes "..")) first.1 refl) second.1)
  where
    filled_front : (a b c : List ℕ) → is_filled a ≡ true → is_filled ((a ++ b) ++ c) ≡ true
    filled_front [] b c none = absurd cc
    filled_front (x ∷ a) b c some = filled_more x ((a ++ b) ++ c)

pub range_words_are : (names more : List (List ℕ)) (range : ParameterRange) → Known names → range.parameter < length names → range.interval.low ≤ range.interval.high → range.interval.high < 2 ^ 64 → AreWords (range_words (names ++ more) range)
range_words_are names more range known within rising fits =
    let named : is_word (name_at (names ++ more) range.parameter) ≡ true = ap is_word (name_at-append names more range.parameter within) ∙ name-word (name_at names range.parameter) (known.named range.parameter within) in
    let interval : is_word (interval_word range.interval) ≡ true = interval_is_word range.interval (omega arith) fits in (
      omega arith,
      both_true (is_word (codes "range")) (list_all is_word (name_at (names ++ more) range.parameter ∷ interval_word range.interval ∷ [])) refl
          (both_true (is_word (name_at (names ++ more) range.parameter)) (list_all is_word (interval_word range.interval ∷ [])) named
          (both_true (is_word (interval_word range.interval)) true interval refl)),
    )

range_again : (names more : List (List ℕ)) (first : ℕ) (range : ParameterRange) → Known names → length names ≤ 8 → first ≤ range.parameter → range.parameter < length names → range.interval.low ≤ range.interval.high → range.interval.high < 2 ^ 64
    → range_line names first (range_words (names ++ more) range) ≡ Some range
unfolding range_line
range_again names more first range known few behind within rising fits =
    let low : ℕ = range.interval.low in
    let high : ℕ = range.interval.high in
    let place : ℕ = range.parameter in
    let parameter : List ℕ = name_at (names ++ more) place in
    let interval : List ℕ = interval_word range.interval in
    let ends : List ℕ × List ℕ = (decimal low, decimal high) in
    let made : ℕ → ℕ → ℕ → ParameterRange = λ p l h. record { parameter = p; interval = record { low = l; high = h } } in
    bind_is (ends_of interval) (λ ends. known_name names parameter >>= λ p. only_if {X = Unit {0}} (leb first p) tt >>= λ behind. read_number ends.0 >>= λ l. read_number ends.1 >>= λ h. only_if (leb l h) (made p l h)) ends (Some range)
    (ap ends_of (append_assoc (decimal low) (codes "..") (decimal high)) ∙ ends_again low high (omega arith) fits)
    (bind_is (known_name names parameter) (λ p. only_if {X = Unit {0}} (leb first p) tt >>= λ behind. read_number (decimal low) >>= λ l. read_number (decimal high) >>= λ h. only_if (leb l h) (made p l h)) place (Some range)
    (ap (known_name names) (name_at-append names more place within) ∙ known_again names place known within (omega arith))
    (bind_is (only_if {X = Unit {0}} (leb first place) tt) (λ behind. read_number (decimal low) >>= λ l. read_number (decimal high) >>= λ h. only_if (leb l h) (made place l h)) tt (Some range)
    (only_if_yes (leb first place) tt (le-leb _ _ behind))
    (bind_is (read_number (decimal low)) (λ l. read_number (decimal high) >>= λ h. only_if (leb l h) (made place l h)) low (Some range) (number_again low (omega arith))
    (bind_is (read_number (decimal high)) (λ h. only_if (leb low h) (made place low h)) high (Some range) (number_again high fits)
    (only_if_yes (leb low high) range (le-leb _ _ rising))))))

-- the ranges that are left of a program
pub ranges_again : (room : ℕ) (program : PlainProgram) (ranges : List ParameterRange) (more rest : List (List ℕ)) → Known program.names → length program.names ≤ 8
    → FitRanges (length program.names) (next_parameter program.ranges) ranges → length ranges ≤ room → IsMore rest → goes_range Two rest ≡ false
    → parts (goes_range Two) next_range room program (raw (lines_of_ranges (program.names ++ more) ranges) ++ rest) ≡ Some (record program { ranges = program.ranges ++ ranges }, rest)
unfolding next_range
ranges_again room program [] more rest known few fit enough left stops =
    parts_stop (goes_range Two) next_range room program rest stops
    ∙ ap (λ (r : List ParameterRange). let p : PlainProgram = record program { ranges = r } in both p rest) (sym (append-nil program.ranges))
ranges_again zero program (range ∷ ranges) more rest known few fit enough left stops = absurd (omega arith)
ranges_again (suc room) program (range ∷ ranges) more rest known few fit enough left stops =
    let words : List (List ℕ) = range_words (program.names ++ more) range in
    let tail : List (List ℕ) = raw (lines_of_ranges (program.names ++ more) ranges) ++ rest in
    let next : PlainProgram = record program { ranges = program.ranges ++ range ∷ [] } in
    let are : AreWords words = range_words_are program.names more range known fit.1 fit.2 fit.3 in
    parts_step (goes_range Two) next_range room program next (joined words ∷ tail) tail
    (begins_again (codes "range") (name_at (program.names ++ more) range.parameter ∷ interval_word range.interval ∷ []) tail (codes "range") are ∙ same)
    (bind_is (next_words (joined words ∷ tail)) (λ w. range_line program.names (next_parameter program.ranges) w.0 >>= λ r. let p : PlainProgram = record program { ranges = program.ranges ++ r ∷ [] } in both p w.1) (words, tail) (both next tail)
    (next_words_again words tail are (more_behind (lines_of_ranges (program.names ++ more) ranges) rest left))
    (bind_is (range_line program.names (next_parameter program.ranges) words) (λ r. let p : PlainProgram = record program { ranges = program.ranges ++ r ∷ [] } in both p tail) range (both next tail)
    (range_again program.names more (next_parameter program.ranges) range known few fit.0 fit.1 fit.2 fit.3) refl))
    ∙ ranges_again room next ranges more rest known few (subst (λ (n : ℕ). FitRanges (length program.names) n ranges) (sym (next_parameter-push program.ranges range)) fit.4) (omega arith) left stops
    ∙ ap (λ (r : List ParameterRange). let p : PlainProgram = record program { ranges = r } in both p rest) (append_assoc program.ranges (range ∷ []) ranges)
  where
    same : bytes_eq (codes "range") (codes "range") ≡ true
    same = refl

-- there are no more ranges than parameters
pub few_ranges : (parameters first : ℕ) (ranges : List ParameterRange) → FitRanges parameters first ranges → first ≤ parameters → first + length ranges ≤ parameters
few_ranges parameters first [] fit le = omega arith
few_ranges parameters first (range ∷ ranges) fit le = omega (arith, fit.0, fit.1, few_ranges parameters (range.parameter + 1) ranges fit.4 (omega (arith, fit.1)))

-- the ranges of a program of that version
pub all_ranges : (version : Version) (program : PlainProgram) (ranges : List ParameterRange) (more rest : List (List ℕ)) → Known program.names → length program.names ≤ 8 → program.ranges ≡ []
    → FitRanges (length program.names) 0 ranges → HasRanges version ranges → IsMore rest → goes_range version rest ≡ false
    → parts (goes_range version) next_range 8 program (raw (lines_of_ranges (program.names ++ more) ranges) ++ rest) ≡ Some (record program { ranges = ranges }, rest)
all_ranges One program [] more rest known few none fit has left stops =
    parts_stop (goes_range One) next_range 8 program rest refl
    ∙ ap (λ (r : List ParameterRange). let p : PlainProgram = record program { ranges = r } in both p rest) none
all_ranges One program (range ∷ ranges) more rest known few none fit has left stops = absurd cc
all_ranges Two program ranges more rest known few none fit has left stops =
    ranges_again 8 program ranges more rest known few (subst (λ (r : List ParameterRange). FitRanges (length program.names) (next_parameter r) ranges) (sym none) fit) (omega (arith, few_ranges (length program.names) 0 ranges fit (omega arith))) left stops
    ∙ ap (λ (r : List ParameterRange). let p : PlainProgram = record program { ranges = r ++ ranges } in both p rest) none
