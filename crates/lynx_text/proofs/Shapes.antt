-- Lines with a wrong count of words aren't read.
use Rattle.std.proofs.Common.{◌≡◌, ◌≢◌, ℕ, List, [], ◌∷◌, None, length, refl, arith}
use Rattle.std.specs.Borrow.{Bor}
use Rattle.lynx_lex.specs.Lines.{texts, only_if}
use Rattle.lynx_text.specs.Pieces.{one_after}
use Rattle.std.proofs.Common.{◌<◌, get_or}
use Rattle.std.specs.Prelude.{codes}
use Rattle.std.specs.Str.{bytes_eq}
use Rattle.lynx_set.specs.Scopes.{PlainScope}
use Rattle.lynx_text.specs.Reading.{get_of, change_of, let_of, need_of}
use Rattle.lynx_text.specs.Parts.{shard_line, program_line, end_line}
use Rattle.lynx_text.specs.Ranges.{range_line}

pub get_of_other : (scope : PlainScope) (words : List (Bor (List ℕ))) → length words ≢ 3 → get_of scope (texts words) ≡ None
unfolding get_of
get_of_other scope [] h = refl
get_of_other scope (a ∷ []) h = refl
get_of_other scope (a ∷ b ∷ []) h = refl
get_of_other scope (a ∷ b ∷ c ∷ []) h = absurd (h (omega arith))
get_of_other scope (a ∷ b ∷ c ∷ d ∷ words) h = refl

pub change_of_other : (scope : PlainScope) (words : List (Bor (List ℕ))) → length words ≢ 3 → change_of scope (texts words) ≡ None
unfolding change_of
change_of_other scope [] h = refl
change_of_other scope (a ∷ []) h = refl
change_of_other scope (a ∷ b ∷ []) h = refl
change_of_other scope (a ∷ b ∷ c ∷ []) h = absurd (h (omega arith))
change_of_other scope (a ∷ b ∷ c ∷ d ∷ words) h = refl

pub let_of_other : (scope : PlainScope) (words : List (Bor (List ℕ))) → length words ≢ 4 → let_of scope (texts words) ≡ None
unfolding let_of
let_of_other scope [] h = refl
let_of_other scope (a ∷ []) h = refl
let_of_other scope (a ∷ b ∷ []) h = refl
let_of_other scope (a ∷ b ∷ c ∷ []) h = refl
let_of_other scope (a ∷ b ∷ c ∷ d ∷ []) h = absurd (h (omega arith))
let_of_other scope (a ∷ b ∷ c ∷ d ∷ e ∷ words) h = refl

pub need_of_other : (scope : PlainScope) (words : List (Bor (List ℕ))) → length words ≢ 3 → need_of scope (texts words) ≡ None
unfolding need_of
need_of_other scope [] h = refl
need_of_other scope (a ∷ []) h = refl
need_of_other scope (a ∷ b ∷ []) h = refl
need_of_other scope (a ∷ b ∷ c ∷ []) h = absurd (h (omega arith))
need_of_other scope (a ∷ b ∷ c ∷ d ∷ words) h = refl

pub shard_line_other : (count : ℕ) (words : List (Bor (List ℕ))) → length words ≢ 4 → shard_line count (texts words) ≡ None
unfolding shard_line
shard_line_other count [] h = refl
shard_line_other count (a ∷ []) h = refl
shard_line_other count (a ∷ b ∷ []) h = refl
shard_line_other count (a ∷ b ∷ c ∷ []) h = refl
shard_line_other count (a ∷ b ∷ c ∷ d ∷ []) h = absurd (h (omega arith))
shard_line_other count (a ∷ b ∷ c ∷ d ∷ e ∷ words) h = refl

pub range_line_other : (names : List (List ℕ)) (first : ℕ) (words : List (Bor (List ℕ))) → length words ≢ 3 → range_line names first (texts words) ≡ None
unfolding range_line
range_line_other names first [] h = refl
range_line_other names first (a ∷ []) h = refl
range_line_other names first (a ∷ b ∷ []) h = refl
range_line_other names first (a ∷ b ∷ c ∷ []) h = absurd (h (omega arith))
range_line_other names first (a ∷ b ∷ c ∷ d ∷ words) h = refl

pub program_line_other : (programs : List (List ℕ)) (words : List (Bor (List ℕ))) → length words < 2 → program_line programs (texts words) ≡ None
unfolding program_line
program_line_other programs [] h = refl
program_line_other programs (a ∷ []) h = refl
program_line_other programs (a ∷ b ∷ words) h = absurd (omega arith)

-- what two words are
pub one_after_two : (first : List ℕ) (words : List (Bor (List ℕ))) (d : Bor (List ℕ)) → length words ≡ 2 → one_after first (texts words) ≡ only_if (bytes_eq (get_or words 0 d).now first) (get_or words 1 d).now
one_after_two first [] d h = absurd (omega arith)
one_after_two first (a ∷ []) d h = absurd (omega arith)
one_after_two first (a ∷ b ∷ []) d h = refl
one_after_two first (a ∷ b ∷ c ∷ words) d h = absurd (omega arith)

pub one_after_other : (first : List ℕ) (words : List (Bor (List ℕ))) → length words ≢ 2 → one_after first (texts words) ≡ None
one_after_other first [] h = refl
one_after_other first (a ∷ []) h = refl
one_after_other first (a ∷ b ∷ []) h = absurd (h (omega arith))
one_after_other first (a ∷ b ∷ c ∷ words) h = refl

pub end_line_one : (words : List (Bor (List ℕ))) (d : Bor (List ℕ)) → length words ≡ 1 → end_line (texts words) ≡ only_if (bytes_eq (get_or words 0 d).now (codes "end")) tt
end_line_one [] d h = absurd (omega arith)
end_line_one (a ∷ []) d h = refl
end_line_one (a ∷ b ∷ words) d h = absurd (omega arith)

pub end_line_other : (words : List (Bor (List ℕ))) → length words ≢ 1 → end_line (texts words) ≡ None
end_line_other [] h = refl
end_line_other (a ∷ []) h = absurd (h (omega arith))
end_line_other (a ∷ b ∷ words) h = refl
