-- The zeros behind a name.
use Rattle.std.proofs.Common.{◌≡◌, ℕ, ◌+◌, ◌-◌, ◌≤◌, List, [], ◌∷◌, ◌++◌, length, drop, replicate, ap, ◌∙◌, true, arith}
use Rattle.std.proofs.lemmas.List.{length-append, drop_at, drop-replicate, length-replicate}
use Rattle.std.proofs.lemmas.Bool.Decides.{nat_tests}
use Rattle.lynx_lex.specs.Word.{is_name}
use Rattle.lynx_lex.specs.Name.{IsPadded}

-- a name has no more than 24 bytes
pub length-name : (word : List ℕ) → is_name word ≡ true → length word ≤ 24
length-name [] h = absurd cc
length-name (first ∷ rest) h = grind (arith, nat_tests)

-- a word with zeros behind it is padded
pub padded_word : (copied word : List ℕ) → copied ≡ word → is_name word ≡ true → IsPadded (record { bytes = copied ++ drop (length word) (replicate 24 0); length = length word })
padded_word copied word same named =
    let zero_list : List ℕ = replicate 24 0 in
    let short : length word ≤ 24 = length-name word named in
    let len : length copied ≡ length word = ap length same in
    let behind : List ℕ = replicate (24 - length word) 0 in
    let zeros : drop (length word) zero_list ≡ behind = drop-replicate (length word) 24 0 in
    let count : length behind ≡ 24 - length word = length-replicate (24 - length word) 0 in
    let all : length (copied ++ drop (length word) zero_list) ≡ length copied + length (drop (length word) zero_list) = length-append copied (drop (length word) zero_list) in
    let same_count : length (drop (length word) zero_list) ≡ length behind = ap length zeros in
    record {
      within = short;
      zeros = drop_at copied (drop (length word) zero_list) (length word) len ∙ zeros;
      whole = omega arith;
    }
