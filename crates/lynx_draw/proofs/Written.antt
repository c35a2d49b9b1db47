-- Parts that are written one after another.
use Rattle.std.proofs.Common.{◌≡◌, ℕ, List, ◌++◌, sym, ap, ◌∙◌, append_assoc}

pub two_written : (before first second a b : List ℕ) → first ≡ before ++ a → second ≡ first ++ b → second ≡ before ++ (a ++ b)
two_written before first second a b wrote_a wrote_b = wrote_b ∙ ap (λ w. w ++ b) wrote_a ∙ append_assoc before a b

pub three_written : (before first second third a b c : List ℕ) → first ≡ before ++ a → second ≡ first ++ b → third ≡ second ++ c → third ≡ before ++ (a ++ b ++ c)
three_written before first second third a b c wrote_a wrote_b wrote_c = two_written before second third (a ++ b) c (two_written before first second a b wrote_a wrote_b) wrote_c

pub four_written : (before first second third fourth a b c d : List ℕ) → first ≡ before ++ a → second ≡ first ++ b → third ≡ second ++ c → fourth ≡ third ++ d → fourth ≡ before ++ (a ++ b ++ c ++ d)
four_written before first second third fourth a b c d wrote_a wrote_b wrote_c wrote_d =
    two_written before third fourth (a ++ b ++ c) d (three_written before first second third a b c wrote_a wrote_b wrote_c) wrote_d

pub five_written : (before first second third fourth fifth a b c d e : List ℕ) → first ≡ before ++ a → second ≡ first ++ b → third ≡ second ++ c → fourth ≡ third ++ d → fifth ≡ fourth ++ e → fifth ≡ before ++ (a ++ b ++ c ++ d ++ e)
five_written before first second third fourth fifth a b c d e wrote_a wrote_b wrote_c wrote_d wrote_e =
    two_written before fourth fifth (a ++ b ++ c ++ d) e (four_written before first second third fourth a b c d wrote_a wrote_b wrote_c wrote_d) wrote_e

-- what is written next is the front of what is left
pub next_written : (before mid total piece rest whole : List ℕ) → before ++ whole ≡ total → mid ≡ before ++ piece → whole ≡ piece ++ rest → mid ++ rest ≡ total
next_written before mid total piece rest whole so_far wrote splits =
    ap (λ w. w ++ rest) wrote ∙ append_assoc before piece rest ∙ ap (λ t. before ++ t) (sym splits) ∙ so_far
