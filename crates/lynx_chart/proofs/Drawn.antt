-- Shapes that are drawn one after another.
use Rattle.std.proofs.Common.{◌≡◌, ℕ, ◌+◌, List, [], ◌∷◌, ◌++◌, sym, ap, ◌∙◌, add-one, arith}
use Rattle.std.specs.List.{flat_map, range_with_len}
use Rattle.std.proofs.lemmas.Grind.{flat_map-append}
use Rattle.std.proofs.lemmas.List.{append-nil}
use Rattle.lynx_draw.proofs.Written.{next_written, two_written}
use Rattle.lynx_chart.specs.Shapes.{Shape, drawn, shape_text}
use Rattle.lynx_chart.proofs.Rests.{range_further}

pub drawn-append : (xs ys : List Shape) → drawn (xs ++ ys) ≡ drawn xs ++ drawn ys
drawn-append xs ys = flat_map-append shape_text xs ys

-- one shape alone
pub one_drawn : (before after : List ℕ) (shape : Shape) → after ≡ before ++ shape_text shape → after ≡ before ++ drawn (shape ∷ [])
one_drawn before after shape wrote = wrote ∙ ap (λ t. before ++ t) (sym (append-nil (shape_text shape)))

-- some and then others
pub two_drawn : (before mid after : List ℕ) (a b : List Shape) → mid ≡ before ++ drawn a → after ≡ mid ++ drawn b → after ≡ before ++ drawn (a ++ b)
two_drawn before mid after a b wrote_a wrote_b =
    two_written before mid after (drawn a) (drawn b) wrote_a wrote_b ∙ ap (λ t. before ++ t) (sym (drawn-append a b))

-- what is drawn next is the front of what is left
pub next_drawn : (before mid total : List ℕ) (piece rest whole : List Shape) → before ++ drawn whole ≡ total → mid ≡ before ++ drawn piece → whole ≡ piece ++ rest →
    mid ++ drawn rest ≡ total
next_drawn before mid total piece rest whole so_far wrote splits =
    next_written before mid total (drawn piece) (drawn rest) (drawn whole) so_far wrote (ap drawn splits ∙ drawn-append piece rest)

-- what is drawn of a number comes behind what is drawn of those before it
pub number_drawn : (own : ℕ → List Shape) (n : ℕ) (before mid after : List ℕ) → mid ≡ before ++ drawn (flat_map own (range_with_len 0 n)) → after ≡ mid ++ drawn (own n) →
    after ≡ before ++ drawn (flat_map own (range_with_len 0 (n + 1)))
number_drawn own n before mid after so_far wrote =
    two_drawn before mid after (flat_map own (range_with_len 0 n)) (own n) so_far wrote
    ∙ ap (λ shapes. before ++ drawn shapes) (sym (ap (λ k. flat_map own (range_with_len 0 k)) (add-one n) ∙ range_further own 0 n n (omega arith)))
