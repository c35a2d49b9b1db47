-- Templates, filled as far as a place.
use Rattle.std.proofs.Common.{◌≡◌, ℕ, ◌+◌, ◌<◌, ◌≤◌, List, [], ◌∷◌, ◌++◌, true, ltb, length, get_or, drop, map, refl, sym, ap, ◌∙◌, ◌≢◌}
use Rattle.std.proofs.lemmas.List.{append-nil, drop_more, drop-drop, drop-map, drop_all}
use Rattle.std.proofs.lemmas.Bool.{ltb-true, ne_eqb}
use Rattle.lynx_draw.proofs.Written.{next_written}
use Rattle.lynx_chart.specs.Values.{filled, first_of}

none_filled : (texts : List (List ℕ)) → filled [] texts ≡ []
unfolding filled
none_filled texts = refl

-- nothing is left of the template
pub none_left : (template : List ℕ) (texts : List (List ℕ)) (i : ℕ) (before whole : List ℕ) → length template ≤ i → before ++ filled (drop i template) texts ≡ whole → before ≡ whole
none_left template texts i before whole past so_far =
    sym (append-nil before) ∙ sym (ap (λ t. before ++ t) (ap (λ t. filled t texts) (drop_all i template past) ∙ none_filled texts)) ∙ so_far

gap_filled : (template : List ℕ) (texts : List (List ℕ)) → filled (37 ∷ template) texts ≡ first_of texts ++ filled template (drop 1 texts)
unfolding filled
gap_filled template texts = refl

byte_filled : (byte : ℕ) (template : List ℕ) (texts : List (List ℕ)) → byte ≢ 37 → filled (byte ∷ template) texts ≡ byte ∷ filled template texts
unfolding filled
byte_filled byte template texts other = rw (ne_eqb byte 37 other) refl

-- the next text was written into a gap
pub gap_next : (template : List ℕ) (texts : List (List ℕ)) (i place d : ℕ) (before after whole : List ℕ) → i < length template → get_or template i d ≡ 37 →
    after ≡ before ++ first_of (drop place texts) → before ++ filled (drop i template) (drop place texts) ≡ whole →
    after ++ filled (drop (i + 1) template) (drop (place + 1) texts) ≡ whole
gap_next template texts i place d before after whole within is wrote so_far =
    let rest = drop (i + 1) template in
    let left = drop place texts in
    next_written before after whole (first_of left) (filled rest (drop (place + 1) texts)) (filled (drop i template) left) so_far wrote
    (ap (λ t. filled t left) (drop_more template i d within ∙ ap (λ b. b ∷ rest) is) ∙ gap_filled rest left
    ∙ ap (λ ts. first_of left ++ filled rest ts) (drop-drop 1 place texts))

-- a byte was written that is no gap
pub byte_next : (template : List ℕ) (texts : List (List ℕ)) (i d : ℕ) (before after whole : List ℕ) → i < length template → get_or template i d ≢ 37 →
    after ≡ before ++ get_or template i d ∷ [] → before ++ filled (drop i template) texts ≡ whole → after ++ filled (drop (i + 1) template) texts ≡ whole
byte_next template texts i d before after whole within other wrote so_far =
    let rest = drop (i + 1) template in
    next_written before after whole (get_or template i d ∷ []) (filled rest texts) (filled (drop i template) texts) so_far wrote
    (ap (λ t. filled t texts) (drop_more template i d within) ∙ byte_filled (get_or template i d) rest texts other)

-- the first of what is left of texts is the one at that place
pub first_left : {X : Type 0} (f : X → List ℕ) (xs : List X) (place : ℕ) (x : X) → true ≡ ltb place (length xs) → x ≡ get_or xs place x → first_of (drop place (map f xs)) ≡ f x
first_left f xs place x within is =
    ap first_of (drop-map f place xs ∙ ap (map f) (drop_more xs place x (ltb-true place (length xs) (sym within)) ∙ ap (λ y. y ∷ drop (place + 1) xs) (sym is)))
