-- Entries that were kept, compared with those that the server did.
use Rattle.std.proofs.Common.{◌≡◌, ◌∙◌, ◌++◌, ◌∷◌, ◌+◌, ◌<◌, ◌≤◌, [], ℕ, List, ap, append_assoc, arith, length, slice_index_or, sym, take}
use Rattle.std.proofs.lemmas.List.{append-nil, get_or-take, get_or_append_left, get_or_at, length-append, length-take, length-take-le, take_all, take_more}
use Rattle.lynx_entry.specs.Entry.{History}
use Rattle.lynx_entry.specs.declared.entry.Entry.{Entry}

-- one more is the same
pub same_next : (kept did now next : History) (i : ℕ) (entry : Entry) → i < length did → entry ≡ slice_index_or did i entry →
    kept ≡ take i did ++ now → now ≡ entry ∷ next → kept ≡ take (i + 1) did ++ next
same_next kept did now next i entry within at is first =
    is ∙ ap (λ l. take i did ++ l) first ∙ sym (append_assoc (take i did) (entry ∷ []) next)
    ∙ ap (λ (x : Entry). (take i did ++ x ∷ []) ++ next) at
    ∙ ap (λ l. l ++ next) (sym (take_more did i entry within))

-- none is left to compare, since none was kept any more
pub all_kept : (kept did : History) (i : ℕ) → i ≤ length did → kept ≡ take i did ++ [] → kept ≡ take (length kept) did ++ []
all_kept kept did i within is =
    let long : length kept ≡ i = ap length (is ∙ append-nil (take i did)) ∙ length-take-le i did within in
    is ∙ ap (λ n. take n did ++ []) (sym long)

-- none is left to compare, since the server did no more
pub all_done : (kept did now : History) (i : ℕ) → length did ≤ i → kept ≡ take i did ++ now → kept ≡ take (length kept) did ++ now
all_done kept did now i out is =
    let whole : take i did ≡ did = take_all i did out in
    let long : length kept ≡ length did + length now = ap length (is ∙ ap (λ l. l ++ now) whole) ∙ length-append did now in
    is ∙ ap (λ l. l ++ now) (whole ∙ sym (take_all (length kept) did (omega (arith, long))))

-- one differs, whatever is left
pub other_is : (kept did now rest : History) (i : ℕ) (first entry : Entry) → i < length did → entry ≡ slice_index_or did i entry →
    kept ≡ take i did ++ first ∷ now → (first ≡ entry → ⊥) → kept ≡ take (length kept) did ++ rest → ⊥
other_is kept did now rest i first entry within at is differs other =
    let before : length (take i did) ≡ i = length-take-le i did (omega (arith, within)) in
    let long : length kept ≡ length (take i did) + length (first ∷ now) = ap length is ∙ length-append (take i did) (first ∷ now) in
    let theirs : slice_index_or kept i entry ≡ first = ap (λ l. slice_index_or l i entry) is ∙ get_or_at (take i did) first now entry i before in
    let ours : slice_index_or kept i entry ≡ entry = ap (λ l. slice_index_or l i entry) other
    ∙ get_or_append_left (take (length kept) did) rest entry i (omega (arith, within, before, long, length-take (length kept) did))
    ∙ get_or-take (length kept) did i entry (omega (arith, before, long)) ∙ sym at in
    differs (sym theirs ∙ ours)
