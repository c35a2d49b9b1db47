-- What is told of servers, one after another.
use Rattle.std.proofs.Common.{◌≡◌, ◌+◌, ◌<◌, ℕ, zero, suc, List, [], ◌∷◌, ◌++◌, drop, get_or, length, slice_get, Some, add-one, sym, ap, ◌∙◌, append_assoc, arith}
use Rattle.lynx_server.specs.Serving.{Serving}
use Rattle.lynx_restore.specs.declared.restored.RestoredServer.{RestoredServer}
use Rattle.lynx_restore.specs.declared.undone.Undone.{Undone}
use Rattle.lynx_restore.specs.Restored.{restored_at, restored_of, undone_of}
use Rattle.lynx_restore.specs.Undone.{undone_in}

next_restored : {K : Type 0} (counts : List ℕ) (servers : List (Serving K)) (number : ℕ) (here : Serving K) → number < length counts → slice_get servers number ≡ Some here →
    restored_of (drop number counts) (drop number servers)
    ≡ restored_at here (get_or counts number 0) ∷ restored_of (drop (suc number) counts) (drop (suc number) servers)
next_restored [] servers number here within there = absurd (omega (arith, within))
next_restored (count ∷ counts) [] number here within there = cc
next_restored (count ∷ counts) (one ∷ servers) zero here within there =
    let same : one ≡ here = cc in ap (λ s. restored_at s count ∷ restored_of counts servers) same
next_restored (count ∷ counts) (one ∷ servers) (suc number) here within there = next_restored counts servers number here (omega (arith, within)) there

next_undone : {K : Type 0} (counts : List ℕ) (servers : List (Serving K)) (number : ℕ) (here : Serving K) → number < length counts → slice_get servers number ≡ Some here →
    undone_of (drop number counts) (drop number servers)
    ≡ undone_in here.server (drop (get_or counts number 0) here.history) ++ undone_of (drop (suc number) counts) (drop (suc number) servers)
next_undone [] servers number here within there = absurd (omega (arith, within))
next_undone (count ∷ counts) [] number here within there = cc
next_undone (count ∷ counts) (one ∷ servers) zero here within there =
    let same : one ≡ here = cc in ap (λ (s : Serving _). undone_in s.server (drop count s.history) ++ undone_of counts servers) same
next_undone (count ∷ counts) (one ∷ servers) (suc number) here within there = next_undone counts servers number here (omega (arith, within)) there

pub restored_more : {K : Type 0} (counts : List ℕ) (servers : List (Serving K)) (number : ℕ) (here : Serving K) (before after whole : List RestoredServer) →
    number < length counts → slice_get servers number ≡ Some here → after ≡ before ++ restored_at here (get_or counts number 0) ∷ [] →
    before ++ restored_of (drop number counts) (drop number servers) ≡ whole →
    after ++ restored_of (drop (number + 1) counts) (drop (number + 1) servers) ≡ whole
restored_more counts servers number here before after whole within there added is =
    ap (λ n. after ++ restored_of (drop n counts) (drop n servers)) (add-one number)
    ∙ ap (λ l. l ++ restored_of (drop (suc number) counts) (drop (suc number) servers)) added
    ∙ append_assoc before (restored_at here (get_or counts number 0) ∷ []) (restored_of (drop (suc number) counts) (drop (suc number) servers))
    ∙ ap (λ l. before ++ l) (sym (next_restored counts servers number here within there))
    ∙ is

pub undone_more : {K : Type 0} (counts : List ℕ) (servers : List (Serving K)) (number : ℕ) (here : Serving K) (before after whole : List Undone) →
    number < length counts → slice_get servers number ≡ Some here → after ≡ before ++ undone_in here.server (drop (get_or counts number 0) here.history) →
    before ++ undone_of (drop number counts) (drop number servers) ≡ whole →
    after ++ undone_of (drop (number + 1) counts) (drop (number + 1) servers) ≡ whole
undone_more counts servers number here before after whole within there added is =
    ap (λ n. after ++ undone_of (drop n counts) (drop n servers)) (add-one number)
    ∙ ap (λ l. l ++ undone_of (drop (suc number) counts) (drop (suc number) servers)) added
    ∙ append_assoc before (undone_in here.server (drop (get_or counts number 0) here.history)) (undone_of (drop (suc number) counts) (drop (suc number) servers))
    ∙ ap (λ l. before ++ l) (sym (next_undone counts servers number here within there))
    ∙ is
