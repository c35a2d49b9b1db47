use Rattle.std.proofs.Common.{◌≡◌, ◌++◌, ◌∙◌, drop, length, take, ap, sym, append_assoc}
use Rattle.std.proofs.Math.Seq.{drop-append_seam}
use Rattle.std.proofs.lemmas.List.{take-append-drop}
use Rattle.lynx_entry.specs.Entry.{History}
use Rattle.lynx_follow.proofs.laws.what_was_compared_is_a_front.Goals as goal

pub returns : goal.returns
returns c front rest left did history is part same =
    let most = length rest in
    let some = length did in
    let behind : drop (length front) history ≡ is.rest = ap (drop (length front)) is.is ∙ drop-append_seam front is.rest in
    let here : did ≡ take some is.rest = part ∙ ap (take some) behind in
    let parts : is.rest ≡ take most did ++ (drop most did ++ drop some is.rest) =
    sym (take-append-drop some is.rest) ∙ ap (λ (l : History). l ++ drop some is.rest) (sym here ∙ sym (take-append-drop most did))
    ∙ append_assoc (take most did) (drop most did) (drop some is.rest) in (
      record {
        rest = drop most did ++ drop some is.rest;
        is = is.is ∙ ap (λ (l : History). front ++ l) parts ∙ sym (append_assoc front (take most did) (drop most did ++ drop some is.rest));
      },
      ap (λ (l : History). front ++ l) same ∙ sym (append_assoc front (take most did) left),
    )
