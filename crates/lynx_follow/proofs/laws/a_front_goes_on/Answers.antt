use Rattle.std.proofs.Common.{◌≡◌, ◌++◌, ◌∙◌, drop, length, take, ap, sym, append_assoc}
use Rattle.std.proofs.Math.Seq.{drop-append_seam}
use Rattle.std.proofs.lemmas.List.{take-append-drop}
use Rattle.lynx_entry.specs.Entry.{History}
use Rattle.lynx_follow.proofs.laws.a_front_goes_on.Goals as goal

pub returns : goal.returns
returns c front history most is =
    let behind : drop (length front) history ≡ is.rest = ap (drop (length front)) is.is ∙ drop-append_seam front is.rest in
    record {
      rest = drop most is.rest;
      is = is.is ∙ ap (λ (l : History). front ++ l) (sym (take-append-drop most is.rest))
          ∙ sym (append_assoc front (take most is.rest) (drop most is.rest))
          ∙ ap (λ (l : History). (front ++ take most l) ++ drop most is.rest) (sym behind);
    }
