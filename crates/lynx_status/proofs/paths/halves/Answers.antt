use Rattle.std.proofs.Common.{◌+◌, ◌++◌, ◌∷◌, ◌∙◌, ap, sym, take, List, ℕ, Some}
use Rattle.std.proofs.lemmas.List.{take_rest}
use Rattle.lynx_status.proofs.Cutting.{colon_found, cut_so, cut_there}
use Rattle.lynx_status.proofs.paths.halves.Goals as goal

pub returns-in_err-colon-clause-only : goal.returns-in_err-colon-clause-only
returns-in_err-colon-clause-only c front back digits is =
    let found = colon_found c.args.word.now front back digits is in
    let none = c.in_err-colon.ensures.place in
    absurd cc

pub returns-clause-found : goal.returns-clause-found
returns-clause-found c =
    let word = c.args.word.now in
    let colon = c.in_ok-colon.colon in
    cut_there word colon (sym c.in_ok-colon.ensures.place)
    ∙ ap (λ (rest : List ℕ). take colon word ++ 58 ∷ rest) (sym (take_rest word (colon + 1)))

pub returns-clause-only : goal.returns-clause-only
returns-clause-only c front back digits is =
    let word = c.args.word.now in
    let colon = c.in_ok-colon.colon in
    ap (λ (rest : List ℕ). Some (take colon word, rest)) (take_rest word (colon + 1))
    ∙ cut_so word front back colon (sym c.in_ok-colon.ensures.place) digits is
