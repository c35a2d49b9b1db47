use Rattle.std.proofs.Common.{◌++◌, List, ℕ, ap, subst, sym, ◌∙◌}
use Rattle.std.specs.Prelude.{IfOk}
use Rattle.std.proofs.lemmas.Slice.Eq.{bytes_eq-Decides}
use Rattle.lynx_ask.specs.Asking.{IsLookOf}
use Rattle.lynx_ask.proofs.Cuts.{ahead}
use Rattle.lynx_ask.proofs.reading.read_look.Goals as goal

pub returns-in-Some : goal.returns-in-Some
returns-in-Some c =
    let message = c.in-Some.message.now in
    let cut = ahead c.args.words.now c.as_slice.result.now message ((bytes_eq-Decides _ _).0 c.in-Some.ensures.cases.0) c.in-Some.ensures.cases.1 in
    let told = cut ∙ ap (λ (last : List ℕ). message ++ last) c.as_slice.ensures in
    subst (λ words. IfOk c.read_message.result (IsLookOf c.args.set.now words)) (sym told) c.read_message.ensures
