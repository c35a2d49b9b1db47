use Rattle.std.proofs.Common.{◌++◌, List, ℕ, ap, ◌∙◌}
use Rattle.std.proofs.lemmas.Result.{IfOk-weaker}
use Rattle.std.proofs.lemmas.Slice.Eq.{bytes_eq-Decides}
use Rattle.lynx_ask.specs.Asking.{IsAskedBy, IsBeginOf, IsLookOf}
use Rattle.lynx_ask.proofs.Cuts.{behind, of_begin, of_look}
use Rattle.lynx_ask.proofs.reading.read_asked.Goals as goal

pub returns-in-Some : goal.returns-in-Some
returns-in-Some c =
    let set = c.args.set.now in
    let line = c.args.line.now in
    let words = c.in-Some.words.now in
    let cut = behind line c.as_slice-3.result.now words ((bytes_eq-Decides _ _).0 c.in-Some.ensures.cases.0) c.in-Some.ensures.cases.1 in
    let told = cut ∙ ap (λ (first : List ℕ). first ++ words) c.as_slice-3.ensures in
    IfOk-weaker c.read_begin.result (IsBeginOf set words) (IsAskedBy set line) (of_begin set line words told) c.read_begin.ensures

pub returns-in-Some-strip_prefix : goal.returns-in-Some-strip_prefix
returns-in-Some-strip_prefix c =
    let set = c.args.set.now in
    let line = c.args.line.now in
    let words = c.in-Some-strip_prefix.words.now in
    let cut = behind line c.as_slice-in_default.result.now words ((bytes_eq-Decides _ _).0 c.in-Some-strip_prefix.ensures.cases.0) c.in-Some-strip_prefix.ensures.cases.1 in
    let told = cut ∙ ap (λ (first : List ℕ). first ++ words) c.as_slice-in_default.ensures in
    IfOk-weaker c.read_look.result (IsLookOf set words) (IsAskedBy set line) (of_look set line words told) c.read_look.ensures
