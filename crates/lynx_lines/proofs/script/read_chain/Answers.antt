use Rattle.std.proofs.Common.{◌<◌, ◌^◌, List, ℕ, ◌++◌, ◌∷◌, arith, ap, ◌∙◌, sym}
use Rattle.std.specs.Prelude.{decimal}
use Rattle.std.proofs.lemmas.Result.{err_from_is_err_and}
use Rattle.lynx_lines.proofs.SpelledLemmas.{fails_so, one_number, two_parts, chain_parts, parts_joined}
use Rattle.lynx_lines.proofs.script.read_chain.Goals as goal

pub returns-in_default : goal.returns-in_default
returns-in_default c = λ chain fits is.
    c.in_default.ensures.none _ _ (two_parts c.args.word.now chain (omega (arith, fits.0.numbered)) fits.1 is)

pub returns-in_err-origin : goal.returns-in_err-origin
returns-in_err-origin c =
    let p = err_from_is_err_and c.from_residual.result c.from_residual.ensures.1 in
    rw (p.1, p.2) (fails_so c.in_err-origin.field-0.0 _ _
    (λ none chain fits is. none chain.origin (omega (arith, fits.0.numbered))
    (chain_parts c.args.word.now c.in-Some.origin.now c.in-Some.index.now chain (omega (arith, fits.0.numbered)) fits.1 c.in-Some.ensures.found is).0)
    c.in_err-origin.ensures)

pub returns-in_err-index : goal.returns-in_err-index
returns-in_err-index c =
    let p = err_from_is_err_and c.from_residual-in_err-index.result c.from_residual-in_err-index.ensures.1 in
    rw (p.1, p.2) (fails_so c.in_err-index.field-0.0 _ _
    (λ none chain fits is. none chain.index fits.1
    (chain_parts c.args.word.now c.in-Some.origin.now c.in-Some.index.now chain (omega (arith, fits.0.numbered)) fits.1 c.in-Some.ensures.found is).1)
    c.in_err-index.ensures)

pub returns-in_err-origin-2 : goal.returns-in_err-origin-2
returns-in_err-origin-2 c =
    let p = err_from_is_err_and c.from_residual-in_err-origin-2.result c.from_residual-in_err-origin-2.ensures.1 in
    rw (p.1, p.2, c.in_err-origin-2.ensures.err.0) (λ chain fits is.
    let small : chain.origin < 2 ^ 64 = omega (arith, fits.0.numbered) in
    let parts = chain_parts c.args.word.now c.in-Some.origin.now c.in-Some.index.now chain small fits.1 c.in-Some.ensures.found is in
    let same = one_number c.in-Some.origin.now c.in_ok-origin.origin chain.origin c.in_ok-origin.ensures.0 small c.in_ok-origin.ensures.1 parts.0 in
    absurd (omega (arith, same, fits.0.declared, c.servers-servers.ensures.value, c.in_err-origin-2.ensures.err.1)))

pub returns : goal.returns
returns c = (
  (
    record {
      declared = omega (arith, c.in_ok-origin-2.ensures.ok.0, c.in_ok-origin-2.ensures.ok.1, c.servers-servers.ensures.value);
      numbered = omega (arith, c.in_ok-origin-2.ensures.ok.0, c.in_ok-origin-2.ensures.ok.1, c.servers-servers.ensures.few);
    },
    c.in_ok-index.ensures.0,
  ),
  parts_joined c.args.word.now c.in-Some.origin.now c.in-Some.index.now c.in-Some.ensures.found
      ∙ ap (λ (bytes : List ℕ). bytes ++ 58 ∷ c.in-Some.index.now) (c.in_ok-origin.ensures.1 ∙ ap decimal (sym c.in_ok-origin-2.ensures.ok.0))
      ∙ ap (λ (bytes : List ℕ). decimal c.in_ok-origin-2.origin ++ 58 ∷ bytes) c.in_ok-index.ensures.1,
)
