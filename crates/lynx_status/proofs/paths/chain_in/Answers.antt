use Rattle.std.proofs.Common.{◌≡◌, ◌∙◌, arith}
use Rattle.std.proofs.lemmas.Bool.{false≢true}
use Rattle.lynx_lex.proofs.Equal.{none_some, some_is}
use Rattle.lynx_status.proofs.Cutting.{all_digits, chain_is, pair_is}
use Rattle.lynx_status.proofs.paths.chain_in.Goals as goal

pub returns-in_err-origin-clause-only : goal.returns-in_err-origin-clause-only
returns-in_err-origin-clause-only c chain fits is =
    absurd (none_some (c.in_err-origin.ensures.only _ _ (all_digits chain.origin (omega (arith, fits.origin))) is))

pub returns-in_err-index-clause-only : goal.returns-in_err-index-clause-only
returns-in_err-index-clause-only c chain fits is =
    let parts = pair_is _ _ _ _ (c.in_ok-origin.ensures.only _ _ (all_digits chain.origin (omega (arith, fits.origin))) is) in
    absurd (none_some (c.in_err-index.ensures.only chain.index fits.index parts.1))

pub returns-in_err-origin-2-clause-only : goal.returns-in_err-origin-2-clause-only
returns-in_err-origin-2-clause-only c chain fits is =
    let parts = pair_is _ _ _ _ (c.in_ok-origin.ensures.only _ _ (all_digits chain.origin (omega (arith, fits.origin))) is) in
    absurd (none_some (c.in_err-origin-2.ensures.only chain.origin (omega (arith, fits.origin)) parts.0))

pub returns-in_err-origin-3-clause-only : goal.returns-in_err-origin-3-clause-only
returns-in_err-origin-3-clause-only c chain fits is =
    let parts = pair_is _ _ _ _ (c.in_ok-origin.ensures.only _ _ (all_digits chain.origin (omega (arith, fits.origin))) is) in
    let origin : c.in_ok-origin-2.origin ≡ chain.origin = some_is _ _ (c.in_ok-origin-2.ensures.only chain.origin (omega (arith, fits.origin)) parts.0) in
    absurd (false≢true (c.in_err-origin-3.ensures.valid.1 (omega (arith, origin, fits.origin))))

pub returns-clause-only : goal.returns-clause-only
returns-clause-only c chain fits is =
    let parts = pair_is _ _ _ _ (c.in_ok-origin.ensures.only _ _ (all_digits chain.origin (omega (arith, fits.origin))) is) in
    let origin : c.in_ok-origin-2.origin ≡ chain.origin = some_is _ _ (c.in_ok-origin-2.ensures.only chain.origin (omega (arith, fits.origin)) parts.0) in
    let index : c.in_ok-index.index ≡ chain.index = some_is _ _ (c.in_ok-index.ensures.only chain.index fits.index parts.1) in
    chain_is _ _ chain (c.in_ok-origin-3.ensures.value ∙ origin) index
