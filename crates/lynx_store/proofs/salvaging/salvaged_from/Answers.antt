use Rattle.std.proofs.Common.{◌≡◌, Err, ap, ◌∙◌}
use Rattle.std.proofs.lemmas.Result.{err_from_is_err_and}
use Rattle.lynx_store.specs.declared.fault.StoreFault.TheVariants.{Damaged}
use Rattle.lynx_store.specs.Stored.{owner_for, title_for}
use Rattle.lynx_store.proofs.salvaging.salvaged_from.Goals as goal

pub returns-in_err-heading-clause-damaged : goal.returns-in_err-heading-clause-damaged
returns-in_err-heading-clause-damaged c =
    let p = err_from_is_err_and c.from_residual.result c.from_residual.ensures.1 in
    rw (p.1, p.2) (λ is server chains of titled.
    let own : c.in_err-heading.field-0.0 ≡ Damaged = let e = is in cc in
    c.in_err-heading.ensures.damaged (ap Err own) (title_for (owner_for server chains)) (c.as_slice.ensures.value ∙ titled))
