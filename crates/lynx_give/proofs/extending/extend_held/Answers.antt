use Rattle.lynx_give.proofs.extending.extend_held.Goals as goal

pub returns-clause-given : goal.returns-clause-given
returns-clause-given g c = λ undisturbed.
    (c.in-Ok.ensures.ok undisturbed, c.in-Ok.ensures.of undisturbed, c.in-Ok.ensures.told undisturbed)
