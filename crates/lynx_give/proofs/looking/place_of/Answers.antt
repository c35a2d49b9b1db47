use Rattle.lynx_give.proofs.looking.place_of.Goals as goal

pub returns-then-found-clause-extendable : goal.returns-then-found-clause-extendable
returns-then-found-clause-extendable g c = λ undisturbed. (c.in_ok-found.found.entries, c.in_ok-found.ensures.ok undisturbed)

pub returns-clause-extendable : goal.returns-clause-extendable
returns-clause-extendable g c = λ undisturbed. (c.in_ok-found.found.entries, c.in_ok-found.ensures.ok undisturbed)
