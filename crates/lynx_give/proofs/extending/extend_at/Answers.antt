use Rattle.std.proofs.Common.{Some, sym, subst}
use Rattle.sqlite.specs.Held.{state}
use Rattle.lynx_give.specs.Given.{IsGiven}
use Rattle.lynx_give.specs.declared.store.Store.TheVariants.{Held}
use Rattle.lynx_give.proofs.extending.extend_at.Goals as goal

pub returns-in_ok-extend_held-in-Held : goal.returns-in_ok-extend_held-in-Held
returns-in_ok-extend_held-in-Held g c =
    let done = c.in_ok-extend_held-in-Held.field-0 in (
      Some done,
      subst (λ store. IsGiven (λ conn. state g.D.Store conn) c.args.set.now c.args.server store (Held c.extend_held.new.conn, Some done)) (sym c.in-Held.is)
          c.in_ok-extend_held-in-Held.ensures.given,
      c.in_ok-extend_held-in-Held.ensures.told,
    )
