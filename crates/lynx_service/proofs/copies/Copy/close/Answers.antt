use Rattle.std.proofs.Common.{None, subst, sym, true, ◌∙◌}
use Rattle.std.specs.Prelude.{IfSome}
use Rattle.lynx_follow.specs.declared.following.Follower.{Follower}
use Rattle.lynx_service.proofs.Followed.{of_followed}
use Rattle.lynx_service.proofs.copies.Copy.close.Goals as goal

pub returns-in_default : goal.returns-in_default
returns-in_default g c _ =
    let Closed = g.S.Stores.store_terms.closed in
    of_followed (λ (it : Follower _). it.keeper) c.args.self.now.follower c.keeper_to_close.result (λ keeper. Closed keeper true) c.keeper_to_close.ensures
    (subst (λ o. IfSome o (λ keeper. Closed keeper true)) (sym c.in_default.is) tt)

pub returns : goal.returns
returns g c well =
    let Closed = g.S.Stores.store_terms.closed in
    of_followed (λ (it : Follower _). it.keeper) c.args.self.now.follower c.keeper_to_close.result (λ keeper. Closed keeper true) c.keeper_to_close.ensures
    (subst (λ o. IfSome o (λ keeper. Closed keeper true)) (sym c.in-Some.is) (subst (λ is. Closed c.in-Some.keeper is) well c.let_go-is_closed.ensures))
