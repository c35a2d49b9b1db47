use Rattle.std.proofs.Common.{◌≡◌, length, arith}
use Rattle.std.proofs.lemmas.List.{nil_from_length}
use Rattle.lynx_cluster.proofs.Takings.{spent_all, spent_more}
use Rattle.lynx_cluster.proofs.taking.told_of.Goals as goal

pub loop-session-preserved : goal.loop-session-preserved
loop-session-preserved c =
    spent_more c.loop-session.told c.with_told-told.result c.into_told.result c.in-Some.session c.loop-session.sessions.rest.items
    c.next.new.self.rest.items c.args.sessions.items c.with_told-told.ensures c.into_told.ensures c.in-Some.ensures.items c.loop-session.invariant

pub returns : goal.returns
returns c =
    let left = c.loop-session.sessions.rest in
    let none : length left.items ≡ 0 = omega (arith, left.ok, c.in_default.ensures.cases) in
    spent_all c.loop-session.told left.items c.args.sessions.items (nil_from_length left.items none) c.loop-session.invariant
