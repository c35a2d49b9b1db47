use Rattle.std.proofs.Common.{◌≡◌, ◌∙◌, ◌++◌, List, ap, subst, sym}
use Rattle.lynx_cluster.specs.declared.finding.Recorded.{Recorded}
use Rattle.lynx_cluster.specs.Clusters.{ClusterState}
use Rattle.lynx_cluster.specs.Records.{recorded_at}
use Rattle.lynx_cluster.proofs.Records.{on_ok}
use Rattle.lynx_entry.specs.Entry.{History}
use Rattle.lynx_keep.specs.HeldBack.{Holding}
use Rattle.lynx_resting.specs.Resting.{RestingState, settled_front}
use Rattle.lynx_rules.specs.Lawful.{record_of}
use Rattle.lynx_server.specs.History.{IsLawfulHistory}
use Rattle.lynx_set.specs.Set.{Set}
use Rattle.lynx_cluster.proofs.cluster.Frontend.find_at.Goals as goal

pub returns : goal.returns
returns g c =
    let set = c.args.self.now.set in
    let is = c.is_of.ensures.0 c.if-not-is_of.false in
    let here = c.deref-4.ensures ∙ sym c.deref-2.ensures in
    let there = c.deref-5.ensures ∙ sym c.deref-4.ensures in
    let set_is = ap (λ (s : RestingState g.row.K.Denot). s.here.set) here ∙ is.set_is ∙ c.deref-3.ensures ∙ ap (λ (s : ClusterState). s.set) c.self.view_is in
    let server_is = ap (λ (s : RestingState g.row.K.Denot). s.here.server) here ∙ is.server_is in
    let front = settled_front c.deref-5.result.now in
    let lawful = subst (λ (s : RestingState g.row.K.Denot). IsLawfulHistory set c.args.server (settled_front s)) (sym there)
    (subst (λ (own : Set). IsLawfulHistory own c.args.server (settled_front c.deref-4.result.now)) set_is
    (subst (λ server. IsLawfulHistory c.deref-4.result.now.here.set server (settled_front c.deref-4.result.now)) server_is c.settled.ensures.lawful)) in
    on_ok c.add_recorded.result (λ (added : c.add_recorded.new.found.items ≡ c.args.found.now.items ++ recorded_at c.args.server (record_of c.args.request.now front)).
    (front, lawful, added)) c.add_recorded.ensures
