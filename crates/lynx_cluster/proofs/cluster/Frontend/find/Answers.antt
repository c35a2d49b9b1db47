use Rattle.std.proofs.Common.{◌≡◌, ◌∙◌, ◌++◌, [], List, ℕ, ap, arith, subst, sym}
use Rattle.lynx_cluster.specs.declared.finding.Recorded.{Recorded}
use Rattle.lynx_cluster.specs.Clusters.{ClusterState}
use Rattle.lynx_cluster.specs.Records.{recorded_at, recorded_by}
use Rattle.lynx_cluster.proofs.Records.{AreRecordsBelow, records_more, records_none}
use Rattle.lynx_entry.specs.Entry.{History}
use Rattle.lynx_entry.specs.declared.request.Request.{Request}
use Rattle.lynx_rules.specs.Lawful.{record_of}
use Rattle.lynx_server.specs.History.{IsLawfulHistory}
use Rattle.lynx_set.specs.Set.{Set}
use Rattle.lynx_cluster.proofs.cluster.Frontend.find.Goals as goal

pub loop-server-init : goal.loop-server-init
loop-server-init g c =
    let request : Request = record { client = c.args.client; number = c.args.number; program = c.in-Some.program; args = c.new-2.result } in
    record {
      records = subst (AreRecordsBelow c.args.self.now.set request 0) (sym c.new-found.ensures.items) (records_none c.args.self.now.set request);
      within = omega arith;
    }

pub loop-server-preserved : goal.loop-server-preserved
loop-server-preserved g c =
    let set = c.args.self.now.set in
    let request : Request = record { client = c.args.client; number = c.args.number; program = c.in-Some.program; args = c.new-2.result } in
    let is = c.loop-server.invariant in
    let less = c.loop-server-test.true in
    let count : c.servers-server-end.result ≡ set.servers =
    c.servers-server-end.ensures.value ∙ ap (λ (s : Set). s.servers) (c.deref.ensures ∙ ap (λ (s : ClusterState). s.set) c.self.view_is) in
    let more = subst (λ server. (history : History) × IsLawfulHistory set server history
    × (c.find_at.new.found.items ≡ c.loop-server.found.items ++ recorded_at server (record_of request history))) c.at.ensures c.in_ok-find_at.ensures in
    record {
      records = records_more set request c.loop-server.server c.loop-server.found.items c.find_at.new.found.items is.records more;
      within = omega (arith, less, count);
    }

pub returns : goal.returns
returns g c =
    let set = c.args.self.now.set in
    let is = c.loop-server.invariant in
    let records = is.records in
    let past = c.loop-server-test.false in
    let within = is.within in
    let count : c.servers-server-end.result ≡ set.servers =
    c.servers-server-end.ensures.value ∙ ap (λ (s : Set). s.servers) (c.deref.ensures ∙ ap (λ (s : ClusterState). s.set) c.self.view_is) in
    let many = records.many in
    let program : ℕ → List ℕ → Request = λ program args. record { client = c.args.client; number = c.args.number; program = program; args = args } in
    let same = ap (λ (n : ℕ). program n c.new-2.result) c.in-Some.ensures.value ∙ ap (program 0) c.new-2.ensures in
    record {
      histories = records.histories;
      many = omega (arith, many, past, within, count);
      lawful = records.lawful;
      found_is = records.found_is ∙ ap (λ (request : Request). recorded_by request 0 records.histories) same;
    }
