use Rattle.std.proofs.Common.{Ok, inl, inr, refl, rules}
use Rattle.lynx_service.specs.declared.fault.ServeFault.TheVariants as serve
use Rattle.lynx_service.specs.Failures.{FailsToServe, IsPlain}
use Rattle.lynx_service.specs.Faults.{start_fault}
use Rattle.lynx_service.proofs.Ends.{ends_well, of_ok}
use Rattle.lynx_service.proofs.Failed.{closes_ill, late_plain, of_err, passed_on}
use Rattle.lynx_service.proofs.service.serve_stores.Goals as goal

pub returns-in-Ok-clause-served : goal.returns-in-Ok-clause-served
returns-in-Ok-clause-served g c =
    let all = c.in_ok-opened.ensures in
    ends_well g.K.Keeper.terms g.S.Stores.store_terms c.args.service.folder.now c.args.service.is_order_apart c.args.set.now _ all.opened.0 _ _ _ _ _ _ (g.W.Write.contents c.args.writer.now) _ (g.W.Write.contents c.end.new.writer)
    c.in-Ok.closed.world (Ok _) all.set all.opened.1 all.opened.2 all.sent c.in_ok-cluster.ensures.started c.finish-copied.ensures.same c.in-Ok.ensures.closed
    (of_ok _ _ _ c.in_default.is c.serve_when_told-sessions.ensures.written) c.in_ok-explained-in-Ok.ensures.ended c.in_ok-explained-in-Ok.ensures.let_go

pub returns-in_err-opened-clause-fails : goal.returns-in_err-opened-clause-fails
returns-in_err-opened-clause-fails g c =
    passed_on (FailsToServe g.K.Keeper.terms g.S.Stores.store_terms c.args.service.folder.now c.args.set.now (g.W.Write.contents c.args.writer.now) (g.W.Write.contents c.args.writer.now))
    c.from_residual.result c.in_err-opened.field-0.0 c.from_residual.ensures.1 (inl (c.in_err-opened.ensures.fails, refl))

pub returns-in_err-room-clause-fails : goal.returns-in_err-room-clause-fails
returns-in_err-room-clause-fails g c =
    passed_on (FailsToServe g.K.Keeper.terms g.S.Stores.store_terms c.args.service.folder.now c.args.set.now (g.W.Write.contents c.args.writer.now) (g.W.Write.contents c.args.writer.now))
    c.from_residual-in_err-room.result serve.Memory c.from_residual-in_err-room.ensures.1 (inr (inr tt))

pub returns-in_err-copier-clause-fails : goal.returns-in_err-copier-clause-fails
returns-in_err-copier-clause-fails g c =
    passed_on (FailsToServe g.K.Keeper.terms g.S.Stores.store_terms c.args.service.folder.now c.args.set.now (g.W.Write.contents c.args.writer.now) (g.W.Write.contents c.args.writer.now))
    c.from_residual-in_err-copier.result c.in_err-copier.field-0.0 c.from_residual-in_err-copier.ensures.1 (inr (inr c.in_err-copier.ensures))

pub returns-in_err-files-clause-fails : goal.returns-in_err-files-clause-fails
returns-in_err-files-clause-fails g c =
    passed_on (FailsToServe g.K.Keeper.terms g.S.Stores.store_terms c.args.service.folder.now c.args.set.now (g.W.Write.contents c.args.writer.now) (g.W.Write.contents c.args.writer.now))
    c.from_residual-in_err-files.result serve.Memory c.from_residual-in_err-files.ensures.1 (inr (inr tt))

pub returns-in_err-metrics-clause-fails : goal.returns-in_err-metrics-clause-fails
returns-in_err-metrics-clause-fails g c =
    passed_on (FailsToServe g.K.Keeper.terms g.S.Stores.store_terms c.args.service.folder.now c.args.set.now (g.W.Write.contents c.args.writer.now) (g.W.Write.contents c.args.writer.now))
    c.from_residual-in_err-metrics.result serve.Memory c.from_residual-in_err-metrics.ensures.1 (inr (inr tt))

pub returns-in_err-cluster-clause-fails : goal.returns-in_err-cluster-clause-fails
returns-in_err-cluster-clause-fails g c =
    passed_on (FailsToServe g.K.Keeper.terms g.S.Stores.store_terms c.args.service.folder.now c.args.set.now (g.W.Write.contents c.args.writer.now) (g.W.Write.contents c.args.writer.now))
    c.from_residual-in_err-cluster.result (start_fault c.in_err-cluster.field-0.0) c.from_residual-in_err-cluster.ensures.1 (inr (inr (late_plain c.in_err-cluster.field-0.0 c.in_err-cluster.ensures.fault)))

pub returns-in-Err-clause-fails : goal.returns-in-Err-clause-fails
returns-in-Err-clause-fails g c = inr (inr (of_err IsPlain _ c.in-Err.fault c.in-Err.is c.serve_when_told-sessions.ensures.plain))

pub returns-in_err-explained-in-Ok-clause-fails : goal.returns-in_err-explained-in-Ok-clause-fails
returns-in_err-explained-in-Ok-clause-fails g c =
    passed_on (FailsToServe g.K.Keeper.terms g.S.Stores.store_terms c.args.service.folder.now c.args.set.now (g.W.Write.contents c.args.writer.now) (g.W.Write.contents c.end.new.writer))
    c.from_residual-in_err-explained-in-Ok.result c.in_err-explained-in-Ok.field-0.0 c.from_residual-in_err-explained-in-Ok.ensures.1 (inr (inr c.in_err-explained-in-Ok.ensures.plain))

pub returns-clause-fails : goal.returns-clause-fails
returns-clause-fails g c =
    let all = c.in_ok-opened.ensures in
    closes_ill g.K.Keeper.terms g.S.Stores.store_terms c.args.service.folder.now c.args.set.now _ all.opened.0 _ _ _ _ c.in-Err-closed.fault (g.W.Write.contents c.args.writer.now) _ _
    all.set all.opened.1 all.opened.2 all.sent c.in_ok-cluster.ensures.started c.finish-copied.ensures.same c.in-Err-closed.ensures.fault c.from.ensures
    (of_ok _ _ _ c.in_default.is c.serve_when_told-sessions.ensures.written)
