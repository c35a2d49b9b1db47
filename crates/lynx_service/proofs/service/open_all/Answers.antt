use Rattle.lynx_service.specs.Failures.{FailsToOpen}
use Rattle.lynx_service.specs.Faults.{apart_fault, start_fault}
use Rattle.lynx_service.proofs.Failed.{apart_fails, lost_fails, passed_on, plain_fails, unstarted_fails}
use Rattle.lynx_service.proofs.service.open_all.Goals as goal

pub returns-in_err-found-clause-fails : goal.returns-in_err-found-clause-fails
returns-in_err-found-clause-fails g c =
    let terms = g.K.Keeper.terms in
    let stores = g.S.Stores.store_terms in
    let folder = c.args.service.folder.now in
    passed_on (FailsToOpen terms stores folder c.args.set.now) c.from_residual.result c.in_err-found.field-0.0 c.from_residual.ensures.1
    (plain_fails terms stores folder c.args.set.now c.in_err-found.field-0.0 c.in_err-found.ensures.plain)

pub returns-in_err-judge-clause-fails : goal.returns-in_err-judge-clause-fails
returns-in_err-judge-clause-fails g c =
    let terms = g.K.Keeper.terms in
    let stores = g.S.Stores.store_terms in
    let folder = c.args.service.folder.now in
    passed_on (FailsToOpen terms stores folder c.args.set.now) c.from_residual-in_err-judge.result c.in_err-judge.field-0.0 c.from_residual-in_err-judge.ensures.1
    (lost_fails terms stores folder c.args.set.now _ _ c.in_err-judge.field-0.0 c.in_ok-found.ensures.found c.as_slice.ensures.value c.in_err-judge.ensures.lost)

pub returns-in_err-ports-clause-fails : goal.returns-in_err-ports-clause-fails
returns-in_err-ports-clause-fails g c =
    let terms = g.K.Keeper.terms in
    let stores = g.S.Stores.store_terms in
    let folder = c.args.service.folder.now in
    passed_on (FailsToOpen terms stores folder c.args.set.now) c.from_residual-in_err-ports.result c.in_err-ports.field-0.0 c.from_residual-in_err-ports.ensures.1
    (plain_fails terms stores folder c.args.set.now c.in_err-ports.field-0.0 c.in_err-ports.ensures)

pub returns-in_err-keepers-clause-fails : goal.returns-in_err-keepers-clause-fails
returns-in_err-keepers-clause-fails g c =
    let terms = g.K.Keeper.terms in
    let stores = g.S.Stores.store_terms in
    let folder = c.args.service.folder.now in
    passed_on (FailsToOpen terms stores folder c.args.set.now) c.from_residual-in_err-keepers.result c.in_err-keepers.field-0.0 c.from_residual-in_err-keepers.ensures.1
    c.in_err-keepers.ensures.fails

pub returns-in_err-opened-clause-fails : goal.returns-in_err-opened-clause-fails
returns-in_err-opened-clause-fails g c =
    let terms = g.K.Keeper.terms in
    let stores = g.S.Stores.store_terms in
    let folder = c.args.service.folder.now in
    passed_on (FailsToOpen terms stores folder c.args.set.now) c.from_residual-in_err-opened.result (start_fault c.in_err-opened.field-0.0) c.from_residual-in_err-opened.ensures.1
    (unstarted_fails terms stores folder c.args.set.now c.in_ok-keepers.keepers.items c.in_err-opened.field-0.0 c.in_ok-keepers.ensures.stand c.in_err-opened.ensures.fault)

pub returns-in_err-check-clause-fails : goal.returns-in_err-check-clause-fails
returns-in_err-check-clause-fails g c =
    let terms = g.K.Keeper.terms in
    let stores = g.S.Stores.store_terms in
    let folder = c.args.service.folder.now in
    passed_on (FailsToOpen terms stores folder c.args.set.now) c.from_residual-in_err-check.result (apart_fault c.in_err-check.field-0.0) c.from_residual-in_err-check.ensures.1
    (apart_fails terms stores folder c.args.set.now c.in_ok-opened.opened.set c.in_ok-keepers.keepers.items c.in_ok-opened.opened.servers.items c.in_err-check.field-0.0
    c.in_ok-opened.ensures.set c.in_ok-keepers.ensures.stand c.in_ok-opened.ensures.opened c.in_err-check.ensures)
