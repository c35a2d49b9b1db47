use Rattle.std.proofs.Common.{◌∙◌, slice_get, sym, ap}
use Rattle.lynx_weave.specs.Servers.{histories_of}
use Rattle.lynx_weave.proofs.Agreements.{agreed_nowhere, agreed_there, history_nowhere, history_there}
use Rattle.lynx_weave.specs.Told.{server_told}
use Rattle.lynx_weave.proofs.agreeing.agreed_at.Goals as goal

pub returns-in-Some : goal.returns-in-Some
returns-in-Some c =
    agreed_there (histories_of c.args.servers.now) c.args.item.now c.in-Some.here.now.history c.borne_out_at.result
    (history_there c.args.servers.now (server_told c.args.item.now) c.in-Some.here.now
    (ap (slice_get c.args.servers.now) (sym c.server.ensures) ∙ sym c.in-Some.ensures))
    c.borne_out_at.ensures

pub returns-in-None : goal.returns-in-None
returns-in-None c =
    agreed_nowhere (histories_of c.args.servers.now) c.args.item.now
    (history_nowhere c.args.servers.now (server_told c.args.item.now)
    (ap (slice_get c.args.servers.now) (sym c.server.ensures) ∙ sym c.in-None.ensures))
