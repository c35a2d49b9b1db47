use Rattle.std.proofs.Common.{None, sym, subst}
use Rattle.lynx_port.specs.Exits.{HasServed, HasFailed}
use Rattle.lynx_service.specs.Talks.{HasTalked}
use Rattle.lynx_service.proofs.Talked.{done_so}
use Rattle.lynx_service.proofs.talking.serve_stream.Goals as goal

pub returns : goal.returns
returns g c =
    let begins = g.D.Desk.begins in
    let looks = g.D.Desk.looks in
    let first = c.args.desk.now in
    let last = c.serve-done.new.desk in
    let unwritten = g.O.Write.contents c.new-writer.result.stream in
    let wrote = g.O.Write.contents c.serve-done.new.writer.stream in
    subst (λ stream. HasTalked begins looks first last (g.O.Write.contents c.args.output) (g.O.Write.contents stream)) (sym c.into_stream.ensures)
    (subst (λ stream. HasTalked begins looks first last (g.O.Write.contents stream) wrote) c.new-writer.ensures
    (done_so (HasServed begins looks first last None None unwritten wrote) (HasFailed begins looks first last None None unwritten wrote)
    c.serve-done.result c.serve-done.ensures.served c.serve-done.ensures.failed))
