use Rattle.std.proofs.Common.{sym, subst, take}
use Rattle.std.proofs.KnownBytes.{Keeps-refl, Keeps-trans}
use Rattle.std.specs.Io.KnownBytes.{Appends, Keeps}
use Rattle.lynx_service.proofs.Talked.{kept_on}
use Rattle.lynx_service.proofs.patience.PatientWriterWrite.write.Goals as goal

pub loop-init : goal.loop-init
loop-init g c = Keeps-refl (g.W.Write.contents c.args.self.now.stream)

pub returns-in-Ok-clause-bytes : goal.returns-in-Ok-clause-bytes
returns-in-Ok-clause-bytes g c =
    let before = g.W.Write.contents c.args.self.now.stream in
    let went = take c.in-Ok.count c.args.buf.now in
    subst (λ stream. Appends before (g.W.Write.contents stream) went) (sym c.note.ensures)
    (kept_on before (g.W.Write.contents c.loop.self.stream) (g.W.Write.contents c.write.new.self) went c.loop.invariant c.in-Ok.ensures.bytes)

pub returns-in-Err-2-clause-bytes : goal.returns-in-Err-2-clause-bytes
returns-in-Err-2-clause-bytes g c =
    Keeps-trans (g.W.Write.contents c.args.self.now.stream) (g.W.Write.contents c.loop.self.stream) (g.W.Write.contents c.write.new.self)
    c.loop.invariant c.in-Err-2.ensures.bytes

pub loop-preserved : goal.loop-preserved
loop-preserved g c =
    let before = g.W.Write.contents c.args.self.now.stream in
    subst (λ stream. Keeps before (g.W.Write.contents stream)) (sym c.note-in-Err.ensures)
    (Keeps-trans before (g.W.Write.contents c.loop.self.stream) (g.W.Write.contents c.write.new.self) c.loop.invariant c.in-Err.ensures.bytes)

pub returns-clause-bytes : goal.returns-clause-bytes
returns-clause-bytes g c = c.loop.invariant
