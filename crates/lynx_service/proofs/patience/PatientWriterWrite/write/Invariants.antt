use Rattle.std.specs.Io.KnownBytes.{Keeps}
use Rattle.lynx_service.proofs.patience.PatientWriterWrite.write.Given as goal

abbrev pub invariant-loop : goal.invariant-loop
invariant-loop g l = Keeps (g.W.Write.contents l.fn.self.stream) (g.W.Write.contents l.self.stream)
