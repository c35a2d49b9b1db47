use Rattle.std.proofs.Common.{subst, inr}
use Rattle.std.specs.Io.KnownBytes.{Appends}
use Rattle.lynx_report.specs.Written.{AppendsPart}
use Rattle.lynx_lines.proofs.Parts.{on_err}
use Rattle.lynx_report.proofs.drawing.draw_text.Goals as goal

pub returns-clause-ok : goal.returns-clause-ok
returns-clause-ok g c = (
  c.in_ok-finding.picture.items,
  record {
    chains = c.in_ok-set.set;
    is_set = c.in_ok-set.ensures.found.0;
    spelled = c.in_ok-set.ensures.found.1;
    drawing = c.in_ok-finding.ensures;
  },
  subst (Appends _ _) c.as_slice.ensures.value c.in_ok-write_bytes.ensures.all,
)

pub returns-in_err-write_bytes-clause-part : goal.returns-in_err-write_bytes-clause-part
returns-in_err-write_bytes-clause-part g c =
    on_err c.from_residual-in_err-write_bytes.result (inr (
      c.in_ok-finding.finding,
      c.in_ok-finding.picture.items,
      record {
        chains = c.in_ok-set.set;
        is_set = c.in_ok-set.ensures.found.0;
        spelled = c.in_ok-set.ensures.found.1;
        drawing = c.in_ok-finding.ensures;
      },
      subst (AppendsPart _ _) c.as_slice.ensures.value c.in_err-write_bytes.ensures.part,
    ))
