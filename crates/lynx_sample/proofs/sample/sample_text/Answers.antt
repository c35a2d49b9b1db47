use Rattle.std.proofs.Common.{subst, inr}
use Rattle.std.specs.Io.KnownBytes.{Appends}
use Rattle.std.specs.String.{string_bytes}
use Rattle.lynx_lines.specs.Written.{AppendsPart}
use Rattle.lynx_lines.proofs.Parts.{on_err}
use Rattle.lynx_sample.proofs.sample.sample_text.Goals as goal

pub returns-clause-ok : goal.returns-clause-ok
returns-clause-ok g c = (
  string_bytes c.in_ok-script.script,
  record {
    chains = c.in_ok-set.set;
    is_set = c.in_ok-set.ensures.found.0;
    spelled = c.in_ok-set.ensures.found.1;
    sample = c.in_ok-script.ensures.ok;
  },
  subst (Appends _ _) c.as_bytes.ensures.value c.in_ok-write_bytes.ensures.all,
)

pub returns-in_err-write_bytes-clause-part : goal.returns-in_err-write_bytes-clause-part
returns-in_err-write_bytes-clause-part g c =
    on_err c.from_residual-in_err-write_bytes.result (inr (
      string_bytes c.in_ok-script.script,
      record {
        chains = c.in_ok-set.set;
        is_set = c.in_ok-set.ensures.found.0;
        spelled = c.in_ok-set.ensures.found.1;
        sample = c.in_ok-script.ensures.ok;
      },
      subst (AppendsPart _ _) c.as_bytes.ensures.value c.in_err-write_bytes.ensures.part,
    ))
