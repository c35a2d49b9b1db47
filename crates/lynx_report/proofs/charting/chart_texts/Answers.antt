use Rattle.std.proofs.Common.{subst, inr}
use Rattle.std.specs.Io.KnownBytes.{Appends}
use Rattle.lynx_report.specs.Written.{AppendsPart}
use Rattle.lynx_lines.proofs.Parts.{on_err}
use Rattle.lynx_report.proofs.Asked.{explained_promised}
use Rattle.lynx_report.proofs.charting.chart_texts.Goals as goal

pub returns-clause-ok : goal.returns-clause-ok
returns-clause-ok g c = (
  c.in_ok-ending.chart.items,
  record {
    chains = c.in_ok-set.set;
    is_set = c.in_ok-set.ensures.found.0;
    set_spelled = c.in_ok-set.ensures.found.1;
    events = c.in_ok-events.events.items;
    is_script = c.in_ok-events.ensures.found.0;
    script_spelled = c.in_ok-events.ensures.found.1;
    is_chart = c.in_ok-ending.ensures;
    promised = explained_promised c.in_ok-set.set c.in_ok-events.events.items _ c.in_ok-ending.ensures.explained c.in_ok-set.ensures.found.0 c.in_ok-ending.ensures.explains c.in_ok-ending.ensures.ending_is;
  },
  subst (Appends _ _) c.as_slice.ensures.value c.in_ok-write_bytes.ensures.all,
)

pub returns-in_err-write_bytes-clause-part : goal.returns-in_err-write_bytes-clause-part
returns-in_err-write_bytes-clause-part g c =
    on_err c.from_residual-in_err-write_bytes.result (inr (
      c.in_ok-ending.ending,
      c.in_ok-ending.chart.items,
      record {
        chains = c.in_ok-set.set;
        is_set = c.in_ok-set.ensures.found.0;
        set_spelled = c.in_ok-set.ensures.found.1;
        events = c.in_ok-events.events.items;
        is_script = c.in_ok-events.ensures.found.0;
        script_spelled = c.in_ok-events.ensures.found.1;
        is_chart = c.in_ok-ending.ensures;
        promised = explained_promised c.in_ok-set.set c.in_ok-events.events.items _ c.in_ok-ending.ensures.explained c.in_ok-set.ensures.found.0 c.in_ok-ending.ensures.explains c.in_ok-ending.ensures.ending_is;
      },
      subst (AppendsPart _ _) c.as_slice.ensures.value c.in_err-write_bytes.ensures.part,
    ))
