use Rattle.std.proofs.Common.{◌++◌, refl}
use Rattle.lynx_lines.proofs.Parts.{appends_both}
use Rattle.lynx_report.proofs.run.write_last_lines.Goals as goal

pub returns-clause-ok : goal.returns-clause-ok
returns-clause-ok g c =
    let end = c.in_ok-ending.ensures.ok in
    let rest = c.in_ok-write_rest.ensures.ok in (
      end.0 ++ rest.0,
      record { end_lines = end.0; end = end.1; rest = rest.0; asked = rest.1; lines = refl },
      appends_both _ _ _ end.0 rest.0 end.2 rest.2,
    )
