use Rattle.lynx_report.proofs.drawing.drawing_of.Goals as goal

pub returns : goal.returns
returns c = (
  c.in_ok-verdict.verdict,
  c.in_ok-verdict.ensures,
  c.finding_of.ensures,
  c.in_ok-picture.ensures,
)
