use Rattle.std.proofs.Common.{◌∙◌, ap, refl}
use Rattle.lynx_status.specs.Metrics.{metrics_text}
use Rattle.lynx_status.specs.SetHash.{set_hash}
use Rattle.lynx_status.proofs.answering.metrics.Goals as goal

pub returns : goal.returns
returns g c =
    let figures = c.in_ok-figures.figures in
    let hash = c.set_hash-hash.ensures ∙ ap set_hash c.set_text.ensures in (
      figures,
      c.in_ok-figures.ensures,
      record {
        status_is = refl;
        content_is = refl;
        body_is = c.in_ok-metrics_text.ensures ∙ ap (λ n. metrics_text figures n c.args.version.now) hash;
      },
    )
