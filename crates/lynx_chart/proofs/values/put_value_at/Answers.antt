use Rattle.lynx_chart.specs.Values.{value_text}
use Rattle.lynx_chart.proofs.Filled.{first_left}
use Rattle.lynx_chart.proofs.values.put_value_at.Goals as goal

pub returns-in-Some : goal.returns-in-Some
returns-in-Some c =
    rw (first_left value_text c.args.values.now c.args.place c.in-Some.value.now c.in-Some.ensures.lookup.0 c.in-Some.ensures.lookup.1) c.put_value.ensures
