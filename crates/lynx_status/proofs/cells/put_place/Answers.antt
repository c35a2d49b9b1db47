use Rattle.std.proofs.Common.{◌∙◌, append_assoc}
use Rattle.lynx_status.specs.Cells.{place_json}
use Rattle.lynx_status.proofs.cells.put_place.Goals as goal

pub returns : goal.returns
unfolding place_json
returns c = c.in_ok-write.ensures.bytes ∙ simp append_assoc
