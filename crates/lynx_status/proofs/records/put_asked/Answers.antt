use Rattle.std.proofs.Common.{◌∙◌, append_assoc}
use Rattle.lynx_status.specs.Records.{asked_json}
use Rattle.lynx_status.proofs.records.put_asked.Goals as goal

pub returns : goal.returns
unfolding asked_json
returns c =
    c.in_ok-push_str.ensures.bytes
    ∙ simp (c.in_ok-put_values.ensures, c.as_slice.ensures, c.in_ok-write.ensures.bytes, append_assoc)
