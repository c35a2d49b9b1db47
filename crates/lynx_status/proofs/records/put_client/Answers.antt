use Rattle.std.proofs.Common.{◌∙◌, append_assoc}
use Rattle.lynx_status.specs.Records.{client_json}
use Rattle.lynx_status.proofs.records.put_client.Goals as goal

pub returns : goal.returns
unfolding client_json
returns c = c.in_ok-write.ensures.bytes ∙ simp (c.number-client.ensures, append_assoc)
