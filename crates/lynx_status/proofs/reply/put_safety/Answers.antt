use Rattle.std.proofs.Common.{◌∙◌, append_assoc}
use Rattle.lynx_status.specs.Replies.{safety_fields}
use Rattle.lynx_status.proofs.reply.put_safety.Goals as goal

pub returns-clause-fields : goal.returns-clause-fields
unfolding safety_fields
returns-clause-fields c =
    c.in_ok-add_header-3.ensures.headers
    ∙ simp (c.in_ok-add_header-2.ensures.headers, c.in_ok-add_header.ensures.headers, c.from_static-no_store.ensures, c.from_static-no_sniff.ensures, c.from_static-policy.ensures, append_assoc)
