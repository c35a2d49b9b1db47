use Rattle.std.proofs.Common.{inl, List, ℕ, subst}
use Rattle.http_server.specs.Response.{IsResponse}
use Rattle.lynx_status.specs.Replies.{fields_for}
use Rattle.lynx_status.proofs.desk.StatusDeskService.call.Goals as goal

pub returns-clause-ok : goal.returns-clause-ok
returns-clause-ok g c =
    let reply = c.in-Ok.reply in
    let ending = c.is_ending-is_ending.result in
    let response = c.fill-filled.new.response in
    let sent = subst (λ (body : List ℕ). IsResponse reply.status (fields_for reply.content reply.status ending) body response) c.as_slice-body.ensures.value c.in-Ok-filled.ensures in
    (ending, inl (reply, c.in-Ok.ensures.replies, sent))
