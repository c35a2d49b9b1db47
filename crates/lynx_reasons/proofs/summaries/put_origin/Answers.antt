use Rattle.std.proofs.Common.{◌++◌, ◌∙◌, List, ℕ, append_assoc, ap}
use Rattle.std.proofs.lemmas.Result.{on_ok_weaker}
use Rattle.std.specs.Prelude.{codes}
use Rattle.lynx_graph.specs.declared.meeting.Place.{Place}
use Rattle.lynx_reasons.specs.Meets.{server_text}
use Rattle.lynx_reasons.specs.Summaries.{reason_text}
use Rattle.lynx_reasons.proofs.summaries.put_origin.Goals as goal

pub returns : goal.returns
unfolding reason_text
returns c =
    let old = c.args.out.now.items in
    let start : List ℕ = codes ": all begin at" in
    let end : List ℕ = codes ", and keep that order everywhere" in
    let first : Place = record { program = c.args.leader; hop = 0 } in
    let text = server_text c.args.set.now first in
    let begun = c.in_ok-put.ensures ∙ ap (λ (xs : List ℕ). old ++ xs) c.as_slice.ensures in
    let named = c.in_ok-put_server.ensures ∙ ap (λ (xs : List ℕ). xs ++ text) begun ∙ append_assoc old start text in
    on_ok_weaker c.put-2.result
    (λ put. put ∙ ap (λ (xs : List ℕ). c.put_server.new.out.items ++ xs) c.as_slice-2.ensures ∙ ap (λ (xs : List ℕ). xs ++ end) named
    ∙ append_assoc old (start ++ text) end ∙ ap (λ (xs : List ℕ). old ++ xs) (append_assoc start text end))
    c.put-2.ensures
