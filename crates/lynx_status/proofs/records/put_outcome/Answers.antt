use Rattle.std.proofs.Common.{◌≡◌, ◌++◌, ◌∙◌, append_assoc, ap, sym}
use Rattle.std.specs.String.{string_bytes}
use Rattle.lynx_status.specs.Records.{outcome_json}
use Rattle.lynx_status.specs.declared.records.RecordOutcome.{RecordOutcome}
use Rattle.lynx_status.specs.declared.records.RecordOutcome.TheVariants.{Begun, Refused}
use Rattle.lynx_status.proofs.records.put_outcome.Goals as goal

pub returns-in_ok-push_str-in-Begun : goal.returns-in_ok-push_str-in-Begun
unfolding outcome_json
returns-in_ok-push_str-in-Begun c =
    let text : string_bytes c.push_str.new.self ≡ string_bytes c.args.text.now ++ outcome_json (Begun c.in-Begun.chain c.in-Begun.results) =
    c.in_ok-push_str-in-Begun.ensures.bytes
    ∙ simp (c.in_ok-put_values-in-Begun.ensures, c.as_slice.ensures, c.in_ok-write-in-Begun.ensures.bytes, append_assoc) in
    text ∙ ap (λ (outcome : RecordOutcome). string_bytes c.args.text.now ++ outcome_json outcome) (sym c.in-Begun.is)

pub returns-in_ok-write-in-Refused : goal.returns-in_ok-write-in-Refused
unfolding outcome_json
returns-in_ok-write-in-Refused c =
    let text : string_bytes c.write-in-Refused.new.self ≡ string_bytes c.args.text.now ++ outcome_json (Refused c.in-Refused.need) =
    c.in_ok-write-in-Refused.ensures.bytes ∙ simp append_assoc in
    text ∙ ap (λ (outcome : RecordOutcome). string_bytes c.args.text.now ++ outcome_json outcome) (sym c.in-Refused.is)
