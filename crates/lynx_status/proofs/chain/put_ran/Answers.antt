use Rattle.std.proofs.Common.{◌≡◌, ◌++◌, ◌∙◌, append_assoc, ap, sym, Some, Option}
use Rattle.std.proofs.lemmas.List.{append-nil}
use Rattle.std.specs.String.{string_bytes}
use Rattle.lynx_status.specs.Chains.{ran_json}
use Rattle.lynx_status.specs.declared.chain.RanHop.{RanHop}
use Rattle.lynx_status.proofs.chain.put_ran.Goals as goal

pub returns-in_ok-push_str : goal.returns-in_ok-push_str
unfolding ran_json
returns-in_ok-push_str c =
    let text : string_bytes c.push_str.new.self ≡ string_bytes c.args.text.now ++ ran_json (Some c.in-Some.ran) =
    c.in_ok-push_str.ensures.bytes
    ∙ simp (c.in_ok-put_values.ensures, c.as_slice.ensures, c.in_ok-write.ensures.bytes, append_assoc) in
    text ∙ ap (λ (ran : Option RanHop). string_bytes c.args.text.now ++ ran_json ran) (sym c.in-Some.is)

pub returns-in_default : goal.returns-in_default
unfolding ran_json
returns-in_default c =
    sym (ap (λ (ran : Option RanHop). string_bytes c.args.text.now ++ ran_json ran) c.in_default.is ∙ append-nil (string_bytes c.args.text.now))
