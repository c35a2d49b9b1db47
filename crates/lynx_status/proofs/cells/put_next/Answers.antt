use Rattle.std.proofs.Common.{◌≡◌, ◌++◌, ◌∙◌, ℕ, append_assoc, ap, sym, Some, Option}
use Rattle.std.proofs.lemmas.List.{append-nil}
use Rattle.std.specs.String.{string_bytes}
use Rattle.lynx_status.specs.Cells.{next_json}
use Rattle.lynx_status.proofs.cells.put_next.Goals as goal

pub returns-in_ok-write : goal.returns-in_ok-write
unfolding next_json
returns-in_ok-write c =
    let text : string_bytes c.write.new.self ≡ string_bytes c.args.text.now ++ next_json (Some c.in-Some.key) = c.in_ok-write.ensures.bytes ∙ simp append_assoc in
    text ∙ ap (λ (next : Option ℕ). string_bytes c.args.text.now ++ next_json next) (sym c.in-Some.is)

pub returns-in_default : goal.returns-in_default
unfolding next_json
returns-in_default c =
    sym (ap (λ (next : Option ℕ). string_bytes c.args.text.now ++ next_json next) c.in_default.is ∙ append-nil (string_bytes c.args.text.now))
