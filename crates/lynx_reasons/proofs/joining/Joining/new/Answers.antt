use Rattle.std.proofs.Common.{◌∙◌, ℕ, ◌++◌, ◌∷◌, [], List, Option, None, false, map, sym, ap, arith}
use Rattle.std.specs.List.{range_with_len}
use Rattle.std.proofs.lemmas.List.FromFn.{map-range_with_len_more}
use Rattle.lynx_set.specs.Lookups.{origin_of}
use Rattle.lynx_reasons.specs.declared.joining.Joined.{Joined}
use Rattle.lynx_reasons.specs.inner.Joinings.{single}
use Rattle.lynx_reasons.proofs.joining.Joining.new.Goals as goal

pub loop-group-preserved : goal.loop-group-preserved
loop-group-preserved c =
    let set = c.args.set.now in
    let group = c.loop-group.group in
    let with_origin : Option ℕ → Joined = λ origin. record { origin = origin; group = group; met = None; is_met_twice = false } in
    c.in_ok-push.ensures.items
    ∙ ap (λ (programs : List Joined). programs ++ with_origin c.origin.result ∷ []) c.loop-group.invariant
    ∙ ap (λ (origin : Option ℕ). map (single set) (range_with_len 0 group) ++ with_origin origin ∷ []) (c.origin.ensures ∙ ap (origin_of set) c.program_of.ensures)
    ∙ sym (map-range_with_len_more (single set) 0 group group (omega arith))
