use Rattle.std.proofs.Common.{◌<◌, ◌++◌, List, ℕ, inl, inr, length, sym, ap, subst, ◌∙◌, arith, rules}
use Rattle.std.specs.List.{AllByRecursion}
use Rattle.lynx_entry.specs.declared.event.Event.{Event}
use Rattle.lynx_lines.specs.Scripts.{FitsEvent, script_of}
use Rattle.lynx_lines.proofs.EventLemmas.{event_line, memory_or, script-push, script_left, all-push}
use Rattle.lynx_lex.proofs.NextLine.{same_line}
use Rattle.lynx_lines.proofs.script.parse_script.Goals as goal

pub returns-in-Err-clause-only : goal.returns-in-Err-clause-only
returns-in-Err-clause-only c = elim (memory_or c.in-Err.fault _ c.in-Err.ensures.only) [
  | inl memory ↦ inl (c.on.ensures.kind ∙ memory)
  | inr none ↦ inr (λ events script is.
      let others = c.lines.invariant.more events script.0 is in
      let some : 0 < length c.lines.rest.now = search (arith, rules) in
      let first = script_left c.args.set.now others.0 c.lines.rest.now some others.1 others.2 in
      none first.0 (script_of c.args.set.now first.1) first.2 first.4)
]

pub lines-preserved : goal.lines-preserved
lines-preserved c =
    let set = c.args.set.now in
    let found = c.in-Ok.ensures.found in
    record {
      fit = subst (AllByRecursion (FitsEvent set)) (sym found.2) (all-push set c.lines.events.items found.0 c.lines.invariant.fit found.1);
      spelled = c.lines.invariant.spelled ∙ ap (λ (bytes : List ℕ). script_of set c.lines.events.items ++ bytes) found.3
          ∙ sym (script-push set c.lines.events.items found.0 c.in-Ok.rest.now) ∙ ap (λ (events : List Event). script_of set events ++ c.in-Ok.rest.now) (sym found.2);
      more = λ events fit is.
          let others = c.lines.invariant.more events fit is in
          let some : 0 < length c.lines.rest.now = search (arith, rules) in
          let first = script_left set others.0 c.lines.rest.now some others.1 others.2 in
          (first.1, first.3, (same_line c.lines.rest.now c.in-Ok.ensures.next.1 (event_line set first.0 c.lines.rest.now (script_of set first.1) first.2 first.4)).1);
    }
