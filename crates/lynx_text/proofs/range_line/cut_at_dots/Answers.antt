use Rattle.std.proofs.Common.{◌≡◌, ◌+◌, ◌-◌, ◌≤◌, Some, None, length, drop, take, ap, sym, ◌∙◌, arith}
use Rattle.std.proofs.lemmas.List.{at_drop_all, take_all, length-drop}
use Rattle.lynx_text.specs.Ranges.{begins_with_dots, cut_at_dots}
use Rattle.lynx_text.proofs.Dots.{cut_on, cut_here, cut_later}
use Rattle.lynx_text.proofs.Lookups.{both}
use Rattle.lynx_text.proofs.range_line.cut_at_dots.Goals as goal

pub returns-then-begins_with_dots : goal.returns-then-begins_with_dots
returns-then-begins_with_dots c =
    let word = c.args.word.now in
    let place = c.loop-place.place in
    let rest : take (length word - place) (drop place word) ≡ drop place word = take_all (length word - place) (drop place word) (omega (arith, length-drop place word)) in
    let long : 2 + place ≤ length word = omega (arith, c.begins_with_dots.ensures.long c.if-begins_with_dots.true, ap length rest, length-drop place word, c.loop-place-test.true) in
    ap (λ high. both (take place word) high) (take_all (length word - (place + 2)) (drop (place + 2) word) (omega (arith, length-drop (place + 2) word)) ∙ ap (λ n. drop n word) (omega arith))
    ∙ sym (cut_here word place long (ap begins_with_dots (sym rest) ∙ sym c.begins_with_dots.ensures.value ∙ c.if-begins_with_dots.true)) ∙ c.loop-place.invariant

pub loop-place-preserved : goal.loop-place-preserved
loop-place-preserved c =
    let word = c.args.word.now in
    let place = c.loop-place.place in
    let rest : take (length word - place) (drop place word) ≡ drop place word = take_all (length word - place) (drop place word) (omega (arith, length-drop place word)) in
    sym (cut_later word place c.loop-place-test.true (ap begins_with_dots (sym rest) ∙ sym c.begins_with_dots.ensures.value ∙ c.if-begins_with_dots.false)) ∙ c.loop-place.invariant
