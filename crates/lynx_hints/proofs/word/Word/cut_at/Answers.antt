use Rattle.std.proofs.Common.{◌≡◌, ◌++◌, ◌-◌, List, ℕ, length, take, drop, ap, sym, ◌∙◌, append_assoc, arith}
use Rattle.std.proofs.lemmas.List.{take-append-drop, take_all, length-drop}
use Rattle.std.proofs.lemmas.Slice.Eq.{bytes_eq-Decides}
use Rattle.lynx_hints.proofs.word.Word.cut_at.Goals as goal

-- what stands from a place on, if it begins with these bytes, has the rest behind them
joined_again : (text bytes behind rest : List ℕ) (cut : ℕ) → rest ≡ drop cut text → take (length bytes) rest ≡ bytes → behind ≡ drop (length bytes) rest
    → text ≡ (take cut text ++ bytes) ++ behind
joined_again text bytes behind rest cut is front back =
    sym (take-append-drop cut text)
    ∙ ap (λ (high : List ℕ). take cut text ++ high) (sym is ∙ sym (take-append-drop (length bytes) rest) ∙ ap (λ (low : List ℕ). low ++ drop (length bytes) rest) front ∙ ap (λ (high : List ℕ). bytes ++ high) (sym back))
    ∙ sym (append_assoc (take cut text) bytes behind)

pub returns-in-Some : goal.returns-in-Some
returns-in-Some c =
    let text = c.args.self.now.text.now in
    let cut = c.loop-cut.cut in
    joined_again text c.args.bytes.now c.in-Some.behind.now _ cut
    (take_all (length text - cut) (drop cut text) (omega (arith, length-drop cut text)))
    ((bytes_eq-Decides _ _).0 c.in-Some.ensures.cases.0)
    c.in-Some.ensures.cases.1
