-- A line that begins or ends with some bytes, and what is asked by it.
use Rattle.std.proofs.Common.{◌≡◌, ◌++◌, ◌-◌, List, ℕ, codes, length, take, drop, ap, sym, ◌∙◌}
use Rattle.std.proofs.lemmas.List.{take-append-drop}
use Rattle.lynx_set.specs.Set.{Set}
use Rattle.lynx_ask.specs.Asking.{IsAskedBy, IsBeginOf, IsLookOf}
use Rattle.lynx_ask.specs.declared.reading.Asked.{Asked}
use Rattle.lynx_ask.specs.declared.reading.Asked.TheVariants as asks

-- one that begins with these bytes is these, and what stands behind them
pub behind : (line first rest : List ℕ) → take (length first) line ≡ first → rest ≡ drop (length first) line → line ≡ first ++ rest
behind line first rest front back =
    sym (take-append-drop (length first) line)
    ∙ ap (λ (low : List ℕ). low ++ drop (length first) line) front
    ∙ ap (λ (high : List ℕ). first ++ high) (sym back)

-- one that ends with these bytes is what stands before them, and these
pub ahead : (line last rest : List ℕ) → drop (length line - length last) line ≡ last → rest ≡ take (length line - length last) line → line ≡ rest ++ last
ahead line last rest back front =
    sym (take-append-drop (length line - length last) line)
    ∙ ap (λ (high : List ℕ). take (length line - length last) line ++ high) back
    ∙ ap (λ (low : List ℕ). low ++ last) (sym front)

-- a line that asks for a begin by its words
pub of_begin : (set : Set) (line words : List ℕ) → line ≡ codes "begin " ++ words → (asked : Asked) → IsBeginOf set words asked → IsAskedBy set line asked
of_begin set line words e (asks.Begin request) told = (words, e, told)
of_begin set line words e (asks.Look chain hop waits) told = absurd told
of_begin set line words e asks.Quit told = absurd told
of_begin set line words e asks.Shut told = absurd told

-- and one that asks for a look
pub of_look : (set : Set) (line words : List ℕ) → line ≡ codes "look " ++ words → (asked : Asked) → IsLookOf set words asked → IsAskedBy set line asked
of_look set line words e (asks.Begin request) told = absurd told
of_look set line words e (asks.Look chain hop waits) told = (words, e, told)
of_look set line words e asks.Quit told = absurd told
of_look set line words e asks.Shut told = absurd told
