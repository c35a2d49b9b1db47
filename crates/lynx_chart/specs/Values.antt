-- Values, and templates with values in them.
use Rattle.std.specs.Prelude.{ℕ, ◌==◌, List, [], ◌∷◌, ◌++◌, decimal, drop, if◌then◌else◌}
use Rattle.lynx_chart.specs.Spots.{route_text}
use Rattle.lynx_chart.specs.Texts.{escaped, fitted, title_line}
use Rattle.lynx_chart.specs.declared.values.Value.{Value}
use Rattle.lynx_chart.specs.declared.values.Value.TheVariants.{Number, Plain, Escaped, Fitted, TitleLine, Route}

-- the bytes of a value
abbrev pub value_text : Value → List ℕ
value_text (Number number) = decimal number
value_text (Plain bytes) = bytes.now
value_text (Escaped text) = escaped text.now
value_text (Fitted most text) = fitted most text.now
value_text (TitleLine line) = title_line line.now
value_text (Route from to shift) = route_text from.now to.now shift

-- the first of these texts, if there is one
abbrev pub first_of : List (List ℕ) → List ℕ
first_of [] = []
first_of (text ∷ texts) = text

-- a template, with the texts where it has a `%`, one after another
unfoldable pub filled : List ℕ → List (List ℕ) → List ℕ
filled [] texts = []
filled (byte ∷ template) texts =
    if byte == 37 then first_of texts ++ filled template (drop 1 texts)
    else byte ∷ filled template texts
