-- What a judgement says of a text.
use Rattle.lynx_set.specs.Rules.{IsSet}
use Rattle.lynx_mend.specs.declared.judging.Judged.{Judged}
use Rattle.lynx_mend.specs.declared.judging.Judged.TheVariants.{Accepted}

-- a set that is accepted has a text
abbrev pub HasText : Judged → Type 0
HasText (Accepted own) = IsSet own.set
HasText judged = Unit {0}
