use Rattle.std.proofs.Common.{◌≡◌, [], length, drop}
use Rattle.lynx_lex.specs.Lines.{texts}
use Rattle.lynx_text.specs.Parts.{parameters_of}
use Rattle.lynx_text.proofs.reading.read_parameters.Given as goal

-- what is left decides
abbrev pub invariant-loop-word : goal.invariant-loop-word
invariant-loop-word l = record {
  count : length l.names ≡ l.word-index;
  rest : parameters_of l.names (texts (drop l.word-index l.words)) ≡ parameters_of [] (texts l.words);
}
