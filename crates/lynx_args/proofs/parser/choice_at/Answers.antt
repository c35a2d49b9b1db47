use Rattle.std.specs.Str.Parse.{ParsesUnsigned, ExplainsUnsignedError, HasUnsignedDigitsIfOk}
use Rattle.clap.specs.Words.{found_of}
use Rattle.lynx_args.proofs.Numbers.{found_choice}
use Rattle.lynx_args.proofs.parser.choice_at.Goals as goal

pub returns : goal.returns
returns c =
    found_choice (λ text read. ParsesUnsigned 8 10 text read × ExplainsUnsignedError 10 text read × HasUnsignedDigitsIfOk text read) (λ text read gives. gives.0)
    (found_of c.args.words.now) c.args.name.now c.get_one.result c.get_one.ensures.none c.get_one.ensures.value
