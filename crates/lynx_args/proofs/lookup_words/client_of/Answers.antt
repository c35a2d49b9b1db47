use Rattle.std.proofs.Common.{codes}
use Rattle.std.specs.Str.Parse.{ParsesUnsigned, ExplainsUnsignedError, HasUnsignedDigitsIfOk}
use Rattle.clap.specs.Words.{found_of}
use Rattle.lynx_args.proofs.Numbers.{found_number}
use Rattle.lynx_args.proofs.lookup_words.client_of.Goals as goal

pub returns : goal.returns
returns c =
    found_number (λ text read. ParsesUnsigned 64 10 text read × ExplainsUnsignedError 10 text read × HasUnsignedDigitsIfOk text read) 64 (λ text read gives. gives.0)
    (found_of c.args.words.now) (codes "CLIENT") 0 c.get_one.result c.unwrap_or.result c.get_one.ensures.none c.get_one.ensures.value c.unwrap_or.ensures
