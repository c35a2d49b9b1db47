use Rattle.std.proofs.Common.{codes}
use Rattle.std.specs.Str.Parse.{ParsesUnsigned, ExplainsUnsignedError, HasUnsignedDigitsIfOk}
use Rattle.clap.specs.Words.{found_of}
use Rattle.lynx_args.proofs.Numbers.{found_port}
use Rattle.lynx_args.proofs.serve_words.status_of.Goals as goal

pub returns : goal.returns
returns c =
    found_port (λ text read. ParsesUnsigned 16 10 text read × ExplainsUnsignedError 10 text read × HasUnsignedDigitsIfOk text read) (λ text read gives. gives.0)
    (found_of c.args.words.now) (codes "status") c.get_one.result c.get_one.ensures.none c.get_one.ensures.value
