use Rattle.std.proofs.Common.{codes}
use Rattle.std.specs.Str.Parse.{ParsesUnsigned, ExplainsUnsignedError, HasUnsignedDigitsIfOk}
use Rattle.clap.specs.Words.{found_of}
use Rattle.lynx_args.proofs.Numbers.{found_number}
use Rattle.lynx_args.proofs.parser.sample_flags_of.Goals as goal

pub returns : goal.returns
returns c =
    let found = found_of c.args.words.now in
    record {
      cycle = c.flag_at.ensures;
      seed = found_number (λ text read. ParsesUnsigned 64 10 text read × ExplainsUnsignedError 10 text read × HasUnsignedDigitsIfOk text read) 64 (λ text read gives. gives.0)
          found (codes "seed") 0 c.get_one.result c.unwrap_or.result c.get_one.ensures.none c.get_one.ensures.value c.unwrap_or.ensures;
      begins = found_number (λ text read. ParsesUnsigned 8 10 text read × ExplainsUnsignedError 10 text read × HasUnsignedDigitsIfOk text read) 8 (λ text read gives. gives.0)
          found (codes "begins") 8 c.get_one-2.result c.unwrap_or-2.result c.get_one-2.ensures.none c.get_one-2.ensures.value c.unwrap_or-2.ensures;
      effort = found_number (λ text read. ParsesUnsigned 64 10 text read × ExplainsUnsignedError 10 text read × HasUnsignedDigitsIfOk text read) 64 (λ text read gives. gives.0)
          found (codes "effort") 200000 c.get_one-3.result c.unwrap_or-3.result c.get_one-3.ensures.none c.get_one-3.ensures.value c.unwrap_or-3.ensures;
    }
