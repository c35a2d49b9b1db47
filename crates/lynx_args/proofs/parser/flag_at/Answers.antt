use Rattle.std.proofs.Common.{◌∙◌}
use Rattle.clap.specs.Words.{found_of}
use Rattle.clap.proofs.WalkLemmas.{one_text-rows}
use Rattle.lynx_args.proofs.parser.flag_at.Goals as goal

pub returns : goal.returns
returns c =
    let rows = one_text-rows (found_of c.args.words.now) c.args.name.now in
    record {
      given = λ is. c.get_flag.ensures.value (rows ∙ is);
      left_out = λ is. c.get_flag.ensures.other (rows ∙ is);
      unknown = λ is. c.get_flag.ensures.none (rows ∙ is);
    }
