-- Counts of what begins were answered.
use Rattle.std.specs.Prelude.{true, false}
use Rattle.lynx_entry.specs.declared.answer.Answer.{Answer}
use Rattle.lynx_entry.specs.declared.answer.Answer.TheVariants as answers
use Rattle.lynx_status.specs.Counts.{more}
use Rattle.lynx_status.specs.declared.begins.Begins.{Begins}

abbrev pub no_begins : Begins
no_begins = record {
  begun = 0;
  begun_again = 0;
  clash = 0;
  unknown_program = 0;
  wrong_origin = 0;
  arg_count = 0;
  outside_range = 0;
  wrong_shard = 0;
  full = 0;
  busy = 0;
  refused = 0;
  refused_again = 0;
  stopped = 0;
  memory = 0;
}

-- one more of an answer
abbrev pub counted : Begins → Answer → Begins
counted old (answers.Begun chain stamp results false) = record old { begun = more old.begun }
counted old (answers.Begun chain stamp results true) =
    record old { begun_again = more old.begun_again }
counted old answers.Clash = record old { clash = more old.clash }
counted old answers.UnknownProgram =
    record old { unknown_program = more old.unknown_program }
counted old answers.WrongOrigin = record old { wrong_origin = more old.wrong_origin }
counted old answers.ArgCount = record old { arg_count = more old.arg_count }
counted old answers.OutsideRange = record old { outside_range = more old.outside_range }
counted old answers.WrongShard = record old { wrong_shard = more old.wrong_shard }
counted old answers.Full = record old { full = more old.full }
counted old answers.Busy = record old { busy = more old.busy }
counted old (answers.Refused need stamp false) = record old { refused = more old.refused }
counted old (answers.Refused need stamp true) =
    record old { refused_again = more old.refused_again }
counted old answers.Stopped = record old { stopped = more old.stopped }
counted old answers.Memory = record old { memory = more old.memory }
