-- Counts of what deliveries were answered.
use Rattle.lynx_entry.specs.declared.answer.Delivered.{Delivered}
use Rattle.lynx_entry.specs.declared.answer.Delivered.TheVariants as kinds
use Rattle.lynx_status.specs.Counts.{more}
use Rattle.lynx_status.specs.declared.deliveries.Deliveries.{Deliveries}

abbrev pub no_deliveries : Deliveries
no_deliveries = record {
  done = 0;
  repeat = 0;
  held = 0;
  dropped = 0;
  malformed = 0;
  full = 0;
  stopped = 0;
  memory = 0;
}

-- one more of a kind
abbrev pub counted : Deliveries → Delivered → Deliveries
counted old (kinds.Done stamp results next) = record old { done = more old.done }
counted old (kinds.Repeat stamp results next) = record old { repeat = more old.repeat }
counted old kinds.Held = record old { held = more old.held }
counted old kinds.Dropped = record old { dropped = more old.dropped }
counted old kinds.Malformed = record old { malformed = more old.malformed }
counted old kinds.Full = record old { full = more old.full }
counted old kinds.Stopped = record old { stopped = more old.stopped }
counted old kinds.Memory = record old { memory = more old.memory }
