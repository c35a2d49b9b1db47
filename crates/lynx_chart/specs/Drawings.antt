-- What is lent to those that draw.
use Rattle.lynx_chart.specs.Chains.{Given}
use Rattle.lynx_chart.specs.declared.chains.Drawing.{Drawing}
use Rattle.lynx_world.specs.Placed.{Placed}
use Rattle.lynx_world.specs.declared.listed.Listed.{Listed}

abbrev pub given : Drawing → Given
given by = record {
  set = by.world.now.set;
  explained = by.explained.now;
  stamps = by.stamps.now;
  notices = by.notices.now;
  messages = by.messages.now;
}

-- an entry that is lent, with its server
abbrev pub placed_in : Listed → Placed
placed_in listed = record { server = listed.server; entry = listed.entry.now }
