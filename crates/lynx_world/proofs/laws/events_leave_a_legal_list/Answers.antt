use Rattle.lynx_world.proofs.Events.{events_legal}
use Rattle.lynx_world.proofs.laws.events_leave_a_legal_list.Goals as goal

pub returns : goal.returns
returns c = events_legal
