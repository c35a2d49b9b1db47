use Rattle.std.proofs.Common.{refl}
use Rattle.lynx_rules.specs.Deliveries.{delivery}
use Rattle.lynx_world.specs.Worlds.{history_of}
use Rattle.lynx_world.proofs.LegalSteps.{ran-may_follow}
use Rattle.lynx_world.proofs.laws.a_delivery_adds_what_may_follow.Goals as goal

pub returns : goal.returns
returns c = λ set list server room held message there sent. ran-may_follow set list server room held message (delivery set server room (history_of server list) held message).added sent there refl
