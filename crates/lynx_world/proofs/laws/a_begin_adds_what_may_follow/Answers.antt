use Rattle.std.proofs.Common.{refl}
use Rattle.lynx_rules.specs.Answers.{answer}
use Rattle.lynx_world.specs.Worlds.{history_of}
use Rattle.lynx_world.proofs.LegalSteps.{begun-may_follow}
use Rattle.lynx_world.proofs.laws.a_begin_adds_what_may_follow.Goals as goal

pub returns : goal.returns
returns c = λ set list server request seen legal there. begun-may_follow set list server request seen (answer set server (history_of server list) request seen) legal there refl
