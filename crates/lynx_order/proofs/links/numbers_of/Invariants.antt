use Rattle.std.proofs.Common.{◌≡◌, map, take}
use Rattle.lynx_order.specs.declared.search.candidate.Link.{Link}
use Rattle.lynx_order.proofs.links.numbers_of.Given as goal

abbrev pub invariant-loop-link : goal.invariant-loop-link
invariant-loop-link l = l.numbers ≡ map (λ (link : Link). link.chain) (take l.link-index l.links)
