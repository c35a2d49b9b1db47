use Rattle.std.proofs.Common.{◌≡◌, ◌∙◌, ℕ, List, ap, max, min, length}
use Rattle.std.specs.Prelude.{◌/◌}
use Rattle.lynx_graph.specs.declared.edges.Edge.{Edge}
use Rattle.lynx_reasons.specs.declared.search.TheConstants.{MAX_EDGES_SEEN, MAX_LOOKS}
use Rattle.lynx_reasons.specs.Culprits.{candidates, fewest, most_looks, wants_looks}
use Rattle.lynx_reasons.proofs.Accepts.{told}
use Rattle.lynx_reasons.proofs.search.culprits_of.Goals as goal

pub returns-clause-fewest : goal.returns-clause-fewest
returns-clause-fewest c =
    let set = c.args.set.now in
    let test = told set in
    let ended = c.in_ok-look_at_all.ensures.all test.0 test.1 in
    let most : c.new-search.result.most ≡ most_looks set =
    c.new-search.ensures.most ∙ ap (λ (edges : List Edge). min MAX_LOOKS (MAX_EDGES_SEEN / max (length edges) 1)) c.requires in
    record {
      accepted = test.0;
      tells = test.1;
      fewest = ended.found ∙ ap (λ (n : ℕ). fewest test.0 n (candidates set)) most;
      bound = ended.bound ∙ ap (λ (n : ℕ). wants_looks test.0 n (candidates set)) most;
    }

pub returns-clause-looks : goal.returns-clause-looks
returns-clause-looks c = λ bound.
    let test = told c.args.set.now in
    (c.in_ok-look_at_all.ensures.all test.0 test.1).spent bound
    ∙ c.new-search.ensures.most ∙ ap (λ (edges : List Edge). min MAX_LOOKS (MAX_EDGES_SEEN / max (length edges) 1)) c.requires
