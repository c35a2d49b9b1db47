-- What an audit tells of the world that keepers keep.
use Rattle.std.proofs.Common.{◌++◌, ℕ, List, [], Option, sym, subst}
use Rattle.std.specs.Io.KnownBytes.{Appends}
use Rattle.lynx_entry.specs.Entry.{History}
use Rattle.lynx_graph.specs.Acceptance.{IsAccepted}
use Rattle.lynx_keep.specs.Kept.{Terms}
use Rattle.lynx_order.specs.declared.explained.Explained.{Explained}
use Rattle.lynx_promises.proofs.Promised.{promised}
use Rattle.lynx_service.specs.Services.{IsExplainedBy, last_lines}
use Rattle.lynx_set.specs.Home.{AreLiteralsHome}
use Rattle.lynx_set.specs.Set.{Set}
use Rattle.lynx_set.proofs.Literals.{literals_home}
use Rattle.lynx_weave.specs.Weaving.{IsWoven}
use Rattle.lynx_world.specs.Worlds.{WorldState}
use Rattle.lynx_audit.specs.Audits.{AreOpenedTo, HasAudited, TellsSizes}

pub audited : {K : Type 0} (terms : Terms K) (set : Set) (keepers : List K) (histories : List History) (world : WorldState) (explained : Explained) (sizes : List ℕ) (old new : Option (List ℕ)) →
    AreOpenedTo terms set keepers histories → IsWoven set histories [] world → IsExplainedBy world explained → TellsSizes histories world sizes →
    Appends old new (last_lines explained ++ sizes) → HasAudited terms set keepers old new explained
audited terms set keepers histories world explained sizes old new opened woven right told written = record {
  world = world;
  kept = record { histories = histories; opened = opened; woven = woven };
  promises = λ is. promised set world.list is woven.list_is.legal;
  right = right;
  ordered = λ is accepted. right.accepted (subst AreLiteralsHome (sym woven.set_is) (literals_home set is)) (subst IsAccepted (sym woven.set_is) accepted);
  sizes = sizes;
  told = told;
  written = written;
}
