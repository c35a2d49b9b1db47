-- Counts of a close, and its faults.
use Rattle.std.proofs.Common.{◌≡◌, ◌∙◌, ℕ, ◌<◌, length, map, List, slice_get, Some, None, Err, sym, ap, subst, arith}
use Rattle.std.specs.List.{range_with_len}
use Rattle.std.proofs.lemmas.List.FromFn.{get_or-map-range_with_len, length-map-range_with_len}
use Rattle.std.proofs.lemmas.Option.{slice_get-get_or, slice_get_within}
use Rattle.lynx_entry.specs.Entry.{History}
use Rattle.lynx_keep.specs.Kept.{Terms}
use Rattle.lynx_set.specs.Set.{Set}
use Rattle.lynx_weave.specs.declared.counts.ServerCounts.{ServerCounts}
use Rattle.lynx_weave.specs.declared.fault.WeaveFault.{WeaveFault}
use Rattle.lynx_weave.specs.declared.fault.WeaveFault.TheVariants as weave
use Rattle.lynx_weave.specs.declared.told.ToldItem.{ToldItem}
use Rattle.lynx_weave.specs.declared.weaving.Woven.{Woven}
use Rattle.lynx_weave.specs.Since.{IsWovenSince, WeavesSince, counts_at}
use Rattle.lynx_weave.specs.Weaving.{all_told}
use Rattle.lynx_cluster.specs.declared.fault.CloseFault.{CloseFault}
use Rattle.lynx_cluster.specs.declared.fault.CloseFault.TheVariants.{Mismatch, Told, Stopped, Memory, Absent, Uncounted}
use Rattle.lynx_cluster.specs.Closing.{AreTakenBack, IsClosed, IsCounted, IsMiscounted, IsUnclosed, told_to}
use Rattle.lynx_cluster.specs.Clusters.{ClusterState}
use Rattle.lynx_cluster.specs.inner.Absent.{IsAbsent}
use Rattle.lynx_cluster.specs.inner.Closing.{IsFirstUncounted, IsTakeFault, close_fault}
use Rattle.lynx_cluster.specs.Sessions.{SessionState}

-- the counts of a server
counts_there : (histories : List History) (starts : List ℕ) (told : List (List ToldItem)) (servers server : ℕ) → server < servers →
    slice_get (map (counts_at histories starts (all_told told)) (range_with_len 0 servers)) server ≡ Some (counts_at histories starts (all_told told) server)
counts_there histories starts told servers server below =
    let counts = counts_at histories starts (all_told told) in
    slice_get-get_or (map counts (range_with_len 0 servers)) server (counts server) (let many = length-map-range_with_len counts 0 servers in omega (arith, many, below))
    ∙ ap Some (get_or-map-range_with_len counts 0 servers server server (counts server) below (omega arith))

-- all counts agree
counted_all : (histories : List History) (starts : List ℕ) (told : List (List ToldItem)) (servers : ℕ) (counts : List ServerCounts) →
    counts ≡ map (counts_at histories starts (all_told told)) (range_with_len 0 servers) → IsFirstUncounted counts None →
    (server : ℕ) → server < servers → IsCounted histories starts told server
counted_all histories starts told servers counts are agree server below =
    agree server (counts_at histories starts (all_told told) server) (ap (λ (c : List ServerCounts). slice_get c server) are ∙ counts_there histories starts told servers server below)

-- those of this server don't
miscounted : (histories : List History) (starts : List ℕ) (told : List (List ToldItem)) (servers : ℕ) (counts : List ServerCounts) (server : ℕ) →
    counts ≡ map (counts_at histories starts (all_told told)) (range_with_len 0 servers) → IsFirstUncounted counts (Some server) →
    (server < servers) × (IsCounted histories starts told server → ⊥)
miscounted histories starts told servers counts server are (its, there, other) =
    let bound = slice_get_within counts server its there in
    let many = ap (λ (c : List ServerCounts). length c) are ∙ length-map-range_with_len (counts_at histories starts (all_told told)) 0 servers in
    let below : server < servers = omega (arith, bound, many) in
    let its_is : its ≡ counts_at histories starts (all_told told) server =
    let both = sym there ∙ (ap (λ (c : List ServerCounts). slice_get c server) are ∙ counts_there histories starts told servers server below) in cc in
    (below, λ same. other (ap (λ (c : ServerCounts). c.fresh) its_is ∙ same ∙ sym (ap (λ (c : ServerCounts). c.begins) its_is)))

-- there are counts for each server
pub counts_many : (set : Set) (histories : List History) (starts : List ℕ) (told : List (List ToldItem)) (woven : Woven) (counts : List ServerCounts) →
    IsWovenSince set histories starts told woven → counts ≡ woven.counts.items → length counts ≡ set.servers
counts_many set histories starts told woven counts is are =
    ap (λ (c : List ServerCounts). length c) (are ∙ is.counts_are) ∙ length-map-range_with_len (counts_at histories starts (all_told told)) 0 set.servers

-- a world of what was taken back, all counts of which agree
pub closed_by : {K : Type 0} (terms : Terms K) (cluster : ClusterState) (sessions : List SessionState) (set : Set) (starts : List ℕ) (told : List (List ToldItem)) (histories : List History) (keepers : List K) (woven : Woven) (counts : List ServerCounts) →
    record { set = set; starts = starts } ≡ cluster → told ≡ told_to sessions → AreTakenBack terms set histories keepers →
    IsWovenSince set histories starts told woven → counts ≡ woven.counts.items → IsFirstUncounted counts None → (made : ℕ) → IsAbsent made sessions None →
    IsClosed terms cluster sessions made woven.world keepers
closed_by terms cluster sessions set starts told histories keepers woven counts cluster_is told_is taken is are agree made handed_in =
    let well = subst (λ (t : List (List ToldItem)). IsWovenSince set histories starts t woven) told_is is in
    subst (λ (c : ClusterState). IsClosed terms c sessions made woven.world keepers) cluster_is
    (record {
      histories = histories;
      taken = taken;
      woven = well.world_is;
      none_old = well.none_old;
      counted = counted_all histories starts (told_to sessions) set.servers counts (are ∙ well.counts_are) agree;
      handed_in = handed_in;
    })

-- .. and those of that server don't
pub miscounted_by : {K : Type 0} (terms : Terms K) (cluster : ClusterState) (sessions : List SessionState) (set : Set) (starts : List ℕ) (told : List (List ToldItem)) (histories : List History) (keepers : List K) (woven : Woven) (counts : List ServerCounts) (server : ℕ) →
    record { set = set; starts = starts } ≡ cluster → told ≡ told_to sessions → AreTakenBack terms set histories keepers →
    IsWovenSince set histories starts told woven → counts ≡ woven.counts.items → IsFirstUncounted counts (Some server) →
    IsMiscounted terms cluster sessions server
miscounted_by terms cluster sessions set starts told histories keepers woven counts server cluster_is told_is taken is are differs =
    let well = subst (λ (t : List (List ToldItem)). IsWovenSince set histories starts t woven) told_is is in
    let other = miscounted histories starts (told_to sessions) set.servers counts server (are ∙ well.counts_are) differs in
    subst (λ (c : ClusterState). IsMiscounted terms c sessions server) cluster_is
    (record { histories = histories; keepers = keepers; taken = taken; within = other.0; other = other.1 })

-- what doesn't weave doesn't close
pub unwoven_unclosed : {K : Type 0} (terms : Terms K) (cluster : ClusterState) (sessions : List SessionState) (histories : List History) (keepers : List K) (fault : WeaveFault) →
    AreTakenBack terms cluster.set histories keepers → WeavesSince cluster.set histories cluster.starts (told_to sessions) (Err fault) →
    IsUnclosed terms cluster sessions (close_fault fault)
unwoven_unclosed terms cluster sessions histories keepers (weave.Mismatch server place) taken unwoven =
    record { histories = histories; keepers = keepers; taken = taken; unwoven = unwoven }
unwoven_unclosed terms cluster sessions histories keepers (weave.Told session place) taken unwoven =
    record { histories = histories; keepers = keepers; taken = taken; unwoven = unwoven }
unwoven_unclosed terms cluster sessions histories keepers weave.Memory taken unwoven = tt

-- nor does what isn't taken back
pub untaken_unclosed : {K : Type 0} (terms : Terms K) (cluster : ClusterState) (sessions : List SessionState) (fault : CloseFault) →
    IsTakeFault cluster.set.servers fault → IsUnclosed terms cluster sessions fault
untaken_unclosed terms cluster sessions (Stopped server) is = is
untaken_unclosed terms cluster sessions Memory is = tt
untaken_unclosed terms cluster sessions (Mismatch server place) is = absurd is
untaken_unclosed terms cluster sessions (Told session place) is = absurd is
untaken_unclosed terms cluster sessions (Absent session) is = absurd is
untaken_unclosed terms cluster sessions (Uncounted server) is = absurd is
