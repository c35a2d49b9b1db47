-- What is settled stays so over calls of a server.
use Rattle.std.proofs.Common.{◌≡◌, ◌≤◌, ◌++◌, ◌∷◌, [], ℕ, zero, suc, Bool, List, length, take, Option, Some, None, false, true, refl, sym, ap, subst, ◌∙◌, arith, length-append}
use Rattle.std.proofs.Math.Seq.{take-length}
use Rattle.std.proofs.lemmas.List.{length-take-le}
use Rattle.std.specs.Arc.{arc_value}
use Rattle.std.specs.declared.sync.Arc.{Arc}
use Rattle.std.specs.Bool.{MatchBool}
use Rattle.std.specs.FinMap as map
use Rattle.lynx_cells.specs.Database.{ChangeSet}
use Rattle.lynx_entry.specs.declared.answer.Answer.{Answer}
use Rattle.lynx_entry.specs.declared.answer.Answer.TheVariants as answers
use Rattle.lynx_entry.specs.declared.answer.Delivered.{Delivered}
use Rattle.lynx_entry.specs.declared.answer.Delivered.TheVariants as deliveries
use Rattle.lynx_entry.specs.declared.entry.Entry.{Entry}
use Rattle.lynx_entry.specs.declared.message.Message.{Message}
use Rattle.lynx_entry.specs.declared.request.Request.{Request}
use Rattle.lynx_entry.specs.Entry.{History}
use Rattle.lynx_set.specs.Set.{Set}
use Rattle.lynx_keep.specs.Kept.{KeptState, Terms, with_entries}
use Rattle.lynx_keep.specs.HeldBack.{Holding, RestsBehind, held_terms}
use Rattle.lynx_keep.specs.HeldLaws.{with-nothing}
use Rattle.lynx_rules.specs.Tables.{tables_of}
use Rattle.lynx_server.specs.History.{grown}
use Rattle.lynx_server.specs.Keeping.{kept_of}
use Rattle.lynx_server.specs.Owed.{Notes}
use Rattle.lynx_server.specs.Serving.{Becomes, Begins, Delivers, DeliversWoken, HasStopped, Lasts, Serving, Wakes}
use Rattle.lynx_server.specs.declared.server.Woken.{Woken}
use Rattle.lynx_server.specs.Settling.{IsSettled, Settles}
use Rattle.lynx_resting.specs.Mirrors.{IsMirrorOf, MirrorState}
use Rattle.lynx_resting.specs.Resting.{IsResting, Mirrors, RestingState, Rests, settled_front}

-- ---- histories that grow

take_more : (n : ℕ) (history more : History) → n ≤ length history → take n (history ++ more) ≡ take n history
take_more zero history more within = refl
take_more (suc n) [] more within = absurd (omega (arith, within))
take_more (suc n) (entry ∷ history) more within = ap (λ (es : History). entry ∷ es) (take_more n history more (omega (arith, within)))

take_grown : (n : ℕ) (history : History) (added : Option Entry) → n ≤ length history → take n (grown history added) ≡ take n history
take_grown n history None within = refl
take_grown n history (Some entry) within = take_more n history (entry ∷ []) within

grown_long : (history : History) (added : Option Entry) → length history ≤ length (grown history added)
grown_long history None = omega arith
grown_long history (Some entry) = omega (arith, length-append history (entry ∷ []))

-- a front of a front
take_take : (n more : ℕ) (history : History) → n ≤ more → take n (take more history) ≡ take n history
take_take zero more history low = refl
take_take (suc n) zero history low = absurd (omega (arith, low))
take_take (suc n) (suc more) [] low = refl
take_take (suc n) (suc more) (entry ∷ history) low = ap (λ (es : History). entry ∷ es) (take_take n more history (omega (arith, low)))

-- ---- mirrors

-- a mirror of the same
pub mirror_moved : {set other : Set} {server place : ℕ} {history same : History} {mirror shown : MirrorState} → other ≡ set → place ≡ server →
    same ≡ history → shown ≡ mirror → IsMirrorOf set server history mirror → IsMirrorOf other place same shown
mirror_moved {set} {other} {server} {place} {history} {same} {mirror} {shown} set_is server_is history_is mirror_is is =
    subst (IsMirrorOf other place same) (sym mirror_is)
    (subst (λ (h : History). IsMirrorOf other place h mirror) (sym history_is)
    (subst (λ (s : ℕ). IsMirrorOf other s history mirror) (sym server_is)
    (subst (λ (s : Set). IsMirrorOf s server history mirror) (sym set_is) is)))

-- a mirror of what is settled of the old server is one of the new server, if that has it, too
mirrors_on : {K Z : Type 0} (old new : Serving (Holding K)) (settled : ℕ) (mirror : Option (Arc MirrorState Z)) → new.set ≡ old.set →
    new.server ≡ old.server → take settled new.history ≡ take settled old.history → Mirrors old settled mirror → Mirrors new settled mirror
mirrors_on old new settled None set_is server_is front_is mirrors = tt
mirrors_on old new settled (Some shared) set_is server_is front_is mirrors = mirror_moved set_is server_is front_is refl mirrors

-- .. and of all that it did
mirror_of_all : (set : Set) (server n : ℕ) (history : History) (mirror : MirrorState) → n ≤ length history →
    IsMirrorOf set server (take n history) mirror → IsMirrorOf set server history mirror
mirror_of_all set server n history mirror low is =
    let short : mirror.count ≤ n = (let long = length-take-le n history low in let within = is.within in omega (arith, long, within)) in
    record {
      set_is = is.set_is;
      server_is = is.server_is;
      within = omega (arith, short, low);
      cells_are = is.cells_are ∙ ap (tables_of set) (take_take mirror.count n history short);
    }

mirrors_all : {K Z : Type 0} (old new : Serving (Holding K)) (settled : ℕ) (mirror : Option (Arc MirrorState Z)) → new.set ≡ old.set →
    new.server ≡ old.server → new.history ≡ old.history → settled ≤ length old.history → Mirrors old settled mirror → Mirrors new (length new.history) mirror
mirrors_all old new settled None set_is server_is history_is low mirrors = tt
mirrors_all old new settled (Some shared) set_is server_is history_is low mirrors =
    mirror_moved set_is server_is (take-length new.history ∙ history_is) refl
    (mirror_of_all old.set old.server settled old.history (arc_value shared) low mirrors)

-- ---- calls that ended well, and those in which the server stopped

module _ {K Z : Type 0} (terms : Terms K) (old new : Serving (Holding K)) (settled : ℕ) (mirror : Option (Arc MirrorState Z))
    (resting : IsResting terms old settled mirror) where
  still_rests : (added more : Option Entry) (held : List Message) → Becomes old added held new → Lasts (held_terms terms) old more new → Rests terms new settled
  still_rests added more held becomes lasts = let rests = resting.rests in record {
    within = let long = grown_long old.history added in let is = ap length becomes.history_is in let low = rests.within in omega (arith, low, long, is);
    rests = λ runs sound.
        let front : kept_of old.set (take settled old.history) ≡ kept_of new.set (take settled new.history) =
        ap (λ (set : Set). kept_of set (take settled old.history)) (sym becomes.set_is)
        ∙ ap (kept_of new.set) (sym (ap (take settled) becomes.history_is ∙ take_grown settled old.history added rests.within)) in
        subst (λ (front : KeptState). RestsBehind terms new.keeper front (kept_of new.set new.history)) front
        (lasts.rests runs sound (kept_of old.set (take settled old.history)) (rests.rests (sym becomes.stopped_is ∙ runs) (lasts.sound_before sound)));
  }

  rests_on : (added more : Option Entry) (held : List Message) → Becomes old added held new → Lasts (held_terms terms) old more new →
      IsResting terms new settled mirror
  rests_on added more held becomes lasts = record {
    rests = still_rests added more held becomes lasts;
    mirrors = mirrors_on old new settled mirror becomes.set_is becomes.server_is
        (ap (take settled) becomes.history_is ∙ take_grown settled old.history added resting.rests.within) resting.mirrors;
  }

  pub rests_stopped : HasStopped (held_terms terms) old new → IsResting terms new settled mirror
  rests_stopped stopped = record {
    rests = record {
      within = let is = ap length stopped.history_is in let low = resting.rests.within in omega (arith, low, is);
      rests = λ runs sound. absurd (let stops = stopped.stopped_is in cc);
    };
    mirrors = mirrors_on old new settled mirror stopped.set_is stopped.server_is (ap (take settled) stopped.history_is) resting.mirrors;
  }

  pub rests_begun : (request : Request) (seen : ℕ) (given : Answer) (more : Option Entry) →
      Begins (held_terms terms) old request seen given new → Lasts (held_terms terms) old more new → IsResting terms new settled mirror
  rests_begun request seen answers.Memory more begins lasts = rests_on _ more _ begins lasts
  rests_begun request seen answers.Stopped more begins lasts = rests_stopped begins
  rests_begun request seen (answers.Begun chain stamp results again) more begins lasts = rests_on _ more _ begins.becomes lasts
  rests_begun request seen (answers.Refused need stamp again) more begins lasts = rests_on _ more _ begins.becomes lasts
  rests_begun request seen answers.Clash more begins lasts = rests_on _ more _ begins.becomes lasts
  rests_begun request seen answers.UnknownProgram more begins lasts = rests_on _ more _ begins.becomes lasts
  rests_begun request seen answers.WrongOrigin more begins lasts = rests_on _ more _ begins.becomes lasts
  rests_begun request seen answers.ArgCount more begins lasts = rests_on _ more _ begins.becomes lasts
  rests_begun request seen answers.OutsideRange more begins lasts = rests_on _ more _ begins.becomes lasts
  rests_begun request seen answers.WrongShard more begins lasts = rests_on _ more _ begins.becomes lasts
  rests_begun request seen answers.Full more begins lasts = rests_on _ more _ begins.becomes lasts
  rests_begun request seen answers.Busy more begins lasts = rests_on _ more _ begins.becomes lasts

  pub rests_delivered : (message : Message) (given : Delivered) (more : Option Entry) →
      Delivers (held_terms terms) old message given new → Lasts (held_terms terms) old more new → IsResting terms new settled mirror
  rests_delivered message deliveries.Memory more delivers lasts = rests_on _ more _ delivers lasts
  rests_delivered message deliveries.Stopped more delivers lasts = rests_stopped delivers
  rests_delivered message (deliveries.Done stamp results next) more delivers lasts = rests_on _ more _ delivers.becomes lasts
  rests_delivered message (deliveries.Repeat stamp results next) more delivers lasts = rests_on _ more _ delivers.becomes lasts
  rests_delivered message deliveries.Held more delivers lasts = rests_on _ more _ delivers.becomes lasts
  rests_delivered message deliveries.Dropped more delivers lasts = rests_on _ more _ delivers.becomes lasts
  rests_delivered message deliveries.Malformed more delivers lasts = rests_on _ more _ delivers.becomes lasts
  rests_delivered message deliveries.Full more delivers lasts = rests_on _ more _ delivers.becomes lasts

  woken_so : (message : Message) (given : Delivered) (more : Option Entry) →
      DeliversWoken (held_terms terms) old message given new → Lasts (held_terms terms) old more new → IsResting terms new settled mirror
  woken_so message deliveries.Memory more wakes lasts = rests_on _ more _ wakes lasts
  woken_so message deliveries.Stopped more wakes lasts = rests_stopped wakes
  woken_so message (deliveries.Done stamp results next) more wakes lasts = rests_on _ more _ wakes.becomes lasts
  woken_so message (deliveries.Repeat stamp results next) more wakes lasts = rests_on _ more _ wakes.becomes lasts
  woken_so message deliveries.Held more wakes lasts = rests_on _ more _ wakes.becomes lasts
  woken_so message deliveries.Dropped more wakes lasts = rests_on _ more _ wakes.becomes lasts
  woken_so message deliveries.Malformed more wakes lasts = rests_on _ more _ wakes.becomes lasts
  woken_so message deliveries.Full more wakes lasts = rests_on _ more _ wakes.becomes lasts

  pub rests_woken : (woken : Option Woken) (more : Option Entry) →
      Wakes (held_terms terms) old woken new → Lasts (held_terms terms) old more new → IsResting terms new settled mirror
  rests_woken None more wakes lasts = rests_on _ more _ wakes.1 lasts
  rests_woken (Some woken) more wakes lasts = woken_so wakes.message woken.delivered more wakes.wakes lasts

  -- a note of an acknowledgement
  pub rests_noted : (sender : Option Entry) → Notes old sender new → IsResting terms new settled mirror
  rests_noted None same = subst (λ (s : Serving (Holding K)). IsResting terms s settled mirror) (sym same) resting
  rests_noted (Some entry) noted =
      subst (λ (s : Serving (Holding K)). IsResting terms s settled mirror) (sym noted.marked.else_same) (record { rests = record { within = resting.rests.within; rests = resting.rests.rests }; mirrors = resting.mirrors })

  -- a server that stopped before is as it was
  pub rests_either : (old.is_stopped ≡ true → new ≡ old) → (old.is_stopped ≡ false → IsResting terms new settled mirror) → IsResting terms new settled mirror
  rests_either stopped runs = by old.is_stopped refl
    where
      by : (b : Bool) → old.is_stopped ≡ b → IsResting terms new settled mirror
      by true is = subst (λ (s : Serving (Holding K)). IsResting terms s settled mirror) (sym (stopped is)) resting
      by false is = runs is

-- ---- a settling

-- where nothing waits, all is settled
nothing_behind : {K : Type 0} (holding : Holding K) (kept : KeptState) → holding.waiting ≡ [] → holding.changes ≡ map.empty →
    kept ≡ with_entries kept holding.waiting holding.changes
nothing_behind holding kept idle same =
    sym (ap (λ (es : History). with_entries kept es holding.changes) idle ∙ ap (λ (ch : ChangeSet). with_entries kept [] ch) same ∙ with-nothing kept)

pub rests_whole : {K : Type 0} (terms : Terms K) (here : Serving (Holding K)) →
    (here.is_stopped ≡ false → terms.sound here.keeper.inner → terms.keeps here.keeper.inner (kept_of here.set here.history)) →
    here.keeper.waiting ≡ [] → here.keeper.changes ≡ map.empty → Rests terms here (length here.history)
rests_whole terms here keeps idle same = record {
  within = omega arith;
  rests = λ runs sound.
      let whole : kept_of here.set here.history ≡ kept_of here.set (take (length here.history) here.history) =
      ap (kept_of here.set) (sym (take-length here.history)) in
      subst (λ (front : KeptState). RestsBehind terms here.keeper front (kept_of here.set here.history)) whole
      (record { keeps = keeps runs sound; kept_is = nothing_behind here.keeper (kept_of here.set here.history) idle same });
}

pub rests_settled : {K Z : Type 0} (terms : Terms K) (old new : Serving (Holding K)) (settled : ℕ) (mirror : Option (Arc MirrorState Z)) (done : Bool) →
    IsResting terms old settled mirror → (old.is_stopped ≡ true → (done ≡ false) × (new ≡ old)) →
    (old.is_stopped ≡ false → Settles terms old done new) → done ≡ true → IsResting terms new (length new.history) mirror
rests_settled terms old new settled mirror done resting stopped settles is_done = by old.is_stopped refl
  where
    by : (b : Bool) → old.is_stopped ≡ b → IsResting terms new (length new.history) mirror
    by true is = absurd (let undone = (stopped is).0 in cc)
    by false is =
        let all = settles is in
        let whole : IsSettled terms old new = subst (λ (b : Bool). MatchBool b (IsSettled terms old new) (HasStopped (held_terms terms) old new)) is_done all.ends in
        record {
          rests = rests_whole terms new (λ runs sound. whole.kept sound) all.empty all.unchanged;
          mirrors = mirrors_all old new settled mirror whole.becomes.set_is whole.becomes.server_is whole.becomes.history_is resting.rests.within resting.mirrors;
        }

-- .. and then the settled front is all that the server did
pub front_settled : {K : Type 0} (terms : Terms K) (old new : RestingState K) (done : Bool) → (old.here.is_stopped ≡ true → (done ≡ false) × (new ≡ old)) →
    (old.here.is_stopped ≡ false → Settles terms old.here done new.here) → (done ≡ true → new.settled ≡ length new.here.history) → done ≡ true →
    settled_front new ≡ old.here.history
front_settled terms old new done stopped settles all is_done = by old.here.is_stopped refl
  where
    by : (b : Bool) → old.here.is_stopped ≡ b → settled_front new ≡ old.here.history
    by true is = absurd (let undone = (stopped is).0 in cc)
    by false is =
        let settled : IsSettled terms old.here new.here =
        subst (λ (b : Bool). MatchBool b (IsSettled terms old.here new.here) (HasStopped (held_terms terms) old.here new.here)) is_done (settles is).ends in
        ap (λ (n : ℕ). take n new.here.history) (all is_done) ∙ take-length new.here.history ∙ settled.becomes.history_is
