use Rattle.std.proofs.Common.{Result, Ok, Err, true, ◌∙◌, sym, subst}
use Rattle.std.specs.List.{AllByRecursion}
use Rattle.std.specs.Prelude.{OnOk}
use Rattle.lynx_lines.proofs.Parts.{appends_both}
use Rattle.lynx_give.specs.Given.{IsLetGo, IsMade}
use Rattle.lynx_give.proofs.Listed.{each_length}
use Rattle.lynx_give.proofs.giving.give_stores.Goals as goal

pub extend_all-requires : goal.extend_all-requires
extend_all-requires g c =
    sym (each_length (IsMade g.S.Stores.store_terms c.args.folder.now c.args.set.now) 0 _ _ c.in_ok-made.ensures.made) ∙ c.in_ok-found.ensures.1.many

-- what was done before the stores are closed, and that they are
done : {A E : Type 0} (P Q : Type 0) (closed : Result A E) → OnOk closed Q → (Q → P) → OnOk closed P
done P Q (Ok a) well is = is well
done P Q (Err fault) well is = tt

pub returns : goal.returns
returns g c = done _ _ c.close_all.result c.close_all.ensures (λ let_go. record {
  found = c.in_ok-found.found.items;
  places = c.in_ok-found.ensures.0;
  finds = c.in_ok-found.ensures.1;
  none_lost = c.in_ok-found.ensures.2;
  made = c.in_ok-made.made.items;
  makes = c.in_ok-made.ensures.made;
  given = c.in_ok-given.ensures.told;
  gives = c.in_ok-given.ensures.each;
  let_go = subst (AllByRecursion (IsLetGo g.S.Stores.store_terms.closed g.S.Databases.database_closed true)) c.in_ok-given.ensures.given_is let_go;
  written = appends_both _ _ _ _ _ c.in_ok-made.ensures.told c.in_ok-given.ensures.written;
})
