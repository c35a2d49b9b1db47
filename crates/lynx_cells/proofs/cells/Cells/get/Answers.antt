use Rattle.std.proofs.Common.{ℕ, Option, sym, ap, ◌∙◌, subst}
use Rattle.std.specs.Option.{unwrap_or}
use Rattle.lynx_cells.specs.Database.{IsZeroFree, value_at}
use Rattle.lynx_cells.specs.Contents.{Contents}
use Rattle.lynx_cells.proofs.Slots.{value_at-database, IsZeroFree-database}
use Rattle.lynx_cells.proofs.cells.Cells.get.Goals as goal

pub returns-in-Some : goal.returns-in-Some
returns-in-Some c =
    let slots = c.self.inside.slots.entries in
    record {
      value =
          ap (λ (o : Option ℕ). unwrap_or o 0) c.in-Some.ensures.value
          ∙ sym (value_at-database slots c.args.table c.args.key)
          ∙ ap (λ (contents : Contents). value_at contents.database c.args.table c.args.key) c.self.view_is;
      zero_free = subst (λ (contents : Contents). IsZeroFree contents.database) c.self.view_is (IsZeroFree-database slots);
    }

pub returns-in-None : goal.returns-in-None
returns-in-None c =
    let slots = c.self.inside.slots.entries in
    record {
      value =
          ap (λ (o : Option ℕ). unwrap_or o 0) c.in-None.ensures.value
          ∙ sym (value_at-database slots c.args.table c.args.key)
          ∙ ap (λ (contents : Contents). value_at contents.database c.args.table c.args.key) c.self.view_is;
      zero_free = subst (λ (contents : Contents). IsZeroFree contents.database) c.self.view_is (IsZeroFree-database slots);
    }
