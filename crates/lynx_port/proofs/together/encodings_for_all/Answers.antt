use Rattle.std.proofs.Common.{arith, ◌≡◌, ◌∷◌, ◌++◌, ◌∙◌, ap, subst, map}
use Rattle.std.specs.List.{flat_map}
use Rattle.lynx_codec.specs.Encoding.{encoding}
use Rattle.lynx_codec.specs.declared.item.Item.TheVariants as items
use Rattle.lynx_port.specs.Desks.{BeginsAll}
use Rattle.lynx_port.proofs.DeskLemmas.{answers_length, begins_talk}
use Rattle.lynx_port.proofs.together.encodings_for_all.Goals as goal

pub append_answers-requires-clause-room : goal.append_answers-requires-clause-room
append_answers-requires-clause-room g c =
    omega (arith, answers_length g.D.Desk.begins _ _ _ _ c.begin_all.ensures.begins, c.in_ok-bytes.ensures.len, c.in_ok-bytes.ensures.exact, c.len-count.ensures)

pub returns-clause-encodings : goal.returns-clause-encodings
returns-clause-encodings g c =
    let requests : c.insert.new.self.items ≡ c.args.first ∷ c.args.others.items = c.in_ok-insert.ensures.items in
    record {
      given = map items.Answer c.begin_all.new.answers.items;
      talks = begins_talk g.D.Desk.begins g.D.Desk.looks c.args.desk.now c.begin_all.new.self (c.args.first ∷ c.args.others.items) c.begin_all.new.answers.items
          (subst (λ requests. BeginsAll g.D.Desk.begins c.args.desk.now requests c.begin_all.new.answers.items c.begin_all.new.self) requests c.begin_all.ensures.begins);
      are_replies = c.append_answers.ensures.items;
      bytes_are = c.append_answers.ensures.encodings ∙ ap (λ start. start ++ flat_map encoding (map items.Answer c.begin_all.new.answers.items)) c.in_ok-bytes.ensures.items;
    }
