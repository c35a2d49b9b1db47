use Rattle.std.proofs.Common.{◌≡◌, ◌∙◌, ◌++◌, ◌∷◌, [], List, ap, arith, length, refl, subst, sym}
use Rattle.std.proofs.lemmas.List.{nil_from_length}
use Rattle.lynx_entry.specs.declared.answer.Answer.{Answer}
use Rattle.lynx_entry.specs.declared.request.Request.{Request}
use Rattle.lynx_cluster.specs.inner.Submitting.{AreFew}
use Rattle.lynx_cluster.proofs.Submissions.{given_all, given_one, noted_all, noted_next, seen_one}
use Rattle.lynx_cluster.proofs.together.note_all.Goals as goal

pub note-requires-clause-room : goal.note-requires-clause-room
note-requires-clause-room c = omega (arith, c.loop-answer.invariant.room_told, ap length c.in-Some-next.ensures.items)

pub note-requires-clause-few : goal.note-requires-clause-few
note-requires-clause-few c =
    let few : AreFew (c.in-Some.answer ∷ c.next.new.self.rest.items) = subst AreFew c.in-Some.ensures.steps.0 c.loop-answer.invariant.few in few.0

pub push_reserved-requires : goal.push_reserved-requires
push_reserved-requires c = omega (arith, c.loop-answer.invariant.room_answers, ap length c.in-Some-next.ensures.items)

pub loop-answer-preserved : goal.loop-answer-preserved
loop-answer-preserved c =
    let was = c.loop-answer.invariant in
    let answer_is = c.in-Some.ensures.steps.0 in
    let request_is = c.in-Some-next.ensures.items in
    let room_is = c.in-Some-next-2.ensures.items in
    let few : AreFew (c.in-Some.answer ∷ c.next.new.self.rest.items) = subst AreFew answer_is was.few in
    record {
      told = noted_next c.args.server c.loop-answer.told.items c.note.new.told.items _ c.loop-answer.requests.rest.items c.next-in-loop-answer.new.self.rest.items
          c.loop-answer.answer-iterator.rest.items c.next.new.self.rest.items c.in-Some-next.request c.in-Some.answer was.told request_is answer_is c.note.ensures.told;
      greatest = seen_one c.loop-answer.greatest c.note.new.greatest _ c.loop-answer.answer-iterator.rest.items c.next.new.self.rest.items c.in-Some.answer
          was.greatest answer_is c.note.ensures.greatest;
      answers = given_one c.loop-answer.answers.items c.push_reserved.new.self.items _ c.loop-answer.answer-iterator.rest.items c.next.new.self.rest.items c.in-Some.answer
          was.answers answer_is c.push_reserved.ensures.items;
      len = omega (arith, was.len, ap length answer_is, c.push_reserved.ensures.len);
      given = omega (arith, was.given, ap length answer_is, ap length request_is);
      rooms = omega (arith, was.rooms, ap length room_is, ap length request_is);
      few = few.1;
      room_told = omega (arith, was.room_told, ap length request_is, c.note.ensures.capacity, c.note.ensures.len);
      room_answers = omega (arith, was.room_answers, ap length request_is, c.push_reserved.ensures.capacity, c.push_reserved.ensures.len);
      capacity = c.push_reserved.ensures.capacity ∙ was.capacity;
    }

pub returns-clause-told : goal.returns-clause-told
returns-clause-told c =
    let was = c.loop-answer.invariant in
    let rest = c.loop-answer.answer-iterator.rest in
    let none = nil_from_length rest.items (omega (arith, rest.ok, c.in-None.ensures.steps.0)) in
    noted_all c.args.server c.loop-answer.told.items _ c.loop-answer.requests.rest.items rest.items was.told
    (nil_from_length c.loop-answer.requests.rest.items (omega (arith, was.given, ap length none))) none

pub returns-clause-greatest : goal.returns-clause-greatest
returns-clause-greatest c =
    let rest = c.loop-answer.answer-iterator.rest in
    let none = nil_from_length rest.items (omega (arith, rest.ok, c.in-None.ensures.steps.0)) in
    ap (Rattle.lynx_cluster.specs.inner.Submitting.seen_after c.loop-answer.greatest) (sym none) ∙ c.loop-answer.invariant.greatest

pub returns-clause-answers : goal.returns-clause-answers
returns-clause-answers c =
    let rest = c.loop-answer.answer-iterator.rest in
    given_all c.loop-answer.answers.items _ rest.items c.loop-answer.invariant.answers (nil_from_length rest.items (omega (arith, rest.ok, c.in-None.ensures.steps.0)))
