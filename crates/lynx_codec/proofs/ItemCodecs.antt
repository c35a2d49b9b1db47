-- Each kind of body is read as it was written.
use Rattle.std.proofs.Common.{◌≡◌, ℕ, ◌<◌, ◌≤◌, Bool, List, [], ◌∷◌, ◌++◌, length, Ok, refl, arith}
use Rattle.std.specs.List.{AllByRecursion}
use Rattle.lynx_names.specs.declared.limits.TheConstants.{MAX_PROGRAMS, MAX_PARAMETERS, MAX_ACTIONS}
use Rattle.lynx_names.specs.declared.chain.ChainId.{ChainId}
use Rattle.lynx_entry.specs.declared.answer.Answer.{Answer}
use Rattle.lynx_entry.specs.declared.answer.Answer.TheVariants as answers
use Rattle.lynx_codec.specs.declared.item.Looked.{Looked}
use Rattle.lynx_codec.specs.declared.item.Looked.TheVariants as looks
use Rattle.lynx_codec.specs.Fields.{word, flag, values, chain}
use Rattle.lynx_codec.specs.Encoding.{request, look, answer, looked, message, begun, refused, hop}
use Rattle.lynx_codec.specs.Ranges.{IsStamp, IsChain, AreValues, IsRequest, IsLook, IsAnswer, IsLooked, IsMessage, IsBegunEntry, IsRefusedEntry, IsHopEntry}
use Rattle.lynx_codec.specs.Reading.{◌then◌, nothing, byte_below, flag_at, stamp_at, chain_at, values_at}
use Rattle.lynx_codec.specs.Bodies.{request_of, request_at, look_at, begun_of, refused_of, answer_kinds, answer_at, found_of, looked_kinds, looked_at, message_of, message_at, begun_entry_of, begun_entry_at, refused_entry_of, refused_entry_at, hop_entry_of, hop_entry_at}
use Rattle.lynx_codec.proofs.Codec.{IsCodec, IsChoice, then_codec, made_codec, made_again, made_choice, plain_choice, one_of_takes, one_of_faulty}
use Rattle.lynx_codec.proofs.FieldCodecs.{byte, byte_codec, word_codec, byte_below_codec, stamp_codec, flag_codec, chain_codec, values_codec, result_lists_codec}
use Rattle.lynx_codec.proofs.NumbersCodec.{numbers_codec}

pub request_codec : IsCodec request IsRequest 82 request_at
unfolding request_at
request_codec =
    let args = values_codec MAX_PARAMETERS (omega arith) in
    let fields = then_codec word_codec (then_codec word_codec (then_codec (byte_below_codec MAX_PROGRAMS (omega arith)) args)) in
    made_codec fields request_of (λ r. (r.client, (r.number, (r.program, r.args)))) (λ f. refl) (λ r. refl)

pub look_codec : IsCodec look IsLook 10 look_at
unfolding look_at
look_codec = made_codec (then_codec chain_codec byte_codec) (λ f. record { chain = f.0; hop = f.1 }) (λ l. (l.chain, l.hop)) (λ f. refl) (λ l. refl)

pub message_codec : IsCodec message IsMessage 1190 message_at
unfolding message_at
message_codec =
    let lists = then_codec (values_codec MAX_PARAMETERS (omega arith)) (then_codec numbers_codec result_lists_codec) in
    let fields = then_codec chain_codec (then_codec (byte_below_codec MAX_PROGRAMS (omega arith)) (then_codec byte_codec (then_codec stamp_codec lists))) in
    made_codec fields message_of (λ m. (m.chain, (m.program, (m.hop, (m.stamp, (m.args, (m.numbers, m.results))))))) (λ f. refl) (λ m. refl)

pub begun_codec : IsCodec begun IsBegunEntry 309 begun_entry_at
unfolding begun_entry_at
begun_codec =
    let results = values_codec MAX_ACTIONS (omega arith) in
    let fields = then_codec request_codec (then_codec stamp_codec (then_codec chain_codec (then_codec numbers_codec (then_codec stamp_codec results)))) in
    made_codec fields begun_entry_of (λ e. (e.request, (e.seen, (e.chain, (e.numbers, (e.stamp, e.results)))))) (λ f. refl) (λ e. refl)

pub refused_codec : IsCodec refused IsRefusedEntry 99 refused_entry_at
unfolding refused_entry_at
refused_codec =
    let fields = then_codec request_codec (then_codec stamp_codec (then_codec (byte_below_codec MAX_ACTIONS (omega arith)) stamp_codec)) in
    made_codec fields refused_entry_of (λ e. (e.request, (e.seen, (e.need, e.stamp)))) (λ f. refl) (λ e. refl)

pub hop_codec : IsCodec hop IsHopEntry 1327 hop_entry_at
unfolding hop_entry_at
hop_codec =
    let fields = then_codec message_codec (then_codec stamp_codec (values_codec MAX_ACTIONS (omega arith))) in
    made_codec fields hop_entry_of (λ e. (e.message, (e.stamp, e.results))) (λ f. refl) (λ e. refl)

-- ---- answers

begun_fields : IsCodec (λ (f : ChainId × (ℕ × (Bool × List ℕ))). chain f.0 ++ (word f.1.0 ++ (flag f.1.1.0 ++ values f.1.1.1))) (λ f. IsChain f.0 × (IsStamp f.1.0 × (Unit {0} × AreValues MAX_ACTIONS f.1.1.1))) 147 (chain_at then stamp_at then flag_at then values_at MAX_ACTIONS)
begun_fields = then_codec chain_codec (then_codec stamp_codec (then_codec flag_codec (values_codec MAX_ACTIONS (omega arith))))

refused_fields : IsCodec (λ (f : ℕ × (ℕ × Bool)). byte f.0 ++ (word f.1.0 ++ flag f.1.1)) (λ f. (f.0 < MAX_ACTIONS) × (IsStamp f.1.0 × Unit {0})) 10 (byte_below MAX_ACTIONS then stamp_at then flag_at)
refused_fields = then_codec (byte_below_codec MAX_ACTIONS (omega arith)) (then_codec stamp_codec flag_codec)

plain : (kind : ℕ) (a : Answer) → answer a ≡ kind ∷ [] → IsAnswer a → IsChoice answer IsAnswer (kind, nothing a)
plain = plain_choice answer IsAnswer

are_answers : AllByRecursion (IsChoice answer IsAnswer) answer_kinds
are_answers = (
  made_choice answer IsAnswer begun_fields 0 begun_of (λ f. refl) (λ f fits. (fits.0, (fits.1.0, fits.1.1.1))),
  (
    plain 1 answers.Clash refl tt,
    (
      plain 2 answers.UnknownProgram refl tt,
      (
        plain 3 answers.WrongOrigin refl tt,
        (
          plain 4 answers.ArgCount refl tt,
          (
            plain 5 answers.WrongShard refl tt,
            (
              plain 6 answers.Full refl tt,
              (
                plain 7 answers.Busy refl tt,
                (
                  made_choice answer IsAnswer refused_fields 8 refused_of (λ f. refl) (λ f fits. (fits.0, fits.1.0)),
                  (plain 9 answers.Stopped refl tt, (plain 10 answers.Memory refl tt, (plain 11 answers.OutsideRange refl tt, tt))),
                ),
              ),
            ),
          ),
        ),
      ),
    ),
  ),
)

answer_again : (a : Answer) (rest : List ℕ) → IsAnswer a → answer_at (answer a ++ rest) ≡ Ok (a, rest)
unfolding answer_at
answer_again (answers.Begun id stamp results again) rest fits = made_again begun_fields begun_of (id, (stamp, (again, results))) rest (fits.0, (fits.1.0, (tt, fits.1.1)))
answer_again answers.Clash rest fits = refl
answer_again answers.UnknownProgram rest fits = refl
answer_again answers.WrongOrigin rest fits = refl
answer_again answers.ArgCount rest fits = refl
answer_again answers.WrongShard rest fits = refl
answer_again answers.Full rest fits = refl
answer_again answers.Busy rest fits = refl
answer_again (answers.Refused need stamp again) rest fits = made_again refused_fields refused_of (need, (stamp, again)) rest (fits.0, (fits.1, tt))
answer_again answers.Stopped rest fits = refl
answer_again answers.Memory rest fits = refl
answer_again answers.OutsideRange rest fits = refl

answer_short : (a : Answer) → IsAnswer a → length (answer a) ≤ 148
answer_short (answers.Begun id stamp results again) fits = omega (arith, begun_fields.short (id, (stamp, (again, results))) (fits.0, (fits.1.0, (tt, fits.1.1))))
answer_short answers.Clash fits = omega arith
answer_short answers.UnknownProgram fits = omega arith
answer_short answers.WrongOrigin fits = omega arith
answer_short answers.ArgCount fits = omega arith
answer_short answers.WrongShard fits = omega arith
answer_short answers.Full fits = omega arith
answer_short answers.Busy fits = omega arith
answer_short (answers.Refused need stamp again) fits = omega (arith, refused_fields.short (need, (stamp, again)) (fits.0, (fits.1, tt)))
answer_short answers.Stopped fits = omega arith
answer_short answers.Memory fits = omega arith
answer_short answers.OutsideRange fits = omega arith

pub answer_codec : IsCodec answer IsAnswer 148 answer_at
unfolding answer_at
answer_codec = record {
  takes = one_of_takes answer IsAnswer answer_kinds are_answers;
  again = answer_again;
  faulty = one_of_faulty answer IsAnswer answer_kinds are_answers;
  short = answer_short;
}

-- ---- what a look is answered

found_fields : IsCodec (λ (f : ℕ × List ℕ). word f.0 ++ values f.1) (λ f. IsStamp f.0 × AreValues MAX_ACTIONS f.1) 137 (stamp_at then values_at MAX_ACTIONS)
found_fields = then_codec stamp_codec (values_codec MAX_ACTIONS (omega arith))

are_looked : AllByRecursion (IsChoice looked IsLooked) looked_kinds
are_looked = (plain_choice looked IsLooked 0 looks.Absent refl tt, (made_choice looked IsLooked found_fields 1 found_of (λ f. refl) (λ f fits. fits), tt))

looked_again : (l : Looked) (rest : List ℕ) → IsLooked l → looked_at (looked l ++ rest) ≡ Ok (l, rest)
unfolding looked_at
looked_again looks.Absent rest fits = refl
looked_again (looks.Found stamp results) rest fits = made_again found_fields found_of (stamp, results) rest fits

looked_short : (l : Looked) → IsLooked l → length (looked l) ≤ 138
looked_short looks.Absent fits = omega arith
looked_short (looks.Found stamp results) fits = omega (arith, found_fields.short (stamp, results) fits)

pub looked_codec : IsCodec looked IsLooked 138 looked_at
unfolding looked_at
looked_codec = record {
  takes = one_of_takes looked IsLooked looked_kinds are_looked;
  again = looked_again;
  faulty = one_of_faulty looked IsLooked looked_kinds are_looked;
  short = looked_short;
}
