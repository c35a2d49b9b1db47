-- What is answered where a request is recorded.
use Rattle.std.proofs.Common.{◌≡◌, ◌∷◌, [], ℕ, List, length, refl}
use Rattle.lynx_status.specs.Lookups.{AreRecordsReply}
use Rattle.lynx_status.specs.RecordLines.{request_body}
use Rattle.lynx_status.specs.Shapes.{content_of}
use Rattle.lynx_status.specs.Replies.{IsReply}
use Rattle.lynx_status.specs.declared.records.RecordFigures.{RecordFigures}
use Rattle.lynx_status.specs.declared.reply.Reply.{Reply}
use Rattle.lynx_status.specs.declared.shapes.Shape.{Shape}

pub records_so : (shape : Shape) (client number : ℕ) (found : List RecordFigures) (reply : Reply) → (length found ≡ 0 → ⊥) → IsReply 200 (content_of shape) (request_body shape client number found) reply →
    AreRecordsReply shape client number found reply
records_so shape client number [] reply some is = absurd (some refl)
records_so shape client number (first ∷ rest) reply some is = is
