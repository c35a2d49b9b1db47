-- In which form what is looked up is told.
use Rattle.std.specs.Prelude.{Bool, List, ℕ, Option, Some, None, bytes_eq, codes, if◌then◌else◌}
use Rattle.http.specs.declared.request.Request.{Request}
use Rattle.http.specs.Request.{head_of}
use Rattle.http_header.specs.FieldValue.{FieldValue}
use Rattle.http_header.specs.HeaderMap.{Entries, get_all}
use Rattle.lynx_status.specs.declared.reply.Content.{Content}
use Rattle.lynx_status.specs.declared.reply.Content.TheVariants as contents
use Rattle.lynx_status.specs.declared.shapes.Shape.{Shape}
use Rattle.lynx_status.specs.declared.shapes.Shape.TheVariants.{Json, Lines}
use Rattle.lynx_status.specs.Questions.{only_one}

-- lines are wanted where the one field Accept says text/plain
abbrev pub shape_for : Option (List ℕ) → Shape
shape_for None = Json
shape_for (Some wanted) = if bytes_eq wanted (codes "text/plain") then Lines else Json

abbrev pub shape_in : Entries FieldValue → Shape
shape_in headers = shape_for (only_one (get_all headers (codes "accept")))

abbrev pub shape_of : Request (List ℕ) → Shape
shape_of request = shape_in (head_of request).headers

-- what the body is
abbrev pub content_of : Shape → Content
content_of Json = contents.Json
content_of Lines = contents.Text
