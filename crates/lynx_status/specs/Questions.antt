-- What of a request says what it asks for.
use Rattle.std.specs.Prelude.{ℕ, Bool, List, [], ◌∷◌, codes, ◌||◌, is_some, Option, Some, None, Result, if◌then◌else◌}
use Rattle.http.specs.declared.request.Request.{Request}
use Rattle.http.specs.Request.{head_of}
use Rattle.http_header.specs.FieldValue.{FieldValue}
use Rattle.http_header.specs.HeaderMap.{Entries, get, get_all}
use Rattle.http_uri.specs.declared.uri.Uri.{Uri}
use Rattle.http_uri.specs.Uri.{uri_authority, uri_path, uri_query}
use Rattle.lynx_status.specs.declared.asking.Refusal.{Refusal}
use Rattle.lynx_status.specs.declared.wanted.Wanted.{Wanted}
use Rattle.lynx_status.specs.Wanted.{wanted_in}

-- the bytes of the one value
abbrev pub only_one : List FieldValue → Option (List ℕ)
only_one [] = None
only_one (value ∷ []) = Some value.bytes
only_one (value ∷ other ∷ values) = None

-- the value of the one field Host
abbrev pub host_in : Entries FieldValue → Option (List ℕ)
host_in headers = only_one (get_all headers (codes "host"))

-- the path, nothing where the target names a host or has a query
abbrev pub target_in : Uri → List ℕ
target_in uri = if is_some (uri_authority uri) || is_some (uri_query uri) then [] else uri_path uri

abbrev pub method_of : Request (List ℕ) → List ℕ
method_of request = (head_of request).method

abbrev pub host_of : Request (List ℕ) → Option (List ℕ)
host_of request = host_in (head_of request).headers

abbrev pub target_of : Request (List ℕ) → List ℕ
target_of request = target_in (head_of request).uri

-- what a target looks up, nothing where it names a host
abbrev pub wanted_at : Uri → Option (Result Wanted Refusal)
wanted_at uri =
    if is_some (uri_authority uri) then None else wanted_in (uri_path uri) (uri_query uri)

abbrev pub wanted_of : Request (List ℕ) → Option (Result Wanted Refusal)
wanted_of request = wanted_at (head_of request).uri

-- a page of a browser asks, which says where it is from
abbrev pub has_origin : Request (List ℕ) → Bool
has_origin request = is_some (get (head_of request).headers (codes "origin"))
