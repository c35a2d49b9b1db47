-- What requests are answered.
use Rattle.std.specs.Prelude.{◌≡◌, ℕ, Bool, ◌==◌, List, [], ◌∷◌, ◌++◌, codes, Option, Some, None, Result, Ok, Err, if◌then◌else◌}
use Rattle.lynx_status.specs.declared.asking.Asked.{Asked}
use Rattle.lynx_status.specs.declared.asking.Asked.TheVariants.{Health, Metrics, Status, Set, Chain}
use Rattle.lynx_status.specs.declared.asking.Refusal.{Refusal}
use Rattle.lynx_status.specs.declared.asking.Refusal.TheVariants.{NoHost, OtherHost, OtherOrigin, OtherMethod, NotFound, BadQuery, NoTable, NoRequest, NoChain, Stopped}
use Rattle.lynx_status.specs.declared.chain.ChainFigures.{ChainFigures}
use Rattle.lynx_status.specs.declared.figures.Figures.{Figures}
use Rattle.lynx_status.specs.declared.reply.Content.{Content}
use Rattle.lynx_status.specs.declared.reply.Content.TheVariants.{Text, Metrics as MetricsText, Page, Json}
use Rattle.lynx_status.specs.declared.reply.Reply.{Reply}
use Rattle.lynx_status.specs.Chains.{chain_json}
use Rattle.lynx_status.specs.Health.{health_status, health_text}
use Rattle.lynx_status.specs.Metrics.{metrics_text}
use Rattle.lynx_status.specs.SetHash.{set_hash}
use Rattle.lynx_status.specs.Watching.{Finds, Tells}

-- ---- fields

unfoldable pub content_type : Content → List ℕ
content_type Text = codes "text/plain; charset=utf-8"
content_type MetricsText = codes "text/plain; version=0.0.4; charset=utf-8"
content_type Page = codes "text/html; charset=utf-8"
content_type Json = codes "application/json"

-- a browser keeps and runs nothing of others
unfoldable pub safety_fields : List (List ℕ × List ℕ)
safety_fields =
    (codes "cache-control", codes "no-store")
    ∷ (codes "x-content-type-options", codes "nosniff")
    ∷ (codes "content-security-policy", codes "default-src 'none'; style-src 'unsafe-inline'; script-src 'unsafe-inline'; connect-src 'self'; base-uri 'none'; form-action 'none'; frame-ancestors 'none'")
    ∷ []

-- the one method, where another was used
unfoldable pub allow_fields : ℕ → List (List ℕ × List ℕ)
allow_fields status = if status == 405 then (codes "allow", codes "GET") ∷ [] else []

unfoldable pub close_fields : Bool → List (List ℕ × List ℕ)
close_fields is_ending = if is_ending then (codes "connection", codes "close") ∷ [] else []

abbrev pub fields_for : Content → ℕ → Bool → List (List ℕ × List ℕ)
fields_for content status is_ending =
    (codes "content-type", content_type content) ∷ safety_fields ++ allow_fields status
    ++ close_fields is_ending

-- ---- replies

-- this status, and a body of this kind
pub record IsReply (status : ℕ) (content : Content) (body : List ℕ) (reply : Reply) : Type 0 where
  pub status_is : reply.status ≡ status
  pub content_is : reply.content ≡ content
  pub body_is : reply.body.items ≡ body

abbrev pub refusal_status : Refusal → ℕ
refusal_status NoHost = 400
refusal_status OtherHost = 403
refusal_status OtherOrigin = 403
refusal_status OtherMethod = 405
refusal_status NotFound = 404
refusal_status BadQuery = 400
refusal_status NoTable = 404
refusal_status NoRequest = 404
refusal_status NoChain = 404
refusal_status Stopped = 503

abbrev pub refusal_text : Refusal → List ℕ
refusal_text NoHost = codes "no host\n"
refusal_text OtherHost = codes "other host\n"
refusal_text OtherOrigin = codes "other origin\n"
refusal_text OtherMethod = codes "other method\n"
refusal_text NotFound = codes "not found\n"
refusal_text BadQuery = codes "bad query\n"
refusal_text NoTable = codes "no such table\n"
refusal_text NoRequest = codes "no such request\n"
refusal_text NoChain = codes "no such chain\n"
refusal_text Stopped = codes "server stopped\n"

abbrev pub IsRefusal : Refusal → Reply → Type 0
IsRefusal why = IsReply (refusal_status why) Text (refusal_text why)

-- how far a chain has come, where there is one
abbrev pub IsChainReply : Option ChainFigures → Reply → Type 0
IsChainReply None = IsRefusal NotFound
IsChainReply (Some chain) = IsReply 200 Json (chain_json chain)

-- some page; what stands on it isn't said
abbrev pub IsPage : Reply → Type 0
IsPage reply = (reply.status ≡ 200) × (reply.content ≡ Page)

module _ {W : Type 0} (tells : Tells W) (finds : Finds W) (set_of : W → List ℕ) where
  -- what is asked for is answered so, from one state of who is asked to the next
  abbrev pub Replies : List ℕ → W → Result Asked Refusal → Reply → W → Type 0
  Replies version old (Err why) reply new = IsRefusal why reply × (new ≡ old)
  Replies version old (Ok Health) reply new =
      (figures : Figures) × tells old figures new
      × IsReply (health_status figures.servers.items figures.copies.items) Text
      (health_text figures.servers.items figures.copies.items) reply
  Replies version old (Ok Metrics) reply new =
      (figures : Figures) × tells old figures new
      × IsReply 200 MetricsText (metrics_text figures (set_hash (set_of new)) version) reply
  Replies version old (Ok Status) reply new = IsPage reply
  Replies version old (Ok Set) reply new = IsReply 200 Text (set_of old) reply × (new ≡ old)
  Replies version old (Ok (Chain chain)) reply new =
      (found : Option ChainFigures) × finds old chain found new × IsChainReply found reply
