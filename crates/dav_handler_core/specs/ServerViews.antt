-- What a contract sees of a server.
use Rattle.std.specs.Prelude.{◌≡◌, ℕ, List, [], Option, Result, OnOk, string_bytes}
use Rattle.rand_core.specs.Stream.{Stream}
use Rattle.http.specs.declared.request.Request.{Request}
use Rattle.http_server.specs.declared.response.Response.{Response}
use Rattle.dav_path_core.specs.declared.util.DavMethod.{DavMethod}
use Rattle.dav_guarded_core.specs.Stores.{Stores}
use Rattle.dav_faults_core.specs.declared.faults.Fault.{Fault}
use Rattle.http_server.specs.Response.{fields_of}
use Rattle.dav_fields_core.specs.AnswerFields.{first_fields}
use Rattle.dav_fields_core.specs.Fields.{Sent, sent_behind, sent_of}
use Rattle.dav_handler_core.specs.declared.dav.Dav.{Dav}
use Rattle.dav_handler_core.specs.declared.dav.Settings.{Settings}
use Rattle.dav_handler_core.specs.Answers.{AnswersTo, Leaves, SendsOwn}
use Rattle.dav_handler_core.specs.MethodAnswers.{GetAnswers}
use Rattle.dav_handler_core.specs.Server.{Options, Server}
use Rattle.dav_session_core.specs.Callers.{SameLive}
use Rattle.dav_session_core.specs.Sessions.{caller, noting, state, stores_behind}

abbrev pub options_of : Settings → Options
options_of s = record {
  scheme = s.scheme;
  prefix = string_bytes s.prefix;
  user_header = s.user_header;
  longest = s.longest_timeout;
  finite = s.finite_depth;
}

-- of what the generator still gives
abbrev pub server : {R : Type 0} → (R → Stream) → Dav R → Server
server stream d = record {
  options = options_of d.settings;
  state = state stream d.session;
  last = (caller d.session).now;
  clock = d.clock.0;
  noting = noting d.session;
}

-- the stores alone
abbrev pub stores_of_server : {R : Type 0} → Dav R → Stores
stores_of_server d = stores_behind d.session

-- nothing has changed, but that locks have expired at the moment of the last request
abbrev pub Unchanged : {R : Type 0} → (R → Stream) → Dav R → Dav R → Type 0
Unchanged stream old new =
    SameLive (server stream new).last (server stream old).state (server stream new).state

-- A request of this method is answered so: by what it leaves of the server, and by what is sent
-- behind the date.
abbrev pub IsAnswered : {R : Type 0} → (R → Stream) → Option DavMethod → Dav R → Request (List ℕ)
    → Result ℕ Fault → List ℕ → Response → Dav R → Type 0
IsAnswered stream method old request result date response new =
    (own : Sent) × OnOk result (sent_of response ≡ sent_behind (first_fields date) own)
    × AnswersTo method (server stream old) request result own (server stream new)
    × SendsOwn method (server stream old) request result own

-- so is a GET or a HEAD
abbrev pub IsGotBy : {R : Type 0} → (R → Stream) → DavMethod → Dav R → Request (List ℕ)
    → Result ℕ Fault → List ℕ → Response → Dav R → Type 0
IsGotBy stream method old request result date response new =
    (own : Sent) × OnOk result (sent_of response ≡ sent_behind (first_fields date) own)
    × GetAnswers method (server stream old) request result own (server stream new)

-- the date is said, and nothing else
abbrev pub IsDated : List ℕ → Response → Type 0
IsDated date response =
    (fields_of response ≡ first_fields date) × (response.body.items ≡ [])

-- a refusal leaves the server so
abbrev pub LeftBy : {R : Type 0} → (R → Stream) → Option DavMethod → Dav R → Request (List ℕ)
    → Dav R → Fault → Type 0
LeftBy stream method old request new e =
    Leaves method (server stream old) request e (server stream new)
