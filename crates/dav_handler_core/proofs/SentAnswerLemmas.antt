-- What an answer has behind its date.
use Rattle.std.proofs.Common.{◌≡◌, ℕ, List, [], Some, Result, Ok, Err, refl, ap, ◌∙◌}
use Rattle.std.specs.Prelude.{IfErr, IfOk, OnOk}
use Rattle.http_server.specs.Response.{fields_of}
use Rattle.http_server.specs.declared.response.Response.{Response}
use Rattle.dav_faults_core.specs.declared.faults.Fault.{Fault}
use Rattle.dav_fields_core.specs.AnswerFields.{first_fields, options_fields}
use Rattle.dav_path_core.specs.declared.util.DavMethod.TheVariants as method
use Rattle.dav_faults_core.specs.declared.faults.Fault.TheVariants as fault
use Rattle.dav_fields_core.specs.Fields.{Field, Sent, sent_behind, nothing_sent, sent_of}
use Rattle.http.specs.declared.request.Request.{Request}
use Rattle.dav_fields_core.proofs.ReadMarks.{on_ok}
use Rattle.dav_handler_core.specs.Answers.{Answers, AnswersTo, SendsBehind, SendsOwn}
use Rattle.dav_handler_core.specs.Server.{Server}
use Rattle.dav_handler_core.specs.ServerViews.{IsDated}
use Rattle.dav_safe_methods_core.proofs.SentLemmas.{sent_is}

-- what holds anyway holds where something is done
pub always : (result : Result ℕ Fault) (P : Type 0) → P → OnOk result P
always (Ok status) P h = h
always (Err e) P h = tt

-- what is sent behind what the beginning of a request has said
pub sent_dated : (date : List ℕ) (old new : Response) (result : Result ℕ Fault) (own : Sent) → IsDated date old → OnOk result (sent_of new ≡ sent_behind (fields_of old) own)
    → OnOk result (sent_of new ≡ sent_behind (first_fields date) own)
sent_dated date old new (Ok status) own dated h = h ∙ ap (λ first. sent_behind first own) dated.0
sent_dated date old new (Err e) own dated h = tt

-- nothing is
pub date_alone : (date : List ℕ) (response : Response) → IsDated date response → sent_of response ≡ sent_behind (first_fields date) nothing_sent
date_alone date response dated = sent_is response (first_fields date) [] dated.0 dated.1

-- what an OPTIONS is told behind the date
pub options_told : (date : List ℕ) (old new : Response) (result : Result ℕ Fault) (own : Sent) → fields_of old ≡ first_fields date → IfOk result (λ status. status ≡ 200)
    → OnOk result (sent_of new ≡ sent_behind (fields_of old) own) → IfOk result (λ status. (status ≡ 200) × (sent_of new ≡ sent_behind (first_fields date) own))
options_told date old new (Ok status) own said is told = (is, told ∙ ap (λ first. sent_behind first own) said)
options_told date old new (Err e) own said is told = tt

pub options_answered : (date : List ℕ) (new : Response) (server : Server) (request : Request (List ℕ)) (result : Result ℕ Fault)
    → IfOk result (λ status. (status ≡ 200) × (sent_of new ≡ sent_behind (first_fields date) (record { fields = options_fields; body = [] })))
    → IfErr result (λ e. e ≡ fault.InsufficientStorage)
    → (own : Sent) × OnOk result (sent_of new ≡ sent_behind (first_fields date) own) × AnswersTo (Some method.Options) server request result own server
    × SendsOwn (Some method.Options) server request result own
options_answered date new server request (Ok status) told err = (record { fields = options_fields; body = [] }, told.1, (told.0, refl), refl)
options_answered date new server request (Err e) told err = (nothing_sent, tt, (err, refl), tt)

-- ---- of an answer

behind_by : (first : List Field) (prefix : List ℕ) (result : Result ℕ Fault) (own sent : Sent) → SendsBehind first prefix result own sent → OnOk result (sent ≡ sent_behind first own)
behind_by first prefix (Ok status) own sent h = h
behind_by first prefix (Err e) own sent h = tt

-- what is done is told by what the method sends
pub own_sent : (before : Server) (request : Request (List ℕ)) (response : Response) (after : Server) (h : Answers before request response after)
    → OnOk h.result (sent_of response ≡ sent_behind (first_fields h.date) h.own)
own_sent before request response after h = behind_by (first_fields h.date) before.options.prefix h.result h.own (sent_of response) h.sends

pub own_body : (before : Server) (request : Request (List ℕ)) (response : Response) (after : Server) (h : Answers before request response after)
    → OnOk h.result (response.body.items ≡ h.own.body)
own_body before request response after h = on_ok h.result _ _ (λ is. ap (λ (s : Sent). s.body) is) (own_sent before request response after h)
