-- A request is read in one way, or refused for one reason, memory aside.
use Rattle.std.proofs.Common.{◌≡◌, ◌⊎◌, inl, inr, ℕ, Bool, true, List, Option, refl, sym, ap, ◌∙◌}
use Rattle.http.specs.declared.request.Request.{Request}
use Rattle.http.specs.Request.{head_of}
use Rattle.http_header.specs.FieldValue.{FieldValue}
use Rattle.http_header.specs.HeaderMap.{Entries}
use Rattle.dav_path_core.specs.PathText.{PathText}
use Rattle.dav_faults_core.specs.declared.faults.Fault.{Fault}
use Rattle.dav_faults_core.specs.declared.faults.Fault.TheVariants as fault
use Rattle.dav_fields_core.specs.Bases.{Site}
use Rattle.dav_fields_core.specs.RequestRefusals.{IsLastMoment}
use Rattle.http_uri.specs.Uri.{uri_path}
use Rattle.dav_fields_core.proofs.OnePathLaws.{one_path}
use Rattle.dav_fields_core.proofs.OneSenderLaws.{one_principal, one_refused_principal}
use Rattle.dav_fields_core.proofs.OneSenderLaws.{one_refused_target, one_submission}
use Rattle.dav_fields_core.proofs.OneSenderLaws.{principal_or_not, submission_or_bad, target_or_not}
use Rattle.dav_session_core.specs.Callers.{Caller, IsSender}
use Rattle.dav_methods_core.specs.SameFaults.{AreAlike}
use Rattle.dav_answers_core.proofs.SameFaultLemmas.{equal_alike}
use Rattle.dav_handler_core.specs.MethodAnswers.{Begins, Unread}
use Rattle.dav_handler_core.specs.MethodAnswers.Unread.{memory, target, principal, tokens, moment}
use Rattle.dav_handler_core.specs.Server.{IsFrom, Names, Options, Server, site_for}

-- ---- a request is read in one way

abbrev caller : Option (List ℕ) → List (List ℕ) → ℕ → Caller
caller named given now = record { principal = named; tokens = given; now = now }

one_caller : (named : Option (List ℕ)) (site : Site) (headers : Entries FieldValue)
    (a b : Caller) → IsSender named site headers a → IsSender named site headers b
    → a.now ≡ b.now → a ≡ b
one_caller named site headers a b h k now =
    ap (λ p. caller p a.tokens a.now)
    (one_principal named headers a.principal b.principal h.principal k.principal)
    ∙ ap (λ ts. caller b.principal ts a.now)
    (one_submission site headers a.tokens b.tokens h.tokens k.tokens)
    ∙ ap (caller b.principal b.tokens) now

pub one_beginning : (before : Server) (request : Request (List ℕ)) (after also : Server)
    (path path' : PathText) (who who' : Caller) → Begins before request after path who
    → Begins before request also path' who' → after.last ≡ also.last
    → (path ≡ path') × (who ≡ who')
one_beginning before request after also path path' who who' h k same = (
  one_path before.options.prefix (uri_path (head_of request).uri) path path' h.names k.names,
  one_caller before.options.user_header (site_for before.options request)
      (head_of request).headers who who' h.from k.from (h.now ∙ same ∙ sym k.now),
)

-- ---- or it isn't read

module _ (options : Options) (request : Request (List ℕ)) (last : ℕ) (changes : Bool) where
  -- the moment has run out
  abbrev pub IsPast : Fault → Type 0
  IsPast e = (changes ≡ true) × IsLastMoment last × (e ≡ fault.ServiceUnavailable)

  read_or_not : (path : PathText) (who : Caller) (e : Fault) → Names options request path
      → IsFrom options request who → Unread options request last changes e
      → (e ≡ fault.InsufficientStorage) ⊎ IsPast e
  read_or_not path who _ names from memory = inl refl
  read_or_not path who _ names from (target e k) =
      target_or_not options.prefix (head_of request).uri path e names k
  read_or_not path who _ names from (principal e other named k) =
      principal_or_not options.user_header (head_of request).headers who.principal e
      from.principal k
  read_or_not path who _ names from (tokens other named names' by k) =
      submission_or_bad (site_for options request) (head_of request).headers who.tokens
      from.tokens k
  read_or_not path who _ names from (moment other who' names' from' is_change is_last) =
      inr (is_change, is_last, refl)

  pub unread_alike : (e f : Fault) → Unread options request last changes e
      → Unread options request last changes f → AreAlike e f
  unread_alike _ f memory k = inl refl
  unread_alike _ _ (target e h) memory = inr (inl refl)
  unread_alike _ _ (target e h) (target f k) =
      equal_alike e f (one_refused_target options.prefix (head_of request).uri e f h k)
  unread_alike _ _ (target e h) (principal f path names k) =
      target_or_not options.prefix (head_of request).uri path e names h
  unread_alike _ _ (target e h) (tokens path who names by k) =
      target_or_not options.prefix (head_of request).uri path e names h
  unread_alike _ _ (target e h) (moment path who names from change is_last) =
      target_or_not options.prefix (head_of request).uri path e names h
  unread_alike _ _ (principal e path names h) memory = inr (inl refl)
  unread_alike _ _ (principal e path names h) (target f k) =
      target_or_not options.prefix (head_of request).uri path f names k
  unread_alike _ _ (principal e path names h) (principal f other names' k) =
      equal_alike e f
      (one_refused_principal options.user_header (head_of request).headers e f h k)
  unread_alike _ _ (principal e path names h) (tokens other who names' by k) =
      principal_or_not options.user_header (head_of request).headers who e by h
  unread_alike _ _ (principal e path names h) (moment other who names' from change is_last) =
      principal_or_not options.user_header (head_of request).headers who.principal e
      from.principal h
  unread_alike _ _ (tokens path who names by h) memory = inr (inl refl)
  unread_alike _ _ (tokens path who names by h) (target f k) =
      target_or_not options.prefix (head_of request).uri path f names k
  unread_alike _ _ (tokens path who names by h) (principal f other names' k) =
      principal_or_not options.user_header (head_of request).headers who f by k
  unread_alike _ _ (tokens path who names by h) (tokens other who' names' by' k) =
      equal_alike fault.BadRequest fault.BadRequest refl
  unread_alike _ _ (tokens path who names by h) (moment other who' names' from change is_last) =
      submission_or_bad (site_for options request) (head_of request).headers who'.tokens
      from.tokens h
  unread_alike _ _ (moment path who names from change is_last) memory = inr (inl refl)
  unread_alike _ _ (moment path who names from change is_last) (target f k) =
      target_or_not options.prefix (head_of request).uri path f names k
  unread_alike _ _ (moment path who names from change is_last) (principal f other names' k) =
      principal_or_not options.user_header (head_of request).headers who.principal f
      from.principal k
  unread_alike _ _ (moment path who names from change is_last) (tokens other who' names' by k) =
      submission_or_bad (site_for options request) (head_of request).headers who.tokens
      from.tokens k
  unread_alike _ _ (moment path who names from change is_last)
      (moment other who' names' from' change' is_last') =
      equal_alike fault.ServiceUnavailable fault.ServiceUnavailable refl

pub begins_or_unread : (before : Server) (request : Request (List ℕ)) (after : Server)
    (path : PathText) (who : Caller) (changes : Bool) (e : Fault)
    → Begins before request after path who
    → Unread before.options request before.last changes e
    → (e ≡ fault.InsufficientStorage)
    ⊎ ((changes ≡ true) × IsLastMoment before.last × (e ≡ fault.ServiceUnavailable))
begins_or_unread before request after path who changes e h k =
    read_or_not before.options request before.last changes path who e h.names h.from k
