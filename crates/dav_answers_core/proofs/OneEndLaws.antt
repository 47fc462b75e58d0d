-- A request that is read ends in one way: it is done, or its `If` or its method refuses it.
use Rattle.std.proofs.Common.{◌≡◌, ◌⊎◌, inl, inr, ℕ, Bool, true, List, Result, Ok, Err, refl, sym, ◌∙◌, subst}
use Rattle.http.specs.declared.request.Request.{Request}
use Rattle.http.specs.Request.{head_of}
use Rattle.dav_path_core.specs.PathText.{PathText}
use Rattle.dav_faults_core.specs.declared.faults.Fault.{Fault}
use Rattle.dav_faults_core.specs.declared.faults.Fault.TheVariants as fault
use Rattle.dav_fields_core.specs.RequestRefusals.{IsLastMoment}
use Rattle.dav_session_core.specs.Callers.{Caller, live}
use Rattle.dav_methods_core.specs.SameFaults.{AreAlike}
use Rattle.dav_answers_core.proofs.AdmitAlikeLaws.{admitted_or_not, held_off_alike}
use Rattle.dav_answers_core.proofs.SameFaultLemmas.{IsShort}
use Rattle.dav_answers_core.proofs.StageLemmas.{AllAlike}
use Rattle.dav_handler_core.specs.MethodAnswers.{Admits, Begins, HoldsOff, Unread}
use Rattle.dav_handler_core.specs.RequestMoments.{ComesAt}
use Rattle.dav_handler_core.specs.Server.{Server, site_for}
use Rattle.dav_answers_core.proofs.BeginAlikeLaws.{begins_or_unread, one_beginning, unread_alike}

-- two results are one: both are done with one status, and so much is left alike; or both are alike
-- refusals; or one is for want of memory
abbrev pub AreOne : Result ℕ Fault → Result ℕ Fault → Type 0 → Type 0
AreOne (Ok status) (Ok other) Left = (status ≡ other) × Left
AreOne (Ok status) (Err f) Left = IsShort f
AreOne (Err e) (Ok other) Left = IsShort e
AreOne (Err e) (Err f) Left = AreAlike e f

abbrev pub IsShortResult : Result ℕ Fault → Type 0
IsShortResult (Ok status) = ⊥
IsShortResult (Err e) = IsShort e

-- what is done in two ways, and refused, is done in one way
pub record IsDoneOnce (Does Also : ℕ → Type 0) (Refuses : Fault → Type 0) (Left : Type 0)
    : Type 0 where
  pub done : (status other : ℕ) → Does status → Also other → (status ≡ other) × Left
  pub either : (status : ℕ) (e : Fault) → Does status → Refuses e → IsShort e
  pub also : (status : ℕ) (e : Fault) → Also status → Refuses e → IsShort e
  pub refused : AllAlike Refuses

-- the server at a moment, as a request finds it that comes then
abbrev pub at : Server → ℕ → Server
at before n = record before { last = n }

module _ (before : Server) (request : Request (List ℕ)) (changes : Bool) where
  -- A request that came at a moment was done, or wasn't read, or was refused.
  pub record EndsWell (n : ℕ) (Does : ℕ → Caller → PathText → ℕ → Type 0) (status : ℕ)
      : Type 0 where
    pub path : PathText
    pub who : Caller
    pub begins : Begins before request (at before n) path who
    pub admits : Admits before request (at before n) path
    pub does : Does n who path status

  pub record EndsBadly (n : ℕ) (Refuses : ℕ → Caller → PathText → Fault → Type 0) (e : Fault)
      : Type 0 where
    pub path : PathText
    pub who : Caller
    pub begins : Begins before request (at before n) path who
    pub why : HoldsOff before request (at before n) path e
        ⊎ (Admits before request (at before n) path × Refuses n who path e)

  abbrev pub Ends : ℕ → (ℕ → Caller → PathText → ℕ → Type 0)
      → (ℕ → Caller → PathText → Fault → Type 0) → Result ℕ Fault → Type 0
  Ends n Does Refuses (Ok status) = EndsWell n Does status
  Ends n Does Refuses (Err e) =
      Unread before.options request before.last changes e ⊎ EndsBadly n Refuses e

  module _ (n : ℕ) (early : changes ≡ true → ¬ IsLastMoment before.last)
      (Does Also : ℕ → Caller → PathText → ℕ → Type 0)
      (Refuses : ℕ → Caller → PathText → Fault → Type 0) (Left : Type 0)
      (law : (path : PathText) (who : Caller) → who.now ≡ n
      → IsDoneOnce (Does n who path) (Also n who path) (Refuses n who path) Left) where
    -- what begins in time is read
    read : (path : PathText) (who : Caller) (e : Fault)
        → Begins before request (at before n) path who
        → Unread before.options request before.last changes e → IsShort e
    read path who e begins unread =
        by (begins_or_unread before request (at before n) path who changes e begins unread)
      where
        by : IsShort e
            ⊎ ((changes ≡ true) × IsLastMoment before.last × (e ≡ fault.ServiceUnavailable))
            → IsShort e
        by (inl short) = short
        by (inr last) = absurd (early last.0 last.1)

    -- it has one path and one caller
    same : (path other : PathText) (who also : Caller)
        → Begins before request (at before n) path who
        → Begins before request (at before n) other also → (path ≡ other) × (who ≡ also)
    same path other who also h k =
        one_beginning before request (at before n) (at before n) path other who also h k refl

    both_well : (status other : ℕ) → EndsWell n Does status → EndsWell n Also other
        → (status ≡ other) × Left
    both_well status other h k =
        let is = same h.path k.path h.who k.who h.begins k.begins in
        (law k.path k.who k.begins.now).done status other
        (subst (λ path. Does n k.who path status) is.0
        (subst (λ who. Does n who h.path status) is.1 h.does)) k.does

    held_or_not : (path other : PathText) (who also : Caller) (e : Fault)
        → Begins before request (at before n) path who
        → Begins before request (at before n) other also
        → Admits before request (at before n) path → HoldsOff before request (at before n) other e
        → IsShort e
    held_or_not path other who also e h k admits held =
        admitted_or_not (site_for before.options request) (live n before.state)
        (head_of request).headers path e admits
        (subst (λ q. HoldsOff before request (at before n) q e)
        (sym (same path other who also h k).0) held)

    refuses_there : (path other : PathText) (who also : Caller) (e : Fault)
        → Begins before request (at before n) path who
        → Begins before request (at before n) other also
        → Refuses n also other e → Refuses n who path e
    refuses_there path other who also e h k refuses =
        let is = same path other who also h k in
        subst (λ w. Refuses n w path e) (sym is.1)
        (subst (λ q. Refuses n also q e) (sym is.0) refuses)

    done_badly : (Done : ℕ → Caller → PathText → ℕ → Type 0)
        → ((path : PathText) (who : Caller) → who.now ≡ n → (status : ℕ) (e : Fault)
        → Done n who path status → Refuses n who path e → IsShort e)
        → (status : ℕ) (e : Fault) → EndsWell n Done status → EndsBadly n Refuses e → IsShort e
    done_badly Done either status e h k = elim k.why [
      | inl held ↦ held_or_not h.path k.path h.who k.who e h.begins k.begins h.admits held
      | inr refuses ↦ either h.path h.who h.begins.now status e h.does
          (refuses_there h.path k.path h.who k.who e h.begins k.begins refuses.1)
    ]

    both_badly : (e f : Fault) → EndsBadly n Refuses e → EndsBadly n Refuses f → AreAlike e f
    both_badly e f h k = by h.why k.why
      where
        by : HoldsOff before request (at before n) h.path e
            ⊎ (Admits before request (at before n) h.path × Refuses n h.who h.path e)
            → HoldsOff before request (at before n) k.path f
            ⊎ (Admits before request (at before n) k.path × Refuses n k.who k.path f) → AreAlike e f
        by (inl held) (inl off) =
            held_off_alike (site_for before.options request) (live n before.state)
            (head_of request).headers h.path e f held
            (subst (λ q. HoldsOff before request (at before n) q f)
            (sym (same h.path k.path h.who k.who h.begins k.begins).0) off)
        by (inl held) (inr refuses) =
            inl (held_or_not k.path h.path k.who h.who e k.begins h.begins refuses.0 held)
        by (inr refuses) (inl off) =
            inr (inl (held_or_not h.path k.path h.who k.who f h.begins k.begins refuses.0 off))
        by (inr refuses) (inr also) =
            (law h.path h.who h.begins.now).refused e f refuses.1
            (refuses_there h.path k.path h.who k.who f h.begins k.begins also.1)

    pub ends_once : (result other : Result ℕ Fault) → Ends n Does Refuses result
        → Ends n Also Refuses other → AreOne result other Left
    ends_once (Ok status) (Ok other) h k = both_well status other h k
    ends_once (Ok status) (Err f) h (inl k) = read h.path h.who f h.begins k
    ends_once (Ok status) (Err f) h (inr k) =
        done_badly Does (λ path who now. (law path who now).either) status f h k
    ends_once (Err e) (Ok other) (inl h) k = read k.path k.who e k.begins h
    ends_once (Err e) (Ok other) (inr h) k =
        done_badly Also (λ path who now. (law path who now).also) other e k h
    ends_once (Err e) (Err f) (inl h) (inl k) =
        unread_alike before.options request before.last changes e f h k
    ends_once (Err e) (Err f) (inl h) (inr k) = inl (read k.path k.who e k.begins h)
    ends_once (Err e) (Err f) (inr h) (inl k) = inr (inl (read h.path h.who f h.begins k))
    ends_once (Err e) (Err f) (inr h) (inr k) = both_badly e f h k

  -- ---- when it comes

  -- Both begin at one moment; or neither is read, and the last moment stays.
  pub record BothBegin (after other : Server) : Type 0 where
    pub one : other.last ≡ after.last
    pub early : changes ≡ true → ¬ IsLastMoment before.last

  pub record NeitherBegins (result also : Result ℕ Fault) (after other : Server) : Type 0 where
    pub one : other.last ≡ after.last
    pub e : Fault
    pub f : Fault
    pub is : result ≡ Err e
    pub also_is : also ≡ Err f
    pub alike : AreAlike e f

  short_is : (result : Result ℕ Fault) (e : Fault) → result ≡ Err e → IsShort e
      → IsShortResult result
  short_is (Ok status) e is short = absurd (cc)
  short_is (Err f) e is short = let same : f ≡ e = cc in same ∙ short

  pub comes_once : (result also : Result ℕ Fault) (after other : Server)
      → ComesAt changes before request result after → ComesAt changes before request also other
      → BothBegin after other ⊎ (NeitherBegins result also after other
      ⊎ (IsShortResult result ⊎ IsShortResult also))
  comes_once result also after other (ComesAt.begun path who begins at)
      (ComesAt.begun q w k also_at) =
      inl (record { one = also_at.0 ∙ sym at.0; early = at.1 })
  comes_once result also after other (ComesAt.begun path who begins at)
      (ComesAt.unread f is why left) =
      elim (begins_or_unread before request after path who changes f begins why) [
        | inl short ↦ inr (inr (inr (short_is also f is short)))
        | inr last ↦ absurd (at.1 last.0 last.1)
      ]
  comes_once result also after other (ComesAt.unread e is why left) (ComesAt.begun q w k at) =
      elim (begins_or_unread before request other q w changes e k why) [
        | inl short ↦ inr (inr (inl (short_is result e is short)))
        | inr last ↦ absurd (at.1 last.0 last.1)
      ]
  comes_once result also after other (ComesAt.unread e is why left)
      (ComesAt.unread f also_is because stays) =
      inr (inl (record {
        one = stays ∙ sym left;
        e = e;
        f = f;
        is = is;
        also_is = also_is;
        alike = unread_alike before.options request before.last changes e f why because;
      }))
