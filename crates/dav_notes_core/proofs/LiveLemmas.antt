-- Stores that are equal but for locks that have expired.
use Rattle.std.proofs.Common.{◌≡◌, ℕ, ◌≤◌, arith, Bool, true, false, not, ◌&&◌, List, Option, Some, None, Result, Ok, Err, refl, sym, subst, ap, ◌∙◌}
use Rattle.std.proofs.lemmas.Bool.{false≢true, true≢false}
use Rattle.std.proofs.lemmas.Bool.Decides.{nat_tests}
use Rattle.std.proofs.lemmas.List.Elements.{filter_agree}
use Rattle.rand_core.specs.Stream.{Stream}
use Rattle.dav_path_core.specs.declared.errors.FsError.{FsError}
use Rattle.dav_path_core.proofs.lists.PlaceLemmas.{filter-filter}
use Rattle.dav_files_core.specs.Describing.{metadata}
use Rattle.dav_files_core.specs.Listing.{read_dir}
use Rattle.dav_files_core.specs.ContentParts.{read_at}
use Rattle.dav_files_core.specs.Properties.{get_props, get_prop}
use Rattle.dav_files_core.specs.Resources.{ResourceMap}
use Rattle.dav_locks_core.specs.Lock.{Lock}
use Rattle.dav_locks_core.specs.Stale.{has_come, is_stale, without_stale}
use Rattle.dav_locks_core.proofs.laws.StaleLemmas.{stale_once}
use Rattle.dav_guarded_core.specs.Requests.{Command, Request, Reply, Bytes, Entries, Meta, Props, Value, Answer, Refusal, Fs, Locked, NoLock, OutOfMemory}
use Rattle.dav_guarded_core.specs.ResourceStep.{tells}
use Rattle.dav_guarded_core.specs.Step.{Same, Effect, Serves}
use Rattle.dav_guarded_core.specs.Stores.{Stores, state_of}
use Rattle.dav_guarded_core.proofs.Frame.{told_left}
use Rattle.dav_notes_core.specs.Changes.{is_look}
use Rattle.dav_notes_core.specs.Stepping.{AnsweredBy, SameLiveStores, live_stores}

-- equal part by part
pub stores_are : (s : Stores) (m : ResourceMap) (locks : List Lock) → s.map ≡ m → s.locks ≡ locks → s ≡ record { map = m; locks = locks }
stores_are s m locks p q = rw (sym p, sym q) refl

pub live_once : (now : ℕ) (s : Stores) → live_stores now (live_stores now s) ≡ live_stores now s
live_once now s = ap (λ (locks : List Lock). record s { locks = locks }) (stale_once now s.locks)

-- what a step starts from alone
pub live_same : (now : ℕ) (s s' : Stores) → s' ≡ live_stores now s → SameLiveStores now s s'
live_same now s s' h = ap (live_stores now) h ∙ live_once now s

-- ---- at a later moment

has_come_on : (now later : ℕ) (end : Option ℕ) → now ≤ later → has_come now end ≡ true → has_come later end ≡ true
has_come_on now later None le h = h
has_come_on now later (Some end) le h = grind (arith, nat_tests)

lasted : (now later : ℕ) (l : Lock) → now ≤ later → not (is_stale later l) ≡ true → not (is_stale now l) ≡ true
lasted now later l le lasts = by (is_stale now l) refl
  where
    by : (b : Bool) → is_stale now l ≡ b → not b ≡ true
    by true was = absurd (true≢false (sym lasts ∙ ap not (has_come_on now later l.timeout_at le was)))
    by false was = refl

and_under : (q p : Bool) → (p ≡ true → q ≡ true) → (q && p) ≡ p
and_under true p h = refl
and_under false true h = h refl
and_under false false h = refl

live_later : (now later : ℕ) (s : Stores) → now ≤ later → live_stores later (live_stores now s) ≡ live_stores later s
live_later now later s le =
    let same : without_stale later (without_stale now s.locks) ≡ without_stale later s.locks =
    filter-filter (λ l. not (is_stale later l)) (λ l. not (is_stale now l)) s.locks
    ∙ filter_agree _ _ (λ l. and_under (not (is_stale now l)) (not (is_stale later l)) (lasted now later l le)) s.locks in
    ap (λ (locks : List Lock). record s { locks = locks }) same

pub same_later : (now later : ℕ) (s t : Stores) → now ≤ later → SameLiveStores now s t → SameLiveStores later s t
same_later now later s t le h = sym (live_later now later t le) ∙ ap (live_stores later) h ∙ live_later now later s le

-- ---- a step starts from what lasts alone

pub step_from : (drawn : Option (List ℕ)) (s t s' : Stores) (r : Request) (a : Answer) → SameLiveStores r.now s t → AnsweredBy drawn t r a s' → AnsweredBy drawn s r a s'
step_from drawn s t s' r a h k = record {
  before = k.before;
  after = k.after;
  draws = k.draws;
  step = subst (λ (u : Stores). Serves (state_of u k.before) r a (state_of s' k.after)) h k.step;
}

-- ---- what changes nothing else

same_left : (u s' : Stores) (f g : Stream) → Same (state_of u f) (state_of s' g) → s' ≡ u
same_left u s' f g h = stores_are s' u.map u.locks h.map_is h.locks_are

told_same : {A : Type 0} (u s' : Stores) (tell : A → Reply) (o : Result A FsError) (reply : Reply) → tells u.map tell o ≡ Ok (reply, s'.map) → s'.locks ≡ u.locks → s' ≡ u
told_same u s' tell o reply told locks = stores_are s' u.map u.locks (told_left u.map tell o reply s'.map told) locks

look_effect : (c : Command) (u s' : Stores) (f g : Stream) (r : Request) (reply : Reply) → is_look c ≡ true → Effect c (state_of u f) r reply (state_of s' g) → s' ≡ u
look_effect (Command.Read path at count) u s' f g r reply look e = told_same u s' Bytes (read_at u.map path at count) reply e.0 e.1.locks_are
look_effect (Command.List path) u s' f g r reply look e = told_same u s' Entries (read_dir u.map path) reply e.0 e.1.locks_are
look_effect (Command.Meta path) u s' f g r reply look e = told_same u s' Meta (metadata u.map path) reply e.0 e.1.locks_are
look_effect (Command.GetProps path content) u s' f g r reply look e = told_same u s' Props (get_props u.map path content) reply e.0 e.1.locks_are
look_effect (Command.GetProp path wanted) u s' f g r reply look e = told_same u s' Value (get_prop u.map path wanted) reply e.0 e.1.locks_are
look_effect (Command.Discover path) u s' f g r reply look e = same_left u s' f g e.1
look_effect (Command.Check path deep) u s' f g r reply look e = same_left u s' f g e.1
look_effect _ u s' f g r reply look e = absurd (false≢true look)

pub refused_live : (drawn : Option (List ℕ)) (s s' : Stores) (r : Request) (e : Refusal) → AnsweredBy drawn s r (Err e) s' → SameLiveStores r.now s s'
refused_live drawn s s' r (Fs e) h = live_same r.now s s' (same_left (live_stores r.now s) s' h.before h.after h.step.1)
refused_live drawn s s' r (Locked l) h = live_same r.now s s' (same_left (live_stores r.now s) s' h.before h.after h.step.1)
refused_live drawn s s' r NoLock h = live_same r.now s s' (same_left (live_stores r.now s) s' h.before h.after h.step.1)
refused_live drawn s s' r OutOfMemory h = live_same r.now s s' (same_left (live_stores r.now s) s' h.before h.after h.step.1)

pub looks_live : (drawn : Option (List ℕ)) (s s' : Stores) (r : Request) (a : Answer) → is_look r.command ≡ true → AnsweredBy drawn s r a s' → SameLiveStores r.now s s'
looks_live drawn s s' r (Ok reply) look h = live_same r.now s s' (look_effect r.command (live_stores r.now s) s' h.before h.after r reply look h.step.1)
looks_live drawn s s' r (Err e) look h = refused_live drawn s s' r e h
