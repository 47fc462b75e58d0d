-- A request is answered alike by all generators that give the same bytes.
use Rattle.std.proofs.Common.{◌≡◌, ℕ, Bool, true, false, ◌&&◌, List, [], ◌∷◌, ◌++◌, Option, Ok, Err, refl, sym, subst, ap, ◌∙◌}
use Rattle.std.specs.Prelude.{Contains, is_ok}
use Rattle.rand_core.specs.Stream.{Stream}
use Rattle.dav_locks_core.specs.Lock.{Lock}
use Rattle.dav_locks_core.specs.NewLock.{new_lock}
use Rattle.dav_guarded_core.specs.Requests.{Command, Request, Reply, Granted, Answer, Refusal, Fs, Locked, NoLock, OutOfMemory}
use Rattle.dav_guarded_core.specs.Step.{Effect, MayLackMemory, Serves, Step}
use Rattle.dav_guarded_core.specs.Stores.{Stores, state_of}
use Rattle.dav_notes_core.specs.Changes.{grants}
use Rattle.dav_notes_core.specs.Stepping.{AnsweredBy, Draws, left_by, live_stores}
use Rattle.dav_notes_core.proofs.AlikeLemmas.{conflicts_alike}
use Rattle.dav_notes_core.proofs.DrawLemmas.{tokens_alike}

effect_with : (c : Command) (drawn : Option (List ℕ)) (u s : Stores) (r : Request) (x : Reply) (f g f' : Stream) → Draws c drawn f → Draws c drawn g
    → Effect c (state_of u f) r x (state_of s f') → Effect c (state_of u g) r x (state_of s (left_by (grants c) g))
effect_with (Command.Lock path owner timeout shared deep) drawn u s r x f g f' p q e =
    let token = tokens_alike drawn f g p q in (
      e.0 ∙ ap (λ (t : List ℕ). Granted (new_lock t path r.principal owner timeout shared deep r.now)) token,
      record {
        map_is = e.1.map_is;
        locks_are = e.1.locks_are ∙ ap (λ (t : List ℕ). u.locks ++ (new_lock t path r.principal owner timeout shared deep r.now ∷ [])) token;
        rng_is = refl;
      },
    )
effect_with (Command.Unlock path token) drawn u s r x f g f' p q e = (e.0, e.1, e.2, record { map_is = e.3.map_is; locks_are = e.3.locks_are; rng_is = refl })
effect_with (Command.Refresh path token timeout) drawn u s r x f g f' p q e =
    (e.0, e.1, e.2, e.3, e.4, record { map_is = e.5.map_is; locks_are = e.5.locks_are; rng_is = refl })
effect_with (Command.Discover path) drawn u s r x f g f' p q e = (e.0, record { map_is = e.1.map_is; locks_are = e.1.locks_are; rng_is = refl })
effect_with (Command.Check path deep) drawn u s r x f g f' p q e = (e.0, record { map_is = e.1.map_is; locks_are = e.1.locks_are; rng_is = refl })
effect_with _ drawn u s r x f g f' p q e = (e.0, record { map_is = refl; locks_are = e.1.locks_are; rng_is = refl })

lacks_with : (c : Command) (u : Stores) (r : Request) (f g : Stream) → MayLackMemory c (state_of u f) r → MayLackMemory c (state_of u g) r
lacks_with (Command.Lock path owner timeout shared deep) u r f g h = h
lacks_with (Command.Refresh path token timeout) u r f g h = h
lacks_with (Command.Discover path) u r f g h = h
lacks_with _ u r f g h = h

refused_with : (u s : Stores) (r : Request) (e : Refusal) (f g f' : Stream) → Serves (state_of u f) r (Err e) (state_of s f') → Serves (state_of u g) r (Err e) (state_of s g)
refused_with u s r (Locked l) f g f' h = (
  subst (λ (ls : List Lock). Contains ls l) (conflicts_alike r.command u r f g) h.0,
  record { map_is = h.1.map_is; locks_are = h.1.locks_are; rng_is = refl },
)
refused_with u s r OutOfMemory f g f' h = (lacks_with r.command u r f g h.0, record { map_is = h.1.map_is; locks_are = h.1.locks_are; rng_is = refl })
refused_with u s r NoLock f g f' h = (h.0, record { map_is = h.1.map_is; locks_are = h.1.locks_are; rng_is = refl })
refused_with u s r (Fs e) f g f' h = (
  (h.0.0, conflicts_alike r.command u r g f ∙ h.0.1, h.0.2),
  record { map_is = h.1.map_is; locks_are = h.1.locks_are; rng_is = refl },
)

no_draw : (b : Bool) (g : Stream) → left_by (b && false) g ≡ g
no_draw true g = refl
no_draw false g = refl

a_draw : (b : Bool) (g : Stream) → left_by (b && true) g ≡ left_by b g
a_draw true g = refl
a_draw false g = refl

pub steps_with : (drawn : Option (List ℕ)) (s s' : Stores) (r : Request) (a : Answer) (g : Stream) → AnsweredBy drawn s r a s' → Draws r.command drawn g
    → Step (state_of s g) r a (state_of s' (left_by (grants r.command && is_ok a) g))
steps_with drawn s s' r (Ok x) g h d =
    subst (λ (t : Stream). Step (state_of s g) r (Ok x) (state_of s' t)) (sym (a_draw (grants r.command) g))
    (conflicts_alike r.command (live_stores r.now s) r g h.before ∙ h.step.0, effect_with r.command drawn (live_stores r.now s) s' r x h.before g h.after h.draws d h.step.1)
steps_with drawn s s' r (Err e) g h d =
    subst (λ (t : Stream). Step (state_of s g) r (Err e) (state_of s' t)) (sym (no_draw (grants r.command) g)) (refused_with (live_stores r.now s) s' r e h.before g h.after h.step)
