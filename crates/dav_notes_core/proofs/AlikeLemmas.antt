-- A step that is answered Ok leads to one state, and is not refused but for want of memory.
use Rattle.std.proofs.Common.{◌≡◌, ℕ, zero, suc, false, inl, inr, List, [], ◌∷◌, ◌++◌, Option, Some, None, Ok, Err, get_or, refl, sym, subst, ap, ◌∙◌}
use Rattle.std.specs.Prelude.{set, remove, Contains}
use Rattle.std.proofs.lemmas.Bool.{true≢false}
use Rattle.rand_core.specs.Stream.{Stream}
use Rattle.dav_path_core.specs.declared.errors.FsError.{FsError}
use Rattle.dav_path_core.proofs.lists.MemberLemmas.{In-Contains}
use Rattle.dav_files_core.specs.Outcomes.{Outcome}
use Rattle.dav_files_core.specs.Resources.{ResourceMap}
use Rattle.dav_locks_core.specs.Lock.{Lock}
use Rattle.dav_locks_core.specs.Locks.{refreshed_lock}
use Rattle.dav_locks_core.specs.NewLock.{new_lock}
use Rattle.dav_guarded_core.specs.Requests.{Command, Request, Reply, Refusal, Fs, Locked, NoLock, OutOfMemory}
use Rattle.dav_guarded_core.specs.ResourceStep.{Does}
use Rattle.dav_guarded_core.specs.Step.{State, Effect, FindsNone, conflicts_by}
use Rattle.dav_guarded_core.specs.Stores.{Stores, state_of}
use Rattle.dav_notes_core.specs.Changes.{lacks_memory}
use Rattle.dav_notes_core.specs.Stepping.{AnsweredBy, Draws, SameLiveStores, live_stores}
use Rattle.dav_notes_core.proofs.DrawLemmas.{tokens_alike}
use Rattle.dav_notes_core.proofs.LiveLemmas.{stores_are, step_from}

-- equal part by part
same_stores : (s t : Stores) → s.map ≡ t.map → s.locks ≡ t.locks → s ≡ t
same_stores s t p q = stores_are s t.map t.locks p q

-- ---- two that are done

done_alike : (o : Outcome Reply) (x y : Reply) (m n : ResourceMap) → o ≡ Ok (x, m) → o ≡ Ok (y, n) → m ≡ n
done_alike o x y m n p q =
    let same : (x, m) ≡ (y, n) = cc in
    ap (λ (z : Reply × ResourceMap). z.1) same

does_alike : (c : Command) (m a b : ResourceMap) (now : ℕ) (x y : Reply) → Does m c now (Ok x) a → Does m c now (Ok y) b → a ≡ b
does_alike (Command.Lock path owner timeout shared deep) m a b now x y h k = absurd h
does_alike (Command.Unlock path token) m a b now x y h k = absurd h
does_alike (Command.Refresh path token timeout) m a b now x y h k = absurd h
does_alike (Command.Discover path) m a b now x y h k = absurd h
does_alike (Command.Check path deep) m a b now x y h k = absurd h
does_alike _ m a b now x y h k = done_alike _ x y a b h k

-- a lock that is not in the list is not refreshed
refresh_alike : (locks : List Lock) (i now : ℕ) (timeout : Option ℕ) (a b : Lock) → a ≡ refreshed_lock now timeout (get_or locks i a) → b ≡ refreshed_lock now timeout (get_or locks i b)
    → set locks i a ≡ set locks i b
refresh_alike [] zero now timeout a b p q = refl
refresh_alike [] (suc i) now timeout a b p q = refl
refresh_alike (l ∷ locks) zero now timeout a b p q = ap (λ (k : Lock). k ∷ locks) (p ∙ sym q)
refresh_alike (l ∷ locks) (suc i) now timeout a b p q = ap (λ (ks : List Lock). l ∷ ks) (refresh_alike locks i now timeout a b p q)

same_place : (o : Option ℕ) (i j : ℕ) → o ≡ Some i → o ≡ Some j → i ≡ j
same_place o i j p q = cc

effect_alike : (c : Command) (drawn : Option (List ℕ)) (u s t : Stores) (r : Request) (x y : Reply) (f g f' g' : Stream) → Draws c drawn f → Draws c drawn g
    → Effect c (state_of u f) r x (state_of s f') → Effect c (state_of u g) r y (state_of t g') → s ≡ t
effect_alike (Command.Lock path owner timeout shared deep) drawn u s t r x y f g f' g' p q h k =
    same_stores s t (h.1.map_is ∙ sym k.1.map_is)
    (h.1.locks_are ∙ ap (λ (token : List ℕ). u.locks ++ (new_lock token path r.principal owner timeout shared deep r.now ∷ [])) (tokens_alike drawn f g p q) ∙ sym k.1.locks_are)
effect_alike (Command.Unlock path token) drawn u s t r x y f g f' g' p q h k =
    same_stores s t (h.3.map_is ∙ sym k.3.map_is)
    (h.3.locks_are ∙ ap (λ (i : ℕ). remove u.locks i) (same_place _ h.0 k.0 h.1 k.1) ∙ sym k.3.locks_are)
effect_alike (Command.Refresh path token timeout) drawn u s t r x y f g f' g' p q h k =
    let here : h.0 ≡ k.0 = same_place _ h.0 k.0 h.2 k.2 in
    same_stores s t (h.5.map_is ∙ sym k.5.map_is)
    (h.5.locks_are
    ∙ refresh_alike u.locks h.0 r.now timeout h.1 k.1 h.3 (subst (λ (i : ℕ). k.1 ≡ refreshed_lock r.now timeout (get_or u.locks i k.1)) (sym here) k.3)
    ∙ ap (λ (i : ℕ). set u.locks i k.1) here
    ∙ sym k.5.locks_are)
effect_alike (Command.Discover path) drawn u s t r x y f g f' g' p q h k = same_stores s t (h.1.map_is ∙ sym k.1.map_is) (h.1.locks_are ∙ sym k.1.locks_are)
effect_alike (Command.Check path deep) drawn u s t r x y f g f' g' p q h k = same_stores s t (h.1.map_is ∙ sym k.1.map_is) (h.1.locks_are ∙ sym k.1.locks_are)
effect_alike (Command.Put path bytes) drawn u s t r x y f g f' g' p q h k =
    same_stores s t (does_alike (Command.Put path bytes) u.map s.map t.map r.now x y h.0 k.0) (h.1.locks_are ∙ sym k.1.locks_are)
effect_alike (Command.Write path at bytes) drawn u s t r x y f g f' g' p q h k =
    same_stores s t (does_alike (Command.Write path at bytes) u.map s.map t.map r.now x y h.0 k.0) (h.1.locks_are ∙ sym k.1.locks_are)
effect_alike (Command.Read path at count) drawn u s t r x y f g f' g' p q h k =
    same_stores s t (does_alike (Command.Read path at count) u.map s.map t.map r.now x y h.0 k.0) (h.1.locks_are ∙ sym k.1.locks_are)
effect_alike (Command.List path) drawn u s t r x y f g f' g' p q h k =
    same_stores s t (does_alike (Command.List path) u.map s.map t.map r.now x y h.0 k.0) (h.1.locks_are ∙ sym k.1.locks_are)
effect_alike (Command.Meta path) drawn u s t r x y f g f' g' p q h k =
    same_stores s t (does_alike (Command.Meta path) u.map s.map t.map r.now x y h.0 k.0) (h.1.locks_are ∙ sym k.1.locks_are)
effect_alike (Command.MkCol path) drawn u s t r x y f g f' g' p q h k =
    same_stores s t (does_alike (Command.MkCol path) u.map s.map t.map r.now x y h.0 k.0) (h.1.locks_are ∙ sym k.1.locks_are)
effect_alike (Command.Remove path) drawn u s t r x y f g f' g' p q h k =
    same_stores s t (does_alike (Command.Remove path) u.map s.map t.map r.now x y h.0 k.0) (h.1.locks_are ∙ sym k.1.locks_are)
effect_alike (Command.Move from to) drawn u s t r x y f g f' g' p q h k =
    same_stores s t (does_alike (Command.Move from to) u.map s.map t.map r.now x y h.0 k.0) (h.1.locks_are ∙ sym k.1.locks_are)
effect_alike (Command.Copy from to) drawn u s t r x y f g f' g' p q h k =
    same_stores s t (does_alike (Command.Copy from to) u.map s.map t.map r.now x y h.0 k.0) (h.1.locks_are ∙ sym k.1.locks_are)
effect_alike (Command.PatchProps path patch) drawn u s t r x y f g f' g' p q h k =
    same_stores s t (does_alike (Command.PatchProps path patch) u.map s.map t.map r.now x y h.0 k.0) (h.1.locks_are ∙ sym k.1.locks_are)
effect_alike (Command.GetProps path content) drawn u s t r x y f g f' g' p q h k =
    same_stores s t (does_alike (Command.GetProps path content) u.map s.map t.map r.now x y h.0 k.0) (h.1.locks_are ∙ sym k.1.locks_are)
effect_alike (Command.GetProp path wanted) drawn u s t r x y f g f' g' p q h k =
    same_stores s t (does_alike (Command.GetProp path wanted) u.map s.map t.map r.now x y h.0 k.0) (h.1.locks_are ∙ sym k.1.locks_are)

one_alike : (drawn : Option (List ℕ)) (s a b : Stores) (r : Request) (x y : Reply) → AnsweredBy drawn s r (Ok x) a → AnsweredBy drawn s r (Ok y) b → a ≡ b
one_alike drawn s a b r x y h k =
    effect_alike r.command drawn (live_stores r.now s) a b r x y h.before k.before h.after k.after h.draws k.draws h.step.1 k.step.1

-- from stores that are equal but for locks that have expired, what is answered Ok leads to the same stores
pub steps_alike : (drawn : Option (List ℕ)) (s t s' t' : Stores) (r : Request) (x y : Reply) → SameLiveStores r.now s t → AnsweredBy drawn s r (Ok x) s'
    → AnsweredBy drawn t r (Ok y) t' → s' ≡ t'
steps_alike drawn s t s' t' r x y same h k = one_alike drawn s s' t' r x y h (step_from drawn s t t' r (Ok y) same k)

-- ---- one that is done is refused only for want of memory

not_both : (o : Outcome Reply) (x : Reply) (m : ResourceMap) (e : FsError) → o ≡ Ok (x, m) → o ≡ Err e → ⊥
not_both o x m e p q = absurd (cc)

does_both : (c : Command) (u : Stores) (s : State) (r : Request) (x : Reply) (e : FsError) (f : Stream) → Effect c (state_of u f) r x s → Does u.map c r.now (Err e) u.map → ⊥
does_both (Command.Lock path owner timeout shared deep) u s r x e f h k = k
does_both (Command.Unlock path token) u s r x e f h k = k
does_both (Command.Refresh path token timeout) u s r x e f h k = k
does_both (Command.Discover path) u s r x e f h k = k
does_both (Command.Check path deep) u s r x e f h k = k
does_both _ u s r x e f h k = not_both _ x s.map e h.0 k.0

found_both : (o : Option ℕ) (i : ℕ) → o ≡ Some i → o ≡ None → ⊥
found_both o i p q = absurd (cc)

finds_both : (c : Command) (u : Stores) (s : State) (r : Request) (x : Reply) (f : Stream) → Effect c (state_of u f) r x s → FindsNone c u.locks → ⊥
finds_both (Command.Unlock path token) u s r x f h k = found_both _ h.0 h.1 k
finds_both (Command.Refresh path token timeout) u s r x f h k = found_both _ h.0 h.2 k
finds_both _ u s r x f h k = k

-- a generator stands in no lock's way
pub conflicts_alike : (c : Command) (u : Stores) (r : Request) (f g : Stream) → conflicts_by c (state_of u f) r ≡ conflicts_by c (state_of u g) r
conflicts_alike (Command.Lock path owner timeout shared deep) u r f g = refl
conflicts_alike _ u r f g = refl

pub done_or_refused : (drawn drawn' : Option (List ℕ)) (s a b : Stores) (r : Request) (x : Reply) (e : Refusal) → AnsweredBy drawn s r (Ok x) a → AnsweredBy drawn' s r (Err e) b
    → lacks_memory e ≡ false → ⊥
done_or_refused drawn drawn' s a b r x (Fs e) h k memory = elim k.step.0.2 [
  | inl lacks ↦ true≢false (sym (ap (λ (e : FsError). lacks_memory (Fs e)) lacks.0) ∙ memory)
  | inr does ↦ does_both r.command (live_stores r.now s) (state_of a h.after) r x e h.before h.step.1 does
]
done_or_refused drawn drawn' s a b r x (Locked l) h k memory =
    absurd (In-Contains [] l (subst (λ (ls : List Lock). Contains ls l) (conflicts_alike r.command (live_stores r.now s) r k.before h.before ∙ h.step.0) k.step.0))
done_or_refused drawn drawn' s a b r x NoLock h k memory = finds_both r.command (live_stores r.now s) (state_of a h.after) r x h.before h.step.1 k.step.0
done_or_refused drawn drawn' s a b r x OutOfMemory h k memory = true≢false memory
