-- What locks promise of each answer of the server.
use Rattle.std.proofs.Common.{◌≡◌, ◌⊎◌, inl, inr, ℕ, Bool, true, false, not, ◌||◌, List, [], ◌∷◌, ◌++◌, refl, sym, ◌∙◌, ap, subst}
use Rattle.std.specs.Prelude.{bytes_eq, Contains, get_or}
use Rattle.std.specs.List.{list_any}
use Rattle.std.proofs.lemmas.Bool.{cases_Bool, and_parts, not-true, or_left, true≢false}
use Rattle.std.proofs.lemmas.Slice.Eq.{bytes_eq-Decides}
use Rattle.http.specs.declared.request.Request.{Request}
use Rattle.http.specs.Request.{head_of}
use Rattle.http_server.specs.declared.response.Response.{Response}
use Rattle.dav_path_core.specs.Fronts.{Path, is_front, parent}
use Rattle.dav_path_core.specs.PathText.{PathText}
use Rattle.dav_path_core.specs.Segments.{segments}
use Rattle.dav_path_core.proofs.lists.EachLemmas.{none_passes}
use Rattle.dav_path_core.proofs.lists.FinMaps.{dec}
use Rattle.dav_path_core.proofs.lists.MemberLemmas.{In, In-Contains, Contains-In, In-filter, all_in, find_any}
use Rattle.dav_path_core.proofs.lists.Orders.{path_total, path_exact}
use Rattle.dav_path_core.proofs.paths.FrontLemmas.{is_same_path-refl}
use Rattle.dav_files_core.specs.Finding.{place}
use Rattle.dav_files_core.proofs.laws.PlaceLemmas.{put_places}
use Rattle.dav_locks_core.specs.Exclusive.{Exclusive}
use Rattle.dav_locks_core.specs.Lock.{Lock}
use Rattle.dav_locks_core.specs.Locks.{covers, lock_conflicts, refuses_change, refuses_lock}
use Rattle.dav_locks_core.specs.Stale.{is_stale, without_stale}
use Rattle.dav_locks_core.proofs.laws.CheckLemmas.{any_lock_held}
use Rattle.dav_locks_core.proofs.laws.EndedLemmas.{found_at}
use Rattle.dav_locks_core.proofs.laws.StandInLemmas.{In-StandIn}
use Rattle.dav_guarded_core.specs.Step.{State}
use Rattle.dav_handler_core.specs.Answers.{Answers, EndsOne, LocksOne}
use Rattle.dav_handler_core.specs.Server.{IsFrom, Server}
use Rattle.dav_handler_core.specs.MethodAnswers.{as_found}
use Rattle.dav_session_core.specs.Callers.{Caller, RunBy, as_caller, holds, is_own, refusing_at}
use Rattle.dav_handler_core.specs.Holding.{IsHolders, IsHoldersAbove, IsKeptUnderAny, IsKeptUnlessHeld, Lasts, StandsUnlessEnded}
use Rattle.dav_methods_core.specs.LockMethod.{Grants, Wanted}
use Rattle.dav_methods_core.specs.UnlockMethod.{NamesToken}
use Rattle.dav_methods_core.proofs.LockLemmas.{above_free, there_free}
use Rattle.dav_session_core.proofs.AnewLemmas.{of_filter}
use Rattle.dav_session_core.proofs.CallerLaws.{keeps_apart, kept_under_any as run_under_any}
use Rattle.dav_path_core.proofs.paths.AbovePaths.{left_or_gone}
use Rattle.dav_session_core.proofs.RefreshLemmas.{set_or_same}
use Rattle.dav_locks_core.proofs.laws.WithLock.{in_front}

module _ (before after : Server) (request : Request (List ℕ)) where
  by_holds : (who : Caller) (l : Lock) → IsFrom before.options request who → holds who l ≡ true → IsHolders before request l
  by_holds who l from h =
      let parts = and_parts (list_any (λ token. bytes_eq token l.token) who.tokens) (is_own who l) h in
      let named = find_any (λ token. bytes_eq token l.token) who.tokens parts.0 in
      record {
        who = who;
        from = from;
        own = parts.1;
        names = inl (Contains-In who.tokens l.token (subst (λ token. In token who.tokens) ((bytes_eq-Decides named.0 l.token).0 named.2) named.1));
      }

  -- ---- of a run that ends none

  run_stands : (who : Caller) (l : Lock) → IsFrom before.options request who → who.now ≡ after.last → Exclusive before.state.locks
      → RunBy who before.state after.state → Lasts before after l → Contains after.state.locks l ⊎ IsHolders before request l
  run_stands who l from now x run h = elim (cases_Bool (holds who l)) [
    | inl held ↦ inr (by_holds who l from held)
    | inr other ↦
        let fresh : is_stale who.now l ≡ false = ap (λ n. is_stale n l) now ∙ h.lasts in
        let kept : not (is_stale who.now l || holds who l) ≡ true = ap (λ b. not (b || holds who l)) fresh ∙ ap not other in
        inl (Contains-In after.state.locks l (In-StandIn l _ after.state.locks (keeps_apart who before.state after.state x run).stand
        (In-filter (λ l. not (is_stale who.now l || holds who l)) before.state.locks l (In-Contains before.state.locks l h.stood) kept)))
  ]

  run_keeps : (who : Caller) (l : Lock) (p : Path) → IsFrom before.options request who → who.now ≡ after.last → Exclusive before.state.locks
      → RunBy who before.state after.state → Lasts before after l → l.shared ≡ false → covers l p ≡ true
      → (place after.state.map p ≡ place before.state.map p) ⊎ IsHolders before request l
  run_keeps who l p from now x run h exclusive covered =
      elim ((keeps_apart who before.state after.state x run).isolated l h.stood exclusive (ap (λ n. is_stale n l) now ∙ h.lasts) p covered) [
        | inl same ↦ inl same
        | inr held ↦ inr (by_holds who l from held)
      ]

  run_keeps_any : (who : Caller) (l : Lock) (p : Path) → IsFrom before.options request who
      → who.now ≡ after.last
      → RunBy who before.state after.state → Lasts before after l → covers l p ≡ true
      → (place after.state.map p ≡ place before.state.map p) ⊎ IsHoldersAbove before after request p
  run_keeps_any who l p from now run h covered =
      elim (run_under_any who before.state after.state run l h.stood (ap (λ n. is_stale n l) now ∙ h.lasts) p covered) [
        | inl same ↦ inl same
        | inr above ↦ inr (record {
          lock = above.lock;
          lasting = record { stood = above.stood; lasts = ap (λ n. is_stale n above.lock) (sym now) ∙ above.lasts };
          holders = by_holds who above.lock from above.held;
          front = above.front;
          is_above = above.is_above;
          covered = above.covered;
        })
      ]

  -- ---- of an UNLOCK

  one_stands : (who : Caller) (l : Lock) → IsFrom before.options request who → EndsOne before request after who → Lasts before after l
      → Contains after.state.locks l ⊎ IsHolders before request l
  one_stands who l from e h =
      let locks = without_stale after.last before.state.locks in
      let ends = e.unlocks.ends in
      let here = In-filter (λ l. not (is_stale after.last l)) before.state.locks l (In-Contains before.state.locks l h.stood) (ap not h.lasts) in
      elim (left_or_gone locks ends.place l here) [
        | inl left ↦ inl (Contains-In after.state.locks l (subst (λ (s : State). In l s.locks) (sym ends.left) left))
        | inr gone ↦
            let named = (and_parts _ _ (found_at locks e.path e.unlocks.token ends.place ends.found_there l)).0 in
            let same = (bytes_eq-Decides (get_or locks ends.place l).token e.unlocks.token).0 named in
            inr (record {
              who = who;
              from = from;
              own = subst (λ k. is_own who k ≡ true) (gone l) (ends.own l);
              names = inr (subst (NamesToken (head_of request).headers) (sym same ∙ ap (λ (k : Lock). k.token) (gone l)) e.unlocks.names);
            })
      ]

  -- ---- of a LOCK

  by_names : (who : Caller) (l : Lock) → IsFrom before.options request who → is_own who l ≡ true → Contains who.tokens l.token → IsHolders before request l
  by_names who l from own named = record { who = who; from = from; own = own; names = inl named }

  -- the locks that are found are those that last
  found_here_still : (l : Lock) → Lasts before after l → In l (as_found before after).locks
  found_here_still l h = In-filter (λ l. not (is_stale after.last l)) before.state.locks l (In-Contains before.state.locks l h.stood) (ap not h.lasts)

  -- a lock that is left once those that expire are dropped
  left_live : (who : Caller) (l : Lock) (locks : List Lock) → without_stale who.now after.state.locks ≡ locks → In l locks → Contains after.state.locks l
  left_live who l locks is i =
      Contains-In after.state.locks l (of_filter (λ l. not (is_stale who.now l)) after.state.locks l (subst (In l) (sym is) i)).0

  locks_stand : (who : Caller) (l : Lock) (path : PathText) → IsFrom before.options request who → LocksOne (as_found before after) who path after.state → Lasts before after l
      → Contains after.state.locks l ⊎ IsHolders before request l
  locks_stand who l path from (LocksOne.grants wanted lock g) h =
      inl (left_live who l ((as_found before after).locks ++ lock ∷ []) (ap (λ (s : State). s.locks) g.left)
      (in_front (as_found before after).locks (lock ∷ []) l (found_here_still l h)))
  locks_stand who l path from (LocksOne.takes_back (inl left)) h = inl (left_live who l (as_found before after).locks (ap (λ (s : State). s.locks) left) (found_here_still l h))
  locks_stand who l path from (LocksOne.takes_back (inr kept)) h =
      inl (left_live who l ((as_found before after).locks ++ kept.0 ∷ []) (ap (λ (s : State). s.locks) kept.1)
      (in_front (as_found before after).locks (kept.0 ∷ []) l (found_here_still l h)))
  locks_stand who l path from (LocksOne.refreshes token timeout named r) h =
      let locks = (as_found before after).locks in
      elim (set_or_same locks r.place r.lock l (found_here_still l h)) [
        | inl left ↦ inl (Contains-In after.state.locks l (subst (λ (s : State). In l s.locks) (sym r.left) left))
        | inr gone ↦
            let same = (bytes_eq-Decides (get_or locks r.place l).token token).0 (and_parts _ _ (found_at locks (segments path.bytes) token r.place r.found_there l)).0 in
            inr (by_names who l from (subst (λ k. is_own who k ≡ true) (gone l) (r.own l))
            (subst (Contains who.tokens) (sym same ∙ ap (λ (k : Lock). k.token) (gone l)) named))
      ]

  -- an exclusive lock that covers a path refuses every other there
  no_other : (l : Lock) (p : Path) (shared deep : Bool) → lock_conflicts (as_found before after).locks p shared deep ≡ [] → Lasts before after l → l.shared ≡ false
      → ¬ (covers l p ≡ true)
  no_other l p shared deep free h exclusive covered =
      let each = none_passes (refuses_lock p shared deep) (as_found before after).locks free in
      let passes = all_in (λ l. refuses_lock p shared deep l ≡ false) (as_found before after).locks l each (found_here_still l h) in
      let refused : refuses_lock p shared deep l ≡ true = rw (exclusive, covered) refl in
      true≢false (sym refused ∙ passes)

  -- an exclusive lock that covers a path and lets the caller change it is held
  held_there : (who : Caller) (l : Lock) (p : Path) → refusing_at (as_found before after) who p ≡ [] → Lasts before after l → l.shared ≡ false → covers l p ≡ true
      → holds who l ≡ true
  held_there who l p free h exclusive covered = elim (cases_Bool (holds who l)) [
    | inl held ↦ held
    | inr other ↦
        let each = none_passes (refuses_change (as_found before after).locks p false (as_caller who)) (as_found before after).locks free in
        let passes = all_in (λ l. refuses_change (as_found before after).locks p false (as_caller who) l ≡ false) (as_found before after).locks l each (found_here_still l h) in
        let refused : refuses_change (as_found before after).locks p false (as_caller who) l ≡ true = rw (other, exclusive, covered) refl in
        absurd (true≢false (sym refused ∙ passes))
  ]

  -- what is made under a new lock changes its own path and its folder
  grants_keep : (who : Caller) (l : Lock) (path : PathText) (wanted : Wanted) (lock : Lock) → IsFrom before.options request who
      → Grants (as_found before after) who path wanted lock after.state → Lasts before after l → l.shared ≡ false → (q : Path) → covers l q ≡ true
      → (place after.state.map q ≡ place before.state.map q) ⊎ IsHolders before request l
  grants_keep who l path wanted lock from g h exclusive q covered = elim g.made [
    | inl there ↦ inl (ap (λ m. place m q) there.1)
    | inr made ↦
        let p = segments path.bytes in
        elim (dec path_total path_exact q p) [
          | inl here ↦ absurd (no_other l p wanted.shared wanted.deep g.free h exclusive (subst (λ q. covers l q ≡ true) here covered))
          | inr apart ↦ elim (dec path_total path_exact q (parent p)) [
            | inl above ↦ inr (by_holds who l from (held_there who l (parent p) (above_free (as_found before after) who p made.1) h exclusive (subst (λ q. covers l q ≡ true) above covered)))
            | inr elsewhere ↦ inl (put_places before.state.map after.state.map p [] who.now made.2 q apart (λ none. elsewhere))
          ]
        ]
  ]

  -- a lock that covers a path and lets the caller change it is held, or another at the path is
  held_at : (who : Caller) (l : Lock) (q p : Path) → IsFrom before.options request who
      → refusing_at (as_found before after) who q ≡ [] → Lasts before after l → covers l q ≡ true
      → q ≡ p → IsHoldersAbove before after request p
  held_at who l q p from free h covered same =
      let locks = (as_found before after).locks in
      let m = any_lock_held locks q false (as_caller who) free l (found_here_still l h) q covered (or_left _ _ (is_same_path-refl q)) in
      let stood = of_filter (λ l. not (is_stale after.last l)) before.state.locks m.0 m.1 in
      record {
        lock = m.0;
        lasting = record { stood = Contains-In before.state.locks m.0 stood.0; lasts = not-true (is_stale after.last m.0) stood.1 };
        holders = by_holds who m.0 from m.2;
        front = m.3.0;
        is_above = subst (λ p. is_front m.3.0 p ≡ true) same m.3.1;
        covered = m.3.2;
      }

  grants_keep_any : (who : Caller) (l : Lock) (path : PathText) (wanted : Wanted) (lock : Lock)
      → IsFrom before.options request who
      → Grants (as_found before after) who path wanted lock after.state → Lasts before after l
      → (q : Path) → covers l q ≡ true
      → (place after.state.map q ≡ place before.state.map q) ⊎ IsHoldersAbove before after request q
  grants_keep_any who l path wanted lock from g h q covered = elim g.made [
    | inl there ↦ inl (ap (λ m. place m q) there.1)
    | inr made ↦
        let p = segments path.bytes in
        elim (dec path_total path_exact q p) [
          | inl here ↦ inr (held_at who l p q from (there_free (as_found before after) who p made.1) h (subst (λ q. covers l q ≡ true) here covered) (sym here))
          | inr apart ↦ elim (dec path_total path_exact q (parent p)) [
            | inl above ↦ inr (held_at who l (parent p) q from (above_free (as_found before after) who p made.1) h (subst (λ q. covers l q ≡ true) above covered) (sym above))
            | inr elsewhere ↦ inl (put_places before.state.map after.state.map p [] who.now made.2 q apart (λ none. elsewhere))
          ]
        ]
  ]

  locks_keep_any : (who : Caller) (l : Lock) (path : PathText) → IsFrom before.options request who
      → LocksOne (as_found before after) who path after.state → Lasts before after l
      → (q : Path) → covers l q ≡ true
      → (place after.state.map q ≡ place before.state.map q) ⊎ IsHoldersAbove before after request q
  locks_keep_any who l path from (LocksOne.grants wanted lock g) h q covered =
      grants_keep_any who l path wanted lock from g h q covered
  locks_keep_any who l path from (LocksOne.takes_back (inl left)) h q covered =
      inl (ap (λ (s : State). place s.map q) left)
  locks_keep_any who l path from (LocksOne.takes_back (inr kept)) h q covered =
      inl (ap (λ (s : State). place s.map q) kept.1)
  locks_keep_any who l path from (LocksOne.refreshes token timeout named r) h q covered =
      inl (ap (λ (s : State). place s.map q) r.left)

  locks_keep : (who : Caller) (l : Lock) (path : PathText) → IsFrom before.options request who → LocksOne (as_found before after) who path after.state → Lasts before after l
      → l.shared ≡ false → (q : Path) → covers l q ≡ true → (place after.state.map q ≡ place before.state.map q) ⊎ IsHolders before request l
  locks_keep who l path from (LocksOne.grants wanted lock g) h exclusive q covered = grants_keep who l path wanted lock from g h exclusive q covered
  locks_keep who l path from (LocksOne.takes_back (inl left)) h exclusive q covered = inl (ap (λ (s : State). place s.map q) left)
  locks_keep who l path from (LocksOne.takes_back (inr kept)) h exclusive q covered = inl (ap (λ (s : State). place s.map q) kept.1)
  locks_keep who l path from (LocksOne.refreshes token timeout named r) h exclusive q covered = inl (ap (λ (s : State). place s.map q) r.left)

pub stands_unless_ended : (before after : Server) (request : Request (List ℕ)) (response : Response) → Answers before request response after
    → Exclusive before.state.locks → StandsUnlessEnded before request after
stands_unless_ended before after request response h x l lasts = elim h.moves.by_caller [
  | inl same ↦ inl (subst (λ (s : State). Contains s.locks l) (sym same) lasts.stood)
  | inr by ↦ elim by.3 [
    | inl run ↦ run_stands before after request by.0 l by.1 by.2 x run lasts
    | inr (inl one) ↦ one_stands before after request by.0 l by.1 one lasts
    | inr (inr locks) ↦ locks_stand before after request by.0 l locks.path by.1 locks.does lasts
  ]
]

pub kept_unless_held : (before after : Server) (request : Request (List ℕ)) (response : Response) → Answers before request response after
    → Exclusive before.state.locks → IsKeptUnlessHeld before request after
kept_unless_held before after request response h x l lasts exclusive p covered = elim h.moves.by_caller [
  | inl same ↦ inl (ap (λ (s : State). place s.map p) same)
  | inr by ↦ elim by.3 [
    | inl run ↦ run_keeps before after request by.0 l p by.1 by.2 x run lasts exclusive covered
    | inr (inl one) ↦ inl (ap (λ (s : State). place s.map p) one.unlocks.ends.left)
    | inr (inr locks) ↦ locks_keep before after request by.0 l locks.path by.1 locks.does lasts exclusive p covered
  ]
]

pub kept_under_any : (before after : Server) (request : Request (List ℕ)) (response : Response)
    → Answers before request response after → IsKeptUnderAny before request after
kept_under_any before after request response h l lasts p covered = elim h.moves.by_caller [
  | inl same ↦ inl (ap (λ (s : State). place s.map p) same)
  | inr by ↦ elim by.3 [
    | inl run ↦ run_keeps_any before after request by.0 l p by.1 by.2 run lasts covered
    | inr (inl one) ↦ inl (ap (λ (s : State). place s.map p) one.unlocks.ends.left)
    | inr (inr locks) ↦ locks_keep_any before after request by.0 l locks.path by.1 locks.does lasts p covered
  ]
]
