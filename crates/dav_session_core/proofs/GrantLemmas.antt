-- What a lock that is granted leaves, and what is left where it is taken back.
use Rattle.std.proofs.Common.{◌≡◌, ◌⊎◌, inl, inr, ℕ, ◌+◌, ◌-◌, Bool, true, false, ◌&&◌, ◌||◌, cond, List, [], ◌∷◌, ◌++◌, length, map, Option, Some, None, Result, Ok, Err, refl, sym, ◌∙◌, ap, subst, arith}
use Rattle.std.specs.Prelude.{bytes_eq, option_map, remove, Contains}
use Rattle.std.specs.List.{list_any}
use Rattle.std.proofs.lemmas.Bool.{and_from, and_parts, cases_Bool, or_parts, true≢false}
use Rattle.std.proofs.lemmas.List.Edits.{remove-append_right}
use Rattle.std.proofs.lemmas.List.{append-nil}
use Rattle.std.proofs.lemmas.List.Folds.{list_any-append}
use Rattle.std.proofs.lemmas.Slice.Eq.{bytes_eq-Decides}
use Rattle.dav_path_core.specs.Fronts.{Path, is_front, parent}
use Rattle.dav_path_core.specs.PathText.{PathText}
use Rattle.dav_path_core.specs.Segments.{segments}
use Rattle.dav_path_core.proofs.lists.MemberLemmas.{In-Contains, Contains-In, find_any}
use Rattle.dav_path_core.proofs.paths.FrontLemmas.{is_front-refl, is_front-trans}
use Rattle.dav_locks_core.specs.Lock.{Lock}
use Rattle.dav_locks_core.specs.Locks.{better, covers, discovered_locks, found_token, found_from, found_here, height, lock_conflicts, lock_path}
use Rattle.dav_guarded_core.specs.Requests.{Command, Granted, Refusal, Reply}
use Rattle.dav_guarded_core.specs.Served.{answer_of, refusal_of, reply_of}
use Rattle.dav_guarded_core.specs.declared.guarded.requests.Reply as served
use Rattle.dav_guarded_core.specs.declared.guarded.requests.Refusal as served_refusal
use Rattle.dav_guarded_core.specs.Step.{Serves, State, Step}
use Rattle.dav_faults_core.specs.declared.faults.Fault.TheVariants as fault
use Rattle.dav_session_core.specs.Callers.{Caller, asking, live}
use Rattle.dav_fields_core.specs.IfTokens.{is_among}
use Rattle.dav_session_core.specs.Granting.{AreAbove, HaveTokens, IsConflictOf, granted_lock, stands_above, with_lock, with_token_drawn}
use Rattle.dav_path_core.proofs.paths.AbovePaths.{above}
use Rattle.dav_path_core.proofs.lists.EachLemmas.{any_map}
use Rattle.dav_path_core.proofs.paths.SubtreePaths.{any_of}
use Rattle.dav_session_core.proofs.OwnLemmas.{at_covers, at_root, covers_here, not_unlocked}
use Rattle.dav_locks_core.proofs.answers.CoveringTokens.{any_discovered}

-- ---- a lock that is granted

module _ (who : Caller) (s s' : State) (path : PathText) (owner : Option (List ℕ)) (timeout : Option ℕ) (shared deep : Bool) where
  abbrev Wants : Command
  Wants = Command.Lock path owner timeout shared deep

  pub conflict_shown : (l : Lock) → Step s (asking who Wants) (Err (Refusal.Locked l)) s'
      → IsConflictOf (lock_conflicts (live who.now s).locks (segments path.bytes) shared deep) (fault.ConflictingLock l.path)
  conflict_shown l h = (l, h.0, refl)

-- ---- one that is taken back

pub text_same : (text : List ℕ) → bytes_eq text text ≡ true
text_same text = (bytes_eq-Decides text text).1 refl

module _ (p : Path) (token : List ℕ) (l : Lock) (here : found_here p token l ≡ true) where
  last_from : (n : ℕ) (xs : List Lock) → list_any (found_here p token) xs ≡ false → found_from n (xs ++ l ∷ []) p token ≡ Some (n + length xs, height l)
  last_from n [] none =
      let place : ℕ × ℕ = (n, height l) in
      let found_one : found_from n (l ∷ []) p token ≡ Some place = ap (λ b. better (cond b (Some place) None) None) here in
      found_one ∙ ap (λ k. Some (k, height l)) (omega arith)
  last_from n (x ∷ xs) none =
      let parts = or_parts (found_here p token x) (list_any (found_here p token) xs) none in
      let rest = found_from (n + 1) (xs ++ l ∷ []) p token in
      let skipped : found_from n ((x ∷ xs) ++ l ∷ []) p token ≡ rest = ap (λ b. better (cond b (Some (n, height x)) None) rest) parts.0 in
      skipped ∙ last_from (n + 1) xs parts.1 ∙ ap (λ k. Some (k, height l)) (omega arith)

  found_last : (xs : List Lock) → list_any (found_here p token) xs ≡ false → found_token (xs ++ l ∷ []) p token ≡ Some (length xs)
  unfolding found_token
  found_last xs none = ap (option_map (λ (f : ℕ × ℕ). f.0)) (last_from 0 xs none) ∙ ap (λ k. Some k) (omega arith)

without_last : (xs : List Lock) (l : Lock) → remove (xs ++ l ∷ []) (length xs) ≡ xs
without_last xs l =
    let first : length xs - length xs ≡ 0 = omega arith in
    remove-append_right xs (l ∷ []) (length xs) (length xs) refl (omega arith) ∙ ap (λ n. xs ++ remove (l ∷ []) n) first ∙ append-nil xs

token_here : (p : Path) (token : List ℕ) (l : Lock) → lock_path l ≡ p → l.token ≡ token → found_here p token l ≡ true
token_here p token l path named =
    let same : bytes_eq l.token token ≡ true = ap (λ t. bytes_eq t token) named ∙ text_same token in
    ap (λ b. b && is_front (lock_path l) p) same ∙ ap (λ q. is_front q p) path ∙ is_front-refl p

module _ (who : Caller) (old s' : State) (s : State) (l : Lock) (p : Path) (token : List ℕ) (is : live who.now old ≡ with_lock s l)
    (path : lock_path l ≡ p) (named : l.token ≡ token) (none : stands_above s p token ≡ false) where
  last_found : found_token (with_lock s l).locks p token ≡ Some (length s.locks)
  last_found = found_last p token l (token_here p token l path named) s.locks none

  pub taken : (reply : Reply) → Step old (asking who (Command.Unlock p token)) (Ok reply) s' → s' ≡ with_token_drawn s
  taken reply h =
      let at = subst (λ (t : State). Serves t (asking who (Command.Unlock p token)) (Ok reply) s') is h in
      let k = at.1.0 in
      let same : k ≡ length s.locks = cc (at.1.1, last_found) in
      let left = at.1.3 in
      let rebuilt : s' ≡ record { map = s.map; locks = remove (s.locks ++ l ∷ []) k; rng = (with_lock s l).rng } =
      rw (sym left.map_is, sym left.locks_are, sym left.rng_is) refl in
      rebuilt ∙ ap (λ (locks : List Lock). record (with_token_drawn s) { locks = locks }) (ap (remove (s.locks ++ l ∷ [])) same ∙ without_last s.locks l)

  pub not_refused : (e : Refusal) → ¬ Step old (asking who (Command.Unlock p token)) (Err e) s'
  not_refused e h =
      let at = subst (λ (t : State). Serves t (asking who (Command.Unlock p token)) (Err e) s') is h in
      let lost = not_unlocked who (with_lock s l) s' p token e at in
      let found_none : None ≡ Some (length s.locks) = sym lost ∙ last_found in absurd (cc)

  pub taken_by : (result : Result served.Reply served_refusal.Refusal) → Step old (asking who (Command.Unlock p token)) (answer_of result) s' → s' ≡ with_token_drawn s
  taken_by (Ok reply) h = taken (reply_of reply) h
  taken_by (Err e) h = absurd (not_refused (refusal_of e) h)

-- ---- tokens of the locks at a path and above

or_true : (b : Bool) → (b || true) ≡ true
or_true true = refl
or_true false = refl

module _ (s : State) (p : Path) where
  -- so far: a lock has one of the tokens, or stands at a place above that is left, or at it
  abbrev pub TokensSoFar : Path → List (List ℕ) → Type 0
  TokensSoFar here tokens = (l : Lock) → Contains s.locks l → is_front (lock_path l) p ≡ true → (is_among tokens l.token ≡ true) ⊎ (is_front (lock_path l) here ≡ true)

  pub no_tokens_yet : (tokens : List (List ℕ)) → TokensSoFar p tokens
  no_tokens_yet tokens l i front = inr front

  -- a lock that covers a place is one of those that are found there
  covering_among : (here : Path) (l : Lock) → Contains s.locks l → covers l here ≡ true → is_among (map (λ (l : Lock). l.token) (discovered_locks s.locks here)) l.token ≡ true
  covering_among here l i covered =
      any_map (λ (l : Lock). l.token) (λ t. bytes_eq t l.token) (discovered_locks s.locks here)
      ∙ any_discovered (λ (k : Lock). bytes_eq k.token l.token) s.locks here
      ∙ any_of (λ (k : Lock). bytes_eq k.token l.token && covers k here) s.locks l (In-Contains s.locks l i)
      (ap (λ b. b && covers l here) (text_same l.token) ∙ covered)

  among_more : (tokens more : List (List ℕ)) (token : List ℕ) → (is_among tokens token ≡ true) ⊎ (is_among more token ≡ true) → is_among (tokens ++ more) token ≡ true
  among_more tokens more token h =
      list_any-append (λ t. bytes_eq t token) tokens more ∙ elim h [
        | inl first ↦ ap (λ b. b || is_among more token) first
        | inr second ↦ ap (λ b. is_among tokens token || b) second ∙ or_true (is_among tokens token)
      ]

  pub tokens_up : (here : Path) (tokens more : List (List ℕ)) → more ≡ tokens ++ map (λ (l : Lock). l.token) (discovered_locks s.locks here) → TokensSoFar here tokens
      → TokensSoFar (parent here) more
  tokens_up here tokens more is so_far l i front =
      let at = map (λ (l : Lock). l.token) (discovered_locks s.locks here) in
      elim (so_far l i front) [
        | inl among ↦ inl (ap (λ texts. is_among texts l.token) is ∙ among_more tokens at l.token (inl among))
        | inr up ↦ elim (above (lock_path l) here up) [
          | inl same ↦ inl (ap (λ texts. is_among texts l.token) is ∙ among_more tokens at l.token (inr (covering_among here l i (at_covers l here same))))
          | inr higher ↦ inr higher
        ]
      ]

  pub tokens_whole : (here : Path) (tokens more : List (List ℕ)) → length here ≡ 0 → more ≡ tokens ++ map (λ (l : Lock). l.token) (discovered_locks s.locks here)
      → TokensSoFar here tokens → HaveTokens s p more
  tokens_whole [] tokens more none_left is so_far l i front =
      let at = map (λ (l : Lock). l.token) (discovered_locks s.locks []) in
      elim (so_far l i front) [
        | inl among ↦ ap (λ texts. is_among texts l.token) is ∙ among_more tokens at l.token (inl among)
        | inr up ↦ ap (λ texts. is_among texts l.token) is ∙ among_more tokens at l.token (inr (covering_among [] l i (at_root l up)))
      ]
  tokens_whole (x ∷ here) tokens more none_left is so_far l i front = absurd (omega (arith, none_left))

  -- each of the tokens is that of a lock at the path or above
  pub only_more : (here : Path) (tokens more : List (List ℕ)) → is_front here p ≡ true → more ≡ tokens ++ map (λ (l : Lock). l.token) (discovered_locks s.locks here)
      → AreAbove s p tokens → AreAbove s p more
  only_more here tokens more front is so_far token among =
      let at = map (λ (l : Lock). l.token) (discovered_locks s.locks here) in
      let either : (is_among tokens token || is_among at token) ≡ true =
      sym (list_any-append (λ t. bytes_eq t token) tokens at) ∙ ap (λ texts. is_among texts token) (sym is) ∙ among in
      elim (cases_Bool (is_among tokens token)) [
        | inl first ↦ so_far token first
        | inr none ↦
            let here_named : is_among at token ≡ true = ap (λ b. b || is_among at token) (sym none) ∙ either in
            let named : list_any (λ (l : Lock). bytes_eq l.token token && covers l here) s.locks ≡ true =
            sym (any_discovered (λ (l : Lock). bytes_eq l.token token) s.locks here) ∙ sym (any_map (λ (l : Lock). l.token) (λ t. bytes_eq t token) (discovered_locks s.locks here))
            ∙ here_named in
            let one = find_any (λ (l : Lock). bytes_eq l.token token && covers l here) s.locks named in
            let parts = and_parts (bytes_eq one.0.token token) (covers one.0 here) one.2 in
            any_of (found_here p token) s.locks one.0 one.1 (and_from _ _ parts.0 (is_front-trans (lock_path one.0) here p (covers_here one.0 here parts.1) front))
      ]

-- a token that no lock there has
pub not_above : (s : State) (p : Path) (tokens : List (List ℕ)) (token : List ℕ) → HaveTokens s p tokens → is_among tokens token ≡ false → stands_above s p token ≡ false
not_above s p tokens token have none = elim (cases_Bool (stands_above s p token)) [
  | inl some ↦
      let found_token = find_any (found_here p token) s.locks some in
      let parts = and_parts (bytes_eq found_token.0.token token) (is_front (lock_path found_token.0) p) found_token.2 in
      let same : found_token.0.token ≡ token = (bytes_eq-Decides found_token.0.token token).0 parts.0 in
      let among = have found_token.0 (Contains-In s.locks found_token.0 found_token.1) parts.1 in
      absurd (true≢false (sym (ap (is_among tokens) (sym same) ∙ among) ∙ none))
  | inr no_one ↦ no_one
]
