-- How resources are copied one after another: what is done, and what is left.
use Rattle.std.proofs.Common.{◌≡◌, ◌≢◌, ◌⊎◌, inl, inr, ℕ, suc, Bool, true, false, cond, not, List, [], ◌∷◌, ◌++◌, append-nil, append_assoc, length, length-append, map, Option, Some, None, is_some, Ok, Err, refl, sym, ap, ◌∙◌, subst, arith}
use Rattle.std.specs.Prelude.{IsSome, option_map}
use Rattle.std.specs.List.{AllPairs}
use Rattle.std.proofs.lemmas.Bool.{and_parts, not-true, true≢false, false_from_ne_true}
use Rattle.dav_path_core.specs.Fronts.{Path, behind, is_front, parent}
use Rattle.dav_path_core.proofs.lists.FinMaps.{dec}
use Rattle.dav_path_core.proofs.lists.MemberLemmas.{In, In-Contains, Contains-In, append_none}
use Rattle.dav_path_core.proofs.lists.Orders.{path_exact, path_total}
use Rattle.dav_path_core.proofs.lists.Snoc.{by_last}
use Rattle.dav_path_core.proofs.paths.FrontLemmas.{behind_append, is_front-trans}
use Rattle.dav_files_core.specs.Resources.{Node, Resource, ResourceMap, at_path}
use Rattle.dav_files_core.proofs.walks.FoundLemmas.{parent-snoc}
use Rattle.dav_locks_core.specs.Lock.{Lock}
use Rattle.dav_locks_core.specs.Locks.{LockCaller as LocksCaller, check_conflicts}
use Rattle.dav_guarded_core.specs.Checks.{Check, has, member, refusing, shallow, target}
use Rattle.dav_guarded_core.specs.Requests.{Answer, Command, Reply}
use Rattle.dav_guarded_core.specs.Step.{State, Step}
use Rattle.dav_session_core.specs.Callers.{Caller, as_caller, asking, live}
use Rattle.dav_session_core.specs.Copying.{IsCopied, IsPartlyCopied, IsReady, source_and_target, copy_at, created_at, is_copied, node_at, NotCopied}
use Rattle.dav_session_core.specs.Ends.{HasFolder}
use Rattle.dav_session_core.specs.StoreRefusals.{put_fault}
use Rattle.dav_faults_core.specs.declared.faults.Fault.{Fault}
use Rattle.dav_faults_core.specs.declared.faults.Fault.TheVariants as fault
use Rattle.dav_session_core.proofs.Asking.{live_once}
use Rattle.dav_session_core.proofs.CopyMadeLemmas.{Ends, can_copy, copy_ends, nothing_below}
use Rattle.dav_session_core.proofs.WalkOrderLemmas.{each_once, folders_first}
use Rattle.dav_files_core.proofs.paths.RemovedMaps.{above_out}
use Rattle.dav_path_core.proofs.paths.SubtreePaths.{front_of, in_either, in_left, in_right, some_of}

-- ---- lists

pub dec_in : (x : Path) (xs : List Path) → In x xs ⊎ ¬ In x xs
dec_in x [] = inr (λ i. i)
dec_in x (y ∷ xs) = elim (dec path_total path_exact y x) [
  | inl same ↦ inl (inl same)
  | inr other ↦ elim (dec_in x xs) [
    | inl i ↦ inl (inr i)
    | inr out ↦ inr (λ i. elim i [ inl e ↦ other e | inr j ↦ out j ])
  ]
]

-- what holds of each two holds of one and a later one
pub cross_at : {A : Type 0} (R : A → A → Type 0) (xs : List A) (x : A) (ys : List A) (y : A) → AllPairs R (xs ++ (x ∷ ys)) → In y ys → R x y
cross_at R [] x ys y all i = let c = Contains-In ys y i in subst (R x) c.2 (all 0 (suc c.0) y (omega arith) (omega (arith, c.1)))
cross_at R (z ∷ xs) x ys y all i = cross_at R xs x ys y (λ i j d lt inside. all (suc i) (suc j) d (omega (arith, lt)) (omega (arith, inside))) i

-- an earlier one is before the one
pub cross_before : {A : Type 0} (R : A → A → Type 0) (xs : List A) (x : A) (ys : List A) (y : A) → AllPairs R (xs ++ (x ∷ ys)) → In y xs → R y x
cross_before R [] x ys y all i = absurd i
cross_before R (z ∷ xs) x ys y all i = elim i [
  | inl e ↦ subst (λ w. R w x) e (cross_at R [] z (xs ++ (x ∷ ys)) x all (in_right x xs (x ∷ ys) (inl refl)))
  | inr j ↦ cross_before R xs x ys y (λ i j d lt inside. all (suc i) (suc j) d (omega (arith, lt)) (omega (arith, inside))) j
]

-- ---- paths behind one front

pub same_behind : (p a b : Path) → p ++ a ≡ p ++ b → a ≡ b
same_behind p a b same =
    let one : Some a ≡ Some b = sym (behind_append p a) ∙ ap (behind p) same ∙ behind_append p b in cc

-- what stands elsewhere is no place behind it
pub never_behind : (p q rest : Path) → is_front p q ≡ false → q ≢ p ++ rest
never_behind p q rest out same = true≢false (sym (ap (is_front p) same ∙ front_of p rest) ∙ out)

-- ---- checks, one by one

pub one_free : (locks : List Lock) (who : LocksCaller) (ks : List Check) (k : Check) → refusing locks who ks ≡ [] → In k ks → check_conflicts locks k.path k.deep who ≡ []
one_free locks who [] k free i = absurd i
one_free locks who (x ∷ ks) k free i =
    let parts = append_none (check_conflicts locks x.path x.deep who) (refusing locks who ks) free in
    elim i [
      | inl e ↦ subst (λ (y : Check). check_conflicts locks y.path y.deep who ≡ []) e parts.0
      | inr j ↦ one_free locks who ks k parts.1 j
    ]

in_map : {A B : Type 0} (f : A → B) (xs : List A) (x : A) → In x xs → In (f x) (map f xs)
in_map f [] x i = absurd i
in_map f (y ∷ xs) x i = elim i [ inl e ↦ inl (ap f e) | inr j ↦ inr (in_map f xs x j) ]

-- a target is free where it is, and where nothing stands there the folder above
target_free : (locks : List Lock) (who : LocksCaller) (m : ResourceMap) (p : Path) → check_conflicts locks p false who ≡ []
    → (has m p ≡ false → check_conflicts locks (parent p) false who ≡ []) → refusing locks who (target m p) ≡ []
target_free locks who m p here above = by (has m p) refl
  where
    by : (b : Bool) → has m p ≡ b → refusing locks who (cond b (shallow p ∷ []) (member p false)) ≡ []
    by true is = ap (λ ls. ls ++ []) here
    by false is = ap (λ ls. ls ++ (check_conflicts locks (parent p) false who ++ [])) here ∙ ap (λ ls. ls ++ []) (above is)

-- ---- what is copied

-- what is copied isn't at or below the target
pub out_of_target : (deep : Bool) (from to : Path) → is_front to from ≡ false → (rest : Path) → is_copied deep from to rest ≡ true → is_front to (from ++ rest) ≡ false
out_of_target deep from to apart [] h = ap (is_front to) (append-nil from) ∙ apart
out_of_target deep from to apart (x ∷ rest) h = not-true _ (and_parts deep (not (is_front to (from ++ (x ∷ rest)))) h).1

module _ (who : Caller) (deep : Bool) (from to : Path) (rests : List Path) (s : State) (ready : IsReady s who deep from to rests) where
  to_no_root : to ≢ []
  to_no_root none = true≢false (ap (λ t. is_front t from) (sym none) ∙ ready.apart)

  source_out : (rest : Path) → is_copied deep from to rest ≡ true → is_front to (from ++ rest) ≡ false
  source_out = out_of_target deep from to ready.apart

  copied_of : (rest : Path) → In rest rests → (is_copied deep from to rest ≡ true) × IsSome (at_path s.map (from ++ rest))
  copied_of rest i = (ready.are.members rest).0 (Contains-In rests rest i)

  is_one : (rest : Path) → is_copied deep from to rest ≡ true → IsSome (at_path s.map (from ++ rest)) → In rest rests
  is_one rest copied stands = In-Contains rests rest ((ready.are.members rest).1 (copied, stands))

  -- the folder in which one stands is copied, too
  folder_copied : (a : Path) (x : List ℕ) → is_copied deep from to (a ++ (x ∷ [])) ≡ true → is_copied deep from to a ≡ true
  folder_copied [] x h = refl
  folder_copied (y ∷ a) x h =
      let parts = and_parts deep (not (is_front to (from ++ (y ∷ (a ++ (x ∷ [])))))) h in
      let out = not-true (is_front to (from ++ (y ∷ (a ++ (x ∷ []))))) parts.1 in
      let above : is_front to (from ++ (y ∷ a)) ≡ false = false_from_ne_true _ (λ inside. true≢false
      (sym (is_front-trans to (from ++ (y ∷ a)) (from ++ (y ∷ (a ++ (x ∷ [])))) inside
      (subst (λ p. is_front (from ++ (y ∷ a)) p ≡ true) (append_assoc from (y ∷ a) (x ∷ [])) (front_of (from ++ (y ∷ a)) (x ∷ [])))) ∙ out)) in
      rw (parts.0, above) refl

  -- the folder stands in the source
  folder_stands : (a : Path) (x : List ℕ) → IsSome (at_path s.map (from ++ (a ++ (x ∷ [])))) → HasFolder s.map (from ++ a)
  folder_stands a x there =
      let entry = some_of (at_path s.map (from ++ (a ++ (x ∷ [])))) there in
      ready.shape.parents (from ++ a) x entry.0 (ap (at_path s.map) (append_assoc from a (x ∷ [])) ∙ entry.1)

  -- nothing stands below the target
  bare : (x : List ℕ) (rest : Path) → at_path s.map (to ++ (x ∷ rest)) ≡ None
  bare x rest = nothing_below s.map to x rest ready.shape ready.no_folder

  -- ---- what is done, and what is left

  pub record Copying (left : List (Path × Path)) (t : State) : Type 0 where
    copied : List Path
    rest : List Path
    split : rests ≡ copied ++ rest
    left_is : left ≡ map (source_and_target from to) rest
    made : (r : Path) → In r copied → node_at t.map (to ++ r) ≡ option_map (created_at who.now) (node_at s.map (from ++ r))
    others : (q : Path) → ((r : Path) → In r copied → q ≢ to ++ r) → at_path t.map q ≡ at_path s.map q
    same : live who.now t ≡ record s { map = t.map }

  module _ (t : State) (copied rest : List Path) (r : Path) (split : rests ≡ copied ++ (r ∷ rest))
      (made : (r : Path) → In r copied → node_at t.map (to ++ r) ≡ option_map (created_at who.now) (node_at s.map (from ++ r)))
      (others : (q : Path) → ((r : Path) → In r copied → q ≢ to ++ r) → at_path t.map q ≡ at_path s.map q)
      (same : live who.now t ≡ record s { map = t.map }) where
    here : In r rests
    here = subst (In r) (sym split) (in_right r copied (r ∷ rest) (inl refl))

    earlier : (q : Path) → In q copied → In q rests
    earlier q i = subst (In q) (sym split) (in_left q copied (r ∷ rest) i)

    -- it isn't done yet
    not_yet : (q : Path) → In q copied → to ++ r ≢ to ++ q
    not_yet q i same = cross_before (λ a b. a ≢ b) copied r rest q
        (subst (AllPairs (λ a b. a ≢ b)) split (each_once rests ready.are.sorted)) i
        (sym (same_behind to r q same))

    source_stays : at_path t.map (from ++ r) ≡ at_path s.map (from ++ r)
    source_stays = others (from ++ r) (λ q i. never_behind to (from ++ r) q (source_out r (copied_of r here).0))

    target_stays : at_path t.map (to ++ r) ≡ at_path s.map (to ++ r)
    target_stays = others (to ++ r) not_yet

    -- a folder that has been copied
    folder_made : (a : Path) → In a copied → HasFolder s.map (from ++ a) → HasFolder t.map (to ++ a)
    folder_made a i folder = by (at_path t.map (to ++ a)) refl
      where
        node : Option Node
        node = option_map (created_at who.now) (node_at s.map (from ++ a))

        is : node ≡ Some (created_at who.now folder.0.node)
        is = ap (λ o. option_map (created_at who.now) (option_map (λ (r : Resource). r.node) o)) folder.1

        by : (o : Option Resource) → at_path t.map (to ++ a) ≡ o → HasFolder t.map (to ++ a)
        by (Some y) there =
            let nodes : Some y.node ≡ Some (created_at who.now folder.0.node) = sym (ap (option_map (λ (r : Resource). r.node)) there) ∙ made a i ∙ is in
            let one : y.node ≡ created_at who.now folder.0.node = cc in
            (y, there, ap (λ (n : Node). n.kind) one ∙ folder.2)
        by None there = absurd (let nodes : None ≡ Some (created_at who.now folder.0.node) = sym (ap (option_map (λ (r : Resource). r.node)) there) ∙ made a i ∙ is in cc)

    -- the folder of one below the target was copied before it
    folder_before : (a : Path) (x : List ℕ) → r ≡ a ++ (x ∷ []) → In a copied
    folder_before a x is =
        let all = copied_of r here in
        let stands = folder_stands a x (subst (λ q. IsSome (at_path s.map (from ++ q))) is all.1) in
        let one = is_one a (folder_copied a x (subst (λ q. is_copied deep from to q ≡ true) is all.0)) (ap is_some stands.1) in
        elim (in_either a copied (r ∷ rest) (subst (In a) split one)) [
          | inl i ↦ i
          | inr k ↦ elim k [
            | inl e ↦ absurd (omega (arith, ap length (sym e ∙ is), length-append a (x ∷ [])))
            | inr later ↦ absurd (true≢false (sym (subst (λ q. is_front a q ≡ true) (sym is) (front_of a (x ∷ [])))
                ∙ cross_at (λ q b. is_front b q ≡ false) copied r rest a
                (subst (AllPairs (λ q b. is_front b q ≡ false)) split
                (folders_first rests ready.are.sorted)) later))
          ]
        ]

    -- a folder stands above it, and none at it
    above_there : HasFolder t.map (parent (to ++ r))
    above_there = elim (by_last r) [
      | inl none ↦
          let p : parent (to ++ r) ≡ parent to = ap parent (ap (λ q. to ++ q) none ∙ append-nil to) in
          let out = above_out to to_no_root in
          subst (HasFolder t.map) (sym p)
          (ready.above.0, others (parent to) (λ q i. never_behind to (parent to) q out) ∙ ready.above.1, ready.above.2)
      | inr last ↦
          let a = last.0 in
          let x = last.1 in
          let p : parent (to ++ r) ≡ to ++ a = ap parent (ap (λ q. to ++ q) last.2 ∙ sym (append_assoc to a (x ∷ []))) ∙ parent-snoc (to ++ a) x in
          subst (HasFolder t.map) (sym p)
          (folder_made a (folder_before a x last.2) (folder_stands a x (subst (λ q. IsSome (at_path s.map (from ++ q))) last.2 (copied_of r here).1)))
    ]

    none_there : ¬ HasFolder t.map (to ++ r)
    none_there folder = by r refl
      where
        by : (q : Path) → r ≡ q → ⊥
        by [] is = ready.no_folder (folder.0, sym (ap (at_path s.map) (ap (λ q. to ++ q) is ∙ append-nil to)) ∙ sym target_stays ∙ folder.1, folder.2)
        by (x ∷ q) is =
            let nothing : at_path s.map (to ++ r) ≡ None = ap (λ q. at_path s.map (to ++ q)) is ∙ bare x q in
            let no : Some folder.0 ≡ None = sym folder.1 ∙ target_stays ∙ nothing in
            absurd (cc)

    -- and no lock refuses it
    locks_free : refusing s.locks (as_caller who) (target t.map (to ++ r)) ≡ []
    locks_free = target_free s.locks (as_caller who) t.map (to ++ r)
        (one_free s.locks (as_caller who) checks (shallow (to ++ r)) ready.free (in_right (shallow (to ++ r)) (target s.map to) _ (in_map (λ q. shallow (to ++ q)) rests r here)))
        above_free
      where
        checks : List Check
        checks = target s.map to ++ map (λ q. shallow (to ++ q)) rests

        by_here : (b : Bool) → has s.map to ≡ b → b ≡ false → In (shallow (parent to)) (cond b (shallow to ∷ []) (member to false))
        by_here true is out = absurd (true≢false out)
        by_here false is out = inr (inl refl)

        above_free : has t.map (to ++ r) ≡ false → check_conflicts s.locks (parent (to ++ r)) false (as_caller who) ≡ []
        above_free none = elim (by_last r) [
          | inl empty ↦
              let same : to ++ r ≡ to = ap (λ q. to ++ q) empty ∙ append-nil to in
              let nothing : has s.map to ≡ false = ap (λ q. has s.map q) (sym same) ∙ ap is_some (sym target_stays) ∙ none in
              subst (λ q. check_conflicts s.locks (parent q) false (as_caller who) ≡ []) (sym same)
              (one_free s.locks (as_caller who) checks (shallow (parent to)) ready.free (in_left (shallow (parent to)) (target s.map to) _ (by_here (has s.map to) refl nothing)))
          | inr last ↦
              let a = last.0 in
              let p : parent (to ++ r) ≡ to ++ a = ap parent (ap (λ q. to ++ q) last.2 ∙ sym (append_assoc to a (last.1 ∷ []))) ∙ parent-snoc (to ++ a) last.1 in
              subst (λ q. check_conflicts s.locks q false (as_caller who) ≡ []) (sym p)
              (one_free s.locks (as_caller who) checks (shallow (to ++ a)) ready.free
              (in_right (shallow (to ++ a)) (target s.map to) _ (in_map (λ q. shallow (to ++ q)) rests a (earlier a (folder_before a last.1 last.2)))))
        ]

    -- so it is done, or memory is lacking
    source : (x : Resource) × (at_path t.map (from ++ r) ≡ Some x)
    source = some_of (at_path t.map (from ++ r)) (subst IsSome (sym source_stays) (copied_of r here).1)

    one_ends : (t' : State) (a : Answer) → Step t (asking who (Command.Copy (from ++ r) (to ++ r))) a t'
        → (m : ResourceMap) × Ends (live who.now t) m a t' × (node_at m (to ++ r) ≡ option_map (created_at who.now) (node_at t.map (from ++ r)))
        × ((q : Path) → q ≢ to ++ r → at_path m q ≡ at_path t.map q)
    one_ends t' a step =
        let can = can_copy t.map (from ++ r) (to ++ r) who.now source.0 source.1 above_there none_there in (
          can.0,
          copy_ends who (live who.now t) t' (from ++ r) (to ++ r) can.0 a
              (subst (λ (x : State). refusing x.locks (as_caller who) (target t.map (to ++ r)) ≡ []) (sym same) locks_free) can.1 step,
          can.2.here,
          can.2.others,
        )

  pub copying_begun : (start : State) (left : List (Path × Path)) → live who.now start ≡ s → left ≡ map (source_and_target from to) rests → Copying left start
  copying_begun start left is same = record {
    copied = [];
    rest = rests;
    split = refl;
    left_is = same;
    made = λ r i. absurd i;
    others = λ q out. ap (λ (x : State). at_path x.map q) is;
    same = is ∙ ap (λ (x : State). record s { map = x.map }) (sym is);
  }

  -- locks that have expired play no part
  copying_live : (left : List (Path × Path)) (t : State) → Copying left t → Copying left (live who.now t)
  copying_live left t h = record {
    copied = h.copied;
    rest = h.rest;
    split = h.split;
    left_is = h.left_is;
    made = h.made;
    others = h.others;
    same = live_once who.now t ∙ h.same;
  }

  -- what a request for the first that is left leaves
  abbrev pub After : Answer → Path × Path → List (Path × Path) → State → Type 0
  After (Ok reply) pair left t' = Copying left t'
  After (Err e) pair left t' = Copying (pair ∷ left) t' × (put_fault false e ≡ fault.InsufficientStorage)

  module _ (t t' : State) (copied rest : List Path) (r : Path) (split : rests ≡ copied ++ (r ∷ rest))
      (made : (r : Path) → In r copied → node_at t.map (to ++ r) ≡ option_map (created_at who.now) (node_at s.map (from ++ r)))
      (others : (q : Path) → ((r : Path) → In r copied → q ≢ to ++ r) → at_path t.map q ≡ at_path s.map q)
      (same : live who.now t ≡ record s { map = t.map }) where
    one_more : (left : List (Path × Path)) (m : ResourceMap) → left ≡ map (source_and_target from to) rest → t' ≡ record (live who.now t) { map = m }
        → node_at m (to ++ r) ≡ option_map (created_at who.now) (node_at t.map (from ++ r)) → ((q : Path) → q ≢ to ++ r → at_path m q ≡ at_path t.map q) → Copying left t'
    one_more left m left_is is here elsewhere = record {
      copied = copied ++ (r ∷ []);
      rest = rest;
      split = split ∙ sym (append_assoc copied (r ∷ []) rest);
      left_is = left_is;
      made = λ q i. ap (λ n. node_at n (to ++ q)) map_is ∙ made_at q (in_either q copied (r ∷ []) i);
      others = λ q out. ap (λ n. at_path n q) map_is ∙ elsewhere q (out r (in_right r copied (r ∷ []) (inl refl)))
          ∙ others q (λ x i. out x (in_left x copied (r ∷ []) i));
      same = ap (live who.now) is ∙ ap (λ (x : State). record x { map = m }) (live_once who.now t ∙ same) ∙ ap (λ n. record s { map = n }) (sym map_is);
    }
      where
        map_is : t'.map ≡ m
        map_is = ap (λ (x : State). x.map) is

        made_at : (q : Path) → In q copied ⊎ ((r ≡ q) ⊎ In q []) → node_at m (to ++ q) ≡ option_map (created_at who.now) (node_at s.map (from ++ q))
        made_at q (inl i) =
            ap (option_map (λ (r : Resource). r.node)) (elsewhere (to ++ q) (λ e. not_yet t copied rest r split made others same q i (sym e))) ∙ made q i
        made_at q (inr (inl e)) =
            subst (λ q. node_at m (to ++ q) ≡ option_map (created_at who.now) (node_at s.map (from ++ q))) e
            (here ∙ ap (λ o. option_map (created_at who.now) (option_map (λ (r : Resource). r.node) o)) (source_stays t copied rest r split made others same))
        made_at q (inr (inr i)) = absurd i

    by_answer : (left : List (Path × Path)) (a : Answer) → left ≡ map (source_and_target from to) rest → Step t (asking who (Command.Copy (from ++ r) (to ++ r))) a t'
        → After a (from ++ r, to ++ r) left t'
    by_answer left (Ok reply) left_is step =
        let ends = one_ends t copied rest r split made others same t' (Ok reply) step in
        one_more left ends.0 left_is ends.1 ends.2 ends.3
    by_answer left (Err e) left_is step =
        let ends = one_ends t copied rest r split made others same t' (Err e) step in
        let now : Copying ((from ++ r, to ++ r) ∷ left) t = record {
          copied = copied;
          rest = r ∷ rest;
          split = split;
          left_is = ap (λ xs. (from ++ r, to ++ r) ∷ xs) left_is;
          made = made;
          others = others;
          same = same;
        } in
        (subst (Copying ((from ++ r, to ++ r) ∷ left)) (sym ends.1.0) (copying_live ((from ++ r, to ++ r) ∷ left) t now), ends.1.1)

  pub copying_on : (t t' : State) (f g : Path) (left : List (Path × Path)) (a : Answer) → Copying ((f, g) ∷ left) t → Step t (asking who (Command.Copy f g)) a t'
      → After a (f, g) left t'
  copying_on t t' f g left a h step = by h.rest h.split h.left_is
    where
      by : (rest : List Path) → rests ≡ h.copied ++ rest → (f, g) ∷ left ≡ map (source_and_target from to) rest → After a (f, g) left t'
      by [] split is = absurd (cc)
      by (r ∷ rest) split is =
          let pairs : (f, g) ≡ (from ++ r, to ++ r) = cc in
          let lists : left ≡ map (source_and_target from to) rest = cc in
          subst (λ (pair : Path × Path). After a pair left t') (sym pairs)
          (by_answer t t' h.copied rest r split h.made h.others h.same left a lists
          (subst (λ (pair : Path × Path). Step t (asking who (Command.Copy pair.0 pair.1)) a t') pairs step))

  -- the same of what a session says of it
  module _ (asker : Caller) (t t' : State) (f g : Path) (left : List (Path × Path)) (same : asker ≡ who) (h : Copying ((f, g) ∷ left) t) where
    pub one_copied : (reply : Reply) × Step t (asking asker (Command.Copy f g)) (Ok reply) t' → Copying left t'
    one_copied step = copying_on t t' f g left (Ok step.0) h (subst (λ w. Step t (asking w (Command.Copy f g)) (Ok step.0) t') same step.1)

    pub one_refused : (e : Fault) → NotCopied asker t f g e t' → Copying ((f, g) ∷ left) t' × (e ≡ fault.InsufficientStorage)
    one_refused e (inl short) = (subst (Copying ((f, g) ∷ left)) (sym short.1) h, short.0)
    one_refused e (inr refused) =
        let after = copying_on t t' f g left (Err refused.0) h (subst (λ w. Step t (asking w (Command.Copy f g)) (Err refused.0) t') same refused.1) in
        (after.0, refused.2 ∙ after.1)

  -- ---- what is left at the end

  no_rest : (rest : List Path) → [] ≡ map (source_and_target from to) rest → rest ≡ []
  no_rest [] h = refl
  no_rest (r ∷ rest) h = absurd (cc)

  -- what isn't copied isn't there
  not_there : (rest : Path) → ¬ In rest rests → (is_copied deep from to rest ≡ true → node_at s.map (from ++ rest) ≡ None) × (at_path s.map (to ++ rest) ≡ None)
  not_there [] out = absurd (out (is_one [] refl (subst (λ q. IsSome (at_path s.map q)) (sym (append-nil from)) ready.stands)))
  not_there (x ∷ rest) out = ((λ copied. by (at_path s.map (from ++ (x ∷ rest))) refl copied), bare x rest)
    where
      by : (o : Option Resource) → at_path s.map (from ++ (x ∷ rest)) ≡ o → is_copied deep from to (x ∷ rest) ≡ true → option_map (λ (r : Resource). r.node) o ≡ None
      by None is copied = refl
      by (Some r) is copied = absurd (out (is_one (x ∷ rest) copied (ap is_some is)))

  copied_in : (rest : Path) → In rest rests → option_map (created_at who.now) (node_at s.map (from ++ rest)) ≡ copy_at who.now deep from to s.map rest
  copied_in rest i = ap (λ b. cond b (option_map (created_at who.now) (node_at s.map (from ++ rest))) None) (sym (copied_of rest i).0)

  copied_out : (rest : Path) → ¬ In rest rests → None ≡ copy_at who.now deep from to s.map rest
  copied_out rest out = by (is_copied deep from to rest) refl
    where
      by : (b : Bool) → is_copied deep from to rest ≡ b → None ≡ cond b (option_map (created_at who.now) (node_at s.map (from ++ rest))) None
      by true is = sym (ap (option_map (created_at who.now)) ((not_there rest out).0 is))
      by false is = refl

  pub copying_ended : (t : State) → Copying [] t → IsCopied who.now deep from to s (live who.now t)
  copying_ended t h = record {
    there = there;
    others = λ q out. h.others q (λ r i. never_behind to q r out);
    left = h.same;
  }
    where
      all : rests ≡ h.copied
      all = h.split ∙ ap (λ xs. h.copied ++ xs) (no_rest h.rest h.left_is) ∙ append-nil h.copied

      there : (rest : Path) → node_at t.map (to ++ rest) ≡ copy_at who.now deep from to s.map rest
      there rest = elim (dec_in rest rests) [
        | inl i ↦ h.made rest (subst (In rest) all i) ∙ copied_in rest i
        | inr out ↦
            ap (option_map (λ (r : Resource). r.node)) (h.others (to ++ rest) (λ r i e. out (subst (λ q. In q rests) (sym (same_behind to rest r e)) (subst (In r) (sym all) i)))
            ∙ (not_there rest out).1) ∙ copied_out rest out
      ]

  pub copying_partly : (left : List (Path × Path)) (t : State) → Copying left t → IsPartlyCopied who.now deep from to s (live who.now t)
  copying_partly left t h = record {
    there = there;
    others = λ q out. h.others q (λ r i. never_behind to q r out);
    left = h.same;
  }
    where
      there : (rest : Path) → (at_path t.map (to ++ rest) ≡ at_path s.map (to ++ rest)) ⊎ (node_at t.map (to ++ rest) ≡ copy_at who.now deep from to s.map rest)
      there rest = elim (dec_in rest h.copied) [
        | inl i ↦ inr (h.made rest i ∙ copied_in rest (subst (In rest) (sym h.split) (in_left rest h.copied h.rest i)))
        | inr out ↦ inl (h.others (to ++ rest) (λ r i e. out (subst (λ q. In q h.copied) (sym (same_behind to rest r e)) i)))
      ]
