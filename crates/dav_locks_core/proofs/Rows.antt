-- Worked rows of the lock list, which compute.
use Rattle.std.specs.Prelude.{◌≡◌, ℕ, List, [], ◌∷◌, Bool, true, false, Some, None, codes, refl, remove}
use Rattle.std.proofs.Common.{inl}
use Rattle.std.proofs.lemmas.Bool.{false≢true}
use Rattle.dav_path_core.specs.Segments.{segments}
use Rattle.dav_path_core.specs.Fronts.{Path}
use Rattle.dav_locks_core.specs.Lock.{Lock}
use Rattle.dav_locks_core.specs.Locks.{LockCaller, lock_conflicts, check_conflicts, found_token, end_of, refreshed_lock, discovered_locks, without_below}
use Rattle.dav_locks_core.specs.LockFronts.{lock_fronts, front_count}
use Rattle.dav_locks_core.specs.Stale.{is_stale, without_stale}
use Rattle.dav_locks_core.specs.Exclusive.{Exclusive}
use Rattle.dav_locks_core.specs.Held.{HoldsExclusive, HoldsBelow}
use Rattle.dav_locks_core.specs.NewLock.{new_lock}
use Rattle.dav_path_core.proofs.lists.MemberLemmas.{Contains-In}

abbrev lock : List ℕ → List ℕ → List ℕ → Bool → Bool → Lock
lock token path who shared deep = record {
  token = token;
  path = record { prefix = []; bytes = path };
  principal = Some who;
  owner = None;
  timeout_at = None;
  timeout = None;
  shared = shared;
  deep = deep;
}

abbrev ann : List (List ℕ) → LockCaller
ann tokens = record { principal = Some (codes "ann"); ignore = false; tokens = tokens }

-- ann's shared deep lock of /a and bob's shared shallow one of /a/b
abbrev shared_a : Lock
shared_a = lock (codes "t1") (codes "/a") (codes "ann") true true

abbrev shared_ab : Lock
shared_ab = lock (codes "t2") (codes "/a/b") (codes "bob") true false

-- ann's exclusive shallow lock of /a and bob's of /a/b
abbrev exclusive_a : Lock
exclusive_a = lock (codes "t1") (codes "/a") (codes "ann") false false

abbrev exclusive_ab : Lock
exclusive_ab = lock (codes "t2") (codes "/a/b") (codes "bob") false false

abbrev a : Path
a = segments (codes "/a")

abbrev ab : Path
ab = segments (codes "/a/b")

-- an exclusive lock below a shared deep one is refused, a shared one is not
shared_then_exclusive : lock_conflicts (shared_a ∷ []) ab false false ≡ shared_a ∷ []
unfolding segments
shared_then_exclusive = refl

shared_then_shared : lock_conflicts (shared_a ∷ []) ab true false ≡ []
unfolding segments
shared_then_shared = refl

-- exclusive shallow locks of /a and /a/b stand beside each other, and refuse a deep one of the root
shallow_below_shallow : lock_conflicts (exclusive_a ∷ []) ab false false ≡ []
unfolding segments
shallow_below_shallow = refl

deep_over_shallow : lock_conflicts (exclusive_a ∷ exclusive_ab ∷ []) (segments (codes "/")) false true ≡ exclusive_a ∷ exclusive_ab ∷ []
unfolding segments
deep_over_shallow = refl

-- one covering lock that is held lets a shallow check pass, and not a deep one
shared_held : check_conflicts (shared_a ∷ shared_ab ∷ []) ab false (ann (codes "t1" ∷ [])) ≡ []
unfolding segments
shared_held = refl

shared_not_held_below : check_conflicts (shared_a ∷ shared_ab ∷ []) ab true (ann (codes "t1" ∷ [])) ≡ shared_ab ∷ []
unfolding segments
shared_not_held_below = refl

-- with the token of /a alone, a deep check of /a and a shallow one of /a/b conflict with the lock of /a/b
deep_check_of_a : check_conflicts (exclusive_a ∷ exclusive_ab ∷ []) a true (ann (codes "t1" ∷ [])) ≡ exclusive_ab ∷ []
unfolding segments
deep_check_of_a = refl

shallow_check_of_ab : check_conflicts (exclusive_a ∷ exclusive_ab ∷ []) ab false (ann (codes "t1" ∷ [])) ≡ exclusive_ab ∷ []
unfolding segments
shallow_check_of_ab = refl

-- with both tokens and principals ignored both pass
both_tokens_deep : check_conflicts (exclusive_a ∷ exclusive_ab ∷ []) a true (record { principal = Some (codes "ann"); ignore = true; tokens = codes "t1" ∷ codes "t2" ∷ [] }) ≡ []
unfolding segments
both_tokens_deep = refl

both_tokens_shallow : check_conflicts (exclusive_a ∷ exclusive_ab ∷ []) ab false (record { principal = Some (codes "ann"); ignore = true; tokens = codes "t1" ∷ codes "t2" ∷ [] }) ≡ []
unfolding segments
both_tokens_shallow = refl

-- the token of a shallow lock of /a is found at /a/b, and not once it has ended
found_above : found_token (exclusive_a ∷ []) ab (codes "t1") ≡ Some 0
unfolding segments found_token
found_above = refl

not_found_again : found_token (remove (exclusive_a ∷ []) 0) ab (codes "t1") ≡ None
unfolding segments found_token
not_found_again = refl

-- two seconds after moment 5, and a timeout past the greatest moment
end_in_two_seconds : end_of 5 (Some 2) ≡ Some 2000000005
end_in_two_seconds = refl

end_at_most : end_of 5 (Some 18446744073709551615) ≡ Some 18446744073709551615
end_at_most = refl

-- the covering locks, from the root down
abbrev shared_root : Lock
shared_root = lock (codes "t3") (codes "/") (codes "ann") true true

discovered_down : discovered_locks (shared_ab ∷ shared_root ∷ []) ab ≡ shared_root ∷ shared_ab ∷ []
unfolding segments
discovered_down = refl

discovered_shallow : discovered_locks (exclusive_a ∷ []) ab ≡ []
unfolding segments
discovered_shallow = refl

-- what goes is at the path or below, by segments
abbrev exclusive_other : Lock
exclusive_other = lock (codes "t3") (codes "/ab") (codes "ann") false false

left_beside : without_below a (exclusive_a ∷ exclusive_ab ∷ exclusive_other ∷ []) ≡ exclusive_other ∷ []
unfolding segments
left_beside = refl

none_left : without_below (segments (codes "/")) (exclusive_a ∷ exclusive_ab ∷ exclusive_other ∷ []) ≡ []
unfolding segments
none_left = refl

-- another timeout, and nothing else
refreshed_at_seven : refreshed_lock 7 (Some 3) exclusive_a ≡ record exclusive_a { timeout_at = Some 3000000007; timeout = Some 3 }
refreshed_at_seven = refl

-- the root, and each lock's path with those above it
fronts_of_two : lock_fronts (exclusive_ab ∷ exclusive_other ∷ []) ≡ [] ∷ a ∷ ab ∷ segments (codes "/ab") ∷ []
unfolding segments
fronts_of_two = refl

-- a front that two paths share counts once
front_count_of_two : front_count (exclusive_a ∷ exclusive_ab ∷ []) ≡ 3
unfolding segments
front_count_of_two = refl

-- a lock expires at its moment and not before, and without an end never
abbrev timed_a : Lock
timed_a = record exclusive_a { timeout_at = Some 9 }

stands_before : is_stale 8 timed_a ≡ false
stands_before = refl

expires_at_its_moment : is_stale 9 timed_a ≡ true
expires_at_its_moment = refl

never_expires : is_stale 18446744073709551615 exclusive_a ≡ false
never_expires = refl

left_at_nine : without_stale 9 (timed_a ∷ exclusive_ab ∷ []) ≡ exclusive_ab ∷ []
left_at_nine = refl

-- of locks with one token the nearest to the root is found, of these the first granted
abbrev same_token_below : Lock
same_token_below = lock (codes "t1") (codes "/a/b") (codes "bob") true false

found_nearest_to_root : found_token (same_token_below ∷ shared_a ∷ []) ab (codes "t1") ≡ Some 1
unfolding segments found_token
found_nearest_to_root = refl

found_first_granted : found_token (same_token_below ∷ shared_a ∷ exclusive_a ∷ []) ab (codes "t1") ≡ Some 1
unfolding segments found_token
found_first_granted = refl

-- the lock that is granted at moment 5 for two seconds
granted_at_five : new_lock (codes "t1") (record { prefix = []; bytes = codes "/a" }) (Some (codes "ann")) None (Some 2) false false 5
    ≡ record exclusive_a { timeout_at = Some 2000000005; timeout = Some 2 }
granted_at_five = refl

-- two shared locks may cover one path, two exclusive ones may not
both_shared : Exclusive (shared_a ∷ shared_ab ∷ [])
both_shared = ((λ p c d. refl, tt), (tt, tt))

not_both_exclusive : ¬ Exclusive (exclusive_a ∷ exclusive_a ∷ [])
unfolding segments
not_both_exclusive h = false≢true (h.0.0 a refl refl)

-- who names no token holds no exclusive lock, and no lock below
not_held : ¬ HoldsExclusive (exclusive_a ∷ []) a (ann [])
unfolding segments
not_held h = false≢true (h exclusive_a (Contains-In (exclusive_a ∷ []) exclusive_a (inl refl)) refl refl)

not_held_below : ¬ HoldsBelow (shared_ab ∷ []) a (ann (codes "t1" ∷ []))
unfolding segments
not_held_below h = false≢true (h shared_ab (Contains-In (shared_ab ∷ []) shared_ab (inl refl)) refl)
