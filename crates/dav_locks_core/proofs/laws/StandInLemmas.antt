-- Locks that stand in a list, unchanged and in the same order.
use Rattle.std.proofs.Common.{◌≡◌, inl, inr, Bool, true, false, cond, List, [], ◌∷◌, ◌++◌, refl, ◌∙◌, ap}
use Rattle.std.specs.Prelude.{filter}
use Rattle.dav_locks_core.specs.Lock.{Lock}
use Rattle.dav_locks_core.specs.Ended.{StandIn}
use Rattle.dav_path_core.proofs.lists.MemberLemmas.{In}

pub StandIn-trans : (a b c : List Lock) → StandIn a b → StandIn b c → StandIn a c
StandIn-trans [] b c p q = tt
StandIn-trans (x ∷ a) [] c p q = absurd p
StandIn-trans (x ∷ a) (y ∷ b) [] p q = absurd q
StandIn-trans (x ∷ a) (y ∷ b) (z ∷ c) p q = elim q [
  | inl same ↦ elim p [
    | inl here ↦ inl (same.0 ∙ here.0, StandIn-trans a b c here.1 same.1)
    | inr later ↦ inr (StandIn-trans (x ∷ a) b c later same.1)
  ]
  | inr rest ↦ inr (StandIn-trans (x ∷ a) (y ∷ b) c p rest)
]

pub StandIn-push : (locks : List Lock) (l : Lock) → StandIn locks (locks ++ l ∷ [])
StandIn-push [] l = tt
StandIn-push (a ∷ locks) l = inl (refl, StandIn-push locks l)

pub StandIn-more : (old new : List Lock) (b : Lock) → StandIn old new → StandIn old (b ∷ new)
StandIn-more [] new b h = tt
StandIn-more (a ∷ old) new b h = inr h

-- what a filter keeps
pub StandIn-filtered : (keep : Lock → Bool) (locks : List Lock) → StandIn (filter keep locks) locks
StandIn-filtered keep [] = tt
StandIn-filtered keep (a ∷ locks) = elim (keep a) as (λ b. StandIn (cond b (a ∷ filter keep locks) (filter keep locks)) (a ∷ locks)) [
  | true ↦ inl (refl, StandIn-filtered keep locks)
  | false ↦ StandIn-more (filter keep locks) locks a (StandIn-filtered keep locks)
]

pub StandIn-filter : (keep : Lock → Bool) (old new : List Lock) → StandIn old new → StandIn (filter keep old) (filter keep new)
StandIn-filter keep [] new h = tt
StandIn-filter keep (a ∷ old) [] h = absurd h
StandIn-filter keep (a ∷ old) (b ∷ new) h = elim h [
  | inl same ↦
      let rest = StandIn-filter keep old new same.1 in
      elim (keep a) as (λ t. keep a ≡ t → StandIn (cond t (a ∷ filter keep old) (filter keep old)) (filter keep (b ∷ new))) [
        | true ↦ λ e. rw (ap keep same.0 ∙ e) (inl (same.0, rest))
        | false ↦ λ e. rw (ap keep same.0 ∙ e) rest
      ] refl
  | inr later ↦
      let rest = StandIn-filter keep (a ∷ old) new later in
      elim (keep b) as (λ t. StandIn (filter keep (a ∷ old)) (cond t (b ∷ filter keep new) (filter keep new))) [
        | true ↦ StandIn-more (filter keep (a ∷ old)) (filter keep new) b rest
        | false ↦ rest
      ]
]

pub In-StandIn : (l : Lock) (old new : List Lock) → StandIn old new → In l old → In l new
In-StandIn l [] new h i = absurd i
In-StandIn l (a ∷ old) [] h i = absurd h
In-StandIn l (a ∷ old) (b ∷ new) h i = elim h [
  | inl same ↦ elim i [ inl is ↦ inl (same.0 ∙ is) | inr j ↦ inr (In-StandIn l old new same.1 j) ]
  | inr later ↦ inr (In-StandIn l (a ∷ old) new later i)
]
