-- What the places of a depth are: each stands, or a name below is one that no path has which is read.
use Rattle.std.proofs.Common.{◌≡◌, ◌⊎◌, inl, inr, ℕ, ◌<◌, arith, List, [], ◌∷◌, length, map, get_or, Option, Some, None, Result, Ok, Err, sym, ap, ◌∙◌, subst}
use Rattle.std.specs.Prelude.{Contains, IfOk, IsSome, OnOk}
use Rattle.std.proofs.lemmas.Bool.{false≢true}
use Rattle.std.proofs.lemmas.List.{get_or-map, length-map}
use Rattle.std.proofs.lemmas.List.Elements.{Contains-get_or}
use Rattle.dav_path_core.specs.Fronts.{Path}
use Rattle.dav_path_core.proofs.lists.MemberLemmas.{In-Contains}
use Rattle.dav_path_core.proofs.paths.FrontLemmas.{is_front-refl}
use Rattle.dav_headers_core.specs.declared.davheaders.depths.Depth.TheVariants as depth
use Rattle.dav_files_core.specs.Resources.{Resource, ResourceMap, at_path}
use Rattle.dav_faults_core.specs.declared.faults.Fault.{Fault}
use Rattle.dav_faults_core.specs.declared.faults.Fault.TheVariants as fault
use Rattle.dav_session_core.specs.MemberPaths.{paths_of_members}
use Rattle.dav_session_core.specs.Placed.{AllStand, IsNowhere}
use Rattle.dav_session_core.specs.Subtrees.{HasOddMember, HasOddName}
use Rattle.dav_session_core.proofs.SubtreeLemmas.{member_stands}

-- at the one that code is at
pub stands_at : {A : Type 0} (view : A → Path) (m : ResourceMap) (xs : List A) (i : ℕ) (x : A) → i < length xs → x ≡ get_or xs i x → AllStand m (map view xs) → IsSome (at_path m (view x))
stands_at view m xs i x lt is all =
    let below : i < length (map view xs) = omega (arith, length-map xs view) in
    let at : get_or (map view xs) i (view x) ≡ view x = get_or-map view xs i x (view x) lt ∙ ap view (sym is) in
    all (view x) (subst (Contains (map view xs)) at (Contains-get_or (map view xs) i (view x) below))

pub members_stand : (m : ResourceMap) (p : Path) (places : List Path)
    → places ≡ p ∷ paths_of_members m p → IsSome (at_path m p) → AllStand m places
members_stand m p places is here = subst (AllStand m) (sym is)
    (λ q c. elim (In-Contains (p ∷ paths_of_members m p) q c) [
      | inl same ↦ subst (λ r. IsSome (at_path m r)) same here
      | inr i ↦ member_stands m p q i
    ])

-- a member with a name that no path has which is read
pub odd_below : (m : ResourceMap) (p : Path) → HasOddMember m p → HasOddName m p
odd_below m p odd = record { folder = p; name = odd.0; below = is_front-refl p; stands = odd.1; odd = odd.2 }

-- what tells of a place where something stands is refused for memory alone
pub short_of : (e : Fault) (o : Option Resource) → (e ≡ fault.InsufficientStorage) ⊎ ((e ≡ fault.NotFound) × (o ≡ None)) → IsSome o → e ≡ fault.InsufficientStorage
short_of e (Some r) (inl short) some = short
short_of e (Some r) (inr none) some = absurd (cc)
short_of e None why some = absurd (false≢true some)

-- a member with a name that no path has which is read
pub nowhere_odd : (m m' : ResourceMap) (p : Path) (e : Fault) → m' ≡ m
    → (e ≡ fault.InsufficientStorage) ⊎ ((e ≡ fault.BadRequest) × HasOddMember m' p)
    → IsNowhere depth.One m p e
nowhere_odd m m' p e same (inl short) = inl short
nowhere_odd m m' p e same (inr odd) =
    inr (inr (odd.0, inr (subst (λ n. HasOddMember n p) same odd.1)))

-- what an answer says, where it says two things
pub if_found : {A E : Type 0} (r : Result A E) (P Q : A → Type 0) (F : Type 0) → ((x : A) → P x → F → Q x) → IfOk r P → OnOk r F → IfOk r Q
if_found (Ok x) P Q F both p f = both x p f
if_found (Err e) P Q F both p f = tt
