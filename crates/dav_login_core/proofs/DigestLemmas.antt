-- What is kept among digests.
use Rattle.std.proofs.Common.{◌≡◌, ◌<◌, ◌≤◌, ◌&&◌, ◌||◌, ℕ, suc, Bool, true, false, List, [], ◌∷◌, ◌++◌, length, take, drop, Option, Some, None, All, refl, sym, ap, subst, ◌∙◌, nat_eq, string_bytes, inl, inr, if◌then◌else◌}
use Rattle.std.proofs.Math.Logic.{∥∥₁_map}
use Rattle.std.proofs.lemmas.Bool.{false≢true, le-leb, lt-leb}
use Rattle.std.proofs.lemmas.Grind.{merely}
use Rattle.std.proofs.lemmas.List.Elements.{All-append, All-drop, All-head, All-push, All-tail, All-take}
use Rattle.std.specs.Prelude.{remove}
use Rattle.std.specs.List.{list_any}
use Rattle.std.specs.Option.{option_to_list}
use Rattle.std.specs.Cmp.Lexicographic.{pointwise, same_text}
use Rattle.dav_login_core.specs.declared.known.Known.{Known}
use Rattle.dav_users_core.specs.Users.{UserLine, is_password}
use Rattle.dav_login_core.specs.Friends.{LetsIn, without_label}
use Rattle.dav_login_core.specs.Digests.{Learns, NotesRefused, room_for_one, WasAccepted, WasAcceptedOf, WasRefused, digest, is_known}

-- what follows from one that passes, and holds of each, holds where any passes
pub holds_of_any : {X : Type 0} (P : X → Type 0) (test : X → Bool) (Q : Type 0) → ((x : X) → test x ≡ true → P x → Q) → (xs : List X) → All P xs
    → list_any test xs ≡ true → Q
holds_of_any P test Q one [] all h = absurd (false≢true h)
holds_of_any {X} P test Q one (x ∷ xs) all h = by (holds_of_any P test Q one xs (All-tail P x xs all)) (test x) refl h
  where
    by : (list_any test xs ≡ true → Q) → (b : Bool) → test x ≡ b → (b || list_any test xs) ≡ true → Q
    by later true e _ = one x e (All-head P x xs all)
    by later false e rest = later rest

right_of : (a b : Bool) → (a && b) ≡ true → b ≡ true
right_of true b h = h
right_of false b h = absurd (false≢true h)

-- of pairs, by the second
pub holds_of_second : (P : List ℕ → Type 0) (xs : List (ℕ × List ℕ)) (n : ℕ) (d : List ℕ) → All (λ r. P r.1) xs
    → list_any (λ y. nat_eq y.0 n && pointwise nat_eq y.1 d) xs ≡ true → P d
holds_of_second P xs n d all h =
    holds_of_any (λ (r : ℕ × List ℕ). P r.1) (λ y. nat_eq y.0 n && pointwise nat_eq y.1 d) (P d)
    (λ x is holds. subst P (same_text x.1 d (sym (right_of (nat_eq x.0 n) (pointwise nat_eq x.1 d) is))) holds) xs all h

-- what holds of each holds of those behind the first
pub all_behind : {X : Type 0} (P : X → Type 0) (first : Option X) (xs all : List X) → all ≡ option_to_list first ++ xs → All P all → All P xs
all_behind P None xs all e h = subst (All P) e h
all_behind P (Some x) xs all e h = All-tail P x xs (subst (All P) e h)

-- and of those with one more, or none
pub all_pushed : {X : Type 0} (P : X → Type 0) (is_kept : Bool) (xs all : List X) (x : X)
    → all ≡ (if is_kept then xs ++ x ∷ [] else xs) → All P xs → P x → All P all
all_pushed P true xs all x e h one = subst (All P) (sym e) (All-push P xs x h one)
all_pushed P false xs all x e h one = subst (All P) (sym e) h

-- the first is gone where there are 1,024
pub room_made : {X : Type 0} (xs all : List X) → xs ≡ drop 1 all → 1024 ≤ length all → xs ≡ room_for_one all
room_made xs all e many = e ∙ sym (ap (λ (t : Bool). if t then drop 1 all else all) (le-leb 1024 (length all) many))

pub room_there : {X : Type 0} (all : List X) → length all < 1024 → all ≡ room_for_one all
room_there all few = ap (λ (t : Bool). if t then drop 1 all else all) (sym (lt-leb 1024 (length all) few))

-- one is learned, if there is memory
pub learns_one : (is_kept : Bool) (old rest new : List Known) (k : Known) → rest ≡ room_for_one old → new ≡ (if is_kept then rest ++ k ∷ [] else rest) → Learns k.digest old new
learns_one true old rest new k room e = inr (k, refl, e ∙ ap (λ (r : List Known). r ++ k ∷ []) room)
learns_one false old rest new k room e = inl (e ∙ room)

-- and noted
pub notes_one : (is_kept : Bool) (old rest new : List (ℕ × List ℕ)) (label : ℕ) (d : List ℕ) → rest ≡ room_for_one old
    → new ≡ (if is_kept then rest ++ (label, d) ∷ [] else rest) → NotesRefused label d old new
notes_one true old rest new label d room e = inr (e ∙ ap (λ (r : List (ℕ × List ℕ)). r ++ (label, d) ∷ []) room)
notes_one false old rest new label d room e = inl (e ∙ room)

-- what holds of each holds where one is taken out
pub all_removed : {X : Type 0} (P : X → Type 0) (i : ℕ) (xs new : List X) → new ≡ remove xs i → All P xs → All P new
all_removed P i xs new e all = subst (All P) (sym e) (All-append P (take i xs) (drop (suc i) xs) (All-take P i xs all) (All-drop P (suc i) xs all))

-- ---- what is known was accepted

was_some : (users : List UserLine) (key name d : List ℕ) → WasAcceptedOf users key name d → WasAccepted users key d
was_some users key name d was = ∥∥₁_map was (λ w. (name, w.0, w.1, w.2))

pub known_accepted : (users : List UserLine) (key d : List ℕ) (known : List Known) → All (λ k. WasAcceptedOf users key (string_bytes k.name) k.digest) known
    → is_known known d ≡ true → WasAccepted users key d
known_accepted users key d known all h =
    holds_of_any (λ (k : Known). WasAcceptedOf users key (string_bytes k.name) k.digest) (λ k. pointwise nat_eq k.digest d) (WasAccepted users key d)
    (λ k is was. subst (WasAccepted users key) (same_text k.digest d (sym is)) (was_some users key (string_bytes k.name) k.digest was)) known all h

-- a digest of a name and a password that were looked at
pub digest_of_right : (users : List UserLine) (key name password d : List ℕ) → d ≡ digest key name password → is_password users name password ≡ true
    → WasAcceptedOf users key name d
digest_of_right users key name password d e right = merely (password, right, sym e)

pub digest_of_wrong : (users : List UserLine) (key name password d : List ℕ) → d ≡ digest key name password → is_password users name password ≡ false
    → WasRefused users key d
digest_of_wrong users key name password d e wrong = merely (name, password, wrong, sym e)

pub digest_of_bytes : (key name name' password password' d : List ℕ) → d ≡ digest key name' password' → name' ≡ name → password' ≡ password
    → d ≡ digest key name password
digest_of_bytes key name name' password password' d e same_name same_password =
    e ∙ ap (λ (n : List ℕ). digest key n password') same_name ∙ ap (λ (p : List ℕ). digest key name p) same_password

-- ---- one was let in

pub lets_in : (is_kept : Bool) (old without rest new : List (ℕ × ℕ)) (label now : ℕ) → without ≡ without_label label old → rest ≡ room_for_one without
    → new ≡ (if is_kept then rest ++ (label, now) ∷ [] else rest) → LetsIn label now old new
lets_in true old without rest new label now taken room e =
    inr (e ∙ ap (λ (r : List (ℕ × ℕ)). r ++ (label, now) ∷ []) (room ∙ ap room_for_one taken))
lets_in false old without rest new label now taken room e = inl (e ∙ room ∙ ap room_for_one taken)
