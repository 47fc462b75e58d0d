-- What locks refuse once there is one more, and the list of them with it.
use Rattle.std.proofs.Common.{◌≡◌, inl, inr, Bool, true, false, not, ◌&&◌, ◌||◌, List, [], ◌∷◌, ◌++◌, refl, ap}
use Rattle.std.specs.List.{AllByRecursion}
use Rattle.std.proofs.lemmas.Bool.{false≢true, true≢false}
use Rattle.dav_path_core.proofs.lists.MemberLemmas.{In}
use Rattle.dav_locks_core.specs.Lock.{Lock}

-- who holds more locks is refused by no other
pub refuse_less : (h more c s a any b : Bool) → (h ≡ true → more ≡ true) → (a ≡ true → any ≡ true) → (not h && ((c && (not s || not a)) || (false && b))) ≡ false
    → (not more && ((c && (not s || not any)) || (false && b))) ≡ false
refuse_less h true c s a any b holds some passes = refl
refuse_less true false c s a any b holds some passes = absurd (false≢true (holds refl))
refuse_less false false false s a any b holds some passes = refl
refuse_less false false true false a any b holds some passes = absurd (true≢false passes)
refuse_less false false true true false any b holds some passes = absurd (true≢false passes)
refuse_less false false true true true true b holds some passes = refl
refuse_less false false true true true false b holds some passes = absurd (false≢true (some refl))

-- a shared lock refuses nobody who holds another
pub shared_passes : (h c s a b : Bool) → (c ≡ true → s ≡ true) → a ≡ true → (not h && ((c && (not s || not a)) || (false && b))) ≡ false
shared_passes true c s a b both any = refl
shared_passes false false s a b both any = refl
shared_passes false true true true b both any = refl
shared_passes false true true false b both any = absurd (false≢true any)
shared_passes false true false a b both any = absurd (false≢true (both refl))

-- a lock that stands in the way of none is shared where it covers the path
pub compatible_shared : (k s c d : Bool) → (not (k && s) && (c || d)) ≡ false → c ≡ true → k ≡ true
compatible_shared true s c d passes covered = refl
compatible_shared false s true d passes covered = absurd (true≢false passes)
compatible_shared false s false d passes covered = absurd (false≢true covered)

-- ---- a list with one more

pub all_with : {P : Lock → Type 0} (xs : List Lock) (new : Lock) → ((l : Lock) → In l xs → P l) → P new → AllByRecursion P (xs ++ new ∷ [])
all_with [] new each last = (last, tt)
all_with (x ∷ xs) new each last = (each x (inl refl), all_with xs new (λ l i. each l (inr i)) last)

pub in_front : (xs more : List Lock) (l : Lock) → In l xs → In l (xs ++ more)
in_front [] more l i = absurd i
in_front (x ∷ xs) more l (inl e) = inl e
in_front (x ∷ xs) more l (inr i) = inr (in_front xs more l i)

pub in_last : (xs : List Lock) (l : Lock) → In l (xs ++ l ∷ [])
in_last [] l = inl refl
in_last (x ∷ xs) l = inr (in_last xs l)

pub or_more : (a b : Bool) → a ≡ true → (a || b) ≡ true
or_more a b h = ap (λ x. x || b) h

pub or_last : (a b : Bool) → b ≡ true → (a || (b || false)) ≡ true
or_last true b h = refl
or_last false b h = ap (λ x. x || false) h
