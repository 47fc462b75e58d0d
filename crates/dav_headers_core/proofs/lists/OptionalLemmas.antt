-- What stands behind a reading that gave something.
use Rattle.std.proofs.Common.{◌≡◌, refl, Bool, true, false, Option, None, Some}
use Rattle.dav_headers_core.specs.Optional.{◌>>=◌, when}

-- the value of a step that found something
pub bind_some : {A B : Type 0} (r : Option A) (f : A → Option B) (y : B) → (r >>= f) ≡ Some y → (x : A) × (r ≡ Some x) × (f x ≡ Some y)
bind_some (Some x) f y e = (x, refl, e)
bind_some None f y e = absurd cc

-- a test that held
pub when_some : {A : Type 0} (b : Bool) (x y : A) → when b x ≡ Some y → (b ≡ true) × (x ≡ y)
when_some true x y e = (refl, cc)
when_some false x y e = absurd cc

pub some_is : {A : Type 0} (x y : A) → (let some : A → Option A = λ z. Some z in some x ≡ some y) → x ≡ y
some_is x y e = cc
