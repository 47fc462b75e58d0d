-- What holds of a result of one kind.
use Rattle.std.proofs.Common.{◌≡◌, Option, Some, None, IsSome, Result, Ok, Err, IsErr, OnOk, OnErr, IfOk, refl}

pub on_err : {A E : Type 0} {P : Type 0} (r : Result A E) → P → OnErr r P
on_err (Ok a) p = tt
on_err (Err e) p = p

pub on_ok-map : {A E : Type 0} {P Q : Type 0} (r : Result A E) → (P → Q) → OnOk r P → OnOk r Q
on_ok-map (Ok a) f p = f p
on_ok-map (Err e) f p = tt

pub on_err-map : {A E : Type 0} {P Q : Type 0} (r : Result A E) → (P → Q) → OnErr r P → OnErr r Q
on_err-map (Ok a) f p = tt
on_err-map (Err e) f p = f p

pub if_ok-err : {A E : Type 0} (P : A → Type 0) (r : Result A E) → IsErr r → IfOk r P
if_ok-err P (Ok a) err = cc
if_ok-err P (Err e) err = tt

pub if_ok-map : {A E : Type 0} (P Q : A → Type 0) (r : Result A E) → ((a : A) → P a → Q a) → IfOk r P → IfOk r Q
if_ok-map P Q (Ok a) f p = f a p
if_ok-map P Q (Err e) f p = tt

pub some_of : {A : Type 0} (o : Option A) → IsSome o → (a : A) × (o ≡ Some a)
some_of (Some a) some = (a, refl)
some_of None some = cc
