-- What a call answers, by what its definition gives.
use Rattle.std.specs.Prelude.{◌≡◌, Option, None, Some, IsSome, Result, Ok, Err}
use Rattle.dav_headers_core.specs.declared.davheaders.errors.HeaderError.{HeaderError}
use Rattle.dav_headers_core.specs.declared.davheaders.errors.HeaderError.TheVariants.{Invalid, OutOfMemory}

abbrev pub Refuses : {U : Type 0} → HeaderError → Option U → Type 0
Refuses Invalid expected = expected ≡ None
Refuses OutOfMemory expected = Unit {0}

-- Ok exactly with the value that is expected, which `view` shows, and `Invalid` only where none is. It may run out of memory
-- in place of either.
abbrev pub Gives : {T U : Type 0} → (T → U) → Result T HeaderError → Option U → Type 0
Gives view (Ok x) expected = expected ≡ Some (view x)
Gives view (Err e) expected = Refuses e expected

abbrev pub RefusesFirst : {U : Type 0} → HeaderError → Option U → Type 0
RefusesFirst Invalid expected = expected ≡ None
RefusesFirst OutOfMemory expected = IsSome expected

-- The same of a call that looks before it takes memory: it may run out of memory only where a value is expected, so `Invalid`
-- comes exactly where none is.
abbrev pub GivesFirst : {T U : Type 0} → (T → U) → Result T HeaderError → Option U → Type 0
GivesFirst view (Ok x) expected = expected ≡ Some (view x)
GivesFirst view (Err e) expected = RefusesFirst e expected

-- the answer of a call that takes no memory
abbrev pub exactly : {U : Type 0} → Option U → Result U HeaderError
exactly (Some x) = Ok x
exactly None = Err Invalid
