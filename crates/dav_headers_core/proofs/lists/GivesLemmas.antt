-- What a call answers that looks before it takes memory is what any call may answer.
use Rattle.std.proofs.Common.{Option, Result, Ok, Err}
use Rattle.dav_headers_core.specs.declared.davheaders.errors.HeaderError.{HeaderError}
use Rattle.dav_headers_core.specs.declared.davheaders.errors.HeaderError.TheVariants.{Invalid, OutOfMemory}
use Rattle.dav_headers_core.specs.HeaderGives.{Refuses, RefusesFirst, Gives, GivesFirst}

pub refused_anyhow : {U : Type 0} (e : HeaderError) (expected : Option U) → RefusesFirst e expected → Refuses e expected
refused_anyhow Invalid expected refused = refused
refused_anyhow OutOfMemory expected refused = tt

pub given_anyhow : {T U : Type 0} (view : T → U) (r : Result T HeaderError) (expected : Option U) → GivesFirst view r expected → Gives view r expected
given_anyhow view (Ok x) expected gives = gives
given_anyhow view (Err e) expected gives = refused_anyhow e expected gives
