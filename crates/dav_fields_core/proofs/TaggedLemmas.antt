-- What a text and a URL name on the server.
use Rattle.std.proofs.Common.{◌≡◌, ◌≢◌, ℕ, List, Option, Some, None, Result, Ok, Err, refl, sym, subst}
use Rattle.std.specs.Prelude.{MatchOption, MatchResult, IfOk, IfErr}
use Rattle.url.specs.Parts.{Parts}
use Rattle.dav_path_core.specs.declared.davpath.ParseError.{ParseError}
use Rattle.dav_path_core.specs.declared.davpath.ParseError.TheVariants as parse
use Rattle.dav_path_core.specs.PathText.{PathText}
use Rattle.dav_faults_core.specs.declared.faults.Fault.{Fault}
use Rattle.dav_faults_core.specs.declared.faults.Fault.TheVariants as fault
use Rattle.dav_fields_core.specs.Targets.{IsPathOf}
use Rattle.dav_fields_core.specs.TaggedLists.{Base, IsSameServer, NamesByUrl, spoken_path}

-- what is answered of a text
abbrev pub Found : List ℕ → List ℕ → Option PathText → Type 0
Found prefix text found = MatchOption found ((path : PathText) → ¬ IsPathOf prefix text path) (λ path. IsPathOf prefix text path)

-- a refusal says that there is no path, or no memory
abbrev pub Refuses : Result (Option PathText) Fault → ParseError → Type 0
Refuses result e = MatchResult result (λ found. (found ≡ None) × (e ≢ parse.OutOfMemory)) (λ f. f ≡ fault.InsufficientStorage)

pub none_found : (prefix text : List ℕ) (e : ParseError) → (e ≢ parse.OutOfMemory → (path : PathText) → ¬ IsPathOf prefix text path)
    → (result : Result (Option PathText) Fault) → Refuses result e → IfOk result (Found prefix text)
none_found prefix text e no_path (Ok None) h = no_path h.1
none_found prefix text e no_path (Ok (Some path)) h = absurd (let wrong = h.0 in cc)
none_found prefix text e no_path (Err f) h = tt

pub only_memory : (e : ParseError) (result : Result (Option PathText) Fault) → Refuses result e → IfErr result (λ f. f ≡ fault.InsufficientStorage)
only_memory e (Ok found) h = tt
only_memory e (Err f) h = h

-- what a URL of the server names
pub named_by : (base : Base) (url : Parts) (prefix text : List ℕ) → IsSameServer url base.url → prefix ≡ base.prefix → text ≡ url.path → (found : Option PathText)
    → Found prefix text found → NamesByUrl base url (spoken_path found)
named_by base url prefix text same is_prefix is_text None h = λ p named.
    h named.path (subst (λ t. IsPathOf prefix t named.path) (sym is_text) (subst (λ q. IsPathOf q url.path named.path) (sym is_prefix) named.path_of))
named_by base url prefix text same is_prefix is_text (Some path) h = record {
  same = same;
  path = path;
  path_of = subst (λ q. IsPathOf q url.path path) is_prefix (subst (λ t. IsPathOf prefix t path) is_text h);
  at = refl;
}
