-- Laws of the conditions of HTTP.
use Rattle.std.proofs.Common.{arith, length, ◌≡◌, ℕ, Bool, true, false, not, ◌||◌, cond, List, [], ◌∷◌, Option, Some, None, refl, sym, ap, ◌∙◌}
use Rattle.std.specs.Prelude.{codes}
use Rattle.std.proofs.lemmas.Bool.{eqb-true}
use Rattle.http_header.specs.FieldValue.{FieldValue}
use Rattle.http_header.specs.HeaderMap.{Entries, get_all}
use Rattle.dav_headers_core.specs.Optional.{◌>>=◌}
use Rattle.dav_path_core.specs.declared.util.DavMethod.{DavMethod}
use Rattle.dav_fields_core.specs.declared.etags.Standing.{Standing}
use Rattle.dav_fields_core.specs.declared.etags.Standing.TheVariants.{Nothing, Folder, File}
use Rattle.dav_fields_core.specs.declared.preconditions.Course.{Course}
use Rattle.dav_fields_core.specs.declared.preconditions.Course.TheVariants.{Proceed, Whole, NotModified, PreconditionFailed}
use Rattle.dav_fields_core.specs.Preconditions.{asks_nothing, course_of, course_of_wanted, if_modified_since, if_range, if_unmodified_since, is_get, is_get_or_head, is_missing, is_new, is_part_wanted, is_told_by, is_wanted, part_course, second_in, unchanged_since}

-- ---- what is asked for in no header

no_second : (standing : Standing) → if_unmodified_since standing [] ≡ true
no_second Nothing = refl
no_second Folder = refl
no_second (File tag modified latest) = refl

no_date : (standing : Standing) → if_modified_since standing [] ≡ true
no_date Nothing = refl
no_date Folder = refl
no_date (File tag modified latest) = refl

wanted : (standing : Standing) (headers : Entries FieldValue) → get_all headers (codes "if-match") ≡ [] → get_all headers (codes "if-unmodified-since") ≡ []
    → is_wanted standing headers ≡ Some true
wanted standing headers tags dates = rw (tags, dates) (ap Some (no_second standing))

new : (m : DavMethod) (standing : Standing) (headers : Entries FieldValue) → get_all headers (codes "if-none-match") ≡ [] → get_all headers (codes "if-modified-since") ≡ []
    → is_new m standing headers ≡ Some true
new m standing headers tags dates = rw (tags, dates) (by (is_get_or_head m))
  where
    by : (reads : Bool) → cond reads (Some (if_modified_since standing [])) (Some true) ≡ Some true
    by true = ap Some (no_date standing)
    by false = refl

part : (m : DavMethod) (standing : Standing) (headers : Entries FieldValue) → get_all headers (codes "if-range") ≡ [] → is_part_wanted m standing headers ≡ Some true
part m standing headers none = rw none refl

pub goes_on : (m : DavMethod) (standing : Standing) (headers : Entries FieldValue) → get_all headers (codes "if-match") ≡ [] → get_all headers (codes "if-unmodified-since") ≡ []
    → get_all headers (codes "if-none-match") ≡ [] → get_all headers (codes "if-modified-since") ≡ [] → get_all headers (codes "if-range") ≡ []
    → course_of m standing headers ≡ Some Proceed
goes_on m standing headers a b c d e =
    ap (λ w. w >>= λ wanted. cond wanted (course_of_wanted m standing headers) (Some PreconditionFailed)) (wanted standing headers a b)
    ∙ ap (λ n. n >>= λ new. cond new (part_course (is_part_wanted m standing headers)) (cond (is_get_or_head m) (Some NotModified) (Some PreconditionFailed))) (new m standing headers c d)
    ∙ ap part_course (part m standing headers e)

-- what is missing was not sent
pub none_sent : (values named : List FieldValue) (b : Bool) → values ≡ named → b ≡ is_missing values → b ≡ true → named ≡ []
none_sent [] named b e h t = sym e
none_sent (v ∷ vs) named b e h t = absurd (let zero : length (v ∷ vs) ≡ 0 = eqb-true _ _ (sym h ∙ t) in omega (arith, zero))

-- what is missing is missing under its name
pub missing_named : (values named : List FieldValue) (b : Bool) → values ≡ named → b ≡ is_missing values → b ≡ is_missing named
missing_named values named b e h = h ∙ ap is_missing e

-- where the first four are missing, the fifth decides
pub fifth_decides : (headers : Entries FieldValue) (b : Bool) → is_missing (get_all headers (codes "if-match")) ≡ true
    → is_missing (get_all headers (codes "if-unmodified-since")) ≡ true → is_missing (get_all headers (codes "if-none-match")) ≡ true
    → is_missing (get_all headers (codes "if-modified-since")) ≡ true → b ≡ is_missing (get_all headers (codes "if-range"))
    → b ≡ asks_nothing headers
fifth_decides headers b tags dates others changes range = rw (tags, dates, others, changes) range

-- ---- where each course comes from

-- what comes where the request is wanted
from_wanted : (w : Option Bool) (r : Option Course) (course : Course) → ¬ (PreconditionFailed ≡ course) → (w >>= λ wanted. cond wanted r (Some PreconditionFailed)) ≡ Some course → r ≡ Some course
from_wanted None r course other h = absurd (cc)
from_wanted (Some true) r course other h = h
from_wanted (Some false) r course other h = absurd (other (cc))

no_304 : (p : Option Bool) → ¬ (part_course p ≡ Some NotModified)
no_304 None = λ h. cc
no_304 (Some true) = λ h. cc
no_304 (Some false) = λ h. cc

pub reads_alone : (m : DavMethod) (standing : Standing) (headers : Entries FieldValue) → course_of m standing headers ≡ Some NotModified → is_get_or_head m ≡ true
reads_alone m standing headers h =
    by (is_new m standing headers) (is_get_or_head m) (from_wanted (is_wanted standing headers) (course_of_wanted m standing headers) NotModified (λ e. cc) h)
  where
    by : (n : Option Bool) (reads : Bool) → (n >>= λ new. cond new (part_course (is_part_wanted m standing headers)) (cond reads (Some NotModified) (Some PreconditionFailed))) ≡ Some NotModified
        → reads ≡ true
    by None reads h = absurd (cc)
    by (Some true) reads h = absurd (no_304 (is_part_wanted m standing headers) h)
    by (Some false) true h = refl
    by (Some false) false h = absurd (cc)

pub parts_alone : (m : DavMethod) (standing : Standing) (headers : Entries FieldValue) → course_of m standing headers ≡ Some Whole
    → (is_get m ≡ true) × (is_missing (get_all headers (codes "range")) ≡ false)
parts_alone m standing headers h =
    by_new (is_new m standing headers) (is_get_or_head m) (from_wanted (is_wanted standing headers) (course_of_wanted m standing headers) Whole (λ e. cc) h)
  where
    by_part : (v r g : Bool) → part_course (cond (v || r || not g) (Some true) (if_range standing (get_all headers (codes "if-range")))) ≡ Some Whole → (g ≡ true) × (r ≡ false)
    by_part true r g h = absurd (cc)
    by_part false true g h = absurd (cc)
    by_part false false true h = (refl, refl)
    by_part false false false h = absurd (cc)

    by_new : (n : Option Bool) (reads : Bool) → (n >>= λ new. cond new (part_course (is_part_wanted m standing headers)) (cond reads (Some NotModified) (Some PreconditionFailed))) ≡ Some Whole
        → (is_get m ≡ true) × (is_missing (get_all headers (codes "range")) ≡ false)
    by_new None reads h = absurd (cc)
    by_new (Some true) reads h = by_part (is_missing (get_all headers (codes "if-range"))) (is_missing (get_all headers (codes "range"))) (is_get m) h
    by_new (Some false) true h = absurd (cc)
    by_new (Some false) false h = absurd (cc)

-- ---- what a date decides, where no tags put it aside

pub wanted_by_date : (m : DavMethod) (standing : Standing) (headers : Entries FieldValue) (c : Course) → get_all headers (codes "if-match") ≡ []
    → course_of m standing headers ≡ Some c → ¬ (PreconditionFailed ≡ c) → if_unmodified_since standing (get_all headers (codes "if-unmodified-since")) ≡ true
wanted_by_date m standing headers c none h other =
    by (if_unmodified_since standing (get_all headers (codes "if-unmodified-since")))
    (ap (λ w. w >>= λ wanted. cond wanted (course_of_wanted m standing headers) (Some PreconditionFailed)) (sym asked) ∙ h)
  where
    asked : is_wanted standing headers ≡ Some (if_unmodified_since standing (get_all headers (codes "if-unmodified-since")))
    asked = rw none refl

    by : (holds : Bool) → cond holds (course_of_wanted m standing headers) (Some PreconditionFailed) ≡ Some c → holds ≡ true
    by true h = refl
    by false h = absurd (other (cc))

pub not_modified_by_date : (m : DavMethod) (standing : Standing) (headers : Entries FieldValue) → get_all headers (codes "if-none-match") ≡ []
    → course_of m standing headers ≡ Some NotModified → if_modified_since standing (get_all headers (codes "if-modified-since")) ≡ false
not_modified_by_date m standing headers none h =
    by (is_get_or_head m) (if_modified_since standing (get_all headers (codes "if-modified-since")))
    (ap (λ n. n >>= λ new. cond new (part_course (is_part_wanted m standing headers)) (cond (is_get_or_head m) (Some NotModified) (Some PreconditionFailed))) (sym asked)
    ∙ from_wanted (is_wanted standing headers) (course_of_wanted m standing headers) NotModified (λ e. cc) h)
  where
    asked : is_new m standing headers ≡ cond (is_get_or_head m) (Some (if_modified_since standing (get_all headers (codes "if-modified-since")))) (Some true)
    asked = rw none refl

    by : (reads modified : Bool) → (cond reads (Some modified) (Some true) >>= λ new. cond new (part_course (is_part_wanted m standing headers)) (cond reads (Some NotModified) (Some PreconditionFailed))) ≡ Some NotModified
        → modified ≡ false
    by true true h = absurd (no_304 (is_part_wanted m standing headers) h)
    by true false h = refl
    by false modified h = absurd (no_304 (is_part_wanted m standing headers) h)

-- it holds as the date tells the file, or doesn't
pub unmodified_told : (standing : Standing) (values : List FieldValue) (second : ℕ) (told : Bool) → second_in values ≡ Some second → is_told_by standing second ≡ Some told
    → (if_unmodified_since standing values ≡ told) × (if_modified_since standing values ≡ not told)
unmodified_told standing values second told shown tells =
    decided (unchanged_since standing values) (ap (λ since. since >>= λ second. is_told_by standing second) shown ∙ tells)
  where
    decided : (unchanged : Option Bool) → unchanged ≡ Some told
        → (elim unchanged [ None ↦ true | Some same ↦ same ] ≡ told) × (elim unchanged [ None ↦ true | Some same ↦ not same ] ≡ not told)
    decided None is = absurd (cc)
    decided (Some same) is = let told_so : same ≡ told = cc in (told_so, ap not told_so)
