-- That pieces of URLs and dates of HTTP are visible texts, so that a document can hold them.
use Rattle.std.proofs.Common.{◌≡◌, refl, ℕ, ◌≤◌, arith, Bool, true, false, cond, ◌&&◌, List, [], ◌∷◌, ◌++◌, codes}
use Rattle.std.specs.Prelude.{T, nat_le}
use Rattle.std.specs.List.{list_all}
use Rattle.std.proofs.lemmas.Bool.{and_parts, false≢true}
use Rattle.std.proofs.lemmas.Bool.Decides.{nat_tests}
use Rattle.httpdate.specs.declared.date.HttpDate.{HttpDate}
use Rattle.httpdate.specs.Date.{date_text}
use Rattle.dav_path_core.specs.Url.{url}
use Rattle.dav_xml_core.specs.Scanning.{is_nil}
use Rattle.dav_documents_core.specs.KeptElements.{IsVisible, is_printable}
use Rattle.dav_documents_core.proofs.VisibleTextLemmas.{AreVisible, joined, some_behind, url_visible}
use Rattle.dav_fields_core.proofs.DateTextLemmas.{date_shown}

pub slashed : (segment : List ℕ) → AreVisible (codes "/" ++ url segment)
slashed segment = joined (codes "/") (url segment) refl (url_visible segment)

unfoldable pub tail : Bool → List ℕ
tail folder = cond folder (codes "/") []

pub tail_visible : (folder : Bool) → AreVisible (tail folder)
unfolding tail
tail_visible true = refl
tail_visible false = refl

unfoldable pub is_seen : List ℕ → Bool
is_seen text = list_all is_printable text && (cond (is_nil text) false true)

pub seen : (text : List ℕ) → is_seen text ≡ true → IsVisible text
unfolding is_seen
seen [] h = absurd (false≢true h)
seen (b ∷ text) h = record { some = refl; each = (and_parts (list_all is_printable (b ∷ text)) true h).0 }

pub fixdate_seen : (d : HttpDate) → IsVisible (date_text d)
fixdate_seen d = record { some = some_behind _ (codes " GMT") refl; each = date_shown d }

pub test_true : (b : Bool) → T b → b ≡ true
test_true true h = refl
test_true false h = absurd h

pub within : (n m : ℕ) → nat_le n m ≡ true → n ≤ m
within n m h = grind (arith, nat_tests)
