-- What a lock keeps is visible or read: its token, its path, and its owner.
use Rattle.std.proofs.Common.{◌≡◌, refl, sym, ap, ◌∙◌, ℕ, zero, suc, ◌<◌, arith, Bool, true, false, cond, List, [], ◌∷◌, ◌++◌, append_assoc}
use Rattle.std.proofs.lemmas.Bool.Decides.{nat_tests}
use Rattle.std.proofs.lemmas.List.{append_cancel_left}
use Rattle.http_uri.specs.declared.uri.Uri.{Uri}
use Rattle.rand_core.specs.Stream.{Stream, fill_bytes}
use Rattle.uuid.specs.Parts.{v4_of_fill}
use Rattle.uuid.specs.Text.{by_index, digit_place, hex_digit, hyphen, hyphenated_text, is_hyphen_place, lower, nibble, urn_prefix, urn_text}
use Rattle.uuid.proofs.TextLemmas.{nibble_small}
use Rattle.dav_path_core.specs.PathText.{PathText, full}
use Rattle.dav_path_core.specs.Prefix.{SetsPrefix}
use Rattle.dav_path_core.specs.Prefix.SetsPrefix.{cut, whole, front}
use Rattle.dav_locks_core.specs.Tokens.{token_from}
use Rattle.dav_documents_core.specs.KeptElements.{IsVisible, is_printable}
use Rattle.dav_documents_core.specs.RefusalReading.{IsRooted}
use Rattle.dav_fields_core.specs.Targets.{IsTargetOf}
use Rattle.dav_documents_core.proofs.VisibleTextLemmas.{AreVisible, joined}

-- ---- tokens

places_visible : (n : ℕ) (f : ℕ → ℕ) → ((k : ℕ) → is_printable (f k) ≡ true) → AreVisible (by_index n f)
unfolding by_index
places_visible zero f h = refl
places_visible (suc n) f h = joined (by_index n f) (f n ∷ []) (places_visible n f h) (rw (h n) refl)

digit_visible : (d : ℕ) → d < 16 → is_printable (hex_digit lower d) ≡ true
digit_visible d small = grind (arith, nat_tests)

place_visible : (hyphen_there : Bool) (d : ℕ) → d < 16 → is_printable (cond hyphen_there hyphen (hex_digit lower d)) ≡ true
place_visible true d small = refl
place_visible false d small = digit_visible d small

text_visible : (bytes : List ℕ) → IsVisible (urn_text lower bytes)
text_visible bytes = record {
  some = refl;
  each = joined urn_prefix (hyphenated_text lower bytes) refl
      (places_visible 36 (λ k. cond (is_hyphen_place k) hyphen (hex_digit lower (nibble bytes (digit_place k)))) (λ k.
      place_visible (is_hyphen_place k) (nibble bytes (digit_place k)) (nibble_small bytes (digit_place k))));
}

pub token_visible : (stream : Stream) → IsVisible (token_from stream).0
unfolding token_from
token_visible stream = text_visible (v4_of_fill (fill_bytes 16 stream)).0

-- ---- paths

module _ (before asked : List ℕ) (path : PathText) where
  behind : (rest : List ℕ) → path.prefix ++ path.bytes ≡ path.prefix ++ 47 ∷ rest → IsRooted path
  behind rest h = (rest, append_cancel_left path.prefix path.bytes (47 ∷ rest) h)

  rooted_by : SetsPrefix before asked (full path) path.prefix → IsRooted path
  rooted_by (cut rest is asked_is same) =
      behind rest (same ∙ is ∙ ap (λ (t : List ℕ). t ++ rest) asked_is ∙ append_assoc path.prefix (47 ∷ []) rest)
  rooted_by (whole is no_slash set same) = behind [] (same ∙ ap (λ (t : List ℕ). t ++ 47 ∷ []) (is ∙ sym set))
  rooted_by (front rest is no_slash set same) = behind rest (same ∙ is ∙ ap (λ (t : List ℕ). t ++ 47 ∷ rest) (sym set))

-- each path that is read begins with a slash
pub target_rooted : (prefix : List ℕ) (uri : Uri) (path : PathText) → IsTargetOf prefix uri path → IsRooted path
target_rooted prefix uri path h = rooted_by h.whole prefix path h.sets
