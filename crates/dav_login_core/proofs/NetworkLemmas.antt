-- What the texts of addresses read as.
use Rattle.std.proofs.Common.{◌≡◌, ◌==◌, ℕ, Bool, true, false, List, [], ◌++◌, length, Some, None, refl, sym, ap, subst, ◌∙◌, append-nil, arith, lit≤}
use Rattle.std.proofs.lemmas.Bool.Decides.{nat_tests}
use Rattle.std.proofs.lemmas.List.{nil_from_length}
use Rattle.std.proofs.NetLemmas.Ipv4.{read_ipv4_complete, read_ipv4_sound}
use Rattle.std.proofs.NetLemmas.Ipv6.{read_ipv6_complete, read_ipv6_sound, EndsGroups-nil, IsDotted-not_colon_hex}
use Rattle.std.specs.Net.Grammar.{IsColonHex, IsDotted}
use Rattle.std.specs.Net.Reader.{Read, read_ipv4, read_ipv6, whole_value}

-- nothing is read whole, where no front that is read is the whole text
module _ (Spells : List ℕ → List ℕ → Type 0) (text : List ℕ) (never : (value : List ℕ) → ¬ (Spells text value)) where
  unfinished : (value rest front : List ℕ) → text ≡ front ++ rest → Spells front value → (b : Bool) → (length rest == 0) ≡ b → whole_value (Some (value, rest)) ≡ None
  unfinished value rest front split spells true e =
      let none : rest ≡ [] = nil_from_length rest (grind (arith, nat_tests, e)) in
      let same : front ≡ text = sym (append-nil front) ∙ ap (λ (r : List ℕ). front ++ r) (sym none) ∙ sym split in
      absurd (never value (subst (λ (t : List ℕ). Spells t value) same spells))
  unfinished value rest front split spells false e = rw e

  pub not_whole : (read : Read (List ℕ)) → ((value rest : List ℕ) → read ≡ Some (value, rest) → (front : List ℕ) × (text ≡ front ++ rest) × Spells front value) → whole_value read ≡ None
  not_whole None sound = refl
  not_whole (Some (value, rest)) sound =
      let found = sound value rest refl in
      unfinished value rest found.0 found.1 found.2 (length rest == 0) refl

pub whole_ipv4 : (text octets : List ℕ) → IsDotted text octets → whole_value (read_ipv4 text) ≡ Some octets
whole_ipv4 text octets spelled =
    ap whole_value (ap read_ipv4 (sym (append-nil text)) ∙ read_ipv4_complete text octets [] spelled (lit≤ tt))

pub whole_ipv6 : (text segments : List ℕ) → IsColonHex text segments → whole_value (read_ipv6 text) ≡ Some segments
whole_ipv6 text segments spelled =
    ap whole_value (ap read_ipv6 (sym (append-nil text)) ∙ read_ipv6_complete text segments [] spelled EndsGroups-nil)

pub no_ipv4 : (text : List ℕ) → ((octets : List ℕ) → ¬ (IsDotted text octets)) → whole_value (read_ipv4 text) ≡ None
no_ipv4 text never = not_whole IsDotted text never (read_ipv4 text) (λ value rest e. read_ipv4_sound text value rest e)

pub no_ipv6 : (text : List ℕ) → ((segments : List ℕ) → ¬ (IsColonHex text segments)) → whole_value (read_ipv6 text) ≡ None
no_ipv6 text never = not_whole IsColonHex text never (read_ipv6 text) (λ value rest e. read_ipv6_sound text value rest e)

-- what writes an address of IPv6 writes none of IPv4
pub ipv6_is_no_ipv4 : (text segments : List ℕ) → IsColonHex text segments → whole_value (read_ipv4 text) ≡ None
ipv6_is_no_ipv4 text segments spelled = no_ipv4 text (λ octets dotted. IsDotted-not_colon_hex text octets segments dotted spelled)
