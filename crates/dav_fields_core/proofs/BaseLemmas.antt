-- Where the URLs of a request begin, by what its host spells.
use Rattle.std.proofs.Common.{◌≡◌, ◌⊎◌, ℕ, List, Option, None, Some, Result, Ok, Err, MatchResult}
use Rattle.std.proofs.Common.{IfOk, IfErr, get_or, sym, ap, ◌∙◌, subst, inl, inr}
use Rattle.http_header.specs.FieldValue.{FieldValue}
use Rattle.http_header.specs.HeaderMap.{Entries}
use Rattle.url.specs.Parts.{Parts}
use Rattle.dav_headers_core.specs.Urls.{url_of}
use Rattle.dav_faults_core.specs.declared.faults.Fault.{Fault}
use Rattle.dav_faults_core.specs.declared.faults.Fault.TheVariants as fault
use Rattle.dav_fields_core.specs.Bases.{IsBase, NamesHost, Site, base_text}

-- a request has one host at most
pub host_is : (named : Option (List ℕ)) (headers : Entries FieldValue) (a b : List ℕ)
    → NamesHost named headers a → NamesHost named headers b → a ≡ b
host_is (Some authority) headers a b x y = x ∙ sym y
host_is None headers a b x y =
    let same : x.value ≡ y.value = ap (λ (values : List FieldValue). get_or values 0 x.value)
    (sym x.one ∙ y.one) in
    x.host_is ∙ ap (λ (v : FieldValue). v.bytes) same ∙ sym y.host_is

abbrev UrlIs : List ℕ → Result Parts Fault → Type 0
UrlIs text r = MatchResult r (λ url. url_of text ≡ Some url)
    (λ e. (e ≡ fault.InsufficientStorage) ⊎ ((e ≡ fault.BadRequest) × (url_of text ≡ None)))

module _ (site : Site) (headers : Entries FieldValue) (host : List ℕ)
    (named : NamesHost site.host headers host) (text : List ℕ)
    (is : text ≡ base_text site.scheme host) where
  pub base_ok : (r : Result Parts Fault) → UrlIs text r → IfOk r (λ base. IsBase site headers base)
  base_ok (Ok url) x = (host, named, subst (λ t. url_of t ≡ Some url) is x)
  base_ok (Err e) x = tt

  none_spelled : url_of text ≡ None → (base : Parts) → IsBase site headers base → ⊥
  none_spelled none base b =
      let same : b.0 ≡ host = host_is site.host headers b.0 host b.1 named in
      let some = sym (subst (λ t. url_of t ≡ None) is none) ∙ ap
      (λ h. url_of (base_text site.scheme h)) (sym same) ∙ b.2 in cc

  pub base_err : (r : Result Parts Fault) → UrlIs text r → IfErr r
      (λ e. (e ≡ fault.InsufficientStorage)
      ⊎ ((e ≡ fault.BadRequest) × ((base : Parts) → ¬ IsBase site headers base)))
  base_err (Ok url) x = tt
  base_err (Err e) (inl x) = inl x
  base_err (Err e) (inr x) = inr (x.0, none_spelled x.1)
