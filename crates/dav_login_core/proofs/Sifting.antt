-- What a table has once its rested buckets are forgotten.
use Rattle.std.proofs.Common.{◌≡◌, ℕ, Bool, true, false, not, Option, None, Some, refl, ◌∙◌, ap, inl, inr, if◌then◌else◌}
use Rattle.std.proofs.lemmas.Bool.{leb-true}
use Rattle.std.proofs.lemmas.Map.Entries.{option_filter}
use Rattle.dav_login_core.specs.declared.buckets.Bucket.{Bucket}
use Rattle.dav_login_core.specs.Guessing.{RefreshesBucket, has_rested}

pub sifted : (now : ℕ) (old new : Option Bucket) → new ≡ option_filter (λ b. not (has_rested b now)) old → RefreshesBucket now old new
sifted now None new e = inl e
sifted now (Some b) new e = by (has_rested b now) refl
  where
    by : (t : Bool) → has_rested b now ≡ t → RefreshesBucket now (Some b) new
    by true h = inr (leb-true b.rested now h, inl (e ∙ ap (λ (t : Bool). if not t then Some b else None) h))
    by false h = inl (e ∙ ap (λ (t : Bool). if not t then Some b else None) h)
