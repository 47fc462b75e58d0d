-- Skipping blanks.
use Rattle.std.proofs.Common.{◌≡◌, refl, ap, ◌∙◌, ℕ, Bool, true, false, cond, List, [], ◌∷◌, ◌++◌}
use Rattle.std.specs.List.{AllByRecursion}
use Rattle.dav_headers_core.specs.CommaPieces.{is_blank}
use Rattle.dav_headers_core.specs.IfGrammar.{SkipsTo}
use Rattle.dav_headers_core.specs.Private.IfReading.{skip_blanks}

pub skipped : (bytes : List ℕ) → SkipsTo bytes (skip_blanks bytes)
skipped [] = record { blanks = []; each = tt; parts = refl }
skipped (b ∷ bytes) = go (is_blank b) refl (skipped bytes)
  where
    go : (t : Bool) → is_blank b ≡ t → SkipsTo bytes (skip_blanks bytes) → SkipsTo (b ∷ bytes) (cond t (skip_blanks bytes) (b ∷ bytes))
    go true e rest = record { blanks = b ∷ rest.blanks; each = (e, rest.each); parts = ap (λ (t : List ℕ). b ∷ t) rest.parts }
    go false e rest = record { blanks = []; each = tt; parts = refl }

skip_over : (blanks rest : List ℕ) → AllByRecursion (λ b. is_blank b ≡ true) blanks → skip_blanks (blanks ++ rest) ≡ skip_blanks rest
skip_over [] rest each = refl
skip_over (b ∷ blanks) rest each = rw each.0 (skip_over blanks rest each.1)

pub skip_same : (whole rest : List ℕ) → SkipsTo whole rest → skip_blanks whole ≡ skip_blanks rest
skip_same whole rest s = ap skip_blanks s.parts ∙ skip_over s.blanks rest s.each

pub skip_stops : (b : ℕ) (bytes : List ℕ) → is_blank b ≡ false → skip_blanks (b ∷ bytes) ≡ b ∷ bytes
skip_stops b bytes e = rw e refl
