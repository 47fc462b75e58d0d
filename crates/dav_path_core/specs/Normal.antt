-- What the bytes of every path keep that path reading gives (RFC 3986 section 5.2.4).
use Rattle.std.specs.Prelude.{◌≡◌, ◌≢◌, ℕ, List, ◌∷◌, ◌++◌, All, Contains, codes}
use Rattle.dav_path_core.specs.Segments.{segments}

pub record IsNormal (bytes : List ℕ) : Type 0 where
  pub rooted : (rest : List ℕ) × (bytes ≡ 47 ∷ rest)
  pub single : (front back : List ℕ) → bytes ≢ front ++ 47 ∷ 47 ∷ back
  pub no_dot : All (λ segment. segment ≢ codes ".") (segments bytes)
  pub no_up : All (λ segment. segment ≢ codes "..") (segments bytes)
  pub no_zero : All (λ segment. ¬ Contains segment 0) (segments bytes)
