-- Codes of locks, which models of stores with locks need.
use Rattle.std.specs.Prelude.{ℕ, List, Bool, Option, refl}
use Rattle.std.specs.Coded.{Coded, code_by, coded_ℕ, coded_bool, coded_list, coded_option, coded×}
use Rattle.dav_path_core.specs.PathText.{PathText}
use Rattle.dav_locks_core.specs.Lock.{Lock}

abbrev coded_text : Coded (List ℕ)
coded_text = coded_list coded_ℕ

abbrev coded_path : Coded PathText
coded_path = code_by (List ℕ × List ℕ) (coded× coded_text coded_text) (λ p. (p.prefix, p.bytes)) (λ t. record { prefix = t.0; bytes = t.1 }) (λ _. refl)

abbrev pub coded_lock : Coded Lock
coded_lock =
    code_by (List ℕ × (PathText × (Option (List ℕ) × (Option (List ℕ) × (Option ℕ × (Option ℕ × (Bool × Bool)))))))
    (coded× coded_text (coded× coded_path (coded× (coded_option coded_text) (coded× (coded_option coded_text) (coded× (coded_option coded_ℕ) (coded× (coded_option coded_ℕ) (coded× coded_bool coded_bool)))))))
    (λ l. (l.token, (l.path, (l.principal, (l.owner, (l.timeout_at, (l.timeout, (l.shared, l.deep))))))))
    (λ t. record {
      token = t.0;
      path = t.1.0;
      principal = t.1.1.0;
      owner = t.1.1.1.0;
      timeout_at = t.1.1.1.1.0;
      timeout = t.1.1.1.1.1.0;
      shared = t.1.1.1.1.1.1.0;
      deep = t.1.1.1.1.1.1.1;
    })
    (λ _. refl)
