-- What a contract sees of a lock: the data, without where it lies in memory (RFC 4918 section 6).
use Rattle.std.specs.Prelude.{ℕ, List, Bool, Option}
use Rattle.dav_path_core.specs.PathText.{PathText}

pub record Lock : Type 0 where
  pub token : List ℕ
  pub path : PathText
  pub principal : Option (List ℕ)
  pub owner : Option (List ℕ)
  pub timeout_at : Option ℕ
  pub timeout : Option ℕ
  pub shared : Bool
  pub deep : Bool
