-- What contracts see of who guesses, and when (own).
use Rattle.dav_login_core.specs.declared.addresses.Addresses.{Addresses}

-- by what clients are known, and what tells the time and is told what is wrong
pub record Watched (H : Type 0) : Type 0 where
  pub addresses : Addresses
  pub host : H
