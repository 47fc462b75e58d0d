-- What a guess of a password costs, by the lines of a file of users (own).
use Rattle.std.specs.Prelude.{◌≡◌, ◌≤◌, ◌<◌, ◌+◌, ◌*◌, ◌/◌, ℕ, List, [], ◌∷◌, codes, nat_lt, Option, Some, None, if◌then◌else◌}
use Rattle.dav_users_core.specs.declared.costs.Rounds.{Rounds}
use Rattle.dav_users_core.specs.declared.hashes.Scheme.{Scheme}
use Rattle.dav_users_core.specs.declared.hashes.Scheme.TheVariants.{Sha256, Sha512}
use Rattle.sha2.specs.Sha256.{sha256}
use Rattle.sha2.specs.Sha512.{sha512}
use Rattle.dav_users_core.specs.Crypt.{rounds}
use Rattle.dav_users_core.specs.Hashes.{HashText}
use Rattle.dav_users_core.specs.Users.{UserLine}

-- what one round costs, in thirds of a round of SHA-512: so it was measured
abbrev pub cost_of_one : Scheme → ℕ
cost_of_one Sha256 = 4
cost_of_one Sha512 = 3

abbrev pub cost : Rounds → ℕ
cost rounds = rounds.count * cost_of_one rounds.scheme

-- the rounds of a hash
abbrev pub rounds_of : HashText → Rounds
rounds_of hash = record { scheme = hash.scheme; count = hash.rounds }

-- the second, where they cost more than the first
abbrev pub dearer : Rounds → Rounds → Rounds
dearer one other = if nat_lt (cost one) (cost other) then other else one

-- the dearest of these rounds and those of the users
abbrev pub dearest_with : Rounds → List UserLine → Rounds
dearest_with rounds [] = rounds
dearest_with rounds (user ∷ users) = dearest_with (dearer rounds (rounds_of user.hash)) users

-- the dearest rounds of the users; where there is none, 5,000 of SHA-512
abbrev pub dearest : List UserLine → Rounds
dearest [] = record { scheme = Sha512; count = 5000 }
dearest (user ∷ users) = dearest_with (rounds_of user.hash) users

-- so many rounds of SHA-512 cost as much as the dearest, rounded up
abbrev pub cost_of_guess : List UserLine → ℕ
cost_of_guess users = (cost (dearest users) + 2) / 3

-- what the hash of a user costs, if there is one
abbrev pub cost_of_hash : Option HashText → ℕ
cost_of_hash None = 0
cost_of_hash (Some hash) = cost (rounds_of hash)

-- with what is spent they cost as much as the dearest, but for less than one round, and they are of the same scheme
pub record FillUp (spent : ℕ) (rounds : Rounds) (dearest : Rounds) : Type 0 where
  pub same_scheme : rounds.scheme ≡ dearest.scheme
  pub no_more : spent + cost rounds ≤ cost dearest
  pub no_round_less : cost dearest < spent + cost rounds + cost_of_one dearest.scheme

-- ---- hashed for nothing

-- the sum behind so many rounds by a password, which begin with no sum
abbrev pub sum_in_vain : Rounds → List ℕ → List ℕ
sum_in_vain r password = by r.scheme
  where
    by : Scheme → List ℕ
    by Sha256 = rounds sha256 password (codes "................") [] r.count
    by Sha512 = rounds sha512 password (codes "................") [] r.count
