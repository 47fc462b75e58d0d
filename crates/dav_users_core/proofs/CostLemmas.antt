-- No user's hash costs more than the dearest.
use Rattle.std.proofs.Common.{◌≡◌, ◌≤◌, ℕ, Bool, true, false, List, [], ◌∷◌, nat_lt, if◌then◌else◌, Option, Some, refl, arith, le_trans}
use Rattle.std.proofs.lemmas.Bool.Decides.{nat_tests}
use Rattle.std.specs.Str.{bytes_eq}
use Rattle.dav_users_core.specs.declared.costs.Rounds.{Rounds}
use Rattle.dav_users_core.specs.GuessCosts.{cost, cost_of_hash, dearer, dearest, dearest_with, rounds_of}
use Rattle.dav_users_core.specs.Hashes.{HashText}
use Rattle.dav_users_core.specs.Users.{UserLine, hash_named}

-- the dearer one costs as much as the first at least, and as the second
first_fits : (one other : Rounds) → cost one ≤ cost (dearer one other)
first_fits one other = by (nat_lt (cost one) (cost other)) refl
  where
    by : (b : Bool) → nat_lt (cost one) (cost other) ≡ b → cost one ≤ cost (if b then other else one)
    by true e = grind (arith, nat_tests, e)
    by false e = omega arith

second_fits : (one other : Rounds) → cost other ≤ cost (dearer one other)
second_fits one other = by (nat_lt (cost one) (cost other)) refl
  where
    by : (b : Bool) → nat_lt (cost one) (cost other) ≡ b → cost other ≤ cost (if b then other else one)
    by true e = omega arith
    by false e = grind (arith, nat_tests, e)

-- so much the dearest with others cost at least
rounds_fit : (rounds : Rounds) (users : List UserLine) → cost rounds ≤ cost (dearest_with rounds users)
rounds_fit rounds [] = omega arith
rounds_fit rounds (user ∷ users) = le_trans (first_fits rounds (rounds_of user.hash)) (rounds_fit (dearer rounds (rounds_of user.hash)) users)

first_of : (b : Bool) (hash : HashText) (others : Option HashText) (most : ℕ) → cost (rounds_of hash) ≤ most → cost_of_hash others ≤ most → cost_of_hash (if b then Some hash else others) ≤ most
first_of true hash others most here there = here
first_of false hash others most here there = there

hash_fits : (rounds : Rounds) (users : List UserLine) (name : List ℕ) → cost_of_hash (hash_named users name) ≤ cost (dearest_with rounds users)
hash_fits rounds [] name = omega arith
hash_fits rounds (user ∷ users) name = first_of (bytes_eq user.name name) user.hash (hash_named users name) _ (le_trans (second_fits rounds (rounds_of user.hash)) (rounds_fit (dearer rounds (rounds_of user.hash)) users))
    (hash_fits (dearer rounds (rounds_of user.hash)) users name)

pub no_dearer : (users : List UserLine) (name : List ℕ) → cost_of_hash (hash_named users name) ≤ cost (dearest users)
no_dearer [] name = omega arith
no_dearer (user ∷ users) name = first_of (bytes_eq user.name name) user.hash (hash_named users name) _ (rounds_fit (rounds_of user.hash) users) (hash_fits (rounds_of user.hash) users name)
