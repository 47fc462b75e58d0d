use Rattle.std.proofs.Common.{◌≡◌, ◌++◌, ◌+◌, ◌-◌}
use Rattle.arrayvec.specs.ArrayVec.{array_vec_len}
use Rattle.dav_users_core.specs.CryptText.{letters_of}
use Rattle.dav_users_core.proofs.letters.add_letters.Given as goal

-- with those that are left, all of them
abbrev pub invariant-adding : goal.invariant-adding
invariant-adding l = record {
  items : l.text.items ++ letters_of (l.count - l.counter) l.rest ≡ l.fn.text.items ++ letters_of l.count l.number;
  len : array_vec_len l.text ≡ array_vec_len l.fn.text + l.counter;
}
