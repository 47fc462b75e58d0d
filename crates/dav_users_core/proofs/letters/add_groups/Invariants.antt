use Rattle.std.proofs.Common.{◌≡◌, ◌++◌, ◌+◌, ◌*◌, take}
use Rattle.arrayvec.specs.ArrayVec.{array_vec_len}
use Rattle.dav_users_core.specs.CryptText.{groups}
use Rattle.dav_users_core.proofs.letters.add_groups.Given as goal

-- the groups so far
abbrev pub invariant-adding : goal.invariant-adding
invariant-adding l = record {
  items : l.text.items ≡ l.fn.text.items ++ groups l.sum (take l.three-index l.places);
  len : array_vec_len l.text ≡ array_vec_len l.fn.text + 4 * l.three-index;
}
