use Rattle.std.proofs.Common.{◌≡◌, ◌≤◌, take}
use Rattle.arrayvec.specs.ArrayVec.{array_vec_len}
use Rattle.dav_users_core.specs.Crypt.{times}
use Rattle.dav_users_core.proofs.crypting.repeat_up_to.Given as goal

-- the first of so many times the bytes
abbrev pub invariant-filling : goal.invariant-filling
invariant-filling l = record {
  items : l.text.items ≡ take l.count (times l.counter l.bytes);
  len : array_vec_len l.text ≤ l.count;
}
