use Rattle.std.proofs.Common.{◌++◌}
use Rattle.dav_users_core.specs.Crypt.{by_digit}
use Rattle.dav_users_core.proofs.CryptLemmas.{digits_on}
use Rattle.dav_users_core.proofs.crypting.add_by_digits.Goals as goal

pub digits-preserved : goal.digits-preserved
digits-preserved g c = λ m held.
    let so_far = c.digits.invariant m held in (
      so_far.0 ++ by_digit c.digits.rest c.args.one.now c.args.other.now,
      c.add_by_digit.ensures so_far.0 so_far.1,
      digits_on c.args.number c.digits.counter c.digits.rest so_far.0 c.args.one.now c.args.other.now _ c.digits-test.true so_far.2,
    )
