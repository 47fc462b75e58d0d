use Rattle.std.proofs.Common.{rules, ◌≡◌, length, ap, arith}
use Rattle.std.proofs.lemmas.List.{length-drop}
use Rattle.journal_copies.proofs.Wholes.{Head, few, short, other, stands}
use Rattle.journal_copies.proofs.rounds.whole_round.Goals as goal

pub returns-in_err-len : goal.returns-in_err-len
returns-in_err-len c = rw c.from_residual.ensures (few c.args.key c.args.place c.args.bytes.now (omega (arith, c.in_err-len.ensures.cases)))

pub returns-in_err-sum : goal.returns-in_err-sum
returns-in_err-sum c =
    rw c.from_residual-in_err-sum.ensures (few c.args.key c.args.place c.args.bytes.now (omega (arith, c.in_err-sum.ensures.cases, ap length c.in_ok-len.ensures.cases.1, length-drop 8 c.args.bytes.now)))

pub returns-then-rest-len : goal.returns-then-rest-len
returns-then-rest-len c =
    let bytes = c.args.bytes.now in
    let head : Head bytes c.in_ok-len.len.now c.in_ok-len.rest.now c.in_ok-sum.sum.now c.in_ok-sum.rest.now c.number_of-len.result = record {
      word_is = c.in_ok-len.ensures.cases.0;
      rest_is = c.in_ok-len.ensures.cases.1;
      len_is = c.number_of-len.ensures;
      sum_word_is = c.in_ok-sum.ensures.cases.0;
      behind_is = c.in_ok-sum.ensures.cases.1;
      many = omega (arith, c.in_ok-len.ensures.variant.0 (search rules), c.in_ok-sum.ensures.variant.0 (search rules), ap length c.in_ok-len.ensures.cases.1, length-drop 8 bytes);
    } in
    short c.args.key c.args.place bytes _ _ _ _ _ head (search rules) c.if-rest-len.true

pub returns-then-not-is_whole : goal.returns-then-not-is_whole
returns-then-not-is_whole c =
    let bytes = c.args.bytes.now in
    let head : Head bytes c.in_ok-len.len.now c.in_ok-len.rest.now c.in_ok-sum.sum.now c.in_ok-sum.rest.now c.number_of-len.result = record {
      word_is = c.in_ok-len.ensures.cases.0;
      rest_is = c.in_ok-len.ensures.cases.1;
      len_is = c.number_of-len.ensures;
      sum_word_is = c.in_ok-sum.ensures.cases.0;
      behind_is = c.in_ok-sum.ensures.cases.1;
      many = omega (arith, c.in_ok-len.ensures.variant.0 (search rules), c.in_ok-sum.ensures.variant.0 (search rules), ap length c.in_ok-len.ensures.cases.1, length-drop 8 bytes);
    } in
    other c.args.key c.args.place bytes _ _ _ _ _ head c.number_of.result c.split_at.result.0.now c.number_of.ensures (search rules) c.split_at.ensures.front (c.is_whole.ensures.other c.if-not-is_whole.true)

pub returns : goal.returns
returns c =
    let bytes = c.args.bytes.now in
    let head : Head bytes c.in_ok-len.len.now c.in_ok-len.rest.now c.in_ok-sum.sum.now c.in_ok-sum.rest.now c.number_of-len.result = record {
      word_is = c.in_ok-len.ensures.cases.0;
      rest_is = c.in_ok-len.ensures.cases.1;
      len_is = c.number_of-len.ensures;
      sum_word_is = c.in_ok-sum.ensures.cases.0;
      behind_is = c.in_ok-sum.ensures.cases.1;
      many = omega (arith, c.in_ok-len.ensures.variant.0 (search rules), c.in_ok-sum.ensures.variant.0 (search rules), ap length c.in_ok-len.ensures.cases.1, length-drop 8 bytes);
    } in
    let whole = c.if-not-is_whole.ensures.whole (search rules) in
    let long : length c.split_at.result.0.now ≡ c.number_of-len.result = search rules in
    stands c.args.key c.args.place bytes _ _ _ _ _ head c.number_of.result c.split_at.result.0.now whole.0 c.number_of.ensures c.split_at.ensures.front long (search rules) whole.1 whole.2 whole.3
