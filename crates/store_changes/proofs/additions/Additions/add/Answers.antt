use Rattle.std.proofs.Common.{arith}
use Rattle.std.proofs.lemmas.Result.{err_from_is_err_and}
use Rattle.store_changes.specs.ImportedEntries.{source_of}
use Rattle.store_changes.proofs.KeptImportLemmas.{adds_none, adds_one}
use Rattle.store_changes.proofs.additions.Additions.add.Goals as goal

pub returns-in_err-add-clause-left : goal.returns-in_err-add-clause-left
returns-in_err-add-clause-left c =
    let p = err_from_is_err_and c.from_residual.result c.from_residual.ensures.1 in
    let a = c.args.self.now in
    rw (p.1, p.2) (λ leaves. adds_none a (record a { opened = c.add.new.opened; round = c.add.new.round }) (c.in_err-add.ensures.left leaves) c.in_err-add.ensures.round (omega arith))

pub returns-in-Some-clause-goes_on : goal.returns-in-Some-clause-goes_on
returns-in-Some-clause-goes_on c =
    let a = c.args.self.now in
    let files = c.saturating_add-self-in-Some.result in
    adds_one a (record a { opened = c.add.new.opened; round = c.add.new.round; records = c.saturating_add-self.result; files = files }) c.args.clock.0 (source_of c.args.entry.now) c.in_ok-add.ensures.added (omega (arith, c.saturating_add-self-in-Some.ensures))

pub returns-in-None-clause-goes_on : goal.returns-in-None-clause-goes_on
returns-in-None-clause-goes_on c =
    let a = c.args.self.now in
    let folders = c.saturating_add-self-in-None.result in
    adds_one a (record a { opened = c.add.new.opened; round = c.add.new.round; records = c.saturating_add-self.result; folders = folders }) c.args.clock.0 (source_of c.args.entry.now) c.in_ok-add.ensures.added (omega (arith, c.saturating_add-self-in-None.ensures))
