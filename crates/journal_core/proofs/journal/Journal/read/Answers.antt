use Rattle.std.proofs.Common.{rules, ℕ, List, sym, ◌∙◌, subst}
use Rattle.std.proofs.lemmas.Result.{err_from_is_err_and}
use Rattle.journal_core.specs.Format.{StandsFor}
use Rattle.journal_core.proofs.Opening.{read_no_more}
use Rattle.journal_core.proofs.Settling.{settled}
use Rattle.journal_core.proofs.journal.Journal.read.Goals as goal

pub returns-in_err-next-clause-refused : goal.returns-in_err-next-clause-refused
returns-in_err-next-clause-refused g c =
    let p = err_from_is_err_and c.from_residual.result c.from_residual.ensures.1 in
    rw (p.1, p.2) (λ refusal done it clean h records stands.
    let file = it.1.0 in
    let had = it.1.2 (c.in_err-next.ensures.honest clean) in
    let ends = c.in_err-next.ensures.refused refusal file done (it.1.1, it.1.2) clean in
    read_no_more c.args.reader.now file done c.in_err-next.field-0.0 had ends h records (subst (λ (f : List ℕ). StandsFor h f records) it.1.1.0 stands))

pub returns-clause-ends : goal.returns-clause-ends
returns-clause-ends g c = λ _ done it clean only.
    let file = it.1.0 in
    let looks = c.in_ok-next.ensures.looks in
    let ended = c.in_ok-next.ensures.ends (search rules) file done (it.1.1, it.1.2) clean in
    settled g.D.Disk.seen g.D.Disk.may_leave g.D.Disk.is_clean _ c.next.new.self file done ended c.header-self.ensures c.place-self.ensures (looks.same ∙ it.1.1.0) (λ f left. only f (looks.crash f left) ∙ sym looks.same) (looks.knows it.1.1.3)
