use Rattle.std.proofs.Common.{inl, inr, ℕ, Bool, List, [], IsFalse, Ok, length, sym, ap, subst, ◌∙◌, arith}
use Rattle.std.proofs.lemmas.Result.{err_from_is_err_and}
use Rattle.journal_core.specs.JournalReading.{HasEnded, header_of}
use Rattle.dav_store_core.specs.Loading.{StandsForNone}
use Rattle.dav_store_core.proofs.LoadLemmas.{cause_as, cause_longer, nothing_two}
use Rattle.dav_store_core.proofs.LongLemmas.{long_file}
use Rattle.dav_store_core.proofs.SnapshotLemmas.{lacks_as, played_as}
use Rattle.dav_store_core.proofs.opening.load.Goals as goal

pub loading-init : goal.loading-init
loading-init g c =
    let looks = c.begin.ensures.looks in
    record {
      loading = λ begun. played_as _ _ _ _ _ _ (λ records read. (subst IsFalse (sym looks.opens) begun.0, (begun.1.0, read.0, read.1))) (c.in_ok-opened.ensures.begins begun.1.0 (begun.1.1, begun.1.2));
      begun = c.begin.ensures.begun;
      faults = looks.faults_grow;
      nothing = record { seen_is = looks.same; moments = looks.moments; any_moment = looks.any_moment; crash = looks.crash; clean = looks.clean };
      usable = c.begin.ensures.usable;
    }

pub returns-in_err-opened-clause-damaged : goal.returns-in_err-opened-clause-damaged
returns-in_err-opened-clause-damaged g c =
    let p = err_from_is_err_and c.from_residual.result c.from_residual.ensures.1 in
    rw (p.1, p.2) (λ damage begun clean.
    subst (StandsForNone (header_of c.args.reader.now)) (sym begun.1.1.0) (c.in_err-opened.ensures.damaged damage begun.1.0 (begun.1.1, begun.1.2) clean))

pub returns-in_err-opened-clause-cause : goal.returns-in_err-opened-clause-cause
returns-in_err-opened-clause-cause g c =
    let p = err_from_is_err_and c.from_residual.result c.from_residual.ensures.1 in
    let looks = c.begin.ensures.looks in
    rw (p.1, p.2) (λ begun.
    cause_as _ _ _ c.in_err-opened.field-0.0 (λ number lacks.
    inr (lacks_as _ _ _ _ _ number (λ records read. (subst IsFalse (sym looks.opens) begun.0, (begun.1.0, read.0, read.1)))
    (λ ended clean. subst (λ (file : List ℕ). HasEnded c.begin.new.reader file []) (sym (looks.same ∙ begun.1.1.0)) (ended clean)) lacks))
    (c.in_err-opened.ensures.cause begun.1.0 (begun.1.1, begun.1.2)))

pub returns-in_err-load_next-clause-damaged : goal.returns-in_err-load_next-clause-damaged
returns-in_err-load_next-clause-damaged g c =
    let p = err_from_is_err_and c.from_residual-in_err-load_next.result c.from_residual-in_err-load_next.ensures.1 in
    rw (p.1, p.2) (λ damage begun clean.
    subst (StandsForNone (header_of c.args.reader.now)) c.loading.invariant.nothing.seen_is (c.in_err-load_next.ensures.damaged damage (header_of c.args.reader.now) (c.loading.invariant.loading begun) clean))

pub returns-in_err-load_next-clause-cause : goal.returns-in_err-load_next-clause-cause
returns-in_err-load_next-clause-cause g c =
    let p = err_from_is_err_and c.from_residual-in_err-load_next.result c.from_residual-in_err-load_next.ensures.1 in
    rw (p.1, p.2) (λ begun.
    cause_as _ _ _ c.in_err-load_next.field-0.0 (λ number stops. inl stops)
    (cause_longer _ _ _ c.in_err-load_next.field-0.0 (λ more. omega (arith, more, c.loading.invariant.faults)) (c.in_err-load_next.ensures.cause (header_of c.args.reader.now) (c.loading.invariant.loading begun))))

pub returns-clause-large : goal.returns-clause-large
returns-clause-large g c = λ _ begun clean.
    let it = c.loading.invariant.loading begun in
    let file = it.read.1.0 in
    omega (
      arith,
      long_file c.loading.reader file it.records (it.read.1.2 clean),
      it.count,
      c.loading-test.false,
      ap length it.read.1.1.0,
      ap length c.loading.invariant.nothing.seen_is,
    )

pub returns-in_err-load_next-clause-nothing : goal.returns-in_err-load_next-clause-nothing
returns-in_err-load_next-clause-nothing g c =
    nothing_two g.D.Disk.seen g.D.Disk.may_leave g.D.Disk.is_clean c.args.note.now c.args.journal.now c.loading.journal c.load_next.new.journal c.loading.invariant.nothing c.load_next.ensures.nothing

pub returns-then-not-branch-clause-nothing : goal.returns-then-not-branch-clause-nothing
returns-then-not-branch-clause-nothing g c =
    nothing_two g.D.Disk.seen g.D.Disk.may_leave g.D.Disk.is_clean c.args.note.now c.args.journal.now c.loading.journal c.load_next.new.journal c.loading.invariant.nothing c.load_next.ensures.nothing

pub loading-preserved : goal.loading-preserved
loading-preserved g c = record {
  loading = λ begun. c.in_ok-load_next.ensures.on (ap (λ (b : Bool). Ok b) c.if-not-branch.false) (header_of c.args.reader.now) (c.loading.invariant.loading begun);
  begun = c.load_next.ensures.begun ∙ c.loading.invariant.begun;
  faults = omega (arith, c.loading.invariant.faults, c.load_next.ensures.faults);
  nothing = nothing_two g.D.Disk.seen g.D.Disk.may_leave g.D.Disk.is_clean c.args.note.now c.args.journal.now c.loading.journal c.load_next.new.journal c.loading.invariant.nothing
      c.load_next.ensures.nothing;
  usable = c.load_next.ensures.usable;
}
