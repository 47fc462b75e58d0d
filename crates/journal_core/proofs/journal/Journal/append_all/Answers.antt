-- The rounds are written behind the gate, and then the gate.
use Rattle.std.proofs.Common.{rules, ◌≡◌, ◌⊎◌, inl, ◌+◌, ◌≤◌, ◌++◌, ℕ, List, Option, Result, Ok, length, refl, sym, ◌∙◌, ap, subst, arith, IsTrue}
use Rattle.std.specs.Prelude.{IfErr, IfSome, IsFalse, OnOk}
use Rattle.std.specs.declared.io.Error.{Error}
use Rattle.journal_core.specs.Clocked.{disk_of, CrashLeaves}
use Rattle.journal_core.specs.Format.{StandsFor, shut_word}
use Rattle.journal_core.specs.LiveCopies.{MayStep}
use Rattle.journal_core.specs.Resting.{HasDiskCause, is_ready}
use Rattle.journal_core.specs.Private.DiskMoments.{joined, leaves_weaker, goes_two}
use Rattle.journal_core.specs.Private.Stages.{BeginsWith, IsCounted, Wrote}
use Rattle.journal_core.specs.declared.error.JournalError.TheVariants.{NotOpen}
use Rattle.journal_core.proofs.Exits.{mapped_ok}
use Rattle.journal_core.proofs.Crash.{Staged, to_gate, at_behind, begun, all_begun, stands_still, gate_crash, gate_goes, gate_len, goes_behind, added}
use Rattle.journal_core.proofs.Several.{gathered, gathers_some}
use Rattle.journal_core.proofs.journal.Journal.append_all.Goals as goal
use Rattle.journal_core.proofs.journal.Journal.append_all.Goals.{in-Some, in-None}

low_of : (n at : ℕ) → n ≡ at + 8 → n ≤ at + 8
low_of n at is = omega (arith, is)

ok_of : {T E P : Type 0} {r : Result T E} {x : T} → r ≡ Ok x → OnOk r P → P
ok_of {T = T} {E = E} {P = P} is it = subst (λ (r : Result T E). OnOk r P) is it

begins_with : (front file : List ℕ) {a b : List ℕ} → a ≡ b → BeginsWith (front ++ (a ++ shut_word)) file → BeginsWith (front ++ (b ++ shut_word)) file
begins_with front file is it = subst (λ (l : List ℕ). BeginsWith (front ++ (l ++ shut_word)) file) is it

pub returns-in_err-map_err-clause-any_moment : goal.returns-in_err-map_err-clause-any_moment
returns-in_err-map_err-clause-any_moment g c = λ records new it gathers.
    let seen = g.D.Disk.seen in
    let may_leave = g.D.Disk.may_leave in
    let is_clean = g.D.Disk.is_clean in
    let j = c.args.self.now in
    let note = c.args.note.now in
    let mid = c.write_behind.new.disk in
    let front = to_gate seen may_leave is_clean j records it in
    let all = all_begun seen may_leave is_clean j records it in
    let P : List ℕ → Type 0 = λ f. StandsFor j.header f records ⊎ StandsFor j.header f (records ++ new) in
    let first = leaves_weaker may_leave note (BeginsWith front) P (λ f begins. inl (stands_still seen may_leave is_clean j records it f begins)) j.disk mid (c.write_behind.ensures.behind.any_moment front (low_of (length front) j.at (at_behind seen may_leave is_clean j records it)) all) in
    first

pub returns-in_err-map_err-clause-crash : goal.returns-in_err-map_err-clause-crash
returns-in_err-map_err-clause-crash g c = λ records new it gathers f left.
    let seen = g.D.Disk.seen in
    let may_leave = g.D.Disk.may_leave in
    let is_clean = g.D.Disk.is_clean in
    let j = c.args.self.now in
    let note = c.args.note.now in
    let mid = c.write_behind.new.disk in
    let front = to_gate seen may_leave is_clean j records it in
    let all = all_begun seen may_leave is_clean j records it in
    inl (stands_still seen may_leave is_clean j records it f (c.write_behind.ensures.behind.crash front (low_of (length front) j.at (at_behind seen may_leave is_clean j records it)) all f left))

pub returns-in_err-map_err-2-clause-any_moment : goal.returns-in_err-map_err-2-clause-any_moment
returns-in_err-map_err-2-clause-any_moment g c = λ records new it gathers.
    let seen = g.D.Disk.seen in
    let may_leave = g.D.Disk.may_leave in
    let is_clean = g.D.Disk.is_clean in
    let j = c.args.self.now in
    let note = c.args.note.now in
    let mid = c.write_behind.new.disk in
    let front = to_gate seen may_leave is_clean j records it in
    let all = all_begun seen may_leave is_clean j records it in
    let text = c.args.batch.now.text.items in
    let are = gathered c.args.batch.now j new c.requires.fits (omega (arith, c.len-len.ensures, c.if-len-eq0.false)) gathers in
    let written = mapped_ok c.write_behind.result c.map_err.result tt _ c.map_err.ensures.cases c.in_ok-map_err.was in
    let staged : Staged seen may_leave is_clean j records it new text are (seen (disk_of mid)) = begins_with front (seen (disk_of mid)) c.deref.ensures.value (ok_of written c.write_behind.ensures.writes front (at_behind seen may_leave is_clean j records it) (begun seen may_leave is_clean j records it)) in
    let durable = ok_of written c.write_behind.ensures.durable in
    let P : List ℕ → Type 0 = λ f. StandsFor j.header f records ⊎ StandsFor j.header f (records ++ new) in
    let first = leaves_weaker may_leave note (BeginsWith front) P (λ f begins. inl (stands_still seen may_leave is_clean j records it f begins)) j.disk mid (c.write_behind.ensures.behind.any_moment front (low_of (length front) j.at (at_behind seen may_leave is_clean j records it)) all) in
    let second = leaves_weaker may_leave note (Wrote j.at 8 (may_leave (disk_of mid))) P (gate_crash seen may_leave is_clean j records it new text are (seen (disk_of mid)) (may_leave (disk_of mid)) staged durable) mid c.put.new.disk c.put.ensures.any_moment in
    joined (CrashLeaves may_leave note P) j.disk mid c.put.new.disk first second

pub returns-in_err-map_err-2-clause-crash : goal.returns-in_err-map_err-2-clause-crash
returns-in_err-map_err-2-clause-crash g c = λ records new it gathers f left.
    let seen = g.D.Disk.seen in
    let may_leave = g.D.Disk.may_leave in
    let is_clean = g.D.Disk.is_clean in
    let j = c.args.self.now in
    let note = c.args.note.now in
    let mid = c.write_behind.new.disk in
    let front = to_gate seen may_leave is_clean j records it in
    let all = all_begun seen may_leave is_clean j records it in
    let text = c.args.batch.now.text.items in
    let are = gathered c.args.batch.now j new c.requires.fits (omega (arith, c.len-len.ensures, c.if-len-eq0.false)) gathers in
    let written = mapped_ok c.write_behind.result c.map_err.result tt _ c.map_err.ensures.cases c.in_ok-map_err.was in
    let staged : Staged seen may_leave is_clean j records it new text are (seen (disk_of mid)) = begins_with front (seen (disk_of mid)) c.deref.ensures.value (ok_of written c.write_behind.ensures.writes front (at_behind seen may_leave is_clean j records it) (begun seen may_leave is_clean j records it)) in
    let durable = ok_of written c.write_behind.ensures.durable in
    gate_crash seen may_leave is_clean j records it new text are (seen (disk_of mid)) (may_leave (disk_of mid)) staged durable f (c.put.ensures.crash f left)

pub returns-clause-any_moment : goal.returns-clause-any_moment
returns-clause-any_moment g c = λ records new it gathers.
    let seen = g.D.Disk.seen in
    let may_leave = g.D.Disk.may_leave in
    let is_clean = g.D.Disk.is_clean in
    let j = c.args.self.now in
    let note = c.args.note.now in
    let mid = c.write_behind.new.disk in
    let front = to_gate seen may_leave is_clean j records it in
    let all = all_begun seen may_leave is_clean j records it in
    let text = c.args.batch.now.text.items in
    let are = gathered c.args.batch.now j new c.requires.fits (omega (arith, c.len-len.ensures, c.if-len-eq0.false)) gathers in
    let written = mapped_ok c.write_behind.result c.map_err.result tt _ c.map_err.ensures.cases c.in_ok-map_err.was in
    let staged : Staged seen may_leave is_clean j records it new text are (seen (disk_of mid)) = begins_with front (seen (disk_of mid)) c.deref.ensures.value (ok_of written c.write_behind.ensures.writes front (at_behind seen may_leave is_clean j records it) (begun seen may_leave is_clean j records it)) in
    let durable = ok_of written c.write_behind.ensures.durable in
    let P : List ℕ → Type 0 = λ f. StandsFor j.header f records ⊎ StandsFor j.header f (records ++ new) in
    let first = leaves_weaker may_leave note (BeginsWith front) P (λ f begins. inl (stands_still seen may_leave is_clean j records it f begins)) j.disk mid (c.write_behind.ensures.behind.any_moment front (low_of (length front) j.at (at_behind seen may_leave is_clean j records it)) all) in
    let second = leaves_weaker may_leave note (Wrote j.at 8 (may_leave (disk_of mid))) P (gate_crash seen may_leave is_clean j records it new text are (seen (disk_of mid)) (may_leave (disk_of mid)) staged durable) mid c.put.new.disk c.put.ensures.any_moment in
    joined (CrashLeaves may_leave note P) j.disk mid c.put.new.disk first second

pub returns-clause-crash : goal.returns-clause-crash
returns-clause-crash g c = λ records new it gathers f left.
    let seen = g.D.Disk.seen in
    let may_leave = g.D.Disk.may_leave in
    let is_clean = g.D.Disk.is_clean in
    let j = c.args.self.now in
    let note = c.args.note.now in
    let mid = c.write_behind.new.disk in
    let front = to_gate seen may_leave is_clean j records it in
    let all = all_begun seen may_leave is_clean j records it in
    let text = c.args.batch.now.text.items in
    let are = gathered c.args.batch.now j new c.requires.fits (omega (arith, c.len-len.ensures, c.if-len-eq0.false)) gathers in
    let written = mapped_ok c.write_behind.result c.map_err.result tt _ c.map_err.ensures.cases c.in_ok-map_err.was in
    let staged : Staged seen may_leave is_clean j records it new text are (seen (disk_of mid)) = begins_with front (seen (disk_of mid)) c.deref.ensures.value (ok_of written c.write_behind.ensures.writes front (at_behind seen may_leave is_clean j records it) (begun seen may_leave is_clean j records it)) in
    let durable = ok_of written c.write_behind.ensures.durable in
    gate_crash seen may_leave is_clean j records it new text are (seen (disk_of mid)) (may_leave (disk_of mid)) staged durable f (c.put.ensures.crash f left)

pub returns-then-is_too_large-clause-nothing : goal.returns-then-is_too_large-clause-nothing
returns-then-is_too_large-clause-nothing g c = λ ready gathers. absurd (gathers_some c.args.batch.now (omega (arith, c.len-len.ensures, c.if-len-eq0.false)) gathers)

pub returns-in_err-map_err-clause-nothing : goal.returns-in_err-map_err-clause-nothing
returns-in_err-map_err-clause-nothing g c = λ ready gathers. absurd (gathers_some c.args.batch.now (omega (arith, c.len-len.ensures, c.if-len-eq0.false)) gathers)

pub returns-in_err-map_err-2-clause-nothing : goal.returns-in_err-map_err-2-clause-nothing
returns-in_err-map_err-2-clause-nothing g c = λ ready gathers. absurd (gathers_some c.args.batch.now (omega (arith, c.len-len.ensures, c.if-len-eq0.false)) gathers)

pub returns-clause-nothing : goal.returns-clause-nothing
returns-clause-nothing g c = λ ready gathers. absurd (gathers_some c.args.batch.now (omega (arith, c.len-len.ensures, c.if-len-eq0.false)) gathers)

pub returns-in_err-map_err-2-clause-cause : goal.returns-in_err-map_err-2-clause-cause
returns-in_err-map_err-2-clause-cause g c =
    let j = c.args.self.now in
    let mid = c.write_behind.new.disk in
    let faults = g.D.Disk.faults in
    let tally = g.D.Disk.tally_of in
    let written = mapped_ok c.write_behind.result c.map_err.result tt _ c.map_err.ensures.cases c.in_ok-map_err.was in
    let counts = subst (λ (r : Result (Unit {0}) Error). IsCounted r (faults (disk_of j.disk)) (faults (disk_of mid)) (tally (disk_of j.disk)) (tally (disk_of mid))) written c.write_behind.ensures.counts in
    let from_mid : IfErr c.from_residual-in_err-map_err-2.result (λ e. HasDiskCause e (faults (disk_of mid)) (faults (disk_of c.put.new.disk)) (tally (disk_of mid)).refused (tally (disk_of c.put.new.disk)).refused × (e ≡ NotOpen → IsFalse (is_ready j))) = search rules in
    subst (λ (n : ℕ). IfErr c.from_residual-in_err-map_err-2.result (λ e. HasDiskCause e n (faults (disk_of c.put.new.disk)) (tally (disk_of j.disk)).refused (tally (disk_of c.put.new.disk)).refused × (e ≡ NotOpen → IsFalse (is_ready j)))) counts.faults
    (subst (λ (n : ℕ). IfErr c.from_residual-in_err-map_err-2.result (λ e. HasDiskCause e (faults (disk_of mid)) (faults (disk_of c.put.new.disk)) n (tally (disk_of c.put.new.disk)).refused × (e ≡ NotOpen → IsFalse (is_ready j)))) counts.refused.refused from_mid)

pub returns-clause-acknowledged : goal.returns-clause-acknowledged
returns-clause-acknowledged g c = λ records new it gathers.
    let seen = g.D.Disk.seen in
    let may_leave = g.D.Disk.may_leave in
    let is_clean = g.D.Disk.is_clean in
    let j = c.args.self.now in
    let note = c.args.note.now in
    let mid = c.write_behind.new.disk in
    let front = to_gate seen may_leave is_clean j records it in
    let all = all_begun seen may_leave is_clean j records it in
    let text = c.args.batch.now.text.items in
    let are = gathered c.args.batch.now j new c.requires.fits (omega (arith, c.len-len.ensures, c.if-len-eq0.false)) gathers in
    let written = mapped_ok c.write_behind.result c.map_err.result tt _ c.map_err.ensures.cases c.in_ok-map_err.was in
    let staged : Staged seen may_leave is_clean j records it new text are (seen (disk_of mid)) = begins_with front (seen (disk_of mid)) c.deref.ensures.value (ok_of written c.write_behind.ensures.writes front (at_behind seen may_leave is_clean j records it) (begun seen may_leave is_clean j records it)) in
    let opened = mapped_ok c.put.result c.map_err-2.result tt _ c.map_err-2.ensures.cases c.in_ok-map_err-2.was in
    let holds = ok_of opened c.put.ensures.holds in
    let only = ok_of opened c.put.ensures.durable in
    let size : length c.deref.result.now ≡ length text = ap length c.deref.ensures.value in
    let len = ok_of written c.write_behind.ensures.len in
    let same_len = gate_len seen may_leave is_clean j records it new text are (seen (disk_of mid)) (seen (disk_of c.put.new.disk)) staged c.put.ensures.others in
    let same_clean : is_clean (disk_of c.put.new.disk) ≡ is_clean (disk_of j.disk) = c.put.ensures.clean ∙ c.write_behind.ensures.clean in
    let Knows : Option ℕ → Type 0 = λ o. IfSome o (λ n. IsTrue (is_clean (disk_of c.put.new.disk)) → n ≡ length (seen (disk_of c.put.new.disk))) in
    let knows : Knows c.match-self.self = elim c.match-self.branch [
      | in-Some w ↦ subst Knows (sym w.self-is) (λ clean.
          let old_len = subst (λ (o : Option ℕ). IfSome o (λ n. IsTrue (is_clean (disk_of j.disk)) → n ≡ length (seen (disk_of j.disk)))) w.in-Some.is it.knows (subst IsTrue same_clean clean) in
          omega (arith, w.max.ensures, old_len, len, same_len, size, c.len-len.ensures))
      | in-None w ↦ subst Knows (sym w.self-is) tt
    ] in
    added seen may_leave is_clean j records it new text are _ (seen (disk_of mid)) staged c.put.ensures.others holds only refl (omega (arith, c.len-len.ensures)) knows

pub returns-clause-steps : goal.returns-clause-steps
returns-clause-steps g c = λ records new it gathers.
    let seen = g.D.Disk.seen in
    let may_leave = g.D.Disk.may_leave in
    let is_clean = g.D.Disk.is_clean in
    let j = c.args.self.now in
    let note = c.args.note.now in
    let mid = c.write_behind.new.disk in
    let front = to_gate seen may_leave is_clean j records it in
    let all = all_begun seen may_leave is_clean j records it in
    let text = c.args.batch.now.text.items in
    let are = gathered c.args.batch.now j new c.requires.fits (omega (arith, c.len-len.ensures, c.if-len-eq0.false)) gathers in
    let written = mapped_ok c.write_behind.result c.map_err.result tt _ c.map_err.ensures.cases c.in_ok-map_err.was in
    let staged : Staged seen may_leave is_clean j records it new text are (seen (disk_of mid)) = begins_with front (seen (disk_of mid)) c.deref.ensures.value (ok_of written c.write_behind.ensures.writes front (at_behind seen may_leave is_clean j records it) (begun seen may_leave is_clean j records it)) in
    let opened = mapped_ok c.put.result c.map_err-2.result tt _ c.map_err-2.ensures.cases c.in_ok-map_err-2.was in
    let holds = ok_of opened c.put.ensures.holds in
    let once = ok_of opened c.put.ensures.moments in
    goes_two (MayStep j.header) seen j.disk mid c.put.new.disk (goes_behind seen may_leave is_clean j records it j.disk mid refl c.write_behind.ensures.behind.moments)
    (gate_goes seen may_leave is_clean j records it new text are mid c.put.new.disk staged c.put.ensures.others holds once)
