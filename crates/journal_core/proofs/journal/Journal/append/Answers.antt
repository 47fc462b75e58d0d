-- The round is written behind the gate, and then the gate.
use Rattle.std.proofs.Common.{rules, ◌≡◌, ◌⊎◌, inl, ◌+◌, is_some, true, ◌≢◌, ◌≤◌, ◌<◌, ◌^◌, ◌-◌, min, ◌++◌, [], ℕ, List, Result, Option, max, length, refl, sym, ◌∙◌, ap, subst, arith, IsTrue}
use Rattle.std.specs.Prelude.{IfErr, IfOk, IfSome, IsFalse, OnOk}
use Rattle.std.specs.declared.io.Error.{Error}
use Rattle.std.proofs.lemmas.List.{append-nil}
use Rattle.sqlite_disk.specs.Disk.{Holds, Only}
use Rattle.journal_core.specs.Clocked.{disk_of, GoesAs, CrashLeaves}
use Rattle.journal_core.specs.Format.{StandsFor, open_word, round_text, shut_word}
use Rattle.journal_core.specs.LiveCopies.{MayStep}
use Rattle.journal_core.specs.Resting.{HasDiskCause, IsSettled, is_ready}
use Rattle.journal_core.specs.Private.DiskMoments.{joined, leaves_weaker, goes_not, goes_two, none}
use Rattle.journal_core.specs.Private.Stages.{BeginsWith, ChangesOnce, IsCounted, Wrote, round_bytes}
use Rattle.journal_core.specs.declared.error.JournalError.TheVariants.{NotOpen, TooLarge}
use Rattle.std.proofs.lemmas.Bool.{false≢true}
use Rattle.std.proofs.lemmas.Result.{IfOk-from_err}
use Rattle.journal_core.proofs.Exits.{closed_not_large, err_not_ok, if_err, large_not_closed, mapped_ok}
use Rattle.journal_core.proofs.Settling.{left_at_rest}
use Rattle.journal_core.proofs.Crash.{to_gate, at_behind, begun, all_begun, stands_still, gate_crash, gate_goes, gate_len, goes_behind, added}
use Rattle.journal_core.proofs.Records.{none_left}
use Rattle.journal_core.proofs.Rounds.{round_len}
use Rattle.journal_core.proofs.Several.{one_behind}
use Rattle.journal_core.proofs.journal.Journal.append.Goals as goal
use Rattle.journal_core.proofs.journal.Journal.append.Goals.{in-Some, in-None}

low_of : (n at : ℕ) → n ≡ at + 8 → n ≤ at + 8
low_of n at is = omega (arith, is)

some_of : (len n : ℕ) → len ≡ min n (2 ^ 64 - 1) → len ≢ 0 → 0 < n
some_of len n is some = omega (arith, is, some)

none_not : (len : ℕ) (bytes : List ℕ) → len ≡ min (length bytes) (2 ^ 64 - 1) → len ≢ 0 → bytes ≢ []
none_not len bytes is some none = omega (arith, is, some, ap length none)

short_of : (at len n : ℕ) → len ≡ min n (2 ^ 64 - 1) → at + (32 + len) < 2 ^ 62 → n < 2 ^ 64
short_of at len n is fits = omega (arith, is, fits)

pub returns-then-len-eq0-clause-acknowledged : goal.returns-then-len-eq0-clause-acknowledged
returns-then-len-eq0-clause-acknowledged g c = λ records new it carries.
    let empty : length (round_bytes c.args.round.now) ≡ 0 = omega (arith, c.len-len.ensures.bytes, c.if-len-eq0.true) in
    let none : new ≡ [] = none_left new (sym (ap length carries) ∙ empty) in
    subst (λ (l : List (List ℕ)). IsSettled g.D.Disk.seen g.D.Disk.may_leave g.D.Disk.is_clean c.args.self.now l) (sym (ap (λ (l : List (List ℕ)). records ++ l) none ∙ append-nil records)) it

pub returns-in_err-end-clause-crash : goal.returns-in_err-end-clause-crash
returns-in_err-end-clause-crash g c = λ records new it carries f left.
    let seen = g.D.Disk.seen in
    let may_leave = g.D.Disk.may_leave in
    let is_clean = g.D.Disk.is_clean in
    let j = c.args.self.now in
    let note = c.args.note.now in
    let mid = c.write_round.new.disk in
    let bytes = round_bytes c.args.round.now in
    let front = to_gate seen may_leave is_clean j records it in
    let front_len : length front ≡ j.at + 8 = at_behind seen may_leave is_clean j records it in
    let all = all_begun seen may_leave is_clean j records it in
    inl (stands_still seen may_leave is_clean j records it f (c.write_round.ensures.behind.crash front (low_of (length front) j.at front_len) all f left))

pub returns-in_err-end-clause-any_moment : goal.returns-in_err-end-clause-any_moment
returns-in_err-end-clause-any_moment g c = λ records new it carries.
    let seen = g.D.Disk.seen in
    let may_leave = g.D.Disk.may_leave in
    let is_clean = g.D.Disk.is_clean in
    let j = c.args.self.now in
    let note = c.args.note.now in
    let mid = c.write_round.new.disk in
    let bytes = round_bytes c.args.round.now in
    let front = to_gate seen may_leave is_clean j records it in
    let front_len : length front ≡ j.at + 8 = at_behind seen may_leave is_clean j records it in
    let all = all_begun seen may_leave is_clean j records it in
    let P : List ℕ → Type 0 = λ f. StandsFor j.header f records ⊎ StandsFor j.header f (records ++ new) in
    let first = leaves_weaker may_leave note (BeginsWith front) P (λ f begins. inl (stands_still seen may_leave is_clean j records it f begins)) j.disk mid (c.write_round.ensures.behind.any_moment front (low_of (length front) j.at front_len) all) in
    first

pub returns-in_err-map_err-clause-crash : goal.returns-in_err-map_err-clause-crash
returns-in_err-map_err-clause-crash g c = λ records new it carries f left.
    let seen = g.D.Disk.seen in
    let may_leave = g.D.Disk.may_leave in
    let is_clean = g.D.Disk.is_clean in
    let j = c.args.self.now in
    let note = c.args.note.now in
    let mid = c.write_round.new.disk in
    let bytes = round_bytes c.args.round.now in
    let front = to_gate seen may_leave is_clean j records it in
    let front_len : length front ≡ j.at + 8 = at_behind seen may_leave is_clean j records it in
    let all = all_begun seen may_leave is_clean j records it in
    let some = some_of c.len-len.result (length bytes) c.len-len.ensures.bytes c.if-len-eq0.false in
    let short = short_of j.at c.len-len.result (length bytes) c.len-len.ensures.bytes (c.is_too_large.ensures.fits c.if-is_too_large.false) in
    let written = mapped_ok c.write_round.result c.map_err.result c.in_ok-end.end _ c.map_err.ensures.cases c.in_ok-end.was in
    let staged = subst (λ (r : Result ℕ Error). OnOk r ((front : List ℕ) → length front ≡ j.at + 8 → BeginsWith front (seen (disk_of j.disk)) → BeginsWith (front ++ (round_text j.header.key j.at bytes ++ shut_word)) (seen (disk_of mid)))) written c.write_round.ensures.writes
    front front_len (begun seen may_leave is_clean j records it) in
    let durable = subst (λ (r : Result ℕ Error). OnOk r (Only (seen (disk_of mid)) (may_leave (disk_of mid)))) written c.write_round.ensures.durable in
    gate_crash seen may_leave is_clean j records it new (round_text j.header.key j.at bytes) (one_behind j.header.key j.at bytes new carries some short) (seen (disk_of mid)) (may_leave (disk_of mid)) staged durable f (c.put.ensures.crash f left)

pub returns-clause-crash : goal.returns-clause-crash
returns-clause-crash g c = λ records new it carries f left.
    let seen = g.D.Disk.seen in
    let may_leave = g.D.Disk.may_leave in
    let is_clean = g.D.Disk.is_clean in
    let j = c.args.self.now in
    let note = c.args.note.now in
    let mid = c.write_round.new.disk in
    let bytes = round_bytes c.args.round.now in
    let front = to_gate seen may_leave is_clean j records it in
    let front_len : length front ≡ j.at + 8 = at_behind seen may_leave is_clean j records it in
    let all = all_begun seen may_leave is_clean j records it in
    let some = some_of c.len-len.result (length bytes) c.len-len.ensures.bytes c.if-len-eq0.false in
    let short = short_of j.at c.len-len.result (length bytes) c.len-len.ensures.bytes (c.is_too_large.ensures.fits c.if-is_too_large.false) in
    let written = mapped_ok c.write_round.result c.map_err.result c.in_ok-end.end _ c.map_err.ensures.cases c.in_ok-end.was in
    let staged = subst (λ (r : Result ℕ Error). OnOk r ((front : List ℕ) → length front ≡ j.at + 8 → BeginsWith front (seen (disk_of j.disk)) → BeginsWith (front ++ (round_text j.header.key j.at bytes ++ shut_word)) (seen (disk_of mid)))) written c.write_round.ensures.writes
    front front_len (begun seen may_leave is_clean j records it) in
    let durable = subst (λ (r : Result ℕ Error). OnOk r (Only (seen (disk_of mid)) (may_leave (disk_of mid)))) written c.write_round.ensures.durable in
    gate_crash seen may_leave is_clean j records it new (round_text j.header.key j.at bytes) (one_behind j.header.key j.at bytes new carries some short) (seen (disk_of mid)) (may_leave (disk_of mid)) staged durable f (c.put.ensures.crash f left)

pub returns-in_err-map_err-clause-any_moment : goal.returns-in_err-map_err-clause-any_moment
returns-in_err-map_err-clause-any_moment g c = λ records new it carries.
    let seen = g.D.Disk.seen in
    let may_leave = g.D.Disk.may_leave in
    let is_clean = g.D.Disk.is_clean in
    let j = c.args.self.now in
    let note = c.args.note.now in
    let mid = c.write_round.new.disk in
    let bytes = round_bytes c.args.round.now in
    let front = to_gate seen may_leave is_clean j records it in
    let front_len : length front ≡ j.at + 8 = at_behind seen may_leave is_clean j records it in
    let all = all_begun seen may_leave is_clean j records it in
    let some = some_of c.len-len.result (length bytes) c.len-len.ensures.bytes c.if-len-eq0.false in
    let short = short_of j.at c.len-len.result (length bytes) c.len-len.ensures.bytes (c.is_too_large.ensures.fits c.if-is_too_large.false) in
    let written = mapped_ok c.write_round.result c.map_err.result c.in_ok-end.end _ c.map_err.ensures.cases c.in_ok-end.was in
    let staged = subst (λ (r : Result ℕ Error). OnOk r ((front : List ℕ) → length front ≡ j.at + 8 → BeginsWith front (seen (disk_of j.disk)) → BeginsWith (front ++ (round_text j.header.key j.at bytes ++ shut_word)) (seen (disk_of mid)))) written c.write_round.ensures.writes
    front front_len (begun seen may_leave is_clean j records it) in
    let durable = subst (λ (r : Result ℕ Error). OnOk r (Only (seen (disk_of mid)) (may_leave (disk_of mid)))) written c.write_round.ensures.durable in
    let P : List ℕ → Type 0 = λ f. StandsFor j.header f records ⊎ StandsFor j.header f (records ++ new) in
    let first = leaves_weaker may_leave note (BeginsWith front) P (λ f begins. inl (stands_still seen may_leave is_clean j records it f begins)) j.disk mid (c.write_round.ensures.behind.any_moment front (low_of (length front) j.at front_len) all) in
    let second = leaves_weaker may_leave note (Wrote j.at 8 (may_leave (disk_of mid))) P (gate_crash seen may_leave is_clean j records it new (round_text j.header.key j.at bytes) (one_behind j.header.key j.at bytes new carries some short) (seen (disk_of mid)) (may_leave (disk_of mid)) staged durable) mid c.put.new.disk c.put.ensures.any_moment in
    joined (CrashLeaves may_leave note P) j.disk mid c.put.new.disk first second

pub returns-clause-any_moment : goal.returns-clause-any_moment
returns-clause-any_moment g c = λ records new it carries.
    let seen = g.D.Disk.seen in
    let may_leave = g.D.Disk.may_leave in
    let is_clean = g.D.Disk.is_clean in
    let j = c.args.self.now in
    let note = c.args.note.now in
    let mid = c.write_round.new.disk in
    let bytes = round_bytes c.args.round.now in
    let front = to_gate seen may_leave is_clean j records it in
    let front_len : length front ≡ j.at + 8 = at_behind seen may_leave is_clean j records it in
    let all = all_begun seen may_leave is_clean j records it in
    let some = some_of c.len-len.result (length bytes) c.len-len.ensures.bytes c.if-len-eq0.false in
    let short = short_of j.at c.len-len.result (length bytes) c.len-len.ensures.bytes (c.is_too_large.ensures.fits c.if-is_too_large.false) in
    let written = mapped_ok c.write_round.result c.map_err.result c.in_ok-end.end _ c.map_err.ensures.cases c.in_ok-end.was in
    let staged = subst (λ (r : Result ℕ Error). OnOk r ((front : List ℕ) → length front ≡ j.at + 8 → BeginsWith front (seen (disk_of j.disk)) → BeginsWith (front ++ (round_text j.header.key j.at bytes ++ shut_word)) (seen (disk_of mid)))) written c.write_round.ensures.writes
    front front_len (begun seen may_leave is_clean j records it) in
    let durable = subst (λ (r : Result ℕ Error). OnOk r (Only (seen (disk_of mid)) (may_leave (disk_of mid)))) written c.write_round.ensures.durable in
    let P : List ℕ → Type 0 = λ f. StandsFor j.header f records ⊎ StandsFor j.header f (records ++ new) in
    let first = leaves_weaker may_leave note (BeginsWith front) P (λ f begins. inl (stands_still seen may_leave is_clean j records it f begins)) j.disk mid (c.write_round.ensures.behind.any_moment front (low_of (length front) j.at front_len) all) in
    let second = leaves_weaker may_leave note (Wrote j.at 8 (may_leave (disk_of mid))) P (gate_crash seen may_leave is_clean j records it new (round_text j.header.key j.at bytes) (one_behind j.header.key j.at bytes new carries some short) (seen (disk_of mid)) (may_leave (disk_of mid)) staged durable) mid c.put.new.disk c.put.ensures.any_moment in
    joined (CrashLeaves may_leave note P) j.disk mid c.put.new.disk first second

pub returns-in_err-map_err-clause-cause : goal.returns-in_err-map_err-clause-cause
returns-in_err-map_err-clause-cause g c =
    let seen = g.D.Disk.seen in
    let j = c.args.self.now in
    let mid = c.write_round.new.disk in
    let faults = g.D.Disk.faults in
    let tally = g.D.Disk.tally_of in
    let written = mapped_ok c.write_round.result c.map_err.result c.in_ok-end.end _ c.map_err.ensures.cases c.in_ok-end.was in
    let counts = subst (λ (r : Result ℕ Error). IsCounted r (faults (disk_of j.disk)) (faults (disk_of mid)) (tally (disk_of j.disk)) (tally (disk_of mid))) written c.write_round.ensures.counts in
    let from_mid : IfErr c.from_residual-in_err-map_err.result (λ e. HasDiskCause e (faults (disk_of mid)) (faults (disk_of c.put.new.disk)) (tally (disk_of mid)).refused (tally (disk_of c.put.new.disk)).refused × (e ≡ NotOpen → IsFalse (is_ready j))) = search rules in
    subst (λ (n : ℕ). IfErr c.from_residual-in_err-map_err.result (λ e. HasDiskCause e n (faults (disk_of c.put.new.disk)) (tally (disk_of j.disk)).refused (tally (disk_of c.put.new.disk)).refused × (e ≡ NotOpen → IsFalse (is_ready j)))) counts.faults
    (subst (λ (n : ℕ). IfErr c.from_residual-in_err-map_err.result (λ e. HasDiskCause e (faults (disk_of mid)) (faults (disk_of c.put.new.disk)) n (tally (disk_of c.put.new.disk)).refused × (e ≡ NotOpen → IsFalse (is_ready j)))) counts.refused.refused from_mid)

pub returns-clause-acknowledged : goal.returns-clause-acknowledged
returns-clause-acknowledged g c = λ records new it carries.
    let seen = g.D.Disk.seen in
    let may_leave = g.D.Disk.may_leave in
    let is_clean = g.D.Disk.is_clean in
    let j = c.args.self.now in
    let note = c.args.note.now in
    let mid = c.write_round.new.disk in
    let bytes = round_bytes c.args.round.now in
    let front = to_gate seen may_leave is_clean j records it in
    let front_len : length front ≡ j.at + 8 = at_behind seen may_leave is_clean j records it in
    let all = all_begun seen may_leave is_clean j records it in
    let some = some_of c.len-len.result (length bytes) c.len-len.ensures.bytes c.if-len-eq0.false in
    let short = short_of j.at c.len-len.result (length bytes) c.len-len.ensures.bytes (c.is_too_large.ensures.fits c.if-is_too_large.false) in
    let written = mapped_ok c.write_round.result c.map_err.result c.in_ok-end.end _ c.map_err.ensures.cases c.in_ok-end.was in
    let staged = subst (λ (r : Result ℕ Error). OnOk r ((front : List ℕ) → length front ≡ j.at + 8 → BeginsWith front (seen (disk_of j.disk)) → BeginsWith (front ++ (round_text j.header.key j.at bytes ++ shut_word)) (seen (disk_of mid)))) written c.write_round.ensures.writes
    front front_len (begun seen may_leave is_clean j records it) in
    let durable = subst (λ (r : Result ℕ Error). OnOk r (Only (seen (disk_of mid)) (may_leave (disk_of mid)))) written c.write_round.ensures.durable in
    let opened = mapped_ok c.put.result c.map_err-2.result tt _ c.map_err-2.ensures.cases c.in_ok-map_err.was in
    let holds = subst (λ (r : Result (Unit {0}) Error). OnOk r (Holds (seen (disk_of c.put.new.disk)) j.at open_word)) opened c.put.ensures.holds in
    let only = subst (λ (r : Result (Unit {0}) Error). OnOk r (Only (seen (disk_of c.put.new.disk)) (may_leave (disk_of c.put.new.disk)))) opened c.put.ensures.durable in
    let next : c.in_ok-end.end ≡ j.at + (24 + length bytes) = subst (λ (r : Result ℕ Error). IfOk r (λ next. next ≡ j.at + (24 + length bytes))) written c.write_round.ensures.next in
    let len = subst (λ (r : Result ℕ Error). OnOk r (length (seen (disk_of mid)) ≡ max (length (seen (disk_of j.disk))) (j.at + (32 + length bytes)))) written c.write_round.ensures.len in
    let same_len = gate_len seen may_leave is_clean j records it new (round_text j.header.key j.at bytes) (one_behind j.header.key j.at bytes new carries some short) (seen (disk_of mid)) (seen (disk_of c.put.new.disk)) staged c.put.ensures.others in
    let same_clean : is_clean (disk_of c.put.new.disk) ≡ is_clean (disk_of j.disk) = c.put.ensures.clean ∙ c.write_round.ensures.clean in
    let Knows : Option ℕ → Type 0 = λ o. IfSome o (λ n. IsTrue (is_clean (disk_of c.put.new.disk)) → n ≡ length (seen (disk_of c.put.new.disk))) in
    let knows : Knows c.match-self.self = elim c.match-self.branch [
      | in-Some w ↦ subst Knows (sym w.self-is) (λ clean.
          let old_len = subst (λ (o : Option ℕ). IfSome o (λ n. IsTrue (is_clean (disk_of j.disk)) → n ≡ length (seen (disk_of j.disk)))) w.in-Some.is it.knows (subst IsTrue same_clean clean) in
          omega (arith, w.max.ensures, old_len, len, same_len, next))
      | in-None w ↦ subst Knows (sym w.self-is) tt
    ] in
    added seen may_leave is_clean j records it new (round_text j.header.key j.at bytes) (one_behind j.header.key j.at bytes new carries some short) _ (seen (disk_of mid)) staged c.put.ensures.others holds only refl (omega (arith, next, round_len j.header.key j.at bytes)) knows

pub returns-clause-steps : goal.returns-clause-steps
returns-clause-steps g c = λ records new it carries.
    let seen = g.D.Disk.seen in
    let may_leave = g.D.Disk.may_leave in
    let is_clean = g.D.Disk.is_clean in
    let j = c.args.self.now in
    let mid = c.write_round.new.disk in
    let bytes = round_bytes c.args.round.now in
    let some = some_of c.len-len.result (length bytes) c.len-len.ensures.bytes c.if-len-eq0.false in
    let short = short_of j.at c.len-len.result (length bytes) c.len-len.ensures.bytes (c.is_too_large.ensures.fits c.if-is_too_large.false) in
    let written = mapped_ok c.write_round.result c.map_err.result c.in_ok-end.end _ c.map_err.ensures.cases c.in_ok-end.was in
    let staged = subst (λ (r : Result ℕ Error). OnOk r ((front : List ℕ) → length front ≡ j.at + 8 → BeginsWith front (seen (disk_of j.disk)) → BeginsWith (front ++ (round_text j.header.key j.at bytes ++ shut_word)) (seen (disk_of mid)))) written c.write_round.ensures.writes
    (to_gate seen may_leave is_clean j records it) (at_behind seen may_leave is_clean j records it) (begun seen may_leave is_clean j records it) in
    let opened = mapped_ok c.put.result c.map_err-2.result tt _ c.map_err-2.ensures.cases c.in_ok-map_err.was in
    let holds = subst (λ (r : Result (Unit {0}) Error). OnOk r (Holds (seen (disk_of c.put.new.disk)) j.at open_word)) opened c.put.ensures.holds in
    let once = subst (λ (r : Result (Unit {0}) Error). OnOk r (GoesAs (ChangesOnce (seen (disk_of mid)) (seen (disk_of c.put.new.disk))) seen mid c.put.new.disk)) opened c.put.ensures.moments in
    goes_two (MayStep j.header) seen j.disk mid c.put.new.disk (goes_behind seen may_leave is_clean j records it j.disk mid refl c.write_round.ensures.behind.moments)
    (gate_goes seen may_leave is_clean j records it new (round_text j.header.key j.at bytes) (one_behind j.header.key j.at bytes new carries some short) mid c.put.new.disk staged c.put.ensures.others holds once)

pub returns-then-not-self-clause-any_moment : goal.returns-then-not-self-clause-any_moment
returns-then-not-self-clause-any_moment g c = λ records new it carries. none (CrashLeaves g.D.Disk.may_leave c.args.note.now (λ f. StandsFor c.args.self.now.header f records ⊎ StandsFor c.args.self.now.header f (records ++ new))) c.args.self.now.disk

pub returns-then-not-self-clause-crash : goal.returns-then-not-self-clause-crash
returns-then-not-self-clause-crash g c = λ records new it carries f left. inl (left_at_rest g.D.Disk.seen g.D.Disk.may_leave g.D.Disk.is_clean c.args.self.now records it f left)

pub returns-then-not-self-clause-header : goal.returns-then-not-self-clause-header
returns-then-not-self-clause-header g c = refl

pub returns-then-not-self-clause-acknowledged : goal.returns-then-not-self-clause-acknowledged
returns-then-not-self-clause-acknowledged g c = tt

pub returns-then-not-self-clause-opens : goal.returns-then-not-self-clause-opens
returns-then-not-self-clause-opens g c = tt

pub returns-then-not-self-clause-room : goal.returns-then-not-self-clause-room
returns-then-not-self-clause-room g c = tt

pub returns-then-not-self-clause-known : goal.returns-then-not-self-clause-known
returns-then-not-self-clause-known g c = tt

pub returns-then-not-self-clause-steps : goal.returns-then-not-self-clause-steps
returns-then-not-self-clause-steps g c = tt

pub returns-then-not-self-clause-usable : goal.returns-then-not-self-clause-usable
returns-then-not-self-clause-usable g c = tt

pub returns-then-not-self-clause-not_open : goal.returns-then-not-self-clause-not_open
returns-then-not-self-clause-not_open g c = λ _. (refl, refl)

pub returns-then-not-self-clause-nothing : goal.returns-then-not-self-clause-nothing
returns-then-not-self-clause-nothing g c = λ ready carries. absurd (false≢true (sym c.if-not-self.true ∙ ready))

pub returns-then-not-self-clause-large : goal.returns-then-not-self-clause-large
returns-then-not-self-clause-large g c = λ is. absurd (closed_not_large is)

pub returns-then-not-self-clause-closes : goal.returns-then-not-self-clause-closes
returns-then-not-self-clause-closes g c = λ other. c.if-not-self.true

pub returns-then-not-self-clause-cause : goal.returns-then-not-self-clause-cause
returns-then-not-self-clause-cause g c = (tt, λ _. c.if-not-self.true)

pub returns-then-not-self-clause-clean : goal.returns-then-not-self-clause-clean
returns-then-not-self-clause-clean g c = refl

pub returns-then-len-eq0-clause-any_moment : goal.returns-then-len-eq0-clause-any_moment
returns-then-len-eq0-clause-any_moment g c = λ records new it carries. none (CrashLeaves g.D.Disk.may_leave c.args.note.now (λ f. StandsFor c.args.self.now.header f records ⊎ StandsFor c.args.self.now.header f (records ++ new))) c.args.self.now.disk

pub returns-then-len-eq0-clause-crash : goal.returns-then-len-eq0-clause-crash
returns-then-len-eq0-clause-crash g c = λ records new it carries f left. inl (left_at_rest g.D.Disk.seen g.D.Disk.may_leave g.D.Disk.is_clean c.args.self.now records it f left)

pub returns-then-len-eq0-clause-header : goal.returns-then-len-eq0-clause-header
returns-then-len-eq0-clause-header g c = refl

pub returns-then-len-eq0-clause-not_open : goal.returns-then-len-eq0-clause-not_open
returns-then-len-eq0-clause-not_open g c = λ closed. absurd (false≢true (sym closed ∙ c.if-not-self.false))

pub returns-then-len-eq0-clause-nothing : goal.returns-then-len-eq0-clause-nothing
returns-then-len-eq0-clause-nothing g c = λ ready carries. (refl, refl)

pub returns-then-len-eq0-clause-large : goal.returns-then-len-eq0-clause-large
returns-then-len-eq0-clause-large g c = λ is. absurd (err_not_ok TooLarge tt (sym is))

pub returns-then-len-eq0-clause-closes : goal.returns-then-len-eq0-clause-closes
returns-then-len-eq0-clause-closes g c = tt

pub returns-then-len-eq0-clause-cause : goal.returns-then-len-eq0-clause-cause
returns-then-len-eq0-clause-cause g c = tt

pub returns-then-len-eq0-clause-opens : goal.returns-then-len-eq0-clause-opens
returns-then-len-eq0-clause-opens g c = refl

pub returns-then-len-eq0-clause-room : goal.returns-then-len-eq0-clause-room
returns-then-len-eq0-clause-room g c = λ records new it carries within. refl

pub returns-then-len-eq0-clause-known : goal.returns-then-len-eq0-clause-known
returns-then-len-eq0-clause-known g c = λ it. it

pub returns-then-len-eq0-clause-steps : goal.returns-then-len-eq0-clause-steps
returns-then-len-eq0-clause-steps g c = λ records new it carries. goes_not (MayStep c.args.self.now.header) g.D.Disk.seen c.args.self.now.disk

pub returns-then-len-eq0-clause-clean : goal.returns-then-len-eq0-clause-clean
returns-then-len-eq0-clause-clean g c = refl

pub returns-then-len-eq0-clause-usable : goal.returns-then-len-eq0-clause-usable
returns-then-len-eq0-clause-usable g c = c.requires.usable

pub returns-then-is_too_large-clause-any_moment : goal.returns-then-is_too_large-clause-any_moment
returns-then-is_too_large-clause-any_moment g c = λ records new it carries. none (CrashLeaves g.D.Disk.may_leave c.args.note.now (λ f. StandsFor c.args.self.now.header f records ⊎ StandsFor c.args.self.now.header f (records ++ new))) c.args.self.now.disk

pub returns-then-is_too_large-clause-crash : goal.returns-then-is_too_large-clause-crash
returns-then-is_too_large-clause-crash g c = λ records new it carries f left. inl (left_at_rest g.D.Disk.seen g.D.Disk.may_leave g.D.Disk.is_clean c.args.self.now records it f left)

pub returns-then-is_too_large-clause-header : goal.returns-then-is_too_large-clause-header
returns-then-is_too_large-clause-header g c = refl

pub returns-then-is_too_large-clause-not_open : goal.returns-then-is_too_large-clause-not_open
returns-then-is_too_large-clause-not_open g c = λ closed. absurd (false≢true (sym closed ∙ c.if-not-self.false))

pub returns-then-is_too_large-clause-nothing : goal.returns-then-is_too_large-clause-nothing
returns-then-is_too_large-clause-nothing g c = λ ready carries. absurd (none_not c.len-len.result (round_bytes c.args.round.now) c.len-len.ensures.bytes c.if-len-eq0.false carries)

pub returns-then-is_too_large-clause-acknowledged : goal.returns-then-is_too_large-clause-acknowledged
returns-then-is_too_large-clause-acknowledged g c = tt

pub returns-then-is_too_large-clause-opens : goal.returns-then-is_too_large-clause-opens
returns-then-is_too_large-clause-opens g c = tt

pub returns-then-is_too_large-clause-room : goal.returns-then-is_too_large-clause-room
returns-then-is_too_large-clause-room g c = tt

pub returns-then-is_too_large-clause-known : goal.returns-then-is_too_large-clause-known
returns-then-is_too_large-clause-known g c = tt

pub returns-then-is_too_large-clause-steps : goal.returns-then-is_too_large-clause-steps
returns-then-is_too_large-clause-steps g c = tt

pub returns-then-is_too_large-clause-usable : goal.returns-then-is_too_large-clause-usable
returns-then-is_too_large-clause-usable g c = tt

pub returns-then-is_too_large-clause-large : goal.returns-then-is_too_large-clause-large
returns-then-is_too_large-clause-large g c = λ _. (refl, λ new carries. omega (arith, ap length carries, c.len-len.ensures.bytes, c.is_too_large.ensures.large c.if-is_too_large.true))

pub returns-then-is_too_large-clause-closes : goal.returns-then-is_too_large-clause-closes
returns-then-is_too_large-clause-closes g c = λ other. absurd (other refl)

pub returns-then-is_too_large-clause-cause : goal.returns-then-is_too_large-clause-cause
returns-then-is_too_large-clause-cause g c = (tt, λ is. absurd (large_not_closed is))

pub returns-then-is_too_large-clause-clean : goal.returns-then-is_too_large-clause-clean
returns-then-is_too_large-clause-clean g c = refl

pub returns-in_err-end-clause-acknowledged : goal.returns-in_err-end-clause-acknowledged
returns-in_err-end-clause-acknowledged g c = IfOk-from_err c.from_residual.result _ c.from_residual.ensures.0

pub returns-in_err-end-clause-opens : goal.returns-in_err-end-clause-opens
returns-in_err-end-clause-opens g c = IfOk-from_err c.from_residual.result _ c.from_residual.ensures.0

pub returns-in_err-end-clause-room : goal.returns-in_err-end-clause-room
returns-in_err-end-clause-room g c = IfOk-from_err c.from_residual.result _ c.from_residual.ensures.0

pub returns-in_err-end-clause-known : goal.returns-in_err-end-clause-known
returns-in_err-end-clause-known g c = IfOk-from_err c.from_residual.result _ c.from_residual.ensures.0

pub returns-in_err-end-clause-steps : goal.returns-in_err-end-clause-steps
returns-in_err-end-clause-steps g c = IfOk-from_err c.from_residual.result _ c.from_residual.ensures.0

pub returns-in_err-end-clause-usable : goal.returns-in_err-end-clause-usable
returns-in_err-end-clause-usable g c = IfOk-from_err c.from_residual.result _ c.from_residual.ensures.0

pub returns-in_err-end-clause-not_open : goal.returns-in_err-end-clause-not_open
returns-in_err-end-clause-not_open g c = λ closed. absurd (false≢true (sym closed ∙ c.if-not-self.false))

pub returns-in_err-end-clause-nothing : goal.returns-in_err-end-clause-nothing
returns-in_err-end-clause-nothing g c = λ ready carries. absurd (none_not c.len-len.result (round_bytes c.args.round.now) c.len-len.ensures.bytes c.if-len-eq0.false carries)

pub returns-in_err-end-clause-closes : goal.returns-in_err-end-clause-closes
returns-in_err-end-clause-closes g c = if_err c.from_residual.result (λ e other. refl)

pub returns-in_err-end-clause-header : goal.returns-in_err-end-clause-header
returns-in_err-end-clause-header g c = refl

pub returns-in_err-end-clause-clean : goal.returns-in_err-end-clause-clean
returns-in_err-end-clause-clean g c = c.write_round.ensures.clean

pub returns-in_err-map_err-clause-acknowledged : goal.returns-in_err-map_err-clause-acknowledged
returns-in_err-map_err-clause-acknowledged g c = IfOk-from_err c.from_residual-in_err-map_err.result _ c.from_residual-in_err-map_err.ensures.0

pub returns-in_err-map_err-clause-opens : goal.returns-in_err-map_err-clause-opens
returns-in_err-map_err-clause-opens g c = IfOk-from_err c.from_residual-in_err-map_err.result _ c.from_residual-in_err-map_err.ensures.0

pub returns-in_err-map_err-clause-room : goal.returns-in_err-map_err-clause-room
returns-in_err-map_err-clause-room g c = IfOk-from_err c.from_residual-in_err-map_err.result _ c.from_residual-in_err-map_err.ensures.0

pub returns-in_err-map_err-clause-known : goal.returns-in_err-map_err-clause-known
returns-in_err-map_err-clause-known g c = IfOk-from_err c.from_residual-in_err-map_err.result _ c.from_residual-in_err-map_err.ensures.0

pub returns-in_err-map_err-clause-steps : goal.returns-in_err-map_err-clause-steps
returns-in_err-map_err-clause-steps g c = IfOk-from_err c.from_residual-in_err-map_err.result _ c.from_residual-in_err-map_err.ensures.0

pub returns-in_err-map_err-clause-usable : goal.returns-in_err-map_err-clause-usable
returns-in_err-map_err-clause-usable g c = IfOk-from_err c.from_residual-in_err-map_err.result _ c.from_residual-in_err-map_err.ensures.0

pub returns-in_err-map_err-clause-not_open : goal.returns-in_err-map_err-clause-not_open
returns-in_err-map_err-clause-not_open g c = λ closed. absurd (false≢true (sym closed ∙ c.if-not-self.false))

pub returns-in_err-map_err-clause-nothing : goal.returns-in_err-map_err-clause-nothing
returns-in_err-map_err-clause-nothing g c = λ ready carries. absurd (none_not c.len-len.result (round_bytes c.args.round.now) c.len-len.ensures.bytes c.if-len-eq0.false carries)

pub returns-in_err-map_err-clause-closes : goal.returns-in_err-map_err-clause-closes
returns-in_err-map_err-clause-closes g c = if_err c.from_residual-in_err-map_err.result (λ e other. refl)

pub returns-in_err-map_err-clause-header : goal.returns-in_err-map_err-clause-header
returns-in_err-map_err-clause-header g c = refl

pub returns-in_err-map_err-clause-clean : goal.returns-in_err-map_err-clause-clean
returns-in_err-map_err-clause-clean g c = c.put.ensures.clean ∙ c.write_round.ensures.clean

pub returns-clause-not_open : goal.returns-clause-not_open
returns-clause-not_open g c = λ closed. absurd (false≢true (sym closed ∙ c.if-not-self.false))

pub returns-clause-nothing : goal.returns-clause-nothing
returns-clause-nothing g c = λ ready carries. absurd (none_not c.len-len.result (round_bytes c.args.round.now) c.len-len.ensures.bytes c.if-len-eq0.false carries)

pub returns-clause-large : goal.returns-clause-large
returns-clause-large g c = λ is. absurd (err_not_ok TooLarge tt (sym is))

pub returns-clause-opens : goal.returns-clause-opens
returns-clause-opens g c = sym c.if-not-self.false

pub returns-clause-closes : goal.returns-clause-closes
returns-clause-closes g c = tt

pub returns-clause-cause : goal.returns-clause-cause
returns-clause-cause g c = tt

pub returns-clause-header : goal.returns-clause-header
returns-clause-header g c = refl

pub returns-clause-clean : goal.returns-clause-clean
returns-clause-clean g c = c.put.ensures.clean ∙ c.write_round.ensures.clean

pub returns-clause-known : goal.returns-clause-known
returns-clause-known g c = λ some.
    let Known : Option ℕ → Type 0 = λ o. is_some o ≡ true in
    let known : Known c.match-self.self = elim c.match-self.branch [
      | in-Some w ↦ subst Known (sym w.self-is) refl
      | in-None w ↦ absurd (false≢true (sym (ap is_some w.in-None.is) ∙ some))
    ] in
    known

pub returns-clause-room : goal.returns-clause-room
returns-clause-room g c = λ records new it carries within.
    let seen = g.D.Disk.seen in
    let may_leave = g.D.Disk.may_leave in
    let is_clean = g.D.Disk.is_clean in
    let j = c.args.self.now in
    let mid = c.write_round.new.disk in
    let bytes = round_bytes c.args.round.now in
    let front = to_gate seen may_leave is_clean j records it in
    let front_len : length front ≡ j.at + 8 = at_behind seen may_leave is_clean j records it in
    let some = some_of c.len-len.result (length bytes) c.len-len.ensures.bytes c.if-len-eq0.false in
    let short = short_of j.at c.len-len.result (length bytes) c.len-len.ensures.bytes (c.is_too_large.ensures.fits c.if-is_too_large.false) in
    let written = mapped_ok c.write_round.result c.map_err.result c.in_ok-end.end _ c.map_err.ensures.cases c.in_ok-end.was in
    let staged = subst (λ (r : Result ℕ Error). OnOk r ((front : List ℕ) → length front ≡ j.at + 8 → BeginsWith front (seen (disk_of j.disk)) → BeginsWith (front ++ (round_text j.header.key j.at bytes ++ shut_word)) (seen (disk_of mid)))) written c.write_round.ensures.writes
    front front_len (begun seen may_leave is_clean j records it) in
    let len = subst (λ (r : Result ℕ Error). OnOk r (length (seen (disk_of mid)) ≡ max (length (seen (disk_of j.disk))) (j.at + (32 + length bytes)))) written c.write_round.ensures.len in
    let same_len = gate_len seen may_leave is_clean j records it new (round_text j.header.key j.at bytes) (one_behind j.header.key j.at bytes new carries some short) (seen (disk_of mid)) (seen (disk_of c.put.new.disk)) staged c.put.ensures.others in
    same_len ∙ omega (arith, len, within, ap length carries)

pub returns-clause-usable : goal.returns-clause-usable
returns-clause-usable g c =
    let opened = mapped_ok c.put.result c.map_err-2.result tt _ c.map_err-2.ensures.cases c.in_ok-map_err.was in
    subst (λ (r : Result (Unit {0}) Error). OnOk r (IsTrue (g.D.Disk.is_usable (disk_of c.put.new.disk)))) opened c.put.ensures.usable
