use Rattle.std.proofs.Common.{rules, ◌≡◌, ◌++◌, ◌∷◌, [], Bool, IsTrue, refl, ◌-◌, ◌<◌, ◌≤◌, ℕ, List, length, take, drop, sym, ◌∙◌, ap, arith}
use Rattle.std.proofs.lemmas.Option.{IfSome_then}
use Rattle.std.proofs.lemmas.List.{take_at}
use Rattle.journal_core.specs.declared.journal.Journal.{Journal}
use Rattle.journal_core.specs.Clocked.{past_of, SeesSame}
use Rattle.journal_core.specs.Resting.{clocked_of, disk_behind}
use Rattle.journal_core.specs.Private.DiskMoments.{goes_call, one_call}
use Rattle.journal_core.specs.Private.Looks.{LooksOn}
use Rattle.journal_core.specs.Private.LookLaws.{looks_on}
use Rattle.journal_core.proofs.Causes.{some_at}
use Rattle.journal_core.proofs.Pieces.{holds_take}
use Rattle.journal_core.proofs.journal.JournalSource.fill.Goals as goal

-- one call that changes nothing, and the journal knows what it knew
look_call : {D B : Type 0} (seen : D → List ℕ) (may_leave : D → List ℕ → Type 0) (is_clean : D → Bool) (faults : D → ℕ) (note : B) (m n : Journal D B)
    → past_of n.disk ≡ past_of m.disk ++ (disk_behind m, note) ∷ (disk_behind n, note) ∷ [] → seen (disk_behind n) ≡ seen (disk_behind m)
    → ((f : List ℕ) → may_leave (disk_behind n) f → may_leave (disk_behind m) f) → (IsTrue (is_clean (disk_behind n)) → IsTrue (is_clean (disk_behind m))) → faults (disk_behind m) ≤ faults (disk_behind n)
    → n.len ≡ m.len → n.is_open ≡ m.is_open → LooksOn seen may_leave is_clean faults note m n
look_call seen may_leave is_clean faults note m n noted same crash clean grow len opens = record {
  same = same;
  crash = crash;
  any_moment = one_call may_leave note (may_leave (disk_behind m)) (clocked_of m) (clocked_of n) noted (λ f left. left) crash;
  moments = goes_call SeesSame seen note (clocked_of m) (clocked_of n) noted refl same;
  clean = clean;
  faults_grow = grow;
  opens = opens;
  knows = λ it. rw len (IfSome_then m.len it (λ k f now. f (clean now) ∙ ap length (sym same)));
}

pub returns-in_err-read_at-clause-looks : goal.returns-in_err-read_at-clause-looks
returns-in_err-read_at-clause-looks g c =
    let seen = g.D.Disk.seen in
    let there = c.in_err-read_at.ensures in
    looks_on seen g.D.Disk.may_leave g.D.Disk.is_clean g.D.Disk.faults c.args.note.now c.args.self.now c.measure.new.self _ c.in_ok-len.ensures.looks
    (look_call seen g.D.Disk.may_leave g.D.Disk.is_clean g.D.Disk.faults c.args.note.now c.measure.new.self _ there.noted there.seen there.crash there.clean (search rules) refl refl)

pub returns-clause-looks : goal.returns-clause-looks
returns-clause-looks g c =
    let seen = g.D.Disk.seen in
    let there = c.in_ok-read_at.ensures in
    looks_on seen g.D.Disk.may_leave g.D.Disk.is_clean g.D.Disk.faults c.args.note.now c.args.self.now c.measure.new.self _ c.in_ok-len.ensures.looks
    (look_call seen g.D.Disk.may_leave g.D.Disk.is_clean g.D.Disk.faults c.args.note.now c.measure.new.self _ there.noted there.seen there.crash there.clean (search rules) refl refl)

pub returns-then-count-eq0-clause-ends : goal.returns-then-count-eq0-clause-ends
returns-then-count-eq0-clause-ends g c = λ file at it clean some.
    let m = c.measure.new.self in
    let looks = c.in_ok-len.ensures.looks in
    let len = c.in_ok-len.len in
    let whole : len ≡ length file = some_at _ m.len len (looks.knows it.3) c.in_ok-len.ensures.len clean ∙ ap length (looks.same ∙ it.0) in
    let within : at ≤ length file = it.2 (looks.clean clean) in
    let here : m.at ≡ at = c.in_ok-len.ensures.same.at ∙ it.1 in
    let none : len - m.at ≤ 0 = omega (arith, some) in
    omega (arith, whole, within, here, none)

pub returns-clause-fills : goal.returns-clause-fills
returns-clause-fills g c = λ file at it.
    let m = c.measure.new.self in
    let n = c.min-count.result in
    let looks = c.in_ok-len.ensures.looks in
    let len = c.in_ok-len.len in
    let knows = looks.knows it.3 in
    let there = c.in_ok-read_at.ensures in
    let seen_is = there.seen ∙ looks.same ∙ it.0 in
    let here : m.at ≡ at = c.in_ok-len.ensures.same.at ∙ it.1 in
    let small : n ≤ len - m.at = search rules in
    let some : 0 < n = search rules in
    let long : length c.read_at.new.buf ≡ n = search rules in (
      (
        seen_is,
        omega (arith, here),
        (λ clean.
            let whole : len ≡ length file = some_at _ m.len len knows c.in_ok-len.ensures.len (there.clean clean) ∙ ap length (looks.same ∙ it.0) in
            omega (arith, whole, here, small, some)),
        IfSome_then m.len knows (λ k f clean. f (there.clean clean) ∙ ap length (sym there.seen)),
      ),
      λ clean.
          let filled : 0 < length (take n c.args.buf.now) = search rules in
          let holds = there.read clean filled in
          take_at c.read_at.new.buf (drop n c.args.buf.now) n long ∙ holds_take _ _ c.read_at.new.buf holds ∙ ap (λ (l : List ℕ). take (length c.read_at.new.buf) (drop m.at l)) (looks.same ∙ it.0) ∙ ap (λ k. take k (drop m.at file)) long ∙ ap (λ k. take n (drop k file)) here,
    )
