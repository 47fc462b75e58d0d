use Rattle.std.proofs.Common.{rules, None, List, ℕ, inl, inr, ◌≡◌, ◌≢◌, ◌<◌, length, take, slice_index, refl, sym, ◌∙◌, ap, subst, arith}
use Rattle.std.proofs.lemmas.Result.{IfOk-from_err, err_from_is_err_and}
use Rattle.journal_core.proofs.Causes.{cause_of}
use Rattle.journal_core.proofs.Exits.{at_exit, exit_not_ok, some_not_none}
use Rattle.std.proofs.lemmas.List.{get_or-take, length-take-le}
use Rattle.journal_core.proofs.Headers.{header_len, refused_no_header}
use Rattle.journal_core.proofs.Opening.{front_is, has_begun, no_header_of, not_new}
use Rattle.journal_core.proofs.reader.Reader.begin.Goals as goal

pub returns-in_err-header-clause-refused : goal.returns-in_err-header-clause-refused
returns-in_err-header-clause-refused g c =
    let p = err_from_is_err_and c.from_residual-in_err-header.result c.from_residual-in_err-header.ensures.1 in
    rw (p.1, p.2) (λ refusal file it honest.
    let n = c.in_ok-count.count in
    let buf = c.fill.new.buf in
    let long : length buf ≡ 56 = search rules in
    let bound = c.in_ok-count.ensures.bound in
    let read = c.in_ok-count.ensures.fills file 0 it in
    let front = front_is file buf n bound (omega (arith, long, bound)) (read.1 honest) (λ few. omega (arith, c.in_ok-count.ensures.ends file 0 it honest few)) in
    let none = no_header_of c.in_err-header.field-0.0 (take n buf) file front refusal (c.in_err-header.ensures.refused refusal) in
    let many : 1 < n = search rules in
    let other : slice_index (take n buf) 0 ≢ 0 = λ zero. c.if-front-eq0.false (sym (get_or-take n buf 0 0 (omega (arith, many))) ∙ zero) in
    (not_new (take n buf) file front (omega (arith, many, length-take-le n buf bound)) other, refused_no_header c.in_err-header.field-0.0 file refusal none, none))

pub returns-clause-begins : goal.returns-clause-begins
returns-clause-begins g c = λ file it.
    let n = c.in_ok-count.count in
    let buf = c.fill.new.buf in
    let long : length buf ≡ 56 = search rules in
    let bound = c.in_ok-count.ensures.bound in
    let read = c.in_ok-count.ensures.fills file 0 it in
    let header = c.in_ok-header.ensures.reads in
    let whole : n ≡ 56 = omega (arith, length-take-le n buf bound, ap length header.1.2, header_len c.in_ok-header.header) in
    let many : 1 < n = search rules in
    let other : slice_index (take n buf) 0 ≢ 0 = λ zero. c.if-front-eq0.false (sym (get_or-take n buf 0 0 (omega (arith, many))) ∙ zero) in (
      (λ honest.
          let front = front_is file buf n bound (omega (arith, long, bound)) (read.1 honest) (λ few. omega (arith, c.in_ok-count.ensures.ends file 0 it honest few)) in
          not_new (take n buf) file front (omega (arith, many, length-take-le n buf bound)) other),
      (
        subst (λ k. g.S.Source.is_at c.fill.new.source file k) (omega (arith, whole)) read.0,
        λ honest.
            let front = front_is file buf n bound (omega (arith, long, bound)) (read.1 honest) (λ few. omega (arith, c.in_ok-count.ensures.ends file 0 it honest few)) in
            has_begun _ header.1.0 (take n buf) file front header.1.1 header.0 header.1.2 refl c.new.ensures.items refl refl,
      ),
    )

pub returns-in_err-count-clause-new : goal.returns-in_err-count-clause-new
returns-in_err-count-clause-new g c = λ is. absurd (exit_not_ok c.from_residual.result None c.from_residual.ensures.0 is)

pub returns-in_err-count-clause-begins : goal.returns-in_err-count-clause-begins
returns-in_err-count-clause-begins g c = IfOk-from_err c.from_residual.result _ c.from_residual.ensures.0

pub returns-in_err-count-clause-refused : goal.returns-in_err-count-clause-refused
returns-in_err-count-clause-refused g c = at_exit c.from_residual.result _ c.in_err-count.field-0.0 c.from_residual.ensures.1 (λ refusal. absurd (c.in_err-count.ensures.cause.0 refusal))

pub returns-in_err-count-clause-small : goal.returns-in_err-count-clause-small
returns-in_err-count-clause-small g c = at_exit c.from_residual.result _ c.in_err-count.field-0.0 c.from_residual.ensures.1 c.in_err-count.ensures.cause.1

pub returns-in_err-count-clause-cause : goal.returns-in_err-count-clause-cause
returns-in_err-count-clause-cause g c = at_exit c.from_residual.result _ c.in_err-count.field-0.0 c.from_residual.ensures.1 (λ file it. c.in_err-count.ensures.cause.2 file 0 it)

pub returns-in_err-count-clause-honest : goal.returns-in_err-count-clause-honest
returns-in_err-count-clause-honest g c = c.fill.ensures.honest

pub returns-in_err-count-clause-looks : goal.returns-in_err-count-clause-looks
returns-in_err-count-clause-looks g c = c.fill.ensures.looks

pub returns-in_err-count-clause-usable : goal.returns-in_err-count-clause-usable
returns-in_err-count-clause-usable g c = c.fill.ensures.usable

pub returns-in_err-header-clause-new : goal.returns-in_err-header-clause-new
returns-in_err-header-clause-new g c = λ is. absurd (exit_not_ok c.from_residual-in_err-header.result None c.from_residual-in_err-header.ensures.0 is)

pub returns-in_err-header-clause-begins : goal.returns-in_err-header-clause-begins
returns-in_err-header-clause-begins g c = IfOk-from_err c.from_residual-in_err-header.result _ c.from_residual-in_err-header.ensures.0

pub returns-in_err-header-clause-small : goal.returns-in_err-header-clause-small
returns-in_err-header-clause-small g c = at_exit c.from_residual-in_err-header.result _ c.in_err-header.field-0.0 c.from_residual-in_err-header.ensures.1 c.in_err-header.ensures.cause.1

pub returns-in_err-header-clause-cause : goal.returns-in_err-header-clause-cause
returns-in_err-header-clause-cause g c = at_exit c.from_residual-in_err-header.result _ c.in_err-header.field-0.0 c.from_residual-in_err-header.ensures.1 (λ file it. cause_of ⊥ _ c.in_err-header.field-0.0 (λ none. absurd none) c.in_err-header.ensures.cause.0)

pub returns-in_err-header-clause-honest : goal.returns-in_err-header-clause-honest
returns-in_err-header-clause-honest g c = c.fill.ensures.honest

pub returns-in_err-header-clause-looks : goal.returns-in_err-header-clause-looks
returns-in_err-header-clause-looks g c = c.fill.ensures.looks

pub returns-in_err-header-clause-usable : goal.returns-in_err-header-clause-usable
returns-in_err-header-clause-usable g c = c.fill.ensures.usable

pub returns-clause-new : goal.returns-clause-new
returns-clause-new g c = λ is. absurd (some_not_none _ is)

pub returns-clause-refused : goal.returns-clause-refused
returns-clause-refused g c = tt

pub returns-clause-small : goal.returns-clause-small
returns-clause-small g c = tt

pub returns-clause-cause : goal.returns-clause-cause
returns-clause-cause g c = tt

pub returns-clause-honest : goal.returns-clause-honest
returns-clause-honest g c = c.fill.ensures.honest

pub returns-clause-looks : goal.returns-clause-looks
returns-clause-looks g c = c.fill.ensures.looks

pub returns-clause-usable : goal.returns-clause-usable
returns-clause-usable g c = c.fill.ensures.usable

pub returns-then-count-le1-clause-new : goal.returns-then-count-le1-clause-new
returns-then-count-le1-clause-new g c = λ _ file it honest.
    let few : c.in_ok-count.count < 56 = omega (arith, c.if-count-le1.true) in
    inl (omega (arith, c.in_ok-count.ensures.ends file 0 it honest few, c.if-count-le1.true))

pub returns-then-count-le1-clause-begins : goal.returns-then-count-le1-clause-begins
returns-then-count-le1-clause-begins g c = tt

pub returns-then-count-le1-clause-refused : goal.returns-then-count-le1-clause-refused
returns-then-count-le1-clause-refused g c = tt

pub returns-then-count-le1-clause-small : goal.returns-then-count-le1-clause-small
returns-then-count-le1-clause-small g c = tt

pub returns-then-count-le1-clause-cause : goal.returns-then-count-le1-clause-cause
returns-then-count-le1-clause-cause g c = tt

pub returns-then-count-le1-clause-honest : goal.returns-then-count-le1-clause-honest
returns-then-count-le1-clause-honest g c = c.fill.ensures.honest

pub returns-then-count-le1-clause-looks : goal.returns-then-count-le1-clause-looks
returns-then-count-le1-clause-looks g c = c.fill.ensures.looks

pub returns-then-count-le1-clause-usable : goal.returns-then-count-le1-clause-usable
returns-then-count-le1-clause-usable g c = c.fill.ensures.usable

pub returns-in_err-begin_zero-clause-new : goal.returns-in_err-begin_zero-clause-new
returns-in_err-begin_zero-clause-new g c = λ is. absurd (exit_not_ok c.from_residual-in_err-begin_zero.result None c.from_residual-in_err-begin_zero.ensures.0 is)

pub returns-in_err-begin_zero-clause-begins : goal.returns-in_err-begin_zero-clause-begins
returns-in_err-begin_zero-clause-begins g c = IfOk-from_err c.from_residual-in_err-begin_zero.result _ c.from_residual-in_err-begin_zero.ensures.0

pub returns-in_err-begin_zero-clause-small : goal.returns-in_err-begin_zero-clause-small
returns-in_err-begin_zero-clause-small g c = at_exit c.from_residual-in_err-begin_zero.result _ c.in_err-begin_zero.field-0.0 c.from_residual-in_err-begin_zero.ensures.1 c.in_err-begin_zero.ensures.cause.0

pub returns-in_err-begin_zero-clause-cause : goal.returns-in_err-begin_zero-clause-cause
returns-in_err-begin_zero-clause-cause g c = at_exit c.from_residual-in_err-begin_zero.result _ c.in_err-begin_zero.field-0.0 c.from_residual-in_err-begin_zero.ensures.1 (λ file it.
    cause_of _ _ c.in_err-begin_zero.field-0.0 (g.met.S.Source.fails_later c.args.note.now c.args.source.now c.fill.new.source c.begin_zero.new.source c.fill.ensures.looks) (c.in_err-begin_zero.ensures.cause.1 file _ (c.in_ok-count.ensures.fills file 0 it).0))

pub returns-in_err-begin_zero-clause-honest : goal.returns-in_err-begin_zero-clause-honest
returns-in_err-begin_zero-clause-honest g c = λ honest. c.fill.ensures.honest (c.begin_zero.ensures.honest honest)

pub returns-in_err-begin_zero-clause-looks : goal.returns-in_err-begin_zero-clause-looks
returns-in_err-begin_zero-clause-looks g c = g.met.S.Source.looks_on c.args.note.now c.args.source.now c.fill.new.source c.begin_zero.new.source c.fill.ensures.looks c.begin_zero.ensures.looks

pub returns-in_err-begin_zero-clause-usable : goal.returns-in_err-begin_zero-clause-usable
returns-in_err-begin_zero-clause-usable g c = c.begin_zero.ensures.usable

pub returns-then-front-eq0-clause-new : goal.returns-then-front-eq0-clause-new
returns-then-front-eq0-clause-new g c = λ _ file it later.
    let n = c.in_ok-count.count in
    let buf = c.fill.new.buf in
    let long : length buf ≡ 56 = search rules in
    let honest = c.begin_zero.ensures.honest later in
    let read = c.in_ok-count.ensures.fills file 0 it in
    let many : 0 < n = omega (arith, c.if-count-le1.false) in
    let here : g.S.Source.is_at c.fill.new.source file n = subst (λ k. g.S.Source.is_at c.fill.new.source file k) (omega arith) read.0 in
    let short = c.in_ok-begin_zero.ensures.new file here later (λ few. omega (arith, c.in_ok-count.ensures.ends file 0 it honest few)) (omega (arith, long, c.in_ok-count.ensures.bound)) in
    inr (sym (get_or-take n file 0 0 many) ∙ ap (λ (l : List ℕ). slice_index l 0) (sym (read.1 honest)) ∙ get_or-take n buf 0 0 many ∙ c.if-front-eq0.true, short)

pub returns-then-front-eq0-clause-begins : goal.returns-then-front-eq0-clause-begins
returns-then-front-eq0-clause-begins g c = tt

pub returns-then-front-eq0-clause-refused : goal.returns-then-front-eq0-clause-refused
returns-then-front-eq0-clause-refused g c = tt

pub returns-then-front-eq0-clause-small : goal.returns-then-front-eq0-clause-small
returns-then-front-eq0-clause-small g c = tt

pub returns-then-front-eq0-clause-cause : goal.returns-then-front-eq0-clause-cause
returns-then-front-eq0-clause-cause g c = tt

pub returns-then-front-eq0-clause-honest : goal.returns-then-front-eq0-clause-honest
returns-then-front-eq0-clause-honest g c = λ honest. c.fill.ensures.honest (c.begin_zero.ensures.honest honest)

pub returns-then-front-eq0-clause-looks : goal.returns-then-front-eq0-clause-looks
returns-then-front-eq0-clause-looks g c = g.met.S.Source.looks_on c.args.note.now c.args.source.now c.fill.new.source c.begin_zero.new.source c.fill.ensures.looks c.begin_zero.ensures.looks

pub returns-then-front-eq0-clause-usable : goal.returns-then-front-eq0-clause-usable
returns-then-front-eq0-clause-usable g c = c.begin_zero.ensures.usable
