use Rattle.std.proofs.Common.{Some, None, refl, sym, ◌∙◌, inl, inr, take-append-drop, drop, ◌∷◌, [], arith}
use Rattle.std.proofs.lemmas.Bool.Decides.{nat_tests}
use Rattle.std.proofs.lemmas.Bool.Decides.{Decides-eqb}
use Rattle.std.proofs.lemmas.Result.{err_from_is_err_and}
use Rattle.std.proofs.lemmas.Slice.Eq.{strip_prefix_is, starts_is}
use Rattle.dav_path_core.proofs.paths.PrefixLemmas.{mismatch, whole_is, set_cut, begins_cut, utf8_cut, set_whole, set_front, utf8_whole, utf8_front}
use Rattle.dav_path_core.proofs.paths.ReadableLemmas.{readable-behind}
use Rattle.dav_path_core.proofs.davpath.DavPath.set_prefix.Goals as goal
use Rattle.dav_path_core.proofs.davpath.DavPath.set_prefix.Goals.{then-is_empty+in_ok-push, else-is_empty+else-not-starts_with}

pub returns-in_default-clause-err : goal.returns-in_default-clause-err
returns-in_default-clause-err c =
    let never = strip_prefix_is Decides-eqb c.deref.result.now c.as_bytes-prefix.result.now None c.in_default.ensures.cases in
    inr (refl, rw (← c.self.view_is, take-append-drop) (mismatch _ _ (rw (c.deref.ensures.value, c.as_bytes-prefix.ensures.value) at never)))

pub invariant_of-self : goal.invariant_of-self
invariant_of-self c =
    let f = strip_prefix_is Decides-eqb c.deref.result.now c.as_bytes-prefix.result.now (Some c.in-Some.rest) c.in-Some.ensures.cases in
    utf8_cut _ c.as_bytes-prefix.result.now _ (sym c.deref.ensures.value ∙ f) (sym c.ends_with.ensures.value ∙ c.if-ends_with.true) c.as_bytes-prefix.ensures.utf8

pub returns-then-ends_with-clause-ok : goal.returns-then-ends_with-clause-ok
returns-then-ends_with-clause-ok c =
    let f = strip_prefix_is Decides-eqb c.deref.result.now c.as_bytes-prefix.result.now (Some c.in-Some.rest) c.in-Some.ensures.cases in
    rw (← c.self.view_is, take-append-drop, ← c.as_bytes-prefix.ensures.value) (set_cut _ c.as_bytes-prefix.result.now _ (sym c.deref.ensures.value ∙ f) (sym c.ends_with.ensures.value ∙ c.if-ends_with.true))

pub returns-then-ends_with-clause-begins : goal.returns-then-ends_with-clause-begins
returns-then-ends_with-clause-begins c =
    let f = strip_prefix_is Decides-eqb c.deref.result.now c.as_bytes-prefix.result.now (Some c.in-Some.rest) c.in-Some.ensures.cases in
    begins_cut _ c.as_bytes-prefix.result.now _ (sym c.deref.ensures.value ∙ f) (sym c.ends_with.ensures.value ∙ c.if-ends_with.true)

pub returns-then-ends_with-clause-readable : goal.returns-then-ends_with-clause-readable
returns-then-ends_with-clause-readable c = readable-behind _ _ _ _ _ (returns-then-ends_with-clause-ok c) refl

pub invariant_of-self-2 : goal.invariant_of-self-2
invariant_of-self-2 c =
    let f = strip_prefix_is Decides-eqb c.deref.result.now c.as_bytes-prefix.result.now (Some c.in-Some.rest) c.in-Some.ensures.cases in
    elim c.if-is_empty.branch [
      | then-is_empty+in_ok-push w ↦ rw w.self-inside-is (utf8_whole _ _ c.as_bytes-prefix.result.now _ (sym c.deref.ensures.value ∙ f) w.in_ok-push.ensures.items c.as_bytes-prefix.ensures.utf8)
      | else-is_empty+else-not-starts_with w ↦ rw w.self-inside-is (utf8_front _ c.as_bytes-prefix.result.now _ (sym c.deref.ensures.value ∙ f) c.as_bytes-prefix.ensures.utf8)
    ]

pub returns-clause-ok : goal.returns-clause-ok
returns-clause-ok c =
    let f = strip_prefix_is Decides-eqb c.deref.result.now c.as_bytes-prefix.result.now (Some c.in-Some.rest) c.in-Some.ensures.cases in
    elim c.if-is_empty.branch [
      | then-is_empty+in_ok-push w ↦ rw (w.self-inside-is, ← c.self.view_is, take-append-drop, ← c.as_bytes-prefix.ensures.value)
          (set_whole _ _ c.as_bytes-prefix.result.now _ (sym c.deref.ensures.value ∙ f) (grind (arith, nat_tests)) (sym c.ends_with.ensures.value ∙ c.if-ends_with.false) w.in_ok-push.ensures.items)
      | else-is_empty+else-not-starts_with w ↦ rw (w.self-inside-is, ← c.self.view_is, take-append-drop, ← c.as_bytes-prefix.ensures.value)
          (set_front _ c.as_bytes-prefix.result.now _ (sym c.deref.ensures.value ∙ f) (drop 1 c.in-Some.rest.now, (starts_is Decides-eqb c.in-Some.rest.now (47 ∷ []) w.starts_with.result w.starts_with.ensures.value).0 w.if-not-starts_with.false) (sym c.ends_with.ensures.value ∙ c.if-ends_with.false))
    ]

pub returns-clause-readable : goal.returns-clause-readable
returns-clause-readable c = readable-behind _ _ _ _ _ (returns-clause-ok c) refl

pub returns-in_err-push-clause-err : goal.returns-in_err-push-clause-err
returns-in_err-push-clause-err c =
    let f = strip_prefix_is Decides-eqb c.deref.result.now c.as_bytes-prefix.result.now (Some c.in-Some.rest) c.in-Some.ensures.cases in
    let p = err_from_is_err_and c.from_residual.result c.from_residual.ensures.1 in
    rw (p.1, p.2) (inl (
      refl,
      record {
        is_whole = rw (← c.self.view_is, take-append-drop, ← c.as_bytes-prefix.ensures.value) (whole_is _ _ _ (sym c.deref.ensures.value ∙ f) (grind (arith, nat_tests)));
        no_slash = rw (← c.as_bytes-prefix.ensures.value) (sym c.ends_with.ensures.value ∙ c.if-ends_with.false);
      },
    ))
