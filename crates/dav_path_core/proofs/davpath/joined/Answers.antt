use Rattle.std.proofs.Common.{◌≡◌, ◌++◌, ap, ◌∙◌, inl, inr, rules, arith}
use Rattle.std.proofs.lemmas.Bool.Decides.{nat_tests}
use Rattle.dav_path_core.specs.Segments.{segments}
use Rattle.dav_path_core.specs.Private.Keeping.{behind_slashes}
use Rattle.dav_path_core.proofs.paths.JoinedLemmas.{slashed-both, joined-closed, joined-open}
use Rattle.dav_path_core.proofs.davpath.joined.Goals as goal
use Rattle.dav_path_core.proofs.davpath.joined.Goals.{then-slash+in_ok-push, then-slash-via-then-slash, then-slash-via-else-slash+then-len-prefix, else-slash+else-len-prefix}

pub returns : goal.returns
returns c =
    let prefix = c.args.prefix.now in
    let names = segments c.args.front ++ segments c.args.back in
    let path = c.push_segments-2.new.path.items in
    let copied : c.in_ok-path.path.items ≡ prefix = search rules in
    let half : c.push_segments.new.path.items ≡ prefix ++ behind_slashes (segments c.args.front) =
    c.in_ok-push_segments.ensures ∙ ap (λ l. l ++ behind_slashes (segments c.args.front)) copied in
    let body : path ≡ prefix ++ behind_slashes names = slashed-both prefix _ path (segments c.args.front) (segments c.args.back) half c.in_ok-push_segments-2.ensures in
    elim c.if-slash.branch [
      | then-slash+in_ok-push w ↦ ap (λ v. v.items) w.path-is ∙ joined-closed prefix path _ names c.args.slash body w.in_ok-push.ensures.items
          (elim w.then-slash.branch [
            | then-slash-via-then-slash v ↦ inl v.if-slash.true
            | then-slash-via-else-slash+then-len-prefix v ↦ inr (grind (arith, nat_tests))
          ])
      | else-slash+else-len-prefix w ↦ ap (λ v. v.items) w.path-is ∙ joined-open prefix path names c.args.slash body w.if-slash.false (grind (arith, nat_tests))
    ]
