use Rattle.std.proofs.Common.{◌≡◌, ◌++◌, Some, drop, take, sym, ap, ◌∙◌}
use Rattle.std.specs.Prelude.{option_map}
use Rattle.dav_path_core.specs.Segments.{segments}
use Rattle.dav_path_core.specs.Fronts.{behind}
use Rattle.dav_path_core.specs.PathReading.{path_of, ends_in_slash}
use Rattle.dav_path_core.proofs.paths.JoinedLemmas.{behind-joined}
use Rattle.dav_path_core.proofs.paths.ReadableLemmas.{segments-rebased, readable-rebased}
use Rattle.dav_path_core.proofs.davpath.DavPath.rebased.Goals as goal

after : (c : goal.In_ok-fullpath) → behind (segments c.args.from) (segments c.args.self.now.bytes) ≡ Some (segments c.in-Some.rest)
after c =
    sym (c.in-Some.ensures ∙ ap (λ p. behind (segments p) (segments c.segments.result)) c.segments-2.ensures.value ∙ ap (λ p. behind (segments c.args.from) (segments p)) c.segments.ensures.value)

built : (c : goal.In_ok-fullpath) → drop c.self.inside.prefix_length c.in_ok-fullpath.fullpath.items ≡ path_of (segments c.args.to ++ segments c.in-Some.rest) (ends_in_slash c.args.self.now.bytes)
built c =
    let n = c.self.inside.prefix_length in
    let rest = segments c.in-Some.rest in
    behind-joined c.self.inside.fullpath.items _ _ n c.self.invariant.0
    (c.in_ok-fullpath.ensures ∙ ap (λ w. take n w ++ path_of (segments c.segments-3.result ++ rest) c.is_collection.result) c.deref.ensures.value)
    ∙ ap (λ p. path_of (segments p ++ rest) c.is_collection.result) c.segments-3.ensures.value
    ∙ ap (λ b. path_of (segments c.args.to ++ rest) b) c.is_collection.ensures

named : (c : goal.In_ok-fullpath) → segments (drop c.self.inside.prefix_length c.in_ok-fullpath.fullpath.items) ≡ segments c.args.to ++ segments c.in-Some.rest
named c = segments-rebased c.args.from c.args.to c.args.self.now.bytes _ _ _ (after c) (built c)

pub returns-clause-ok : goal.returns-clause-ok
returns-clause-ok c = ap (λ p. Some p) (named c) ∙ sym (ap (option_map (λ rest. segments c.args.to ++ rest)) (after c))

pub returns-clause-bytes : goal.returns-clause-bytes
returns-clause-bytes c = built c ∙ ap (λ names. path_of names (ends_in_slash c.args.self.now.bytes)) (sym (named c))

pub returns-clause-readable : goal.returns-clause-readable
returns-clause-readable c = readable-rebased c.args.from c.args.to c.args.self.now.bytes _ _ _ (after c) (built c)
