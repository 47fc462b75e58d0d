use Rattle.std.proofs.Common.{◌≡◌, sym, ap, ◌∙◌}
use Rattle.std.specs.FinMap.{get}
use Rattle.std.specs.Ordering.{is_eq}
use Rattle.std.specs.Map.{lookup}
use Rattle.dav_files_core.specs.Properties.{key_of, property_of}
use Rattle.dav_files_core.specs.Private.PropertyMaps.{properties_of}
use Rattle.dav_files_core.specs.Resources.{key_cmp}
use Rattle.dav_files_core.proofs.properties.PropertyMapLemmas.{walk_on, walk_ends, walk_finds}
use Rattle.dav_files_core.proofs.memfs.properties.walked_to.Goals as goal

pub loop-key-init : goal.loop-key-init
loop-key-init c = ap (lookup (λ k. is_eq (key_cmp (c.namespace_of-namespace.result.now, c.as_bytes-name.result.now) k))) (cc)

pub loop-key-preserved : goal.loop-key-preserved
loop-key-preserved c =
    c.loop-key.invariant ∙ walk_on (c.namespace_of-namespace.result.now, c.as_bytes-name.result.now) c.loop-key.key-iterator c.next.new.self c.in-Some.key.now c.in-Some.prop.now
    c.in-Some.ensures.steps (sym c.is_key.ensures ∙ c.if-is_key.false)

pub returns-then-is_key : goal.returns-then-is_key
returns-then-is_key c =
    walk_finds (c.namespace_of-namespace.result.now, c.as_bytes-name.result.now) c.args.map.now.entries c.loop-key.key-iterator c.next.new.self c.in-Some.key.now c.in-Some.prop.now
    c.loop-key.invariant c.in-Some.ensures.steps (sym c.is_key.ensures ∙ c.if-is_key.true)
    ∙ ap (get (properties_of c.args.map.now.entries)) key
  where
    key : (c.namespace_of-namespace.result.now, c.as_bytes-name.result.now) ≡ key_of (property_of c.args.wanted.now)
    key = let name = c.as_bytes-name.ensures.value ∙ c.as_str.ensures.value in λ i. (c.namespace_of-namespace.ensures i, name i)

pub returns : goal.returns
returns c =
    walk_ends (c.namespace_of-namespace.result.now, c.as_bytes-name.result.now) c.args.map.now.entries c.loop-key.key-iterator
    c.loop-key.invariant c.in-None.ensures.steps.0
    ∙ ap (get (properties_of c.args.map.now.entries)) key
  where
    key : (c.namespace_of-namespace.result.now, c.as_bytes-name.result.now) ≡ key_of (property_of c.args.wanted.now)
    key = let name = c.as_bytes-name.ensures.value ∙ c.as_str.ensures.value in λ i. (c.namespace_of-namespace.ensures i, name i)
