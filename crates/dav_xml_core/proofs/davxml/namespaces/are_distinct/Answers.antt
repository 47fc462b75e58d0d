use Rattle.std.proofs.Common.{◌≡◌, refl, sym, ap, ◌∙◌, ℕ, ◌+◌, true, false, not, cond, List, [], ◌∷◌, ◌++◌, get_or, map, take, drop, Bor}
use Rattle.std.specs.List.{list_any}
use Rattle.std.specs.Ordering.{is_eq}
use Rattle.std.specs.BTreeSet.{contains}
use Rattle.std.specs.BTreeMap.{is_at}
use Rattle.std.proofs.lemmas.List.{map_push, take_more, drop_more}
use Rattle.dav_xml_core.specs.Scopes.{distinct_keys, same_key}
use Rattle.dav_xml_core.specs.Views.{attribute_key_of}
use Rattle.dav_xml_core.proofs.DistinctLemmas.{key_cmp, one_more, new_key, old_key}
use Rattle.dav_xml_core.proofs.davxml.namespaces.are_distinct.Goals as goal

abbrev none : ℕ × Bor (List ℕ)
none = (0, record { ref_ptr = (0, 0); now = [] })

pub loop-key-init : goal.loop-key-init
loop-key-init c = record { rest = refl; keys = λ key. ap (list_any (is_at (key_cmp key))) c.new-seen.ensures.empty }

pub returns-then-not-branch-clause-value : goal.returns-then-not-branch-clause-value
returns-then-not-branch-clause-value c =
    let keys = c.args.keys.now in
    let i = c.loop-key.key-index in
    let key = get_or keys i none in
    let seen = map attribute_key_of (take i keys) in
    let cell : drop i keys ≡ key ∷ drop (i + 1) keys = drop_more keys i none c.loop-key-test.true in
    let was : false ≡ not (contains key_cmp c.loop-key.seen key) = sym c.if-not-branch.true ∙ c.in_ok-insert.ensures.added in
    sym (sym c.loop-key.invariant.rest ∙ ap (λ xs. distinct_keys seen (map attribute_key_of xs)) cell ∙ old_key seen (map attribute_key_of (drop (i + 1) keys)) (attribute_key_of key) _ (c.loop-key.invariant.keys key) was)

pub loop-key-preserved : goal.loop-key-preserved
loop-key-preserved c =
    let keys = c.args.keys.now in
    let i = c.loop-key.key-index in
    let key = get_or keys i none in
    let seen = map attribute_key_of (take i keys) in
    let cell : drop i keys ≡ key ∷ drop (i + 1) keys = drop_more keys i none c.loop-key-test.true in
    let was : true ≡ not (contains key_cmp c.loop-key.seen key) = sym c.if-not-branch.false ∙ c.in_ok-insert.ensures.added in
    let front : map attribute_key_of (take (i + 1) keys) ≡ seen ++ attribute_key_of key ∷ [] = ap (map attribute_key_of) (take_more keys i none c.loop-key-test.true) ∙ map_push attribute_key_of (take i keys) key in
    record {
      rest = ap (λ xs. distinct_keys xs (map attribute_key_of (drop (i + 1) keys))) front ∙ sym (ap (λ xs. distinct_keys seen (map attribute_key_of xs)) cell ∙ new_key seen (map attribute_key_of (drop (i + 1) keys)) (attribute_key_of key) _ (c.loop-key.invariant.keys key) was) ∙ c.loop-key.invariant.rest;
      keys = λ other.
          c.in_ok-insert.ensures.updates.0 other
          ∙ ap (λ b. cond (is_eq (key_cmp key other)) true b) (c.loop-key.invariant.keys other)
          ∙ one_more other key seen
          ∙ ap (list_any (same_key (attribute_key_of other))) (sym front);
    }
