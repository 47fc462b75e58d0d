use Rattle.std.proofs.Common.{◌+◌, Some, [], refl, sym, ap, ◌∙◌, map, drop, arith}
use Rattle.std.specs.List.{fold}
use Rattle.std.proofs.lemmas.List.{drop_all}
use Rattle.dav_path_core.specs.MethodSets.{with_word}
use Rattle.dav_path_core.proofs.WordLemmas.{word_at, none_with}
use Rattle.dav_path_core.proofs.util.DavMethodSet.from_vec.Goals as goal

pub loop-word-preserved : goal.loop-word-preserved
loop-word-preserved c =
    c.loop-word.invariant
    ∙ word_at (λ w. w.now) c.args.words.now (Some c.loop-word.set) c.loop-word.word-index (record { ref_ptr = (0, 0); now = [] }) c.loop-word-test.true
    ∙ rw (sym c.word_bits.ensures ∙ c.in-Some.is) refl

pub returns-in-None : goal.returns-in-None
returns-in-None c =
    c.loop-word.invariant
    ∙ word_at (λ w. w.now) c.args.words.now (Some c.loop-word.set) c.loop-word.word-index (record { ref_ptr = (0, 0); now = [] }) c.loop-word-test.true
    ∙ rw (sym c.word_bits.ensures ∙ c.in-None.is) (none_with (map (λ w. w.now) (drop (c.loop-word.word-index + 1) c.args.words.now)))

pub returns : goal.returns
returns c = c.loop-word.invariant ∙ ap (λ t. fold with_word (Some c.loop-word.set) (map (λ w. w.now) t)) (drop_all c.loop-word.word-index c.args.words.now (omega arith))
