use Rattle.std.proofs.Common.{[], refl, sym, ap, ◌∙◌, map, arith}
use Rattle.std.proofs.lemmas.List.{drop_all}
use Rattle.dav_path_core.specs.MethodSets.{bits_in}
use Rattle.dav_path_core.specs.Private.Tables.{table_entry}
use Rattle.dav_path_core.proofs.WordLemmas.{same_word_by, entry_at}
use Rattle.dav_path_core.proofs.util.bits_beside.Goals as goal

pub loop-name-preserved : goal.loop-name-preserved
loop-name-preserved c =
    c.loop-name.invariant
    ∙ entry_at table_entry c.args.table.now c.args.word.now c.loop-name.name-index (record { ref_ptr = (0, 0); now = [] }, 0) c.loop-name-test.true
    ∙ rw (same_word_by _ _ _ c.eq_ignore_ascii_case.ensures.test, c.if-eq_ignore_ascii_case.false) refl

pub returns-then-eq_ignore_ascii_case : goal.returns-then-eq_ignore_ascii_case
returns-then-eq_ignore_ascii_case c =
    sym (c.loop-name.invariant
    ∙ entry_at table_entry c.args.table.now c.args.word.now c.loop-name.name-index (record { ref_ptr = (0, 0); now = [] }, 0) c.loop-name-test.true
    ∙ rw (same_word_by _ _ _ c.eq_ignore_ascii_case.ensures.test, c.if-eq_ignore_ascii_case.true) refl)

pub returns : goal.returns
returns c = sym (c.loop-name.invariant ∙ ap (λ t. bits_in (map table_entry t) c.args.word.now) (drop_all c.loop-name.name-index c.args.table.now (omega arith)))
