use Rattle.std.proofs.Common.{◌≡◌, ◌<◌, ◌++◌, length, refl, sym, ap, ◌∙◌, append_assoc, append-nil, rules}
use Rattle.std.specs.Str.Lossy.{replacement_bytes}
use Rattle.std.proofs.Output.{has_written_append}
use Rattle.std.proofs.lemmas.Str.{utf8_lossy_chunk, utf8_lossy_last_chunk, utf8_lossy_empty}
use Rattle.dav_path_core.proofs.davpath.shown.DavPathDisplay.fmt.Goals as goal

pub loop-chunk-preserved-in-Continue-branch-2 : goal.loop-chunk-preserved-in-Continue-branch-2
loop-chunk-preserved-in-Continue-branch-2 g c = λ plain.
    let so_far = c.loop-chunk.invariant plain in
    let steps = c.in-Some.ensures.steps in
    let some : 0 < length c.in-Some.chunk.invalid.now = search rules in
    let text = utf8_lossy_chunk _ _ _ _ steps.0 steps.3.0 steps.3.1 some in
    let valid = rw c.valid.ensures at (c.in_ok-write_str.ensures.writes so_far.1.plain refl) in (
      (so_far.0 ++ c.in-Some.chunk.valid.now) ++ replacement_bytes,
      has_written_append _ _ _ _ _ _ (has_written_append _ _ _ _ _ _ so_far.1 valid) (c.in_ok-write_str-2.ensures.writes valid.plain refl),
      append_assoc (so_far.0 ++ c.in-Some.chunk.valid.now) replacement_bytes _ ∙ append_assoc so_far.0 c.in-Some.chunk.valid.now _ ∙ ap (λ l. so_far.0 ++ l) (sym text) ∙ so_far.2,
    )

pub loop-chunk-preserved : goal.loop-chunk-preserved
loop-chunk-preserved g c = λ plain.
    let so_far = c.loop-chunk.invariant plain in
    let steps = c.in-Some.ensures.steps in
    let none : length c.in-Some.chunk.invalid.now ≡ 0 = search rules in
    let text = utf8_lossy_last_chunk _ _ _ _ steps.0 steps.3.0 none (steps.2 none) in
    let valid = rw c.valid.ensures at (c.in_ok-write_str.ensures.writes so_far.1.plain refl) in (
      so_far.0 ++ c.in-Some.chunk.valid.now,
      has_written_append _ _ _ _ _ _ so_far.1 valid,
      append_assoc so_far.0 c.in-Some.chunk.valid.now _ ∙ ap (λ l. so_far.0 ++ l) (sym text) ∙ so_far.2,
    )

pub returns-clause-writes : goal.returns-clause-writes
returns-clause-writes g c = λ plain ok.
    let so_far = c.loop-chunk.invariant plain in
    let all = sym (append-nil so_far.0) ∙ ap (λ l. so_far.0 ++ l) (sym (utf8_lossy_empty _ c.in-None.ensures.steps.0)) ∙ so_far.2 in
    rw all at so_far.1
