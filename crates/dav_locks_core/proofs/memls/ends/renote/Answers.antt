use Rattle.std.proofs.Common.{◌≡◌, true, false, rules}
use Rattle.std.specs.Prelude.{option_map}
use Rattle.dav_locks_core.specs.Private.NotedEnds.{same_end}
use Rattle.dav_locks_core.proofs.ends.EndLemmas.{Renotes-same, Renotes-other}
use Rattle.dav_locks_core.proofs.memls.ends.renote.Goals as goal

pub returns-then-not-same_end-clause-noted : goal.returns-then-not-same_end-clause-noted
returns-then-not-same_end-clause-noted c =
    let apart : same_end (option_map (λ m. m.0) c.args.was) (option_map (λ m. m.0) c.args.end) ≡ false = search rules in
    Renotes-other c.args.ends.now c.note_end.new.ends c.args.number c.args.node (option_map (λ m. m.0) c.args.was) (option_map (λ m. m.0) c.args.end) c.requires.stands c.requires.only c.in_ok-note_end.ensures.noted c.forget_end.new.ends apart c.forget_end.ensures

pub returns-else-not-same_end-clause-noted : goal.returns-else-not-same_end-clause-noted
returns-else-not-same_end-clause-noted c =
    let same : same_end (option_map (λ m. m.0) c.args.was) (option_map (λ m. m.0) c.args.end) ≡ true = search rules in
    Renotes-same c.args.ends.now c.note_end.new.ends c.args.number c.args.node (option_map (λ m. m.0) c.args.was) (option_map (λ m. m.0) c.args.end) c.requires.stands c.requires.only c.in_ok-note_end.ensures.noted same
