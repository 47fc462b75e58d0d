use Rattle.std.proofs.Common.{◌+◌, ◌-◌, length, drop, length-drop, ◌∙◌, arith}
use Rattle.std.proofs.lemmas.List.{take_all}
use Rattle.http_frames.proofs.Blanks.{behind_found, behind_none}
use Rattle.http_frames.proofs.frames.behind_blank.Goals as goal

pub returns-in-Some : goal.returns-in-Some
returns-in-Some c =
    take_all (length c.args.line.now - (c.in-Some.at + 1)) (drop (c.in-Some.at + 1) c.args.line.now) (omega (arith, length-drop (c.in-Some.at + 1) c.args.line.now))
    ∙ behind_found c.args.line.now c.in-Some.at c.in-Some.ensures

pub returns-in-None : goal.returns-in-None
returns-in-None c =
    take_all (length c.args.line.now - length c.args.line.now) (drop (length c.args.line.now) c.args.line.now) (omega (arith, length-drop (length c.args.line.now) c.args.line.now))
    ∙ behind_none c.args.line.now c.in-None.ensures
