use Rattle.http_frames.proofs.Running.{told_then, told_then_breaks}
use Rattle.http_frames.proofs.Results.{on_ok-map, on_err-map}
use Rattle.http_frames.proofs.serving.tell.Goals as goal

pub returns-clause-ok : goal.returns-clause-ok
returns-clause-ok g c =
    on_ok-map c.tell_pieces.result
    (told_then c.args.clients.now c.make_room.new.clients c.tell_pieces.new.clients (g.O.Write.contents c.args.output.now) (g.O.Write.contents c.make_room.new.output) (g.O.Write.contents c.tell_pieces.new.output)
    c.in_ok-make_room.ensures.ok) c.tell_pieces.ensures.ok

pub returns-clause-err : goal.returns-clause-err
returns-clause-err g c =
    on_err-map c.tell_pieces.result
    (told_then_breaks c.args.clients.now c.make_room.new.clients c.tell_pieces.new.clients (g.O.Write.contents c.args.output.now) (g.O.Write.contents c.make_room.new.output) (g.O.Write.contents c.tell_pieces.new.output)
    c.in_ok-make_room.ensures.ok) c.tell_pieces.ensures.err
