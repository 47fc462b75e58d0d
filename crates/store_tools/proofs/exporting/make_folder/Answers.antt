use Rattle.std.proofs.Common.{◌∙◌, ap, not, string_bytes}
use Rattle.store_tools.specs.Exports.{calls_done, makes_folder}
use Rattle.store_tools.proofs.ExportLemmas.{left_on, made_on, member_made, root_made}
use Rattle.store_tools.proofs.exporting.make_folder.Goals as goal

pub returns-then-is_none-clause-made : goal.returns-then-is_none-clause-made
returns-then-is_none-clause-made g c = root_made c.args.above (string_bytes c.args.place.now) (calls_done (g.C.Calls.history c.args.calls.now)) c.if-is_none.ensures

pub returns-clause-made : goal.returns-clause-made
returns-clause-made g c =
    let history = g.C.Calls.history in
    let place = string_bytes c.args.place.now in
    member_made c.made_at.result c.args.above place (calls_done (history c.args.calls.now)) (calls_done (history c.make_folder-made.new.self)) (c.is_none.ensures ∙ ap not c.if-is_none.false)
    (made_on c.made_at.result _ (history c.args.calls.now) (history c.make_folder-made.new.self) (makes_folder place) c.make_folder-made.ensures.noted c.made_at.ensures.made)

pub returns-clause-left : goal.returns-clause-left
returns-clause-left g c =
    let history = g.C.Calls.history in
    left_on c.made_at.result _ (history c.args.calls.now) (history c.make_folder-made.new.self) (makes_folder (string_bytes c.args.place.now)) c.make_folder-made.ensures.noted c.made_at.ensures.told
