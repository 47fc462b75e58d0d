use Rattle.std.proofs.Common.{◌≡◌, ◌++◌, ◌∷◌, [], List, ap, ◌∙◌, append_assoc, string_bytes}
use Rattle.std.proofs.lemmas.Bool.{false≢true}
use Rattle.store_tools.specs.Exports.{SystemCall, calls_done, makes_file, sets_time, syncs, writes}
use Rattle.store_tools.specs.Private.ExportWork.{is_left_out}
use Rattle.store_tools.proofs.ExportLemmas.{done_if, left_all, none_if, on_ok}
use Rattle.store_tools.proofs.exporting.make_file.Goals as goal

pub returns-in_err-made_at-clause-left : goal.returns-in_err-made_at-clause-left
returns-in_err-made_at-clause-left g c =
    let history = g.C.Calls.history in
    left_all c.from_residual.result (calls_done (history c.make_file-made.new.self) ≡ calls_done (history c.args.calls.now))
    (none_if _ (history c.args.calls.now) (history c.make_file-made.new.self) (makes_file (string_bytes c.args.place.now)) c.make_file-made.ensures.noted c.in_err-made_at.ensures.told)

pub returns-in-Ok-clause-made : goal.returns-in-Ok-clause-made
returns-in-Ok-clause-made g c =
    let history = g.C.Calls.history in
    let place = string_bytes c.args.place.now in
    let filled : List SystemCall = writes place c.args.bytes.now ∷ sets_time place c.args.time.0 ∷ syncs place ∷ [] in
    on_ok c.fill-filled.result (calls_done (history c.fill-filled.new.calls) ≡ calls_done (history c.make_file-made.new.self) ++ filled) c.in-Ok.ensures.done c.fill-filled.ensures.filled
    ∙ (ap (λ (l : List SystemCall). l ++ filled) (done_if _ (history c.args.calls.now) (history c.make_file-made.new.self) (makes_file place) c.make_file-made.ensures.noted c.in_ok-made_at.ensures.made)
    ∙ append_assoc (calls_done (history c.args.calls.now)) (makes_file place ∷ []) filled)

pub returns-in-Err-clause-left : goal.returns-in-Err-clause-left
unfolding is_left_out
returns-in-Err-clause-left g c = λ left. absurd (false≢true left)
