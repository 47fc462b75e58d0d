use Rattle.std.proofs.Common.{List, [], ◌∷◌, ℕ, map, string_bytes, ap, ◌∙◌}
use Rattle.std.proofs.lemmas.List.{map-append}
use Rattle.dav_notes_core.specs.Asking.{sender_of}
use Rattle.dav_notes_core.proofs.senders.add_token.Goals as goal

pub returns-clause-ok : goal.returns-clause-ok
returns-clause-ok c =
    ap (λ (tokens : List (List ℕ)). record (sender_of c.args.who.now) { tokens = tokens })
    (ap (map string_bytes) c.in_ok-push.ensures.items ∙ map-append string_bytes c.args.who.now.tokens.items (c.args.token ∷ []))
