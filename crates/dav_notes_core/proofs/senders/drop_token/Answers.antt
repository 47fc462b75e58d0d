use Rattle.std.proofs.Common.{map, ◌-◌, take, string_bytes, ap, ◌∙◌}
use Rattle.dav_notes_core.specs.Asking.{sender_of}
use Rattle.dav_notes_core.proofs.NamingLemmas.{named_before, tokens_left}
use Rattle.dav_notes_core.proofs.senders.drop_token.Goals as goal

pub returns : goal.returns
returns c = λ before token is.
    let tokens = c.args.who.now.tokens in
    named_before before (sender_of c.args.who.now) token (map string_bytes c.pop.new.self.items) is
    (tokens_left string_bytes tokens.items c.pop.new.self.items
    (c.pop.ensures.rest ∙ ap (λ n. take (n - 1) tokens.items) tokens.ok.0))
