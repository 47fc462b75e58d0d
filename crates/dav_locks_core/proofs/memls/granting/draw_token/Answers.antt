use Rattle.std.proofs.Common.{◌≡◌, ◌++◌, ap, ◌∙◌, string_bytes, rules}
use Rattle.dav_locks_core.specs.Tokens.{token_from}
use Rattle.rand_core.specs.Stream.{fill_bytes}
use Rattle.uuid.specs.Parts.{v4_of_fill}
use Rattle.uuid.specs.Text.{urn_text, lower}
use Rattle.dav_locks_core.proofs.memls.granting.draw_token.Goals as goal

pub returns-clause-rest : goal.returns-clause-rest
unfolding token_from
returns-clause-rest g c = ap (λ p. p.1) c.new_v4-id.ensures.drawn

pub returns-clause-first : goal.returns-clause-first
unfolding token_from
returns-clause-first g c =
    let id : c.new_v4-id.result ≡ (v4_of_fill (fill_bytes 16 (g.R.Rng.stream c.args.rng.now))).0 = ap (λ p. p.0) c.new_v4-id.ensures.drawn in
    let text : c.encode_lower-text.result.now ≡ urn_text lower (v4_of_fill (fill_bytes 16 (g.R.Rng.stream c.args.rng.now))).0 = c.encode_lower-text.ensures.text ∙ ap (urn_text lower) (c.urn.ensures ∙ id) in
    let done : string_bytes c.push_str.new.self ≡ string_bytes c.args.first.now ++ c.encode_lower-text.result.now = search rules in
    done ∙ ap (λ t. string_bytes c.args.first.now ++ t) text

pub returns-clause-second : goal.returns-clause-second
unfolding token_from
returns-clause-second g c =
    let id : c.new_v4-id.result ≡ (v4_of_fill (fill_bytes 16 (g.R.Rng.stream c.args.rng.now))).0 = ap (λ p. p.0) c.new_v4-id.ensures.drawn in
    let text : c.encode_lower-text.result.now ≡ urn_text lower (v4_of_fill (fill_bytes 16 (g.R.Rng.stream c.args.rng.now))).0 = c.encode_lower-text.ensures.text ∙ ap (urn_text lower) (c.urn.ensures ∙ id) in
    let done : string_bytes c.push_str-2.new.self ≡ string_bytes c.args.second.now ++ c.encode_lower-text.result.now = search rules in
    done ∙ ap (λ t. string_bytes c.args.second.now ++ t) text
