use Rattle.std.proofs.Common.{ap, ◌∙◌, ◌++◌, ◌∷◌, [], List, ℕ, map, string_bytes}
use Rattle.std.proofs.lemmas.List.{map_push}
use Rattle.dav_headers_core.specs.Languages.{language_of}
use Rattle.dav_headers_core.proofs.lists.EveryLemmas.{every_more, every_refused}
use Rattle.dav_headers_core.proofs.davheaders.languages.languages_of_pieces.Goals as goal

pub returns-in-None : goal.returns-in-None
returns-in-None c = every_refused language_of (λ piece. piece.now) c.args.pieces.now c.loop-piece.piece-index _ c.loop-piece-test.true c.in-None.ensures

pub loop-piece-preserved : goal.loop-piece-preserved
loop-piece-preserved c =
    let old = c.loop-piece.languages.items in
    let pushed = ap (map string_bytes) c.in_ok-push-in-Some.ensures.items ∙ map_push string_bytes old c.in_ok-from_str-in-Some.field-0
    ∙ ap (λ (language : List ℕ). map string_bytes old ++ language ∷ []) c.in_ok-from_str-in-Some.ensures.ok in
    every_more language_of (λ piece. piece.now) c.args.pieces.now c.loop-piece.piece-index _ (map string_bytes old) (map string_bytes c.push.new.self.items) c.in-Some.language.now c.loop-piece-test.true c.loop-piece.invariant c.in-Some.ensures pushed
