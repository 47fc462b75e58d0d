use Rattle.std.proofs.Common.{[], ◌∷◌, ◌++◌, ap, ◌∙◌}
use Rattle.dav_fields_core.specs.AnswerFields.{date_field, options_fields}
use Rattle.dav_handler_core.proofs.SentAnswerLemmas.{options_told}
use Rattle.dav_handler_core.proofs.dav.Dav.serve_options.Goals as goal

pub returns-clause-done : goal.returns-clause-done
returns-clause-done g c =
    options_told c.args.date.now c.add_date.new.response c.options.new.response c.options.result (record { fields = options_fields; body = [] })
    (c.in_ok-add_date.ensures.fields ∙ ap (λ fields. fields ++ date_field c.args.date.now ∷ []) c.requires.blank.headers) c.options.ensures.done c.options.ensures.sent
