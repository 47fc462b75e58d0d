use Rattle.std.proofs.Common.{◌∙◌, sym, ap, subst, false}
use Rattle.dav_headers_core.specs.Tags.{new_tag}
use Rattle.std.proofs.lemmas.Result.{IfOk-weaker}
use Rattle.http_header.specs.FieldValue.{IsFieldValue}
use Rattle.dav_fields_core.proofs.FileTagLemmas.{told_ok, told_err}
use Rattle.dav_fields_core.proofs.etags.file_tag.Goals as goal

pub returns-clause-ok : goal.returns-clause-ok
returns-clause-ok c = told_ok c.new.result (λ tag. tag) _ _ c.new.ensures (ap (new_tag false) c.deref.ensures ∙ c.in_ok-text.ensures.1)

pub returns-clause-err : goal.returns-clause-err
returns-clause-err c = told_err c.new.result (λ tag. tag) _ _ c.new.ensures (ap (new_tag false) c.deref.ensures ∙ c.in_ok-text.ensures.1)

pub returns-clause-shown : goal.returns-clause-shown
returns-clause-shown c = IfOk-weaker c.new.result _ _ (λ tag is. subst IsFieldValue (sym is) c.in_ok-text.ensures.2)
    (told_ok c.new.result (λ tag. tag) _ _ c.new.ensures (ap (new_tag false) c.deref.ensures ∙ c.in_ok-text.ensures.1))
