use Rattle.std.proofs.Common.{◌≡◌, sym, ◌∙◌, length, rules}
use Rattle.std.specs.List.{list_all}
use Rattle.std.proofs.lemmas.Bool.{eqb-true, eqb-false}
use Rattle.std.proofs.lemmas.Iterator.{YieldsList-from_slice}
use Rattle.std.proofs.lemmas.Iterator.Search.{all_from_yields_List}
use Rattle.http_header.specs.FieldValue.{FieldValue}
use Rattle.dav_headers_core.specs.Values.{is_text_byte}
use Rattle.dav_headers_core.proofs.texts.LanguageLemmas.{texts_none, texts_each}
use Rattle.dav_headers_core.proofs.davheaders.languages.have_texts.Goals as goal

pub returns-then-is_empty : goal.returns-then-is_empty
returns-then-is_empty c = sym (texts_none c.args.values.now (eqb-true _ 0 (sym c.is_empty.ensures ∙ c.if-is_empty.true)))

pub returns : goal.returns
returns c =
    let values = c.args.values.now in
    let some : length values ≡ 0 → ⊥ = eqb-false (length values) 0 (sym c.is_empty.ensures ∙ c.if-is_empty.false) in
    all_from_yields_List (λ (v : FieldValue). list_all is_text_byte v.bytes) c.all.new.self _ c.all.result c.all.ensures.ran (YieldsList-from_slice values cc) (λ x b q k. search rules)
    ∙ sym (texts_each values some)
