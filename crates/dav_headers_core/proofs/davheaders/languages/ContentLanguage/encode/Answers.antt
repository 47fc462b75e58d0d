use Rattle.std.proofs.Common.{◌≡◌, ap, ◌∙◌, true, string_bytes}
use Rattle.std.proofs.lemmas.Result.{err_from_is_err_and}
use Rattle.dav_headers_core.specs.Values.{are_texts}
use Rattle.dav_headers_core.specs.CommaPieces.{joined_by_commas}
use Rattle.dav_headers_core.proofs.texts.JoinedLemmas.{joined_is_text}
use Rattle.dav_headers_core.proofs.texts.PieceLemmas.{joined_by}
use Rattle.dav_headers_core.proofs.texts.WrittenLemmas.{is_written, memory_alone}
use Rattle.dav_headers_core.proofs.davheaders.languages.ContentLanguage.encode.Goals as goal

pub returns-in_err-join-clause-value : goal.returns-in_err-join-clause-value
returns-in_err-join-clause-value c =
    let p = err_from_is_err_and c.from_residual.result c.from_residual.ensures.1 in
    let all : are_texts c.args.self.now ≡ true = rw c.self.view_is at c.self.invariant in
    rw (p.1, p.2) (is_written (joined_by_commas c.args.self.now) (joined_is_text c.args.self.now all))

pub returns-clause-value : goal.returns-clause-value
returns-clause-value c =
    let ok = rw c.deref.ensures.value at c.in_ok-join.ensures.ok in
    let text = ok ∙ joined_by string_bytes c.self.inside.languages.items ∙ ap joined_by_commas c.self.view_is in
    let gives = rw text at c.value_of.ensures in
    gives

pub returns-clause-err : goal.returns-clause-err
returns-clause-err c =
    let ok = rw c.deref.ensures.value at c.in_ok-join.ensures.ok in
    let text = ok ∙ joined_by string_bytes c.self.inside.languages.items ∙ ap joined_by_commas c.self.view_is in
    let gives = rw text at c.value_of.ensures in
    let all : are_texts c.args.self.now ≡ true = rw c.self.view_is at c.self.invariant in
    memory_alone c.value_of.result (joined_by_commas c.args.self.now) gives (joined_is_text c.args.self.now all)
