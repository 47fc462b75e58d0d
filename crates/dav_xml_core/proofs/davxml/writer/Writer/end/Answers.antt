use Rattle.std.proofs.Common.{◌≡◌, sym, ap, ◌∙◌, ℕ, List, [], ◌∷◌, ◌++◌, map}
use Rattle.std.specs.Prelude.{codes}
use Rattle.std.proofs.lemmas.List.{map_push}
use Rattle.std.proofs.lemmas.Result.{on_ok_weaker}
use Rattle.dav_xml_core.specs.Views.{writing_of}
use Rattle.dav_xml_core.proofs.WriterLemmas.{end_of, writing}
use Rattle.dav_xml_core.proofs.davxml.writer.Writer.end.Goals as goal

pub returns : goal.returns
returns c =
    let was = writing_of c.args.self.now in
    let now : List (List ℕ) = map (λ name. name.items) c.pop.new.self.items in
    let popped : was.begun ≡ now ++ c.in-Some.name.items ∷ [] = rw c.in-Some.ensures.items (map_push (λ name. name.items) c.pop.new.self.items c.in-Some.name) in
    let end = end_of was.first was.bytes was.begun now c.in-Some.name.items popped in
    let second : c.push-2.new.out.items ≡ was.bytes ++ codes "</" ++ c.in-Some.name.items = c.in_ok-push-2.ensures ∙ ap (λ (x : List ℕ). x ++ c.deref.result.now) c.in_ok-push.ensures ∙ ap (λ (x : List ℕ). was.bytes ++ codes "</" ++ x) c.deref.ensures.value in
    on_ok_weaker c.push-3.result (λ third. ap (λ (x : List ℕ). writing was.first x now) (third ∙ ap (λ (x : List ℕ). x ++ codes ">") second) ∙ sym end) c.push-3.ensures
