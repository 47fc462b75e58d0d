use Rattle.std.proofs.Common.{◌≡◌, string_bytes, refl, sym, ◌∙◌, subst, arith}
use Rattle.std.proofs.lemmas.List.Elements.{All-from_get_or}
use Rattle.percent_encoding.proofs.PercentLemmas.{IsByte}
use Rattle.dav_path_core.specs.PathReading.{Read}
use Rattle.dav_path_core.specs.Url.{url}
use Rattle.dav_path_core.proofs.paths.ReadLaws.{read_again}
use Rattle.dav_path_core.proofs.paths.UrlLemmas.{url_once}
use Rattle.dav_path_core.proofs.davpath.url.url_text.Goals as goal

pub returns-clause-law : goal.returns-clause-law
returns-clause-law c =
    let bytes = c.args.bytes.now in
    let text : string_bytes c.append_to.new.out ≡ url bytes = c.in_ok-append_to.ensures.ok ∙ rw (c.new-text.ensures.bytes, c.escaped.ensures) refl in
    record {
      read_again = λ source r. subst (λ t. Read t bytes) (sym text) (read_again source bytes r);
      once = λ other small same. url_once other bytes small (All-from_get_or IsByte bytes 0 (λ i within. omega (arith, c.type_inv.bytes i))) (same ∙ text);
    }
