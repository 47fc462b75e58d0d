use Rattle.std.proofs.Common.{◌≡◌, ◌++◌, drop}
use Rattle.std.specs.Prelude.{flat_map}
use Rattle.dav_safe_methods_core.specs.FolderPages.{html_character}
use Rattle.dav_safe_methods_core.proofs.pages.push_escaped.Given as goal

abbrev pub invariant-loop-b : goal.invariant-loop-b
invariant-loop-b l = l.out.items ++ flat_map html_character (drop l.b-index l.text) ≡ l.fn.out.items ++ flat_map html_character l.text
