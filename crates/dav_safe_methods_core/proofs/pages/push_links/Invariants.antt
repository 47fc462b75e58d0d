use Rattle.std.proofs.Common.{◌≡◌, ◌++◌, drop, map}
use Rattle.std.specs.Prelude.{flat_map}
use Rattle.dav_files_core.specs.Listing.{listed_entry}
use Rattle.dav_safe_methods_core.specs.FolderPages.{link}
use Rattle.dav_safe_methods_core.proofs.pages.push_links.Given as goal

abbrev pub invariant-loop-entry : goal.invariant-loop-entry
invariant-loop-entry l =
    l.page.items ++ flat_map (link l.folder l.slash) (map listed_entry (drop l.entry-index l.entries))
    ≡ l.fn.page.items ++ flat_map (link l.folder l.slash) (map listed_entry l.entries)
