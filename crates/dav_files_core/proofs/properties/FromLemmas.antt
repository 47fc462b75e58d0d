-- Properties that are put together, one after another.
use Rattle.std.proofs.Common.{◌≡◌, List, [], ◌∷◌, ◌++◌, map, sym, ap, ◌∙◌}
use Rattle.std.specs.FinMap.{empty, insert}
use Rattle.std.proofs.lemmas.List.{map-append}
use Rattle.std.proofs.lemmas.List.Sums.{fold-append}
use Rattle.dav_files_core.specs.declared.fs.properties.DavProp.{DavProp}
use Rattle.dav_files_core.specs.Properties.{key_of, property_of}
use Rattle.dav_files_core.specs.Resources.{Properties}
use Rattle.dav_files_core.specs.Restoring.{properties_from, with_property}
use Rattle.dav_files_core.specs.Private.PropertyChanges.{Key}

pub one_more : (props : List DavProp) (p : DavProp) (before after : Properties) (key : Key) → before ≡ properties_from (map property_of props) → key ≡ key_of (property_of p) → after ≡ insert before key (property_of p)
    → after ≡ properties_from (map property_of (props ++ p ∷ []))
one_more props p before after key is key_is added =
    added ∙ ap (λ k. insert before k (property_of p)) key_is ∙ ap (λ kept. with_property kept (property_of p)) is
    ∙ sym (fold-append with_property empty (map property_of props) (property_of p ∷ []))
    ∙ ap properties_from (sym (map-append property_of props (p ∷ [])))
