use Rattle.std.proofs.Common.{◌≡◌, List, [], ◌∷◌, Bool, map, refl}
use Rattle.std.specs.List.{AllZip}
use Rattle.dav_files_core.specs.declared.fs.properties.DavProp.{DavProp}
use Rattle.dav_files_core.specs.Properties.{property_of, patch_update}
use Rattle.dav_guarded_core.proofs.guarded.files.copied.Goals as goal

copies : (xs ys : List (Bool × DavProp)) → AllZip (λ x y. (y.0 ≡ x.0) × (property_of y.1 ≡ property_of x.1)) xs ys → map patch_update ys ≡ map patch_update xs
copies [] [] h = refl
copies [] (y ∷ ys) h = absurd h
copies (x ∷ xs) [] h = absurd h
copies (x ∷ xs) (y ∷ ys) h = rw (h.0.0, h.0.1, copies xs ys h.1) refl

pub returns : goal.returns
returns c = copies c.args.patch.now.items c.in_ok-clone.field-0.items c.in_ok-clone.ensures.cases.0
