use Rattle.std.proofs.Common.{◌≡◌, ◌∙◌, sym, ap, List, Option, ℕ, Some, None, option_copied}
use Rattle.dav_fields_core.specs.ContentTypes as spec
use Rattle.dav_fields_core.proofs.content_types.content_type.Goals as goal

-- a name whose extension the table hasn't
untyped : (name text : List ℕ) → spec.extension name ≡ Some text → spec.type_in spec.table text ≡ None → spec.other_type ≡ spec.content_type name
untyped name text named none = sym (ap type_by named ∙ ap type_or_other none)
  where
    type_or_other : Option (List ℕ) → List ℕ
    type_or_other o = elim o [ None ↦ spec.other_type | Some known ↦ known ]

    type_by : Option (List ℕ) → List ℕ
    type_by o = elim o [ None ↦ spec.other_type | Some text ↦ type_or_other (spec.type_in spec.table text) ]

pub returns-in-None : goal.returns-in-None
returns-in-None c =
    untyped c.args.name.now c.in-Some.extension.now (sym c.extension.ensures ∙ ap option_copied c.in-Some.is) (sym c.type_in.ensures ∙ ap option_copied c.in-None.is)
