-- Putting a text in front of the resource tags of an `If` that begin with a slash, byte by byte.
use Rattle.std.specs.Prelude.{ℕ, ◌&&◌, ◌==◌, Bool, true, false, not, if◌then◌else◌, List, [], ◌∷◌}
use Rattle.std.specs.Prelude.{◌++◌}
use Rattle.dav_headers_core.specs.Tags.{quote}
use Rattle.dav_fields_core.specs.declared.tag_fronts.Place.{Place}
use Rattle.dav_fields_core.specs.declared.tag_fronts.Place.TheVariants.{Outside, Opened, Listed}
use Rattle.dav_fields_core.specs.declared.tag_fronts.Place.TheVariants.{Enclosed}

-- where the bytes behind brackets stand, in a list or not
abbrev pub left_at : Bool → Place
left_at listed = if listed then Listed else Outside

-- behind a byte within brackets
abbrev pub within : Bool → ℕ → Bool → ℕ → Place
within listed closing quoted b =
    if not quoted && b == closing then left_at listed
    else Enclosed listed closing (if b == quote then not quoted else quoted)

-- where the byte behind this one stands
abbrev pub place_behind : Place → ℕ → Place
place_behind Outside b = if b == 60 then Opened else (if b == 40 then Listed else Outside)
place_behind Opened b = within false 62 false b
place_behind Listed b =
    if b == 41 then Outside
    else (if b == 60 then Enclosed true 62 false
    else (if b == 91 then Enclosed true 93 false else Listed))
place_behind (Enclosed listed closing quoted) b = within listed closing quoted b

-- a resource tag begins here, with a slash
abbrev pub begins_path : Place → ℕ → Bool
begins_path Opened b = b == 47
begins_path Outside b = false
begins_path Listed b = false
begins_path (Enclosed listed closing quoted) b = false

-- what is put before the byte
abbrev pub lead : List ℕ → Place → ℕ → List ℕ
lead front place b = if begins_path place b then front else []

-- the bytes from a place on, with the front wherever it belongs
abbrev pub with_fronts : List ℕ → Place → List ℕ → List ℕ
with_fronts front place [] = []
with_fronts front place (b ∷ bytes) =
    lead front place b ++ (b ∷ with_fronts front (place_behind place b) bytes)
