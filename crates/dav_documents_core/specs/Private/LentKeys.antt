-- Names that were found, and a tree of them.
use Rattle.std.specs.Prelude.{◌≡◌, ℕ, List, map}
use Rattle.std.specs.Borrow.{Bor}
use Rattle.std.specs.BTreeSet.{contains}
use Rattle.std.specs.Cmp.Lexicographic.{slice_cmp}
use Rattle.std.specs.List.{list_any}
use Rattle.std.specs.Ordering.{nat_cmp, ordering_then}
use Rattle.std.specs.declared.cmp.Ordering.{Ordering}
use Rattle.dav_xml_core.specs.Documents.{Name}
use Rattle.dav_xml_core.specs.Views.{name_of}
use Rattle.dav_documents_core.specs.declared.property_questions.names.Found as code
use Rattle.dav_xml_core.specs.Namespaces.{same_name}

-- a local name and its namespace
abbrev pub LentKey : Type 0
LentKey = Bor (List ℕ) × Bor (List ℕ)

abbrev pub lent_key_cmp : LentKey → LentKey → Ordering
lent_key_cmp a b = ordering_then (slice_cmp nat_cmp a.0.now b.0.now) (slice_cmp nat_cmp a.1.now b.1.now)

abbrev pub name_at : LentKey → Name
name_at key = record { namespace = key.1.now; local = key.0.now }

-- the tree has the names that were found, and no others
abbrev pub AreSeen : code.Found → Type 0
AreSeen found = (key : LentKey) → contains lent_key_cmp found.seen key ≡ list_any (same_name (name_at key)) (map name_of found.names.items)
