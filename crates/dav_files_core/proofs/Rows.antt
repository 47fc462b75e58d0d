-- Worked rows of the resource map, computed on the definitions.
use Rattle.std.proofs.Common.{◌≡◌, ℕ, false, true, cond, List, [], ◌∷◌, length, Option, Some, None, Ok, Err, refl, sym, ◌∙◌, arith}
use Rattle.std.specs.Prelude.{codes, Result}
use Rattle.std.specs.declared.io.traits.SeekFrom.TheVariants.{Start}
use Rattle.std.specs.Ordering.{eq_by_cmp}
use Rattle.std.specs.declared.cmp.Ordering.{Ordering}
use Rattle.std.specs.FinMap.{FinMap, entries, get, insert, remove, empty, from_entries, find as find_in, get-empty, get-insert, get-remove, get-from_entries, entries-insert, put as put_in, len-empty, len-entries, keys}
use Rattle.dav_path_core.specs.declared.errors.FsError.{FsError}
use Rattle.dav_path_core.specs.declared.errors.FsError.TheVariants.{NotFound, Forbidden}
use Rattle.dav_path_core.specs.Fronts.{Segment, Path, segment_cmp, path_cmp}
use Rattle.dav_path_core.proofs.lists.Orders.{segment_total, path_total}
use Rattle.dav_files_core.specs.declared.fs.OpenOptions.{OpenOptions}
use Rattle.dav_files_core.specs.declared.memfs.Kind.TheVariants.{Folder}
use Rattle.dav_files_core.specs.Resources.{Property, Properties, Resource, ResourceMap, key_cmp}
use Rattle.dav_files_core.specs.Finding.{find, members}
use Rattle.dav_files_core.specs.Outcomes.{Outcome, ◌>>=◌, start, new_file, new_folder}
use Rattle.dav_files_core.specs.Describing.{metadata}
use Rattle.dav_files_core.specs.ContentParts.{read_at}
use Rattle.dav_files_core.specs.ResourcePutting.{put}
use Rattle.dav_files_core.specs.ResourceCopying.{copy}
use Rattle.dav_files_core.specs.Folders.{create_dir, remove as remove_at}
use Rattle.dav_files_core.specs.OpenFiles.{read_bytes, seek, write_bytes}
use Rattle.dav_files_core.specs.Opening.{OpenFile, opening}
use Rattle.dav_files_core.specs.Properties.{get_props, patch_props}
use Rattle.dav_files_core.specs.Renaming.{rename}
use Rattle.dav_files_core.proofs.properties.PropertyMapLemmas.{key_total}

-- ---- finite maps that are written out

no_entries : {A : Type 0} (es : List A) → length es ≡ 0 → es ≡ []
no_entries [] e = refl
no_entries (x ∷ es) e = absurd (omega arith)

entries-empty : {K X : Type 0} (R : K → K → Ordering) → entries (empty {X = X} {R = R}) ≡ []
entries-empty {X = X} R = no_entries _ (sym (len-entries (empty {X = X} {R = R})) ∙ len-empty R X)

at-insert : (m : FinMap path_cmp Resource) (k : Path) (v : Resource) (q : Path) → get (insert m k v) q ≡ cond (eq_by_cmp path_cmp q k) (Some v) (get m q)
at-insert = get-insert path_total

at-empty : (q : Path) → get (empty {X = Resource} {R = path_cmp}) q ≡ None
at-empty q = get-empty path_cmp q

in-insert : (m : FinMap path_cmp Resource) (k : Path) (v : Resource) → entries (insert m k v) ≡ put_in path_cmp k v (entries m)
in-insert = entries-insert path_total

in-empty : entries (empty {X = Resource} {R = path_cmp}) ≡ []
in-empty = entries-empty path_cmp

names-insert : (m : FinMap segment_cmp Resource) (k : Segment) (v : Resource) → entries (insert m k v) ≡ put_in segment_cmp k v (entries m)
names-insert = entries-insert segment_total

names-empty : entries (empty {X = Resource} {R = segment_cmp}) ≡ []
names-empty = entries-empty segment_cmp

at-remove : (m : FinMap path_cmp Resource) (k q : Path) → get (remove m k) q ≡ cond (eq_by_cmp path_cmp q k) None (get m q)
at-remove = get-remove path_total

at-from_entries : (es : List (Path × Resource)) (q : Path) → get (from_entries {R = path_cmp} es) q ≡ find_in path_cmp q es
at-from_entries = get-from_entries path_total

prop-insert : (m : Properties) (k : List ℕ × List ℕ) (v : Property) (q : List ℕ × List ℕ) → get (insert m k v) q ≡ cond (eq_by_cmp key_cmp q k) (Some v) (get m q)
prop-insert = get-insert key_total

prop-remove : (m : Properties) (k q : List ℕ × List ℕ) → get (remove m k) q ≡ cond (eq_by_cmp key_cmp q k) None (get m q)
prop-remove = get-remove key_total

prop-empty : (q : List ℕ × List ℕ) → get (empty {X = Property} {R = key_cmp}) q ≡ None
prop-empty q = get-empty key_cmp q

props-insert : (m : Properties) (k : List ℕ × List ℕ) (v : Property) → entries (insert m k v) ≡ put_in key_cmp k v (entries m)
props-insert = entries-insert key_total

props-empty : entries (empty {X = Property} {R = key_cmp}) ≡ []
props-empty = entries-empty key_cmp

ruleset literals = (at-insert, at-empty, at-remove, at-from_entries, in-insert, in-empty, names-insert, names-empty, prop-insert, prop-remove, prop-empty, props-insert, props-empty)

-- ---- a file at /a, of the bytes abc

abbrev a : Path
a = codes "a" ∷ []

abbrev below_a : Path
below_a = codes "a" ∷ codes "c" ∷ []

abbrev with_a : Outcome (Unit {0})
with_a = put (start 1) a (codes "abc") 5

made : with_a >>= (λ x. find x.1 a) ≡ Ok (record { number = 2; node = new_file (codes "abc") 5 })
made = simp literals

part : with_a >>= (λ x. read_at x.1 a 1 9) ≡ Ok (codes "bc")
part = simp literals

-- the members of the root and of the file
members_of_root : with_a >>= (λ x. Ok (keys (members x.1 []))) ≡ Ok (codes "a" ∷ [])
members_of_root = simp literals

-- again: number and creation time stay
again : with_a >>= (λ x. put x.1 a [] 9 >>= λ y. find y.1 a) ≡ Ok (record { number = 2; node = record (new_file [] 5) { modified = 9 } })
again = simp literals

-- refusals: the root is a folder, nothing stands below a file, a folder is missing
put_root : put (start 1) [] (codes "a") 5 ≡ Err Forbidden
put_root = simp literals

put_below_file : with_a >>= (λ x. put x.1 below_a (codes "a") 9) ≡ Err Forbidden
put_below_file = simp literals

put_below_nothing : put (start 1) below_a (codes "a") 5 ≡ Err NotFound
put_below_nothing = simp literals

-- ---- folders, moves, copies and listings: each row goes on from the one before

abbrev then : Outcome (Unit {0}) → (ResourceMap → Outcome (Unit {0})) → Outcome (Unit {0})
then o f = o >>= λ x. f x.1

abbrev d : Path
d = codes "d" ∷ []

abbrev d_f : Path
d_f = codes "d" ∷ codes "f" ∷ []

abbrev e : Path
e = codes "e" ∷ []

abbrev e_f : Path
e_f = codes "e" ∷ codes "f" ∷ []

abbrev e_r : Path
e_r = codes "e" ∷ codes "r" ∷ []

abbrev g : Path
g = codes "g" ∷ []

abbrev folder_d : Outcome (Unit {0})
folder_d = then (create_dir (start 1) d 2) (λ m. put m d_f (codes "ab") 3)

abbrev folder_e : Outcome (Unit {0})
folder_e = then folder_d (λ m. rename m d e 5)

renamed_file : folder_e >>= (λ x. find x.1 e_f) ≡ Ok (record { number = 3; node = new_file (codes "ab") 3 })
renamed_file = simp literals

abbrev copied : Outcome (Unit {0})
copied = then folder_e (λ m. copy m e_f g 7)

copied_file : copied >>= (λ x. find x.1 g) ≡ Ok (record { number = 4; node = record (new_file (codes "ab") 3) { created = 7 } })
copied_file = simp literals

abbrev copied_again : Outcome (Unit {0})
copied_again = then copied (λ m. copy m e_f g 9)

abbrev put_over : Outcome (Unit {0})
put_over = then copied_again (λ m. rename m g e_f 11)

renamed_over : put_over >>= (λ x. find x.1 e_f) ≡ Ok (record { number = 4; node = record (new_file (codes "ab") 3) { created = 9 } })
renamed_over = simp literals

has_members_still : put_over >>= (λ x. remove_at x.1 e 12) ≡ Err Forbidden
has_members_still = simp literals

-- the root copied into a folder
abbrev with_copy : Outcome (Unit {0})
with_copy = then (create_dir (start 1) e 11) (λ m. copy m [] e_r 14)

copied_folder : with_copy >>= (λ x. metadata x.1 e_r) ≡ Ok (record { kind = Folder; length = 0; modified = 11; created = 14 })
copied_folder = simp literals

-- a folder copied onto a file, which keeps its number
abbrev onto_file : Outcome (Unit {0})
onto_file = then (put (start 1) a (codes "abc") 5) (λ m. then (create_dir m e 6) (λ m. copy m e a 7))

became_folder : onto_file >>= (λ x. find x.1 a) ≡ Ok (record { number = 2; node = record (new_folder 6) { created = 7 } })
became_folder = simp literals

-- listed by the bytes of the names
abbrev four : Outcome (Unit {0})
four = then (create_dir (start 1) (codes "a" ∷ []) 15) (λ m. then (create_dir m (codes "B" ∷ []) 15) (λ m. then (create_dir m ((195 ∷ 169 ∷ []) ∷ []) 15) (λ m. create_dir m e 15)))

in_order : four >>= (λ x. Ok (keys (members x.1 []))) ≡ Ok (codes "B" ∷ codes "a" ∷ codes "e" ∷ (195 ∷ 169 ∷ []) ∷ [])
in_order = simp literals

-- ---- refusals of a rename

abbrev folder_a : Outcome (Unit {0})
folder_a = create_dir (start 1) a 2

below_itself : folder_a >>= (λ x. rename x.1 a (codes "a" ∷ codes "b" ∷ []) 5) ≡ Err Forbidden
below_itself = simp literals

-- ---- opening

abbrev nothing_asked : OpenOptions
nothing_asked = record { read = false; write = false; append = false; truncate = false; create = false; create_new = false; size = None; checksum = None }

open_below_file : with_a >>= (λ x. opening x.1 below_a (record nothing_asked { create = true }) 9) ≡ Err Forbidden
open_below_file = simp literals

-- ---- open files

abbrev file_2 : OpenFile
file_2 = record { number = 2; position = 0; append = false }

-- what stands at /a, and where the file stands, after a write
abbrev left_at_a : Unit {0} × (OpenFile × ResourceMap) → Result (Resource × ℕ) FsError
left_at_a w = find w.1.1 a >>= λ r. Ok (r, w.1.0.position)

abbrev a_with : List ℕ → Resource
a_with bytes = record { number = 2; node = record (new_file bytes 5) { modified = 5 } }

gap_filled : with_a >>= (λ x. seek x.1 file_2 (Start 5) >>= λ s. write_bytes x.1 s.1 (codes "z") >>= left_at_a) ≡ Ok (a_with (97 ∷ 98 ∷ 99 ∷ 0 ∷ 0 ∷ 122 ∷ []), 6)
gap_filled = simp literals

-- its folder was renamed
followed : folder_e >>= (λ x. write_bytes x.1 (record file_2 { number = 3 }) (codes "xyz") >>= λ w. find w.1.1 e_f) ≡ Ok (record { number = 3; node = new_file (codes "xyz") 3 })
followed = simp literals

-- it is gone, and another file stands at its path
abbrev replaced : Outcome (Unit {0})
replaced = then (put (start 1) a (codes "abc") 5) (λ m. then (put m g (codes "xyz") 5) (λ m. rename m g a 6))

gone_read : replaced >>= (λ x. read_bytes x.1 file_2 1) ≡ Err NotFound
gone_read = simp literals

-- ---- properties of the root

abbrev named : Option (List ℕ) → List ℕ → Option (List ℕ) → Property
named namespace name xml = record { name = name; prefix = None; namespace = namespace; xml = xml }

abbrev n_x : Property
n_x = named None (codes "n") (Some (codes "x"))

abbrev n_y : Property
n_y = named (Some []) (codes "n") (Some (codes "y"))

abbrev set_twice : Outcome (List (ℕ × Property))
set_twice = patch_props (start 1) [] ((true, n_x) ∷ (true, n_y) ∷ [])

one_key : set_twice >>= (λ x. get_props x.1 [] true) ≡ Ok (n_y ∷ [])
one_key = simp literals
