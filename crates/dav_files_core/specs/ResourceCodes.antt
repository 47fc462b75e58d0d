-- Codes of the values that the models have.
use Rattle.std.specs.Prelude.{◌≡◌, ℕ, Bool, true, false, List, Option, refl}
use Rattle.std.specs.Coded.{Coded, code_by, coded_ℕ, coded_bool, coded_list, coded_option, coded×}
use Rattle.std.specs.FinMap.{FinMap, code}
use Rattle.dav_files_core.specs.declared.memfs.Kind.{Kind}
use Rattle.dav_files_core.specs.declared.memfs.Kind.TheVariants.{Folder, File}
use Rattle.dav_path_core.specs.Fronts.{path_cmp}
use Rattle.dav_files_core.specs.Opening.{OpenFile}
use Rattle.dav_files_core.specs.Resources.{is_folder, Property, Properties, Node, Resource, ResourceMap}
use Rattle.dav_files_core.specs.Walks.{Stored}

abbrev pub coded_bytes : Coded (List ℕ)
coded_bytes = coded_list coded_ℕ

abbrev pub coded_optional_bytes : Coded (Option (List ℕ))
coded_optional_bytes = coded_option coded_bytes

abbrev pub coded_property : Coded Property
coded_property =
    code_by (List ℕ × (Option (List ℕ) × (Option (List ℕ) × Option (List ℕ)))) (coded× coded_bytes (coded× coded_optional_bytes (coded× coded_optional_bytes coded_optional_bytes)))
    (λ p. (p.name, (p.prefix, (p.namespace, p.xml)))) (λ t. record { name = t.0; prefix = t.1.0; namespace = t.1.1.0; xml = t.1.1.1 }) (λ _. refl)

abbrev kind_of : Bool → Kind
kind_of true = Folder
kind_of false = File

pub kind_back : (k : Kind) → kind_of (is_folder k) ≡ k
kind_back Folder = refl
kind_back File = refl

abbrev pub coded_kind : Coded Kind
coded_kind = code_by Bool coded_bool is_folder kind_of kind_back

abbrev pub coded_properties : Coded Properties
coded_properties = code (coded× coded_bytes coded_bytes) coded_property

abbrev pub coded_node : Coded Node
coded_node =
    code_by (Kind × (List ℕ × (Properties × (ℕ × ℕ)))) (coded× coded_kind (coded× coded_bytes (coded× coded_properties (coded× coded_ℕ coded_ℕ))))
    (λ n. (n.kind, (n.bytes, (n.props, (n.created, n.modified))))) (λ t. record { kind = t.0; bytes = t.1.0; props = t.1.1.0; created = t.1.1.1.0; modified = t.1.1.1.1 }) (λ _. refl)

abbrev pub coded_resource : Coded Resource
coded_resource = code_by (ℕ × Node) (coded× coded_ℕ coded_node) (λ r. (r.number, r.node)) (λ t. record { number = t.0; node = t.1 }) (λ _. refl)

abbrev pub coded_resources : Coded ResourceMap
coded_resources =
    code_by (FinMap path_cmp Resource × ℕ) (coded× (code (coded_list coded_bytes) coded_resource) coded_ℕ)
    (λ m. (m.entries, m.next)) (λ t. record { entries = t.0; next = t.1 }) (λ _. refl)

abbrev pub coded_file : Coded OpenFile
coded_file = code_by (ℕ × (ℕ × Bool)) (coded× coded_ℕ (coded× coded_ℕ coded_bool)) (λ f. (f.number, (f.position, f.append))) (λ t. record { number = t.0; position = t.1.0; append = t.1.1 }) (λ _. refl)

abbrev pub coded_stored : Coded Stored
coded_stored =
    code_by (List (List ℕ) × (Resource × Option ℕ)) (coded× (coded_list coded_bytes) (coded× coded_resource (coded_option coded_ℕ)))
    (λ s. (s.path, (s.resource, s.folder))) (λ t. record { path = t.0; resource = t.1.0; folder = t.1.1 }) (λ _. refl)

abbrev pub coded_walk : Coded (List Stored)
coded_walk = coded_list coded_stored
