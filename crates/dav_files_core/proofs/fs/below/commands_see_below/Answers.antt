use Rattle.dav_files_core.proofs.laws.AgreeingLemmas.{inside, within_front, put_alike, write_alike, create_dir_alike, remove_alike, rename_alike, copy_alike, opening_alike, patch_alike, read_same, read_dir_same, metadata_same, get_props_same, get_prop_same}
use Rattle.dav_files_core.proofs.fs.below.commands_see_below.Goals as goal

pub returns-clause-put : goal.returns-clause-put
returns-clause-put c = λ folder p bytes now below m n agree. put_alike folder m n agree p bytes now (inside folder p below)

pub returns-clause-write_at : goal.returns-clause-write_at
returns-clause-write_at c = λ folder p at bytes below m n agree. write_alike folder m n agree p at bytes (within_front folder p below)

pub returns-clause-create_dir : goal.returns-clause-create_dir
returns-clause-create_dir c = λ folder p now below m n agree. create_dir_alike folder m n agree p now (inside folder p below)

pub returns-clause-remove : goal.returns-clause-remove
returns-clause-remove c = λ folder p now below m n agree. remove_alike folder m n agree p now (inside folder p below)

pub returns-clause-rename : goal.returns-clause-rename
returns-clause-rename c = λ folder from to now f t m n agree. rename_alike folder m n agree from to now (inside folder from f) (inside folder to t)

pub returns-clause-copy : goal.returns-clause-copy
returns-clause-copy c = λ folder from to now f t m n agree. copy_alike folder m n agree from to now (within_front folder from f) (inside folder to t)

pub returns-clause-opening : goal.returns-clause-opening
returns-clause-opening c = λ folder p options now below m n agree. opening_alike folder m n agree p options now (inside folder p below)

pub returns-clause-patch_props : goal.returns-clause-patch_props
returns-clause-patch_props c = λ folder p patch below m n agree. patch_alike folder m n agree p patch (within_front folder p below)

pub returns-clause-read_at : goal.returns-clause-read_at
returns-clause-read_at c = λ folder p at count below m n agree. read_same folder m n agree p at count (within_front folder p below)

pub returns-clause-read_dir : goal.returns-clause-read_dir
returns-clause-read_dir c = λ folder p below m n agree. read_dir_same folder m n agree p (within_front folder p below)

pub returns-clause-metadata : goal.returns-clause-metadata
returns-clause-metadata c = λ folder p below m n agree. metadata_same folder m n agree p (within_front folder p below)

pub returns-clause-get_props : goal.returns-clause-get_props
returns-clause-get_props c = λ folder p content below m n agree. get_props_same folder m n agree p content (within_front folder p below)

pub returns-clause-get_prop : goal.returns-clause-get_prop
returns-clause-get_prop c = λ folder p wanted below m n agree. get_prop_same folder m n agree p wanted (within_front folder p below)
