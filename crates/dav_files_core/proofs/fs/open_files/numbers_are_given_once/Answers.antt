use Rattle.dav_files_core.proofs.laws.GrownLemmas.{never, put_grows, write_at_grows, create_dir_grows, remove_grows, rename_grows, copy_grows, opening_grows, patch_grows, write_grows}
use Rattle.dav_files_core.proofs.fs.open_files.numbers_are_given_once.Goals as goal

pub returns-clause-put : goal.returns-clause-put
returns-clause-put c = λ m m' p bytes now is_map h. never m m' is_map (put_grows m p bytes now (tt, m') h)

pub returns-clause-write_at : goal.returns-clause-write_at
returns-clause-write_at c = λ m m' p at bytes is_map h. never m m' is_map (write_at_grows m p at bytes (tt, m') h)

pub returns-clause-create_dir : goal.returns-clause-create_dir
returns-clause-create_dir c = λ m m' p now is_map h. never m m' is_map (create_dir_grows m p now (tt, m') h)

pub returns-clause-remove : goal.returns-clause-remove
returns-clause-remove c = λ m m' p now is_map h. never m m' is_map (remove_grows m p now (tt, m') h)

pub returns-clause-rename : goal.returns-clause-rename
returns-clause-rename c = λ m m' from to now is_map h. never m m' is_map (rename_grows m from to now (tt, m') h)

pub returns-clause-copy : goal.returns-clause-copy
returns-clause-copy c = λ m m' from to now is_map h. never m m' is_map (copy_grows m from to now (tt, m') h)

pub returns-clause-opening : goal.returns-clause-opening
returns-clause-opening c = λ m m' p options now f is_map h. never m m' is_map (opening_grows m p options now (f, m') h)

pub returns-clause-patch_props : goal.returns-clause-patch_props
returns-clause-patch_props c = λ m m' p patch answers is_map h. never m m' is_map (patch_grows m p patch (answers, m') h)

pub returns-clause-write_bytes : goal.returns-clause-write_bytes
returns-clause-write_bytes c = λ m m' f f' bytes is_map h. never m m' is_map (write_grows m f bytes (tt, (f', m')) h)
