use Rattle.dav_files_core.proofs.laws.GrownLemmas.{put_grows, write_at_grows, create_dir_grows, remove_grows, rename_grows, copy_grows, opening_grows, patch_grows, write_grows}
use Rattle.dav_files_core.proofs.fs.shape.commands_keep_shape.Goals as goal

pub returns-clause-put : goal.returns-clause-put
returns-clause-put c = λ m m' p bytes now is_map h. (put_grows m p bytes now (tt, m') h).shape is_map

pub returns-clause-write_at : goal.returns-clause-write_at
returns-clause-write_at c = λ m m' p at bytes is_map h. (write_at_grows m p at bytes (tt, m') h).shape is_map

pub returns-clause-create_dir : goal.returns-clause-create_dir
returns-clause-create_dir c = λ m m' p now is_map h. (create_dir_grows m p now (tt, m') h).shape is_map

pub returns-clause-remove : goal.returns-clause-remove
returns-clause-remove c = λ m m' p now is_map h. (remove_grows m p now (tt, m') h).shape is_map

pub returns-clause-rename : goal.returns-clause-rename
returns-clause-rename c = λ m m' from to now is_map h. (rename_grows m from to now (tt, m') h).shape is_map

pub returns-clause-copy : goal.returns-clause-copy
returns-clause-copy c = λ m m' from to now is_map h. (copy_grows m from to now (tt, m') h).shape is_map

pub returns-clause-opening : goal.returns-clause-opening
returns-clause-opening c = λ m m' p options now f is_map h. (opening_grows m p options now (f, m') h).shape is_map

pub returns-clause-patch_props : goal.returns-clause-patch_props
returns-clause-patch_props c = λ m m' p patch answers is_map h. (patch_grows m p patch (answers, m') h).shape is_map

pub returns-clause-write_bytes : goal.returns-clause-write_bytes
returns-clause-write_bytes c = λ m m' f f' bytes is_map h. (write_grows m f bytes (tt, (f', m')) h).shape is_map
