-- Worked rows of the ends of a COPY and a MOVE, and of which places a COPY takes over.
use Rattle.std.proofs.Common.{◌≡◌, true, false, [], ◌∷◌, refl}
use Rattle.std.specs.Prelude.{codes}
use Rattle.dav_path_core.specs.Fronts.{Path}
use Rattle.dav_session_core.specs.Copying.{is_copied}
use Rattle.dav_session_core.specs.Ends.{is_related}
use Rattle.dav_methods_core.specs.TransferEnds.{copies_of}

-- /d, /d/e, /d/e/f and /k
abbrev d : Path
d = codes "d" ∷ []

abbrev e : Path
e = codes "d" ∷ codes "e" ∷ []

abbrev f : Path
f = codes "d" ∷ codes "e" ∷ codes "f" ∷ []

abbrev k : Path
k = codes "k" ∷ []

onto_itself : is_related true e e ≡ true
onto_itself = refl

onto_what_is_above : is_related true e d ≡ true
onto_what_is_above = refl

onto_the_root : is_related true e [] ≡ true
onto_the_root = refl

copied_to_below : is_related true e f ≡ false
copied_to_below = refl

moved_to_below : is_related false e f ≡ true
moved_to_below = refl

moved_elsewhere : is_related false e k ≡ false
moved_elsewhere = refl

root_moved : is_related false [] k ≡ true
root_moved = refl

root_copied : is_related true [] k ≡ false
root_copied = refl

folder_itself : is_copied false d k [] ≡ true
folder_itself = refl

member_of_one_alone : is_copied false d k (codes "e" ∷ []) ≡ false
member_of_one_alone = refl

member : is_copied true d k (codes "e" ∷ []) ≡ true
member = refl

target_within : is_copied true d e (codes "e" ∷ []) ≡ false
target_within = refl

below_the_target_within : is_copied true d e (codes "e" ∷ codes "f" ∷ []) ≡ false
below_the_target_within = refl

beside_the_target_within : is_copied true d e (codes "g" ∷ []) ≡ true
beside_the_target_within = refl

all_places : copies_of d k (d ∷ e ∷ f ∷ []) ≡ (d, k) ∷ (e, codes "k" ∷ codes "e" ∷ []) ∷ (f, codes "k" ∷ codes "e" ∷ codes "f" ∷ []) ∷ []
all_places = refl

to_below_itself : copies_of d e (d ∷ e ∷ f ∷ []) ≡ (d, e) ∷ []
to_below_itself = refl

from_the_root : copies_of [] k ([] ∷ d ∷ k ∷ []) ≡ ([], k) ∷ (d, codes "k" ∷ codes "d" ∷ []) ∷ []
from_the_root = refl
