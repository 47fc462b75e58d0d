-- Commands are read exactly as they are written.
use Rattle.std.proofs.Common.{◌≡◌, ℕ, zero, suc, ◌<◌, ◌≤◌, Bool, true, false, not, ltb, cond, List as Sequence, [], ◌∷◌, ◌++◌, length, take, drop, Option, Result, Ok, Err, refl, sym, ap, subst, ◌∙◌, append_assoc, arith}
use Rattle.std.specs.Prelude.{IfSome}
use Rattle.std.proofs.lemmas.Bool.{ltb-false, le-ltb, ne_eqb}
use Rattle.std.proofs.lemmas.List.{length-take}
use Rattle.dav_path_core.specs.Fronts.{Path}
use Rattle.dav_path_core.specs.PathText.{PathText, folder_bytes}
use Rattle.dav_files_core.specs.Resources.{Property}
use Rattle.dav_guarded_core.specs.Requests.{Command}
use Rattle.dav_effects_core.specs.ByteForms.{Reading, ◌>>=◌, FitsInEight, HasCount, IsUtf8Text, number_text, counted_text, flag_text, optional_text, each_text, following_text, pair_at, value_at, only_at, eight_bytes_at, utf8_at, flag_at, optional_at, each_at, following_at}
use Rattle.dav_effects_core.specs.RecordReading.{path_at, patch_at, two_paths_at, body_is_left, put_command_at, write_command_at, patches_at, lock_at, unlock_at, refresh_at, command_at, command_fields_at}
use Rattle.dav_effects_core.specs.RecordText.{path_text, patch_text, command_text, body_of}
use Rattle.dav_effects_core.specs.Records.{IsPath, IsPathText, IsProperty, ArePatches, IsChange}
use Rattle.dav_effects_core.proofs.Exact.{Exact, IsBytes, bind_ok, ok_is, pair_exact, only_exact, number_exact, text_exact, flag_exact, optional_exact, each_exact}
use Rattle.dav_effects_core.proofs.Following.{following_exact}
use Rattle.dav_effects_core.proofs.ValueForms.{path_exact, two_paths_exact, patch_exact}

-- the bodies that are left begin with that of the command
abbrev pub HasBody : Sequence ℕ → Command → Type 0
HasBody bodies x = take (length (body_of x)) bodies ≡ body_of x

-- what a reading behind the tag took
abbrev Took : Sequence ℕ → Sequence ℕ → ℕ → Sequence ℕ → Command → Sequence ℕ → Type 0
Took before bodies tag bytes x rest = (tag ∷ bytes ≡ command_text before x ++ rest) × (IsChange x × HasBody bodies x)

built : {A : Type 0} (t : A → Sequence ℕ) (F : A → Type 0) (p : Reading A) (K : A → Command) (before bodies : Sequence ℕ) (tag : ℕ) → Exact t F p
    → ((a : A) → F a → (tag ∷ t a ≡ command_text before (K a)) × (IsChange (K a) × HasBody bodies (K a)))
    → (bytes : Sequence ℕ) (x : Command) (rest : Sequence ℕ) → IsBytes bytes → value_at K p bytes ≡ Ok (x, rest) → Took before bodies tag bytes x rest
built t F p K before bodies tag P holds bytes x rest fits e =
    let a = bind_ok (p bytes) (λ a. Ok (K a.0, a.1)) (x, rest) e in
    let first = P.takes bytes a.0.0 a.0.1 fits a.1 in
    let facts = holds a.0.0 first.1 in
    let whole : tag ∷ bytes ≡ command_text before (K a.0.0) ++ a.0.1 = ap (λ (w : Sequence ℕ). tag ∷ w) first.0 ∙ ap (λ (w : Sequence ℕ). w ++ a.0.1) facts.0 in
    let made : Command × Sequence ℕ = (K a.0.0, a.0.1) in
    subst (λ (y : Command × Sequence ℕ). Took before bodies tag bytes y.0 y.1) (ok_is made (x, rest) a.2) (whole, facts.1)

-- ---- bodies

not_not : (b : Bool) → not b ≡ true → b ≡ false
not_not true e = absurd cc
not_not false e = refl

-- so many bytes of those that are left
body_len : (bodies : Sequence ℕ) (len : ℕ) → body_is_left bodies len ≡ true → length (take len bodies) ≡ len
body_len bodies len e =
    let le : len ≤ length bodies = ltb-false _ _ (not_not (ltb (length bodies) len) e) in
    omega (arith, length-take len bodies)

body_there : (bodies body : Sequence ℕ) → take (length body) bodies ≡ body → body_is_left bodies (length body) ≡ true
body_there bodies body e =
    let le : length body ≤ length bodies = omega (arith, length-take (length body) bodies, ap length e) in
    rw (le-ltb (length bodies) (length body) le) refl

-- ---- the fields of each

numbers : Exact (optional_text number_text) (λ o. IfSome o FitsInEight) (optional_at eight_bytes_at)
numbers = optional_exact number_text FitsInEight eight_bytes_at number_exact

texts : Exact (optional_text counted_text) (λ o. IfSome o IsUtf8Text) (optional_at utf8_at)
texts = optional_exact counted_text IsUtf8Text utf8_at text_exact

module _ (before : Sequence ℕ) where
  put_fields : Exact (λ (x : Path × ℕ). path_text before x.0 ++ number_text x.1) (λ (x : Path × ℕ). IsPath x.0 × FitsInEight x.1) (pair_at (path_at before) (λ _. eight_bytes_at))
  put_fields = pair_exact (path_text before) IsPath (path_at before) (λ _. number_text) (λ _. FitsInEight) (λ _. eight_bytes_at) (path_exact before) (λ _. number_exact)

  write_fields : Exact (λ (x : Path × (Option ℕ × ℕ)). path_text before x.0 ++ (optional_text number_text x.1.0 ++ number_text x.1.1)) (λ (x : Path × (Option ℕ × ℕ)). IsPath x.0 × (IfSome x.1.0 FitsInEight × FitsInEight x.1.1))
      (pair_at (path_at before) (λ _. pair_at (optional_at eight_bytes_at) (λ _. eight_bytes_at)))
  write_fields = pair_exact (path_text before) IsPath (path_at before) (λ _ y. optional_text number_text y.0 ++ number_text y.1) (λ _ y. IfSome y.0 FitsInEight × FitsInEight y.1) (λ _. pair_at (optional_at eight_bytes_at) (λ _. eight_bytes_at)) (path_exact before)
      (λ _. pair_exact (optional_text number_text) (λ o. IfSome o FitsInEight) (optional_at eight_bytes_at) (λ _. number_text) (λ _. FitsInEight) (λ _. eight_bytes_at) numbers (λ _. number_exact))

  patch_fields : Exact (λ (x : Path × Sequence (Bool × Property)). path_text before x.0 ++ each_text patch_text x.1) (λ (x : Path × Sequence (Bool × Property)). IsPath x.0 × ArePatches x.1) (pair_at (path_at before) (λ _. each_at patch_at))
  patch_fields = pair_exact (path_text before) IsPath (path_at before) (λ _. each_text patch_text) (λ _. ArePatches) (λ _. each_at patch_at) (path_exact before) (λ _. each_exact patch_text (λ e. IsProperty e.1) patch_at patch_exact)

  unlock_fields : Exact (λ (x : Path × Sequence ℕ). path_text before x.0 ++ counted_text x.1) (λ (x : Path × Sequence ℕ). IsPath x.0 × IsUtf8Text x.1) (pair_at (path_at before) (λ _. utf8_at))
  unlock_fields = pair_exact (path_text before) IsPath (path_at before) (λ _. counted_text) (λ _. IsUtf8Text) (λ _. utf8_at) (path_exact before) (λ _. text_exact)

  refresh_fields : Exact (λ (x : Path × (Sequence ℕ × Option ℕ)). path_text before x.0 ++ (counted_text x.1.0 ++ optional_text number_text x.1.1)) (λ (x : Path × (Sequence ℕ × Option ℕ)). IsPath x.0 × (IsUtf8Text x.1.0 × IfSome x.1.1 FitsInEight))
      (pair_at (path_at before) (λ _. pair_at utf8_at (λ _. optional_at eight_bytes_at)))
  refresh_fields = pair_exact (path_text before) IsPath (path_at before) (λ _ y. counted_text y.0 ++ optional_text number_text y.1) (λ _ y. IsUtf8Text y.0 × IfSome y.1 FitsInEight) (λ _. pair_at utf8_at (λ _. optional_at eight_bytes_at)) (path_exact before)
      (λ _. pair_exact counted_text IsUtf8Text utf8_at (λ _. optional_text number_text) (λ _ o. IfSome o FitsInEight) (λ _. optional_at eight_bytes_at) text_exact (λ _. numbers))

  abbrev LockFields : Type 0
  LockFields = Sequence ℕ × (Sequence ℕ × (Option (Sequence ℕ) × (Option ℕ × (Bool × Bool))))

  lock_fields : Exact (λ (x : LockFields). counted_text x.0 ++ (following_text before x.1.0 ++ (optional_text counted_text x.1.1.0 ++ (optional_text number_text x.1.1.1.0 ++ (flag_text x.1.1.1.1.0 ++ flag_text x.1.1.1.1.1)))))
      (λ (x : LockFields). IsUtf8Text x.0 × (HasCount x.1.0 × (IfSome x.1.1.0 IsUtf8Text × (IfSome x.1.1.1.0 FitsInEight × (Unit {0} × Unit {0})))))
      (pair_at utf8_at (λ _. pair_at (following_at before) (λ _. pair_at (optional_at utf8_at) (λ _. pair_at (optional_at eight_bytes_at) (λ _. pair_at flag_at (λ _. flag_at))))))
  lock_fields =
      pair_exact counted_text IsUtf8Text utf8_at
      (λ _ y. following_text before y.0 ++ (optional_text counted_text y.1.0 ++ (optional_text number_text y.1.1.0 ++ (flag_text y.1.1.1.0 ++ flag_text y.1.1.1.1))))
      (λ _ y. HasCount y.0 × (IfSome y.1.0 IsUtf8Text × (IfSome y.1.1.0 FitsInEight × (Unit {0} × Unit {0}))))
      (λ _. pair_at (following_at before) (λ _. pair_at (optional_at utf8_at) (λ _. pair_at (optional_at eight_bytes_at) (λ _. pair_at flag_at (λ _. flag_at))))) text_exact
      (λ _. pair_exact (following_text before) HasCount (following_at before)
      (λ _ y. optional_text counted_text y.0 ++ (optional_text number_text y.1.0 ++ (flag_text y.1.1.0 ++ flag_text y.1.1.1)))
      (λ _ y. IfSome y.0 IsUtf8Text × (IfSome y.1.0 FitsInEight × (Unit {0} × Unit {0})))
      (λ _. pair_at (optional_at utf8_at) (λ _. pair_at (optional_at eight_bytes_at) (λ _. pair_at flag_at (λ _. flag_at)))) (following_exact before)
      (λ _. pair_exact (optional_text counted_text) (λ o. IfSome o IsUtf8Text) (optional_at utf8_at)
      (λ _ y. optional_text number_text y.0 ++ (flag_text y.1.0 ++ flag_text y.1.1)) (λ _ y. IfSome y.0 FitsInEight × (Unit {0} × Unit {0}))
      (λ _. pair_at (optional_at eight_bytes_at) (λ _. pair_at flag_at (λ _. flag_at))) texts
      (λ _. pair_exact (optional_text number_text) (λ o. IfSome o FitsInEight) (optional_at eight_bytes_at) (λ _ y. flag_text y.0 ++ flag_text y.1) (λ _ _. Unit {0} × Unit {0}) (λ _. pair_at flag_at (λ _. flag_at)) numbers
      (λ _. pair_exact flag_text (λ _. Unit {0}) flag_at (λ _. flag_text) (λ _ _. Unit {0}) (λ _. flag_at) flag_exact (λ _. flag_exact)))))

  module _ (bodies : Sequence ℕ) where
    put_takes : (bytes : Sequence ℕ) (x : Command) (rest : Sequence ℕ) → IsBytes bytes → put_command_at before bodies bytes ≡ Ok (x, rest) → Took before bodies 0 bytes x rest
    unfolding put_command_at command_text
    put_takes = built (λ (x : Path × ℕ). path_text before x.0 ++ number_text x.1) (λ (x : Path × ℕ). (IsPath x.0 × FitsInEight x.1) × (body_is_left bodies x.1 ≡ true))
        (only_at (λ x. body_is_left bodies x.1) (pair_at (path_at before) (λ _. eight_bytes_at))) (λ x. Command.Put x.0 (take x.1 bodies)) before bodies 0
        (only_exact (λ (x : Path × ℕ). path_text before x.0 ++ number_text x.1) (λ (x : Path × ℕ). IsPath x.0 × FitsInEight x.1) (pair_at (path_at before) (λ _. eight_bytes_at)) (λ x. body_is_left bodies x.1) put_fields)
        (λ a h. let len = body_len bodies a.1 h.1 in
        (ap (λ (n : ℕ). 0 ∷ (path_text before a.0 ++ number_text n)) (sym len), ((h.0.0, subst FitsInEight (sym len) h.0.1), ap (λ (n : ℕ). take n bodies) len)))

    write_takes : (bytes : Sequence ℕ) (x : Command) (rest : Sequence ℕ) → IsBytes bytes → write_command_at before bodies bytes ≡ Ok (x, rest) → Took before bodies 1 bytes x rest
    unfolding write_command_at command_text
    write_takes = built (λ (x : Path × (Option ℕ × ℕ)). path_text before x.0 ++ (optional_text number_text x.1.0 ++ number_text x.1.1))
        (λ (x : Path × (Option ℕ × ℕ)). (IsPath x.0 × (IfSome x.1.0 FitsInEight × FitsInEight x.1.1)) × (body_is_left bodies x.1.1 ≡ true))
        (only_at (λ x. body_is_left bodies x.1.1) (pair_at (path_at before) (λ _. pair_at (optional_at eight_bytes_at) (λ _. eight_bytes_at)))) (λ x. Command.Write x.0 x.1.0 (take x.1.1 bodies)) before bodies 1
        (only_exact (λ (x : Path × (Option ℕ × ℕ)). path_text before x.0 ++ (optional_text number_text x.1.0 ++ number_text x.1.1)) (λ (x : Path × (Option ℕ × ℕ)). IsPath x.0 × (IfSome x.1.0 FitsInEight × FitsInEight x.1.1))
        (pair_at (path_at before) (λ _. pair_at (optional_at eight_bytes_at) (λ _. eight_bytes_at))) (λ x. body_is_left bodies x.1.1) write_fields)
        (λ a h. let len = body_len bodies a.1.1 h.1 in
        (ap (λ (n : ℕ). 1 ∷ (path_text before a.0 ++ (optional_text number_text a.1.0 ++ number_text n))) (sym len), ((h.0.0, (h.0.1.0, subst FitsInEight (sym len) h.0.1.1)), ap (λ (n : ℕ). take n bodies) len)))

    pub unknown_tag : (tag : ℕ) (bytes : Sequence ℕ) → 10 ≤ tag → command_fields_at before bodies tag bytes ≡ Err (suc (length bytes))
    unknown_tag tag bytes le =
        rw (ne_eqb tag 0 (λ e. omega arith), ne_eqb tag 1 (λ e. omega arith), ne_eqb tag 2 (λ e. omega arith), ne_eqb tag 3 (λ e. omega arith), ne_eqb tag 4 (λ e. omega arith), ne_eqb tag 5 (λ e. omega arith), ne_eqb tag 6 (λ e. omega arith), ne_eqb tag 7 (λ e. omega arith), ne_eqb tag 8 (λ e. omega arith), ne_eqb tag 9 (λ e. omega arith)) refl

    command_takes : (bytes : Sequence ℕ) (x : Command) (rest : Sequence ℕ) → IsBytes bytes → command_at before bodies bytes ≡ Ok (x, rest) → (bytes ≡ command_text before x ++ rest) × (IsChange x × HasBody bodies x)
    unfolding command_at command_text patches_at lock_at unlock_at refresh_at
    command_takes [] x rest fits e = absurd cc
    command_takes (zero ∷ bytes) x rest fits e = put_takes bytes x rest (λ i. fits (suc i)) e
    command_takes (suc zero ∷ bytes) x rest fits e = write_takes bytes x rest (λ i. fits (suc i)) e
    command_takes (suc (suc zero) ∷ bytes) x rest fits e = built (path_text before) IsPath (path_at before) (λ p. Command.MkCol p) before bodies 2 (path_exact before) (λ a h. (refl, (h, refl))) bytes x rest (λ i. fits (suc i)) e
    command_takes (suc (suc (suc zero)) ∷ bytes) x rest fits e = built (path_text before) IsPath (path_at before) (λ p. Command.Remove p) before bodies 3 (path_exact before) (λ a h. (refl, (h, refl))) bytes x rest (λ i. fits (suc i)) e
    command_takes (suc (suc (suc (suc zero))) ∷ bytes) x rest fits e =
        built (λ (x : Path × Path). path_text before x.0 ++ path_text (folder_bytes x.0) x.1) (λ (x : Path × Path). IsPath x.0 × IsPath x.1) (two_paths_at before) (λ p. Command.Move p.0 p.1) before bodies 4 (two_paths_exact before) (λ a h. (refl, (h, refl))) bytes x rest (λ i. fits (suc i)) e
    command_takes (suc (suc (suc (suc (suc zero)))) ∷ bytes) x rest fits e =
        built (λ (x : Path × Path). path_text before x.0 ++ path_text (folder_bytes x.0) x.1) (λ (x : Path × Path). IsPath x.0 × IsPath x.1) (two_paths_at before) (λ p. Command.Copy p.0 p.1) before bodies 5 (two_paths_exact before) (λ a h. (refl, (h, refl))) bytes x rest (λ i. fits (suc i)) e
    command_takes (suc (suc (suc (suc (suc (suc zero))))) ∷ bytes) x rest fits e =
        built (λ (x : Path × Sequence (Bool × Property)). path_text before x.0 ++ each_text patch_text x.1) (λ (x : Path × Sequence (Bool × Property)). IsPath x.0 × ArePatches x.1) (pair_at (path_at before) (λ _. each_at patch_at))
        (λ x. Command.PatchProps x.0 x.1) before bodies 6 patch_fields (λ a h. (refl, (h, refl))) bytes x rest (λ i. fits (suc i)) e
    command_takes (suc (suc (suc (suc (suc (suc (suc zero)))))) ∷ bytes) x rest fits e =
        built (λ (x : LockFields). counted_text x.0 ++ (following_text before x.1.0 ++ (optional_text counted_text x.1.1.0 ++ (optional_text number_text x.1.1.1.0 ++ (flag_text x.1.1.1.1.0 ++ flag_text x.1.1.1.1.1)))))
        (λ (x : LockFields). IsUtf8Text x.0 × (HasCount x.1.0 × (IfSome x.1.1.0 IsUtf8Text × (IfSome x.1.1.1.0 FitsInEight × (Unit {0} × Unit {0})))))
        (pair_at utf8_at (λ _. pair_at (following_at before) (λ _. pair_at (optional_at utf8_at) (λ _. pair_at (optional_at eight_bytes_at) (λ _. pair_at flag_at (λ _. flag_at))))))
        (λ x. Command.Lock (record { prefix = x.0; bytes = x.1.0 }) x.1.1.0 x.1.1.1.0 x.1.1.1.1.0 x.1.1.1.1.1) before bodies 7 lock_fields
        (λ a h. (refl, ((record { prefix = h.0; bytes = h.1.0 }, (h.1.1.0, h.1.1.1.0)), refl))) bytes x rest (λ i. fits (suc i)) e
    command_takes (suc (suc (suc (suc (suc (suc (suc (suc zero))))))) ∷ bytes) x rest fits e =
        built (λ (x : Path × Sequence ℕ). path_text before x.0 ++ counted_text x.1) (λ (x : Path × Sequence ℕ). IsPath x.0 × IsUtf8Text x.1) (pair_at (path_at before) (λ _. utf8_at)) (λ x. Command.Unlock x.0 x.1) before bodies 8 unlock_fields (λ a h. (refl, (h, refl))) bytes x rest (λ i. fits (suc i)) e
    command_takes (suc (suc (suc (suc (suc (suc (suc (suc (suc zero)))))))) ∷ bytes) x rest fits e =
        built (λ (x : Path × (Sequence ℕ × Option ℕ)). path_text before x.0 ++ (counted_text x.1.0 ++ optional_text number_text x.1.1)) (λ (x : Path × (Sequence ℕ × Option ℕ)). IsPath x.0 × (IsUtf8Text x.1.0 × IfSome x.1.1 FitsInEight))
        (pair_at (path_at before) (λ _. pair_at utf8_at (λ _. optional_at eight_bytes_at))) (λ x. Command.Refresh x.0 x.1.0 x.1.1) before bodies 9 refresh_fields (λ a h. (refl, (h, refl))) bytes x rest (λ i. fits (suc i)) e
    command_takes (suc (suc (suc (suc (suc (suc (suc (suc (suc (suc tag))))))))) ∷ bytes) x rest fits e =
        absurd (no_ok (suc (length bytes)) (x, rest) (sym (unknown_tag (suc (suc (suc (suc (suc (suc (suc (suc (suc (suc tag)))))))))) bytes (omega arith)) ∙ e))
      where
        no_ok : (d : ℕ) (y : Command × Sequence ℕ) → Err d ≡ Ok y → ⊥
        no_ok d y h = cc

    command_again : (x : Command) (rest : Sequence ℕ) → IsChange x × HasBody bodies x → command_at before bodies (command_text before x ++ rest) ≡ Ok (x, rest)
    unfolding command_at command_text put_command_at write_command_at patches_at lock_at unlock_at refresh_at
    command_again (Command.Put path bytes) rest fits =
        let one = put_fields.again (path, length bytes) rest (fits.0.0, fits.0.1) in
        let there = body_there bodies bytes fits.1 in
        rw (one, there, fits.1) refl
    command_again (Command.Write path at bytes) rest fits =
        let one = write_fields.again (path, (at, length bytes)) rest (fits.0.0, (fits.0.1.0, fits.0.1.1)) in
        let there = body_there bodies bytes fits.1 in
        rw (one, there, fits.1) refl
    command_again (Command.MkCol path) rest fits = let one = (path_exact before).again path rest fits.0 in rw one refl
    command_again (Command.Remove path) rest fits = let one = (path_exact before).again path rest fits.0 in rw one refl
    command_again (Command.Move from to) rest fits = let one = (two_paths_exact before).again (from, to) rest fits.0 in rw one refl
    command_again (Command.Copy from to) rest fits = let one = (two_paths_exact before).again (from, to) rest fits.0 in rw one refl
    command_again (Command.PatchProps path patch) rest fits = let one = patch_fields.again (path, patch) rest fits.0 in rw one refl
    command_again (Command.Lock path owner timeout shared deep) rest fits =
        let one = lock_fields.again (path.prefix, (path.bytes, (owner, (timeout, (shared, deep))))) rest (fits.0.0.prefix, (fits.0.0.bytes, (fits.0.1.0, (fits.0.1.1, (tt, tt))))) in rw one refl
    command_again (Command.Unlock path token) rest fits = let one = unlock_fields.again (path, token) rest fits.0 in rw one refl
    command_again (Command.Refresh path token timeout) rest fits = let one = refresh_fields.again (path, (token, timeout)) rest fits.0 in rw one refl
    command_again _ rest fits = absurd fits.0

    pub command_exact : Exact (command_text before) (λ (x : Command). IsChange x × HasBody bodies x) (command_at before bodies)
    command_exact = record { takes = command_takes; again = command_again }
