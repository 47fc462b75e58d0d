-- What a removal answers, from what is taken out.
use Rattle.std.proofs.Common.{◌≡◌, ℕ, Bool, true, false, Some, Ok, Err, refl, sym, ap, ◌∙◌}
use Rattle.std.specs.Prelude.{ok_or, ◌||◌, if◌then◌else◌}
use Rattle.dav_path_core.specs.declared.errors.FsError.TheVariants.{Forbidden}
use Rattle.dav_path_core.specs.Fronts.{Path, parent}
use Rattle.dav_path_core.proofs.lists.FinMaps.{get_left}
use Rattle.dav_path_core.proofs.lists.Orders.{path_total, path_exact}
use Rattle.dav_files_core.specs.Finding.{has_members, refusal_at}
use Rattle.dav_files_core.specs.Folders.{is_root, remove}
use Rattle.dav_files_core.specs.Outcomes.{Outcome, ◌>>=◌, with_modified_time, without}
use Rattle.dav_files_core.specs.Private.Entries.{StandsIn, taken_out}
use Rattle.dav_files_core.specs.Resources.{Resource, ResourceMap, at_path}
use Rattle.dav_files_core.proofs.walks.FoundLemmas.{parent-snoc}
use Rattle.dav_files_core.proofs.paths.LengthLemmas.{longer}

module _ (m : ResourceMap) (p : Path) (r : Resource) (here : at_path m p ≡ Some r) (new : ResourceMap) (taken : taken_out m p ≡ Ok (tt, new)) where
  abbrev stays : Bool
  stays = is_root p || has_members m p

  both : (stays ≡ false) × (new ≡ without m p)
  both = by stays refl taken
    where
      by : (b : Bool) → stays ≡ b → ◌≡◌ {A = Outcome (Unit {0})} (if b then Err Forbidden else Ok (tt, without m p)) (Ok (tt, new)) → (stays ≡ false) × (new ≡ without m p)
      by true e h = absurd (cc)
      by false e h = let pairs : (tt {0}, without m p) ≡ (tt {0}, new) = cc in (e, ap (λ (x : Unit {0} × ResourceMap). x.1) (sym pairs))

  pub removed : (now : ℕ) → remove m p now ≡ Ok (tt, with_modified_time new (parent p) now)
  removed now =
      ap (λ o. ok_or o (refusal_at m p) >>= λ (_ : Resource). if stays then Err Forbidden else Ok (tt, with_modified_time (without m p) (parent p) now)) here
      ∙ ap (λ b. if b then Err Forbidden else Ok (tt {0}, with_modified_time (without m p) (parent p) now)) both.0 ∙ ap (λ m. Ok (tt {0}, with_modified_time m (parent p) now)) (sym both.1)

  -- the folder of what was taken out
  pub folder_left : (folder : ℕ) → StandsIn m p (Some folder) → (f : Resource) × (at_path new (parent p) ≡ Some f) × (f.number ≡ folder)
  folder_left folder (q, s, f, is, above, number) = (
    f,
    ap (at_path new) (ap parent is ∙ parent-snoc q s) ∙ ap (λ m. at_path m q) both.1 ∙ get_left path_total path_exact m.entries p q (λ e. longer q s (e ∙ is)) ∙ above,
    number,
  )
