-- What a write answers, by the entry that is open.
use Rattle.std.proofs.Common.{◌≡◌, inl, inr, ℕ, ◌+◌, ◌<◌, ◌^◌, List, length, Some, Result, Ok, Err, sym, ap, ◌∙◌, subst}
use Rattle.std.specs.Prelude.{nat_lt, Bool, true, false, if◌then◌else◌, IsOk}
use Rattle.std.proofs.lemmas.Bool.{cases_Bool, ltb-true, lt-ltb}
use Rattle.dav_path_core.specs.StoreAnswers.{AnswersAs, Refused}
use Rattle.dav_path_core.specs.declared.errors.FsError.{FsError}
use Rattle.dav_path_core.specs.declared.errors.FsError.TheVariants.{TooLarge}
use Rattle.dav_path_core.specs.Fronts.{Path}
use Rattle.dav_files_core.specs.OpenFiles.{open_file, overwritten_at, start_of_write, write_bytes}
use Rattle.dav_files_core.specs.Opening.{OpenFile}
use Rattle.dav_files_core.specs.Outcomes.{Outcome, ◌>>=◌, with_other_node}
use Rattle.dav_files_core.specs.Private.Entries.{HasFileNumbered}
use Rattle.dav_files_core.specs.Private.Numbered.{by_number, length_with}
use Rattle.dav_files_core.specs.Resources.{Node, Resource, ResourceMap, at_path}
use Rattle.dav_files_core.proofs.opens.OpenedLemmas.{IsOpen, is_open, found_open}

abbrev pub Written : Type 0
Written = Result (Unit {0} × (OpenFile × ResourceMap)) FsError

-- the length of the file that is open was found
module _ (m : ResourceMap) (f : OpenFile) (n : ℕ) (number : n ≡ f.number) (long : ℕ) (found : ◌≡◌ {A = Result ℕ FsError} (Ok long) (length_with m n)) where
  pub entry : (e : Path × Resource) × (open_file m f ≡ Ok e) × (long ≡ length e.1.node.bytes)
  entry = let h = found_open (open_file m (by_number n)) (λ (node : Node). length node.bytes) long found in (h.0, ap (λ n. open_file m (by_number n)) (sym number) ∙ h.1, h.2)

  open_is : IsOpen m f entry.0
  open_is = is_open m f entry.0 entry.1

  pub there : at_path m entry.0.0 ≡ Some entry.0.1
  there = open_is.there

  pub its_number : entry.0.1.number ≡ n
  its_number = open_is.number ∙ sym number

  pub has_file : HasFileNumbered m n
  has_file = (entry.0.0, entry.0.1, there, its_number, open_is.file)

  module _ (new : List ℕ) (start : ℕ) (starts : start ≡ (if f.append then long else f.position)) where
    abbrev outcome : Bool → Written
    outcome b =
        if b
        then Ok (tt, (record f { position = start + length new }, with_other_node m entry.0.0 entry.0.1 (record entry.0.1.node { bytes = overwritten_at entry.0.1.node.bytes start new })))
        else Err TooLarge

    begins : start ≡ start_of_write f entry.0.1.node.bytes
    begins = starts ∙ ap (λ k. if f.append then k else f.position) entry.2

    answer : write_bytes m f new ≡ outcome (nat_lt (start + length new) (2 ^ 64))
    answer =
        ap (λ (o : Result (Path × Resource) FsError). o >>= λ (e : Path × Resource).
        if nat_lt (start_of_write f e.1.node.bytes + length new) (2 ^ 64)
        then Ok (tt {0}, (record f { position = start_of_write f e.1.node.bytes + length new }, with_other_node m e.0 e.1 (record e.1.node { bytes = overwritten_at e.1.node.bytes (start_of_write f e.1.node.bytes) new })))
        else Err TooLarge) entry.1
        ∙ ap (λ (s : ℕ). if nat_lt (s + length new) (2 ^ 64)
        then Ok (tt {0}, (record f { position = s + length new }, with_other_node m entry.0.0 entry.0.1 (record entry.0.1.node { bytes = overwritten_at entry.0.1.node.bytes s new })))
        else Err TooLarge) (sym begins)

    module _ (rem : ℕ) (counted : rem ≡ length new) where
      fits_is : (b : Bool) → nat_lt (start + rem) (2 ^ 64) ≡ b → write_bytes m f new ≡ outcome b
      fits_is b fits = answer ∙ ap outcome (ap (λ k. nat_lt (start + k) (2 ^ 64)) (sym counted) ∙ fits)

      pub too_large : ¬ (start + rem < 2 ^ 64) → write_bytes m f new ≡ Err TooLarge
      too_large over = elim (cases_Bool (nat_lt (start + rem) (2 ^ 64))) [
        | inl fits ↦ absurd (over (ltb-true (start + rem) (2 ^ 64) fits))
        | inr no_room ↦ fits_is false no_room
      ]

      module _ (end : ℕ) (ends : start + rem ≡ end) (fits : start + rem < 2 ^ 64) where
        behind : start + length new ≡ end
        behind = ap (λ k. start + k) (sym counted) ∙ ends

        pub done : (m' : ResourceMap) → with_other_node m entry.0.0 entry.0.1 (record entry.0.1.node { bytes = overwritten_at entry.0.1.node.bytes start new }) ≡ m'
            → write_bytes m f new ≡ Ok (tt, (record f { position = end }, m'))
        done m' left = fits_is true (lt-ltb (start + rem) (2 ^ 64) fits) ∙ (λ i. Ok (tt {0}, (record f { position = behind i }, left i)))

-- what a call left
pub left_by : (x m : ResourceMap) (u : Unit {0}) → ◌≡◌ {A = Outcome (Unit {0})} (Ok (tt, x)) (Ok (u, m)) → x ≡ m
left_by x m u h = let pairs : (tt {0}, x) ≡ (u, m) = cc in ap (λ (x : Unit {0} × ResourceMap). x.1) pairs

-- it is out of memory alone, where nothing else refuses
pub no_memory : {S : Type 0} (e : FsError) (r : Result (Unit {0}) FsError) → r ≡ Err e → (x m m' : ResourceMap) → (m' ≡ m) × Refused {A = Unit {0} × ResourceMap} (Ok (tt, x)) e
    → (outcome : Result (Unit {0} × (S × ResourceMap)) FsError) → IsOk outcome → (f : S) → AnswersAs (λ (x : Unit {0}). x) r outcome (f, m) (f, m')
no_memory e r is x m m' h outcome there f = subst (λ (r : Result (Unit {0}) FsError). AnswersAs (λ (x : Unit {0}). x) r outcome (f, m) (f, m')) (sym is) ((λ i. (f, h.0 i)), elim h.1 [ inl out ↦ inl (out.0, there) | inr none ↦ absurd (cc) ])
