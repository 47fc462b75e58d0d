-- A text is read as one path behind a prefix, or refused in one way, memory aside.
use Rattle.std.proofs.Common.{◌≡◌, ◌⊎◌, inl, inr, ℕ, ◌-◌, true, false, List, [], ◌∷◌, ◌++◌, length}
use Rattle.std.proofs.Common.{take, drop, refl, sym, ap, subst, ◌∙◌, arith, length-append}
use Rattle.std.proofs.lemmas.Bool.{false≢true}
use Rattle.std.proofs.lemmas.Bool.Decides.{Decides-eqb}
use Rattle.std.proofs.lemmas.Slice.Eq.{ends_is}
use Rattle.std.proofs.Math.Seq.{take-append_seam, drop-append_seam}
use Rattle.dav_path_core.specs.declared.davpath.ParseError.{ParseError}
use Rattle.dav_path_core.specs.declared.davpath.ParseError.TheVariants as parse
use Rattle.dav_path_core.specs.PathText.{PathText, full}
use Rattle.dav_path_core.specs.Prefix.{SetsPrefix}
use Rattle.dav_path_core.specs.Prefix.SetsPrefix.{cut, whole, front}
use Rattle.dav_path_core.specs.PathReading.{ends_in_slash}
use Rattle.dav_path_core.proofs.paths.Laws.{no_path, one_fault, one_path as one_read}
use Rattle.dav_fields_core.specs.Targets.{IsPathOf, RefusesPath}

-- ---- a prefix is set in one way

in_slash : (p : List ℕ) → ends_in_slash (p ++ 47 ∷ []) ≡ true
in_slash p =
    (ends_is Decides-eqb (p ++ 47 ∷ []) (47 ∷ []) (ends_in_slash (p ++ 47 ∷ [])) refl).1 p refl

stem : (asked p : List ℕ) → asked ≡ p ++ 47 ∷ [] → p ≡ take (length asked - 1) asked
stem asked p e =
    let long : length p ≡ length asked - 1 =
    omega (arith, ap length e, length-append p (47 ∷ [])) in
    sym (ap (λ n. take n asked) (sym long) ∙ ap (take (length p)) e ∙ take-append_seam p (47 ∷ []))

-- what ends in a slash is no prefix without one
slash_apart : {A : Type 0} (asked p : List ℕ) → asked ≡ p ++ 47 ∷ []
    → ends_in_slash asked ≡ false → A
slash_apart asked p e h = absurd (false≢true (sym h ∙ ap ends_in_slash e ∙ in_slash p))

-- the whole path is no longer than it is
longer : {A : Type 0} (f asked rest : List ℕ) → f ≡ asked → f ≡ asked ++ 47 ∷ rest → A
longer f asked rest h k =
    absurd (omega (arith, ap length h, ap length k, length-append asked (47 ∷ rest)))

one_set : (f asked after other p q : List ℕ) → SetsPrefix f asked after p
    → SetsPrefix f asked other q → (after ≡ other) × (p ≡ q)
one_set f asked after other p q (cut r a b c) (cut t d e g) =
    (c ∙ sym g, stem asked p b ∙ sym (stem asked q e))
one_set f asked after other p q (cut r a b c) (whole d e g h) = slash_apart asked p b e
one_set f asked after other p q (cut r a b c) (front t d e g h) = slash_apart asked p b e
one_set f asked after other p q (whole d e g h) (cut r a b c) = slash_apart asked q b e
one_set f asked after other p q (whole d e g h) (whole i j k l) = (h ∙ sym l, g ∙ sym k)
one_set f asked after other p q (whole d e g h) (front t i j k l) = longer f asked t d i
one_set f asked after other p q (front t d e g h) (cut r a b c) = slash_apart asked q b e
one_set f asked after other p q (front t d e g h) (whole i j k l) = longer f asked t i d
one_set f asked after other p q (front t d e g h) (front r i j k l) = (h ∙ sym l, g ∙ sym k)

-- ---- a text has one path

abbrev with_prefix : List ℕ → List ℕ → PathText
with_prefix prefix bytes = record { prefix = prefix; bytes = bytes }

same_text : (a b : PathText) → full a ≡ full b → a.prefix ≡ b.prefix → a ≡ b
same_text a b all same =
    let bytes : a.bytes ≡ b.bytes = sym (drop-append_seam a.prefix a.bytes)
    ∙ ap (drop (length a.prefix)) all ∙ ap (λ p. drop (length p) (full b)) same
    ∙ drop-append_seam b.prefix b.bytes in
    ap (λ p. with_prefix p a.bytes) same ∙ ap (with_prefix b.prefix) bytes

pub one_path : (prefix text : List ℕ) (a b : PathText) → IsPathOf prefix text a
    → IsPathOf prefix text b → a ≡ b
one_path prefix text a b h k =
    let sets : SetsPrefix k.whole prefix (full a) a.prefix =
    subst (λ w. SetsPrefix w prefix (full a) a.prefix)
    (one_read text h.whole k.whole h.read k.read) h.sets in
    let set = one_set k.whole prefix (full a) (full b) a.prefix b.prefix sets k.sets in
    same_text a b set.0 set.1

-- ---- a text that has one isn't refused

abbrev IsMismatch : List ℕ → List ℕ → Type 0
IsMismatch prefix text = RefusesPath prefix text parse.PrefixMismatch

path_behind : {A : Type 0} (prefix text : List ℕ) (a : PathText) → IsPathOf prefix text a
    → IsMismatch prefix text → A
path_behind prefix text a h k =
    absurd (k.2 (full a) a.prefix (subst (λ w. SetsPrefix w prefix (full a) a.prefix)
    (one_read text h.whole k.0 h.read k.1) h.sets))

pub path_or_not : (prefix text : List ℕ) (a : PathText) (e : ParseError)
    → IsPathOf prefix text a → RefusesPath prefix text e → e ≡ parse.OutOfMemory
path_or_not prefix text a parse.InvalidPath h k =
    absurd (no_path text h.whole parse.InvalidPath k h.read)
path_or_not prefix text a parse.PrefixMismatch h k = path_behind prefix text a h k
path_or_not prefix text a parse.ForbiddenPath h k =
    absurd (no_path text h.whole parse.ForbiddenPath k h.read)
path_or_not prefix text a parse.OutOfMemory h k = refl

-- ---- it is refused in one way

pub one_refused_path : (prefix text : List ℕ) (e f : ParseError) → RefusesPath prefix text e
    → RefusesPath prefix text f
    → (e ≡ parse.OutOfMemory) ⊎ ((f ≡ parse.OutOfMemory) ⊎ (e ≡ f))
one_refused_path prefix text parse.OutOfMemory f h k = inl refl
one_refused_path prefix text parse.InvalidPath parse.OutOfMemory h k = inr (inl refl)
one_refused_path prefix text parse.PrefixMismatch parse.OutOfMemory h k = inr (inl refl)
one_refused_path prefix text parse.ForbiddenPath parse.OutOfMemory h k = inr (inl refl)
one_refused_path prefix text parse.PrefixMismatch parse.PrefixMismatch h k = inr (inr refl)
one_refused_path prefix text parse.InvalidPath parse.PrefixMismatch h k =
    absurd (no_path text k.0 parse.InvalidPath h k.1)
one_refused_path prefix text parse.ForbiddenPath parse.PrefixMismatch h k =
    absurd (no_path text k.0 parse.ForbiddenPath h k.1)
one_refused_path prefix text parse.PrefixMismatch parse.InvalidPath h k =
    absurd (no_path text h.0 parse.InvalidPath k h.1)
one_refused_path prefix text parse.PrefixMismatch parse.ForbiddenPath h k =
    absurd (no_path text h.0 parse.ForbiddenPath k h.1)
one_refused_path prefix text parse.InvalidPath parse.InvalidPath h k = inr (inr refl)
one_refused_path prefix text parse.ForbiddenPath parse.ForbiddenPath h k = inr (inr refl)
one_refused_path prefix text parse.InvalidPath parse.ForbiddenPath h k =
    inr (inr (one_fault text parse.InvalidPath parse.ForbiddenPath h k))
one_refused_path prefix text parse.ForbiddenPath parse.InvalidPath h k =
    inr (inr (one_fault text parse.ForbiddenPath parse.InvalidPath h k))
