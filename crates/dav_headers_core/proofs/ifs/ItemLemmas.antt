-- Items and conditions, both ways.
use Rattle.std.proofs.Common.{◌≡◌, refl, sym, ap, ◌∙◌, ℕ, Bool, true, false, cond, eqb, List, [], ◌∷◌, ◌++◌, Option, Some, inl, inr}
use Rattle.std.specs.Str.{is_utf8}
use Rattle.std.proofs.lemmas.Bool.{eqb-true, ne_eqb}
use Rattle.std.proofs.lemmas.Str.{IsUtf8-from_is_utf8, is_utf8-from_IsUtf8}
use Rattle.dav_headers_core.specs.CommaPieces.{is_blank}
use Rattle.dav_headers_core.specs.IfBytes.{is_word_byte, Item, Token, Tag}
use Rattle.dav_headers_core.specs.IfGrammar.{Between, HoldsColon, WordAt, ItemAt}
use Rattle.dav_headers_core.specs.Tags.{IsTag, is_tag, tag_in}
use Rattle.dav_headers_core.specs.Optional.{◌>>=◌, when}
use Rattle.dav_headers_core.specs.Private.IfReading.{enclosed_at, text_at, holds_colon, word_at, pointed_at, bracketed_at, worded_at, item_at}
use Rattle.dav_headers_core.proofs.lists.OptionalLemmas.{bind_some, when_some, some_is}
use Rattle.dav_headers_core.proofs.ifs.EnclosedLemmas.{enclosed_sound, enclosed_complete}
use Rattle.dav_headers_core.proofs.tags.TagLemmas.{tag_sound, tag_complete}
use Rattle.dav_headers_core.proofs.ifs.WordLemmas.{word_sound, word_complete}

abbrev Pair : Type 0
Pair = List ℕ × List ℕ

-- ---- a text between brackets

pub text_sound : (opening closing : ℕ) (bytes : List ℕ) (found : Pair) → text_at closing bytes ≡ Some found → Between opening closing (opening ∷ bytes) found.0 found.1
text_sound opening closing bytes found e =
    let b = bind_some (enclosed_at closing false bytes) (λ (text : Pair). when (is_utf8 text.0) text) found e in
    let w = when_some (is_utf8 b.0.0) b.0 found b.2 in
    let s = enclosed_sound closing bytes false b.0 b.1 in
    rw (← w.1) record {
      parts = ap (λ (t : List ℕ). opening ∷ t) s.0;
      enclosed = record { no_blank = s.1.no_blank; even = s.1.parity; inside = s.1.inside };
      utf8 = IsUtf8-from_is_utf8 b.0.0 w.0;
    }

pub text_complete : (opening closing : ℕ) (whole text rest : List ℕ) → Between opening closing whole text rest → (bytes : List ℕ) × (whole ≡ opening ∷ bytes) × (text_at closing bytes ≡ Some (text, rest))
text_complete opening closing whole text rest h = (
  text ++ closing ∷ rest,
  h.parts,
  rw (
    enclosed_complete closing text rest false record { no_blank = h.enclosed.no_blank; parity = h.enclosed.even; inside = h.enclosed.inside },
    is_utf8-from_IsUtf8 text h.utf8,
  ) refl,
)

-- ---- an item

pointed_sound : (bytes : List ℕ) (found : Item × List ℕ) → pointed_at bytes ≡ Some found → ItemAt (60 ∷ bytes) found.0 found.1
unfolding pointed_at
pointed_sound bytes found e =
    let f : Pair → Option (Item × List ℕ) = λ text. when (holds_colon text.0) (Token text.0, text.1) in
    let r = bind_some (text_at 62 bytes) f found e in
    let w = when_some (holds_colon r.0.0) (Token r.0.0, r.0.1) found r.2 in
    rw (← w.1) (inl (text_sound 60 62 bytes r.0 r.1, w.0))

bracketed_sound : (bytes : List ℕ) (found : Item × List ℕ) → bracketed_at bytes ≡ Some found → ItemAt (91 ∷ bytes) found.0 found.1
unfolding bracketed_at
bracketed_sound bytes found e =
    let f : Pair → Option (Item × List ℕ) = λ text. tag_in text.0 >>= λ tag. Some (Tag tag, text.1) in
    let r = bind_some (text_at 93 bytes) f found e in
    let g : List ℕ → Option (Item × List ℕ) = λ tag. Some (Tag tag, r.0.1) in
    let t = bind_some (tag_in r.0.0) g found r.2 in
    let w = when_some (is_tag r.0.0) r.0.0 t.0 t.1 in
    rw (← some_is _ _ t.2, ← w.1) (text_sound 91 93 bytes r.0 r.1, tag_sound r.0.0 w.0)

worded_sound : (bytes : List ℕ) (found : Item × List ℕ) → worded_at bytes ≡ Some found → ItemAt bytes found.0 found.1
unfolding worded_at
worded_sound bytes found e =
    let f : Pair → Option (Item × List ℕ) = λ word. Some (Token word.0, word.1) in
    let r = bind_some (word_at bytes) f found e in
    rw (← some_is _ _ r.2) (inr (word_sound bytes r.0.0 r.0.1 r.1))

pub item_sound : (bytes : List ℕ) (found : Item × List ℕ) → item_at bytes ≡ Some found → ItemAt bytes found.0 found.1
item_sound [] found e = absurd cc
item_sound (b ∷ bytes) found e = go (eqb b 60) refl (eqb b 91) refl e
  where
    go : (t : Bool) → eqb b 60 ≡ t → (u : Bool) → eqb b 91 ≡ u
        → cond t (pointed_at bytes) (cond u (bracketed_at bytes) (worded_at (b ∷ bytes))) ≡ Some found → ItemAt (b ∷ bytes) found.0 found.1
    go true t u v h = rw (eqb-true b 60 t) (pointed_sound bytes found h)
    go false t true v h = rw (eqb-true b 91 v) (bracketed_sound bytes found h)
    go false t false v h = worded_sound (b ∷ bytes) found h

-- what a word begins with
pub word_first : (whole text rest : List ℕ) → WordAt whole text rest → (b : ℕ) × (more : List ℕ) × (text ≡ b ∷ more) × (whole ≡ b ∷ more ++ rest) × (is_word_byte b ≡ true)
word_first whole text rest h = go text refl
  where
    go : (t : List ℕ) → text ≡ t → (b : ℕ) × (more : List ℕ) × (text ≡ b ∷ more) × (whole ≡ b ∷ more ++ rest) × (is_word_byte b ≡ true)
    go [] e = absurd (let c : holds_colon [] ≡ true = rw e at h.colon in cc)
    go (b ∷ more) e = (b, more, e, h.parts ∙ ap (λ (t : List ℕ). t ++ rest) e, (rw e at h.each).0)

pub apart : (b c : ℕ) → is_word_byte b ≡ true → is_word_byte c ≡ false → eqb b c ≡ false
apart b c p q = ne_eqb b c (λ same. let r : is_word_byte c ≡ true = rw same at p in cc)

pub blank_apart : (b : ℕ) → is_word_byte b ≡ true → is_blank b ≡ false
blank_apart b p = rw (apart b 32 p refl, apart b 9 p refl) refl

pointed_complete : (bytes text rest : List ℕ) → text_at 62 bytes ≡ Some (text, rest) → HoldsColon text → pointed_at bytes ≡ Some (Token text, rest)
unfolding pointed_at
pointed_complete bytes text rest e c = rw (e, c) refl

bracketed_complete : (bytes text rest : List ℕ) → text_at 93 bytes ≡ Some (text, rest) → IsTag text → bracketed_at bytes ≡ Some (Tag text, rest)
unfolding bracketed_at
bracketed_complete bytes text rest e t = rw (e, tag_complete text t) refl

worded_complete : (bytes text rest : List ℕ) → WordAt bytes text rest → worded_at bytes ≡ Some (Token text, rest)
unfolding worded_at
worded_complete bytes text rest h = ap (λ (o : Option Pair). o >>= λ word. some_item (Token word.0, word.1)) (word_complete bytes text rest h)
  where
    some_item : Item × List ℕ → Option (Item × List ℕ)
    some_item x = Some x

pub item_complete : (whole : List ℕ) (item : Item) (rest : List ℕ) → ItemAt whole item rest → item_at whole ≡ Some (item, rest)
item_complete whole (Token text) rest (inl h) =
    let t = text_complete 60 62 whole text rest h.0 in ap item_at t.1 ∙ pointed_complete t.0 text rest t.2 h.1
item_complete whole (Token text) rest (inr h) =
    let f = word_first whole text rest h in
    let w = worded_complete whole text rest h in
    ap item_at f.3 ∙ rw (apart f.0 60 f.4 refl, apart f.0 91 f.4 refl) (ap worded_at (sym f.3) ∙ w)
item_complete whole (Tag text) rest h =
    let t = text_complete 91 93 whole text rest h.0 in ap item_at t.1 ∙ bracketed_complete t.0 text rest t.2 h.1
