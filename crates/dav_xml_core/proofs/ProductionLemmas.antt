-- What productions find in a text whose characters pass a test, and what they leave of it.
use Rattle.std.proofs.Common.{◌≡◌, refl, ap, subst, ◌∙◌, ℕ, zero, suc, ◌+◌, ◌<◌, ◌≤◌, arith, Bool, true, false, ◌||◌, not, cond, nat_eq, List, [], ◌∷◌, take, drop, length, Option, None, Some}
use Rattle.std.specs.Prelude.{codes, ◌==◌}
use Rattle.std.specs.List.{list_all, prefix_len, starts_with}
use Rattle.std.proofs.lemmas.Bool.{and_parts}
use Rattle.std.proofs.lemmas.Option.{none-some, same_Some}
use Rattle.dav_xml_core.specs.Characters.{is_white}
use Rattle.dav_xml_core.specs.Markup.{RawAttribute, Piece, Tag, EndTag, Characters, CData, Aside, eq_at, quoted_at, attribute_at, tag_end, start_tag_at, end_tag_at, comment_at, cdata_at, is_xml, instruction_at, declared_at, markup_at, is_text, characters_at, piece_at}
use Rattle.dav_xml_core.specs.Names.{QName, is_name_start, is_name_char, is_ncname, ncname_at, qname_at}
use Rattle.dav_xml_core.specs.Optional.{◌>>=◌, when, choose}
use Rattle.dav_xml_core.specs.Scanning.{Found, begins, after_char, skip_white, with_char, until, is_nil, after_mark}
use Rattle.dav_xml_core.specs.Sequences.{many, sequence}
use Rattle.dav_xml_core.proofs.EachLemmas.{Each}
use Rattle.dav_xml_core.proofs.ElementLemmas.{bind_some, when_some}

-- ---- sequences

module _ {A E : Type 0} (ending : List ℕ → Option E) (part : List ℕ → Found A) (P : List ℕ → Type 0) (Q : E → Type 0) (R : A → Type 0)
    (by_end : (text : List ℕ) (e : E) → P text → ending text ≡ Some e → Q e)
    (by_part : (text : List ℕ) (found : A × List ℕ) → P text → part text ≡ Some found → R found.0 × P found.1) where
  abbrev Parts : ℕ → List A × E → Type 0
  Parts n found = Each R found.0 × (length found.0 < n) × Q found.1

  -- each part is such, and so is what the end gives
  pub many_found : (n : ℕ) (text : List ℕ) (found : List A × E) → P text → many ending part n text ≡ Some found → Parts n found
  unfolding many
  many_found zero text found p h = absurd (none-some found h)
  many_found (suc n) text found p h = go (ending text) refl (λ rest others q e. many_found n rest others q e) h
    where
      go : (o : Option E) → ending text ≡ o → ((rest : List ℕ) (others : List A × E) → P rest → many ending part n rest ≡ Some others → Parts n others)
          → choose o (λ e. Some ([], e)) (part text >>= λ first. many ending part n first.1 >>= λ others. Some (first.0 ∷ others.0, others.1)) ≡ Some found
          → Parts (suc n) found
      go (Some e) is r h = subst (Parts (suc n)) (same_Some ([], e) found h) (tt, omega arith, by_end text e p is)
      go None is r h =
          let a = bind_some (part text) _ found h in
          let one = by_part text a.0 p a.1 in
          let b = bind_some (many ending part n a.0.1) _ found a.2 in
          let more = r a.0.1 b.0 one.1 b.1 in
          subst (Parts (suc n)) (same_Some (a.0.0 ∷ b.0.0, b.0.1) found b.2) ((one.0, more.0), omega (arith, more.1), more.2)

-- ---- texts

-- each character passes, and there are at most so many
pub record Fine (q : ℕ → Bool) (n : ℕ) (text : List ℕ) : Type 0 where
  pub chars : list_all q text ≡ true
  pub short : length text ≤ n

module _ (q : ℕ → Bool) (n : ℕ) where
  pub first_passes : (c : ℕ) (text : List ℕ) → Fine q n (c ∷ text) → q c ≡ true
  first_passes c text f = (and_parts (q c) (list_all q text) f.chars).0

  pub others_pass : (c : ℕ) (text : List ℕ) → Fine q n (c ∷ text) → Fine q n text
  others_pass c text f = record { chars = (and_parts (q c) (list_all q text) f.chars).1; short = omega (arith, f.short) }

  pub dropped : (k : ℕ) (text : List ℕ) → Fine q n text → Fine q n (drop k text)
  dropped zero text f = f
  dropped (suc k) [] f = f
  dropped (suc k) (c ∷ text) f = dropped k text (others_pass c text f)

  taken : (k : ℕ) (text : List ℕ) → list_all q text ≡ true → list_all q (take k text) ≡ true
  taken zero text h = refl
  taken (suc k) [] h = refl
  taken (suc k) (c ∷ text) h = let p = and_parts (q c) (list_all q text) h in rw (p.0, taken k text p.1) refl

  pub white : (text : List ℕ) → Fine q n text → Fine q n (skip_white text)
  white [] f = f
  white (c ∷ text) f = go (is_white c) (white text (others_pass c text f))
    where
      go : (b : Bool) → Fine q n (skip_white text) → Fine q n (cond b (skip_white text) (c ∷ text))
      go true g = g
      go false g = f

  pub char : (k : ℕ) (text rest : List ℕ) → Fine q n text → after_char k text ≡ Some rest → Fine q n rest
  char k [] rest f h = absurd (none-some rest h)
  char k (c ∷ text) rest f h = subst (Fine q n) (when_some (c == k) text rest h).1 (others_pass c text f)

  pub marked : (word text rest : List ℕ) → Fine q n text → after_mark word text ≡ Some rest → Fine q n rest
  marked word text rest f h = subst (Fine q n) (when_some (starts_with nat_eq text word) (drop (length word) text) rest h).1 (dropped (length word) text f)

  abbrev Cut : List ℕ × List ℕ → Type 0
  Cut found = (list_all q found.0 ≡ true) × Fine q n found.1

  pub searched : (word text : List ℕ) (found : List ℕ × List ℕ) → Fine q n text → until word text ≡ Some found → Cut found
  searched word [] found f h = absurd (none-some found h)
  searched word (c ∷ text) found f h = go (starts_with nat_eq (c ∷ text) word) h (λ other. searched word text other (others_pass c text f))
    where
      later : (o : Found (List ℕ)) → with_char c o ≡ Some found → ((other : List ℕ × List ℕ) → o ≡ Some other → Cut other) → Cut found
      later None e r = absurd (none-some found e)
      later (Some other) e r =
          let cut = r other refl in
          subst Cut (same_Some (c ∷ other.0, other.1) found e) (rw (first_passes c text f, cut.0) refl, cut.1)

      go : (b : Bool) → cond b (Some ([], drop (length word) (c ∷ text))) (with_char c (until word text)) ≡ Some found
          → ((other : List ℕ × List ℕ) → until word text ≡ Some other → Cut other) → Cut found
      go true e r = subst Cut (same_Some ([], drop (length word) (c ∷ text)) found e) (refl, dropped (length word) (c ∷ text) f)
      go false e r = later (until word text) e r

  ncname : (text : List ℕ) (found : List ℕ × List ℕ) → Fine q n text → ncname_at text ≡ Some found → Fine q n found.1
  unfolding ncname_at
  ncname text found f h =
      let k = prefix_len is_name_char text in
      subst (λ (x : List ℕ × List ℕ). Fine q n x.1) (when_some (begins is_name_start text) (take k text, drop k text) found h).1 (dropped k text f)

  equals : (text rest : List ℕ) → Fine q n text → eq_at text ≡ Some rest → Fine q n rest
  equals text rest f h =
      let a = bind_some (after_char 61 (skip_white text)) _ rest h in
      subst (Fine q n) (same_Some (skip_white a.0) rest a.2) (white a.0 (char 61 (skip_white text) a.0 (white text f) a.1))

  quoted : (text : List ℕ) (found : List ℕ × List ℕ) → Fine q n text → quoted_at text ≡ Some found → Cut found
  quoted [] found f h = absurd (none-some found h)
  quoted (c ∷ text) found f h = go (c == 34 || c == 39) h
    where
      go : (b : Bool) → cond b (until (c ∷ []) text) None ≡ Some found → Cut found
      go true e = searched (c ∷ []) text found (others_pass c text f) e
      go false e = absurd (none-some found e)

-- ---- names

char_in_name : (c : ℕ) → is_name_start c ≡ true → is_name_char c ≡ true
char_in_name c h = rw h refl

all_taken : (p : ℕ → Bool) (text : List ℕ) → list_all p (take (prefix_len p text) text) ≡ true
all_taken p [] = refl
all_taken p (c ∷ text) = go (p c) refl (all_taken p text)
  where
    go : (b : Bool) → p c ≡ b → list_all p (take (prefix_len p text) text) ≡ true → list_all p (take (cond b (1 + prefix_len p text) 0) (c ∷ text)) ≡ true
    go true e r =
        let s : 1 + prefix_len p text ≡ suc (prefix_len p text) = omega arith in
        ap (λ (k : ℕ). list_all p (take k (c ∷ text))) s ∙ rw (e, r) refl
    go false e r = refl

first_taken : (c : ℕ) (text : List ℕ) → is_name_start c ≡ true → begins is_name_start (take (prefix_len is_name_char (c ∷ text)) (c ∷ text)) ≡ true
first_taken c text h =
    let s : 1 + prefix_len is_name_char text ≡ suc (prefix_len is_name_char text) = omega arith in
    ap (λ b. begins is_name_start (take (cond b (1 + prefix_len is_name_char text) 0) (c ∷ text))) (char_in_name c h)
    ∙ ap (λ (k : ℕ). begins is_name_start (take k (c ∷ text))) s ∙ h

ncname_is : (text : List ℕ) (found : List ℕ × List ℕ) → ncname_at text ≡ Some found → is_ncname found.0 ≡ true
unfolding ncname_at
ncname_is [] found h = absurd (none-some found h)
ncname_is (c ∷ text) found h =
    let k = prefix_len is_name_char (c ∷ text) in
    let w = when_some (is_name_start c) (take k (c ∷ text), drop k (c ∷ text)) found h in
    subst (λ (x : List ℕ × List ℕ). is_ncname x.0 ≡ true) w.1 (rw (first_taken c text w.0, all_taken is_name_char (c ∷ text)) refl)

module _ (q : ℕ → Bool) (n : ℕ) where
  abbrev Named : QName × List ℕ → Type 0
  Named found = (is_ncname found.0.local ≡ true) × Fine q n found.1

  pub qname_found : (text : List ℕ) (found : QName × List ℕ) → Fine q n text → qname_at text ≡ Some found → Named found
  unfolding qname_at
  qname_found text found f h =
      let a = bind_some (ncname_at text) _ found h in
      let left = ncname q n text a.0 f a.1 in
      go a.0 (ncname_is text a.0 a.1) left (after_char 58 a.0.1) (λ rest e. char q n 58 a.0.1 rest left e) a.2
    where
      go : (first : List ℕ × List ℕ) → is_ncname first.0 ≡ true → Fine q n first.1 → (o : Option (List ℕ)) → ((rest : List ℕ) → o ≡ Some rest → Fine q n rest)
          → choose o (λ rest. ncname_at rest >>= λ second. Some (record { prefix = first.0; local = second.0 }, second.1)) (Some (record { prefix = []; local = first.0 }, first.1)) ≡ Some found
          → Named found
      go first is left (Some rest) r e =
          let b = bind_some (ncname_at rest) _ found e in
          subst Named (same_Some (record { prefix = first.0; local = b.0.0 }, b.0.1) found b.2) (ncname_is rest b.0 b.1, ncname q n rest b.0 (r rest refl) b.1)
      go first is left None r e = subst Named (same_Some (record { prefix = []; local = first.0 }, first.1) found e) (is, left)

  -- ---- tags

  -- its name is one, and its characters pass
  abbrev pub IsFound : RawAttribute → Type 0
  IsFound attribute = (is_ncname attribute.name.local ≡ true) × (list_all q attribute.raw ≡ true)

  abbrev FoundAt : RawAttribute × List ℕ → Type 0
  FoundAt found = IsFound found.0 × Fine q n found.1

  pub attribute_found : (text : List ℕ) (found : RawAttribute × List ℕ) → Fine q n text → attribute_at text ≡ Some found → FoundAt found
  unfolding attribute_at
  attribute_found text found f h =
      let a = bind_some (when (begins is_white text) (skip_white text)) _ found h in
      let w = when_some (begins is_white text) (skip_white text) a.0 a.1 in
      let b = bind_some (qname_at a.0) _ found a.2 in
      let name = qname_found a.0 b.0 (subst (Fine q n) w.1 (white q n text f)) b.1 in
      let d = bind_some (eq_at b.0.1) _ found b.2 in
      let e = bind_some (quoted_at d.0) _ found d.2 in
      let value = quoted q n d.0 e.0 (equals q n b.0.1 d.0 name.1 d.1) e.1 in
      subst FoundAt {x = (record { name = b.0.0; raw = e.0.0 }, e.0.1)} (same_Some (record { name = b.0.0; raw = e.0.0 }, e.0.1) found e.2) ((name.0, value.0), value.1)

  end_found : (text : List ℕ) (found : Bool × List ℕ) → Fine q n text → tag_end text ≡ Some found → Fine q n found.1
  end_found text found f h = go (after_char 62 text) (λ rest e. char q n 62 text rest f e) h
    where
      go : (o : Option (List ℕ)) → ((rest : List ℕ) → o ≡ Some rest → Fine q n rest)
          → choose o (λ rest. Some (false, rest)) (after_mark (codes "/>") text >>= λ rest. Some (true, rest)) ≡ Some found → Fine q n found.1
      go (Some rest) r e = subst (λ (x : Bool × List ℕ). Fine q n x.1) (same_Some (false, rest) found e) (r rest refl)
      go None r e =
          let a = bind_some (after_mark (codes "/>") text) _ found e in
          subst (λ (x : Bool × List ℕ). Fine q n x.1) (same_Some (true, a.0) found a.2) (marked q n (codes "/>") text a.0 f a.1)

  unfoldable pub PieceIs : Piece → Type 0
  PieceIs (Tag name attributes empty) = (is_ncname name.local ≡ true) × Each IsFound attributes × (length attributes ≤ n)
  PieceIs (EndTag name) = Unit {0}
  PieceIs (Characters raw) = list_all q raw ≡ true
  PieceIs (CData raw) = list_all q raw ≡ true
  PieceIs Aside = Unit {0}

  abbrev pub PieceAt : Piece × List ℕ → Type 0
  PieceAt found = PieceIs found.0 × Fine q n found.1

  start_tag : (text : List ℕ) (found : Piece × List ℕ) → Fine q n text → start_tag_at text ≡ Some found → PieceAt found
  unfolding start_tag_at sequence PieceIs
  start_tag text found f h =
      let ending : List ℕ → Option (Bool × List ℕ) = λ rest. tag_end (skip_white rest) in
      let a = bind_some (qname_at text) _ found h in
      let name = qname_found text a.0 f a.1 in
      let b = bind_some (many ending attribute_at (suc (length a.0.1)) a.0.1) _ found a.2 in
      let all = many_found ending attribute_at (Fine q n) (λ (x : Bool × List ℕ). Fine q n x.1) IsFound
      (λ rest e g i. end_found (skip_white rest) e (white q n rest g) i) attribute_found (suc (length a.0.1)) a.0.1 b.0 name.1 b.1 in
      subst PieceAt (same_Some (Tag a.0.0 b.0.0 b.0.1.0, b.0.1.1) found b.2) ((name.0, all.0, omega (arith, all.1, name.1.short)), all.2)

  end_tag : (text : List ℕ) (found : Piece × List ℕ) → Fine q n text → end_tag_at text ≡ Some found → PieceAt found
  unfolding end_tag_at PieceIs
  end_tag text found f h =
      let a = bind_some (qname_at text) _ found h in
      let name = qname_found text a.0 f a.1 in
      let b = bind_some (after_char 62 (skip_white a.0.1)) _ found a.2 in
      subst PieceAt (same_Some (EndTag a.0.0, b.0) found b.2) (tt, char q n 62 (skip_white a.0.1) b.0 (white q n a.0.1 name.1) b.1)

  comment : (text : List ℕ) (found : Piece × List ℕ) → Fine q n text → comment_at text ≡ Some found → PieceAt found
  unfolding comment_at PieceIs
  comment text found f h =
      let a = bind_some (until (codes "--") text) _ found h in
      let b = bind_some (after_char 62 a.0.1) _ found a.2 in
      subst PieceAt (same_Some (Aside, b.0) found b.2) (tt, char q n 62 a.0.1 b.0 (searched q n (codes "--") text a.0 f a.1).1 b.1)

  cdata : (text : List ℕ) (found : Piece × List ℕ) → Fine q n text → cdata_at text ≡ Some found → PieceAt found
  unfolding cdata_at PieceIs
  cdata text found f h =
      let a = bind_some (until (codes "]]>") text) _ found h in
      let cut = searched q n (codes "]]>") text a.0 f a.1 in
      subst PieceAt (same_Some (CData a.0.0, a.0.1) found a.2) (cut.0, cut.1)

  instruction : (text : List ℕ) (found : Piece × List ℕ) → Fine q n text → instruction_at text ≡ Some found → PieceAt found
  unfolding instruction_at PieceIs
  instruction text found f h =
      let a = bind_some (ncname_at text) _ found h in
      let b = bind_some (when (not (is_xml a.0.0)) a.0.1) _ found a.2 in
      let w = when_some (not (is_xml a.0.0)) a.0.1 b.0 b.1 in
      let d = bind_some (until (codes "?>") b.0) _ found b.2 in
      let cut = searched q n (codes "?>") b.0 d.0 (subst (Fine q n) w.1 (ncname q n text a.0 f a.1)) d.1 in
      subst PieceAt (when_some (is_nil d.0.0 || begins is_white d.0.0) (Aside, d.0.1) found d.2).1 (tt, cut.1)

  aside : (text : List ℕ) (found : Piece × List ℕ) → Fine q n text → declared_at text ≡ Some found → PieceAt found
  unfolding declared_at
  aside text found f h = go (after_mark (codes "--") text) (λ rest e. marked q n (codes "--") text rest f e) h
    where
      go : (o : Option (List ℕ)) → ((rest : List ℕ) → o ≡ Some rest → Fine q n rest)
          → choose o comment_at (after_mark (codes "[CDATA[") text >>= cdata_at) ≡ Some found → PieceAt found
      go (Some rest) r e = comment rest found (r rest refl) e
      go None r e =
          let a = bind_some (after_mark (codes "[CDATA[") text) cdata_at found e in
          cdata a.0 found (marked q n (codes "[CDATA[") text a.0 f a.1) a.2

  markup : (text : List ℕ) (found : Piece × List ℕ) → Fine q n text → markup_at text ≡ Some found → PieceAt found
  unfolding markup_at
  markup [] found f h = absurd (none-some found h)
  markup (c ∷ text) found f h = go (c == 47) (c == 63) (c == 33) h
    where
      go : (a b d : Bool) → cond a (end_tag_at text) (cond b (instruction_at text) (cond d (declared_at text) (start_tag_at (c ∷ text)))) ≡ Some found → PieceAt found
      go true b d e = end_tag text found (others_pass q n c text f) e
      go false true d e = instruction text found (others_pass q n c text f) e
      go false false true e = aside text found (others_pass q n c text f) e
      go false false false e = start_tag (c ∷ text) found f e

  -- a piece takes a character at least
  pub piece_found : (c : ℕ) (text : List ℕ) (found : Piece × List ℕ) → q c ≡ true → Fine q n text → piece_at (c ∷ text) ≡ Some found → PieceAt found
  unfolding piece_at characters_at PieceIs
  piece_found c text found passes f h = go (c == 60) h
    where
      go : (b : Bool) → cond b (markup_at text) (Some (Characters (take (cond (not b) (1 + prefix_len is_text text) 0) (c ∷ text)), drop (cond (not b) (1 + prefix_len is_text text) 0) (c ∷ text))) ≡ Some found → PieceAt found
      go true e = markup text found f e
      go false e =
          let s : suc (prefix_len is_text text) ≡ 1 + prefix_len is_text text = omega arith in
          let m = prefix_len is_text text in
          let all : list_all q (c ∷ take m text) ≡ true = rw (passes, taken q n m text f.chars) refl in
          subst PieceAt (ap (λ (j : ℕ). cut j) s ∙ same_Some (cut (1 + prefix_len is_text text)) found e) (all, dropped q n m text f)
        where
          cut : ℕ → Piece × List ℕ
          cut j = (Characters (take j (c ∷ text)), drop j (c ∷ text))
