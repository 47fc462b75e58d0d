-- What productions find in a text, they find there where a tag stands behind it.
use Rattle.std.proofs.Common.{◌≡◌, refl, ap, ◌∙◌, ℕ, zero, suc, ◌+◌, ◌≤◌, arith, Bool, true, false, ◌&&◌, ◌||◌, not, cond, eqb, nat_eq, List, [], ◌∷◌, ◌++◌, take, drop, length, length-append, Option, None, Some}
use Rattle.std.specs.Prelude.{codes, ◌==◌, option_map}
use Rattle.std.specs.List.{list_all, prefix_len, starts_with}
use Rattle.std.proofs.lemmas.Bool.{and_parts, false≢true}
use Rattle.std.proofs.lemmas.Bool.Decides.{nat_tests}
use Rattle.std.proofs.lemmas.List.{take-append-le, drop-append-le}
use Rattle.std.proofs.lemmas.List.Sums.{prefix_len-le-length}
use Rattle.std.proofs.lemmas.Option.{none-some, same_Some}
use Rattle.dav_xml_core.specs.Characters.{is_white}
use Rattle.dav_xml_core.specs.Declarations.{fields_at}
use Rattle.dav_xml_core.specs.Markup.{RawAttribute, Piece, Tag, EndTag, Characters, CData, Aside, eq_at, quoted_at, attribute_at, tag_end, start_tag_at, end_tag_at, comment_at, cdata_at, is_xml, instruction_at, declared_at, markup_at, is_text, characters_at, piece_at}
use Rattle.dav_xml_core.specs.Names.{QName, is_name_start, is_name_char, ncname_at, qname_at}
use Rattle.dav_xml_core.specs.Optional.{◌>>=◌, when, choose}
use Rattle.dav_xml_core.specs.Scanning.{Found, begins, after_char, skip_white, with_char, until, is_nil, after_mark}
use Rattle.dav_xml_core.specs.Sequences.{many, sequence}
use Rattle.dav_xml_core.proofs.BindingLemmas.{not_true}
use Rattle.dav_xml_core.proofs.ElementLemmas.{bind_some, when_some}

-- what follows a value that is there
pub bound_to : {A B : Type 0} (o : Option A) (f : A → Option B) (x : A) (y : Option B) → o ≡ Some x → f x ≡ y → (o >>= f) ≡ y
bound_to o f x y e h = ap (λ o. o >>= f) e ∙ h

-- no `<` is in a mark
abbrev IsMark : List ℕ → Type 0
IsMark mark = list_all (λ m. not (eqb m 60)) mark ≡ true

abbrev some_found : {A : Type 0} → A × List ℕ → Found A
some_found found = Some found

abbrev some_text : List ℕ → Option (List ℕ)
some_text text = Some text

quote_mark : (c : ℕ) → (c == 34 || c == 39) ≡ true → IsMark (c ∷ [])
quote_mark c h = grind (arith, nat_tests)

module _ (tag : List ℕ) where
  abbrev pub longer : List ℕ → List ℕ
  longer text = text ++ 60 ∷ tag

  abbrev pub found_longer : {A : Type 0} → A × List ℕ → A × List ℕ
  found_longer found = (found.0, longer found.1)

  -- ---- marks and characters

  starts : (mark text : List ℕ) → IsMark mark → starts_with nat_eq (longer text) mark ≡ starts_with nat_eq text mark
  starts [] [] h = refl
  starts [] (c ∷ text) h = refl
  starts (m ∷ mark) [] h = ap (λ b. b && starts_with nat_eq tag mark) (not_true (eqb m 60) (and_parts (not (eqb m 60)) _ h).0)
  starts (m ∷ mark) (c ∷ text) h = ap (λ b. eqb m c && b) (starts mark text (and_parts (not (eqb m 60)) _ h).1)

  fits : (mark text : List ℕ) → starts_with nat_eq text mark ≡ true → length mark ≤ length text
  fits [] text h = omega arith
  fits (m ∷ mark) [] h = absurd (false≢true h)
  fits (m ∷ mark) (c ∷ text) h = let r = fits mark text (and_parts (eqb m c) _ h).1 in omega (arith, r)

  mark_by : (mark text : List ℕ) → starts_with nat_eq (longer text) mark ≡ starts_with nat_eq text mark → after_mark mark (longer text) ≡ option_map longer (after_mark mark text)
  mark_by mark text same = ap (λ b. when b (drop (length mark) (longer text))) same ∙ go (starts_with nat_eq text mark) refl
    where
      go : (b : Bool) → starts_with nat_eq text mark ≡ b → when b (drop (length mark) (longer text)) ≡ option_map longer (when b (drop (length mark) text))
      go true e = ap (λ (t : List ℕ). some t) (drop-append-le (length mark) text (60 ∷ tag) (fits mark text e))
        where
          some : List ℕ → Option (List ℕ)
          some t = Some t
      go false e = refl

  mark_longer : (mark text : List ℕ) → IsMark mark → after_mark mark (longer text) ≡ option_map longer (after_mark mark text)
  mark_longer mark text h = mark_by mark text (starts mark text h)

  -- a mark that begins with `<` itself
  pub tag_mark_longer : (mark : List ℕ) (c : ℕ) (text : List ℕ) → IsMark mark → after_mark (60 ∷ mark) (longer (c ∷ text)) ≡ option_map longer (after_mark (60 ∷ mark) (c ∷ text))
  tag_mark_longer mark c text h = mark_by (60 ∷ mark) (c ∷ text) (ap (λ b. eqb 60 c && b) (starts mark text h))

  char_longer : (k : ℕ) (text : List ℕ) → (60 == k) ≡ false → after_char k (longer text) ≡ option_map longer (after_char k text)
  char_longer k [] h = ap (λ b. when b tag) h
  char_longer k (c ∷ text) h = go (c == k)
    where
      go : (b : Bool) → when b (longer text) ≡ option_map longer (when b text)
      go true = refl
      go false = refl

  white_longer : (text : List ℕ) → skip_white (longer text) ≡ longer (skip_white text)
  white_longer [] = refl
  white_longer (c ∷ text) = go (is_white c) (white_longer text)
    where
      go : (b : Bool) → skip_white (longer text) ≡ longer (skip_white text) → cond b (skip_white (longer text)) (longer (c ∷ text)) ≡ longer (cond b (skip_white text) (c ∷ text))
      go true e = e
      go false e = refl

  pub begins_longer : (test : ℕ → Bool) (text : List ℕ) → test 60 ≡ false → begins test (longer text) ≡ begins test text
  begins_longer test [] h = h
  begins_longer test (c ∷ text) h = refl

  until_longer : (mark text : List ℕ) (found : List ℕ × List ℕ) → IsMark mark → until mark text ≡ Some found → until mark (longer text) ≡ Some (found_longer found)
  until_longer mark [] found is h = absurd (none-some found h)
  until_longer mark (c ∷ text) found is h =
      ap (λ b. cond b (Some ([], drop (length mark) (longer (c ∷ text)))) (with_char c (until mark (longer text)))) (starts mark (c ∷ text) is)
      ∙ go (starts_with nat_eq (c ∷ text) mark) refl h (λ other e. until_longer mark text other is e)
    where
      put : List ℕ × List ℕ → Found (List ℕ)
      put x = Some (found_longer x)

      later : (o : Found (List ℕ)) → with_char c o ≡ Some found → ((other : List ℕ × List ℕ) → o ≡ Some other → until mark (longer text) ≡ Some (found_longer other))
          → with_char c (until mark (longer text)) ≡ Some (found_longer found)
      later None e r = absurd (none-some found e)
      later (Some other) e r = ap (with_char c) (r other refl) ∙ ap put (same_Some (c ∷ other.0, other.1) found e)

      go : (b : Bool) → starts_with nat_eq (c ∷ text) mark ≡ b → cond b (Some ([], drop (length mark) (c ∷ text))) (with_char c (until mark text)) ≡ Some found
          → ((other : List ℕ × List ℕ) → until mark text ≡ Some other → until mark (longer text) ≡ Some (found_longer other))
          → cond b (Some ([], drop (length mark) (longer (c ∷ text)))) (with_char c (until mark (longer text))) ≡ Some (found_longer found)
      go true s e r =
          ap (λ (t : List ℕ). some ([], t)) (drop-append-le (length mark) (c ∷ text) (60 ∷ tag) (fits mark (c ∷ text) s)) ∙ ap put (same_Some ([], drop (length mark) (c ∷ text)) found e)
        where
          some : List ℕ × List ℕ → Found (List ℕ)
          some x = Some x
      go false s e r = later (until mark text) e r

  -- ---- runs of characters, and names

  run_longer : (p : ℕ → Bool) (text : List ℕ) → p 60 ≡ false → prefix_len p (longer text) ≡ prefix_len p text
  run_longer p [] h = ap (λ b. cond b (1 + prefix_len p tag) 0) h
  run_longer p (c ∷ text) h = ap (λ (k : ℕ). cond (p c) (1 + k) 0) (run_longer p text h)

  abbrev cut : ℕ → List ℕ → List ℕ × List ℕ
  cut k text = (take k text, drop k text)

  cut_longer : (p : ℕ → Bool) (text : List ℕ) → p 60 ≡ false → cut (prefix_len p (longer text)) (longer text) ≡ found_longer (cut (prefix_len p text) text)
  cut_longer p text h =
      let le = prefix_len-le-length p text in
      ap (λ (k : ℕ). cut k (longer text)) (run_longer p text h)
      ∙ ap (λ (t : List ℕ). pair t (drop (prefix_len p text) (longer text))) (take-append-le (prefix_len p text) text (60 ∷ tag) le)
      ∙ ap (pair (take (prefix_len p text) text)) (drop-append-le (prefix_len p text) text (60 ∷ tag) le)
    where
      pair : List ℕ → List ℕ → List ℕ × List ℕ
      pair a b = (a, b)

  ncname_longer : (text : List ℕ) → ncname_at (longer text) ≡ option_map found_longer (ncname_at text)
  unfolding ncname_at
  ncname_longer text =
      ap (λ b. when b (cut (prefix_len is_name_char (longer text)) (longer text))) (begins_longer is_name_start text refl)
      ∙ ap (when (begins is_name_start text)) (cut_longer is_name_char text refl) ∙ go (begins is_name_start text) (cut (prefix_len is_name_char text) text)
    where
      go : (b : Bool) (x : List ℕ × List ℕ) → when b (found_longer x) ≡ option_map found_longer (when b x)
      go true x = refl
      go false x = refl

  abbrev put_qname : QName → List ℕ → Found QName
  put_qname name left = Some (name, left)

  abbrev second : List ℕ → Found (List ℕ) → Found QName
  second first o = o >>= λ other. put_qname (record { prefix = first; local = other.0 }) other.1

  abbrev by_first : List ℕ × List ℕ → Option (List ℕ) → Found QName
  by_first first o = choose o (λ rest. second first.0 (ncname_at rest)) (put_qname (record { prefix = []; local = first.0 }) first.1)

  qname_longer : (text : List ℕ) → qname_at (longer text) ≡ option_map found_longer (qname_at text)
  unfolding qname_at
  qname_longer text = ap (λ (o : Found (List ℕ)). o >>= λ first. by_first first (after_char 58 first.1)) (ncname_longer text) ∙ go (ncname_at text)
    where
      last : (first : List ℕ) (o : Found (List ℕ)) → second first (option_map found_longer o) ≡ option_map found_longer (second first o)
      last first (Some other) = refl
      last first None = refl

      by_colon : (first : List ℕ × List ℕ) (o : Option (List ℕ)) → by_first (found_longer first) (option_map longer o) ≡ option_map found_longer (by_first first o)
      by_colon first (Some rest) = ap (second first.0) (ncname_longer rest) ∙ last first.0 (ncname_at rest)
      by_colon first None = refl

      go : (o : Found (List ℕ)) → (option_map found_longer o >>= λ first. by_first first (after_char 58 first.1)) ≡ option_map found_longer (o >>= λ first. by_first first (after_char 58 first.1))
      go (Some first) = ap (by_first (found_longer first)) (char_longer 58 first.1 refl) ∙ by_colon first (after_char 58 first.1)
      go None = refl

  qname_found : (text : List ℕ) (found : QName × List ℕ) → qname_at text ≡ Some found → qname_at (longer text) ≡ Some (found_longer found)
  qname_found text found h = qname_longer text ∙ ap (option_map found_longer) h

  ncname_found : (text : List ℕ) (found : List ℕ × List ℕ) → ncname_at text ≡ Some found → ncname_at (longer text) ≡ Some (found_longer found)
  ncname_found text found h = ncname_longer text ∙ ap (option_map found_longer) h

  char_found : (k : ℕ) (text rest : List ℕ) → (60 == k) ≡ false → after_char k text ≡ Some rest → after_char k (longer text) ≡ Some (longer rest)
  char_found k text rest other h = char_longer k text other ∙ ap (option_map longer) h

  -- ---- tags

  -- what is found, at last
  at_last : {A : Type 0} (x found : A × List ℕ) → some_found x ≡ some_found found → some_found (found_longer x) ≡ some_found (found_longer found)
  at_last {A} x found e = ap (λ (f : A × List ℕ). some_found (found_longer f)) (same_Some x found e)

  equals_found : (text rest : List ℕ) → eq_at text ≡ Some rest → eq_at (longer text) ≡ Some (longer rest)
  equals_found text rest h =
      let a = bind_some (after_char 61 (skip_white text)) _ rest h in
      bound_to (after_char 61 (skip_white (longer text))) _ (longer a.0) _ (ap (after_char 61) (white_longer text) ∙ char_found 61 (skip_white text) a.0 refl a.1)
      (ap some_text (white_longer a.0 ∙ ap longer (same_Some (skip_white a.0) rest a.2)))

  quoted_found : (text : List ℕ) (found : List ℕ × List ℕ) → quoted_at text ≡ Some found → quoted_at (longer text) ≡ Some (found_longer found)
  quoted_found [] found h = absurd (none-some found h)
  quoted_found (c ∷ text) found h = go (c == 34 || c == 39) refl h
    where
      go : (b : Bool) → (c == 34 || c == 39) ≡ b → cond b (until (c ∷ []) text) None ≡ Some found → cond b (until (c ∷ []) (longer text)) None ≡ Some (found_longer found)
      go true is e = until_longer (c ∷ []) text found (quote_mark c is) e
      go false is e = absurd (none-some found e)

  attribute_found : (text : List ℕ) (found : RawAttribute × List ℕ) → attribute_at text ≡ Some found → attribute_at (longer text) ≡ Some (found_longer found)
  unfolding attribute_at
  attribute_found text found h =
      let a = bind_some (when (begins is_white text) (skip_white text)) _ found h in
      let w = when_some (begins is_white text) (skip_white text) a.0 a.1 in
      let b = bind_some (qname_at a.0) _ found a.2 in
      let d = bind_some (eq_at b.0.1) _ found b.2 in
      let e = bind_some (quoted_at d.0) _ found d.2 in
      bound_to (when (begins is_white (longer text)) (skip_white (longer text))) _ (longer a.0) _
      (ap (λ t. when t (skip_white (longer text))) (begins_longer is_white text refl ∙ w.0) ∙ ap some_text (white_longer text ∙ ap longer w.1))
      (bound_to (qname_at (longer a.0)) _ (b.0.0, longer b.0.1) _ (qname_found a.0 b.0 b.1)
      (bound_to (eq_at (longer b.0.1)) _ (longer d.0) _ (equals_found b.0.1 d.0 d.1)
      (bound_to (quoted_at (longer d.0)) _ (e.0.0, longer e.0.1) _ (quoted_found d.0 e.0 e.1)
      (at_last (record { name = b.0.0; raw = e.0.0 }, e.0.1) found e.2))))

  abbrev End : Type 0
  End = Bool × List ℕ

  end_longer : (text : List ℕ) → tag_end (skip_white (longer text)) ≡ option_map found_longer (tag_end (skip_white text))
  end_longer text =
      ap tag_end (white_longer text)
      ∙ ap (λ (o : Option (List ℕ)). choose o (λ rest. some_end false rest) (after_mark (codes "/>") (longer left) >>= λ rest. some_end true rest)) (char_longer 62 left refl)
      ∙ ap (λ (o : Option (List ℕ)). choose (option_map longer (after_char 62 left)) (λ rest. some_end false rest) (o >>= λ rest. some_end true rest)) (mark_longer (codes "/>") left refl)
      ∙ go (after_char 62 left) (after_mark (codes "/>") left)
    where
      left : List ℕ
      left = skip_white text

      some_end : Bool → List ℕ → Option End
      some_end empty rest = Some (empty, rest)

      go : (a b : Option (List ℕ)) → choose (option_map longer a) (λ rest. some_end false rest) (option_map longer b >>= λ rest. some_end true rest)
          ≡ option_map found_longer (choose a (λ rest. some_end false rest) (b >>= λ rest. some_end true rest))
      go (Some rest) b = refl
      go None (Some rest) = refl
      go None None = refl

  -- ---- sequences

  module _ {A E : Type 0} (ending : List ℕ → Option E) (part : List ℕ → Found A) (put : E → E)
      (by_end : (text : List ℕ) → ending (longer text) ≡ option_map put (ending text))
      (by_part : (text : List ℕ) (found : A × List ℕ) → part text ≡ Some found → part (longer text) ≡ Some (found_longer found)) where
    some_all : List A → E → Option (List A × E)
    some_all parts e = Some (parts, e)

    abbrev more : ℕ → Found A → Option (List A × E)
    more n found = found >>= λ first. many ending part n first.1 >>= λ others. Some (first.0 ∷ others.0, others.1)

    many_longer : (n m : ℕ) (text : List ℕ) (found : List A × E) → n ≤ m → many ending part n text ≡ Some found → many ending part m (longer text) ≡ Some (found.0, put found.1)
    unfolding many some_all
    many_longer zero m text found le h = absurd (none-some found h)
    many_longer (suc n) zero text found le h = absurd (omega arith)
    many_longer (suc n) (suc m) text found le h =
        ap (λ (o : Option E). choose o (λ e. Some ([], e)) (more m (part (longer text)))) (by_end text)
        ∙ go (ending text) h (λ rest others e. many_longer n m rest others (omega (arith, le)) e)
      where
        go : (o : Option E) → choose o (λ e. Some ([], e)) (more n (part text)) ≡ Some found
            → ((rest : List ℕ) (others : List A × E) → many ending part n rest ≡ Some others → many ending part m (longer rest) ≡ Some (others.0, put others.1))
            → choose (option_map put o) (λ e. Some ([], e)) (more m (part (longer text))) ≡ Some (found.0, put found.1)
        go (Some e) i r = ap (λ (x : List A × E). some_all x.0 (put x.1)) (same_Some ([], e) found i)
        go None i r =
            let a = bind_some (part text) _ found i in
            let b = bind_some (many ending part n a.0.1) _ found a.2 in
            bound_to (part (longer text)) _ (a.0.0, longer a.0.1) _ (by_part text a.0 a.1)
            (bound_to (many ending part m (longer a.0.1)) _ (b.0.0, put b.0.1) _ (r a.0.1 b.0 b.1)
            (ap (λ (x : List A × E). some_all x.0 (put x.1)) (same_Some (a.0.0 ∷ b.0.0, b.0.1) found b.2)))

    pub sequence_longer : (text : List ℕ) (found : List A × E) → sequence ending part text ≡ Some found → sequence ending part (longer text) ≡ Some (found.0, put found.1)
    unfolding sequence
    sequence_longer text found h = many_longer (suc (length text)) (suc (length (longer text))) text found (omega (arith, length-append text (60 ∷ tag))) h

  pub fields_longer : (text : List ℕ) (found : List RawAttribute × List ℕ) → fields_at text ≡ Some found → fields_at (longer text) ≡ Some (found_longer found)
  unfolding fields_at
  fields_longer text found h =
      sequence_longer (λ rest. after_mark (codes "?>") (skip_white rest)) attribute_at longer
      (λ rest. ap (after_mark (codes "?>")) (white_longer rest) ∙ mark_longer (codes "?>") (skip_white rest) refl) attribute_found text found h

  -- ---- pieces

  start_tag : (text : List ℕ) (found : Piece × List ℕ) → start_tag_at text ≡ Some found → start_tag_at (longer text) ≡ Some (found_longer found)
  unfolding start_tag_at
  start_tag text found h =
      let ending : List ℕ → Option End = λ rest. tag_end (skip_white rest) in
      let a = bind_some (qname_at text) _ found h in
      let b = bind_some (sequence ending attribute_at a.0.1) _ found a.2 in
      bound_to (qname_at (longer text)) _ (a.0.0, longer a.0.1) _ (qname_found text a.0 a.1)
      (bound_to (sequence ending attribute_at (longer a.0.1)) _ (b.0.0, found_longer b.0.1) _ (sequence_longer ending attribute_at found_longer end_longer attribute_found a.0.1 b.0 b.1)
      (at_last (Tag a.0.0 b.0.0 b.0.1.0, b.0.1.1) found b.2))

  end_tag : (text : List ℕ) (found : Piece × List ℕ) → end_tag_at text ≡ Some found → end_tag_at (longer text) ≡ Some (found_longer found)
  unfolding end_tag_at
  end_tag text found h =
      let a = bind_some (qname_at text) _ found h in
      let b = bind_some (after_char 62 (skip_white a.0.1)) _ found a.2 in
      bound_to (qname_at (longer text)) _ (a.0.0, longer a.0.1) _ (qname_found text a.0 a.1)
      (bound_to (after_char 62 (skip_white (longer a.0.1))) _ (longer b.0) _ (ap (after_char 62) (white_longer a.0.1) ∙ char_found 62 (skip_white a.0.1) b.0 refl b.1)
      (at_last (EndTag a.0.0, b.0) found b.2))

  comment : (text : List ℕ) (found : Piece × List ℕ) → comment_at text ≡ Some found → comment_at (longer text) ≡ Some (found_longer found)
  unfolding comment_at
  comment text found h =
      let a = bind_some (until (codes "--") text) _ found h in
      let b = bind_some (after_char 62 a.0.1) _ found a.2 in
      bound_to (until (codes "--") (longer text)) _ (a.0.0, longer a.0.1) _ (until_longer (codes "--") text a.0 refl a.1)
      (bound_to (after_char 62 (longer a.0.1)) _ (longer b.0) _ (char_found 62 a.0.1 b.0 refl b.1) (at_last (Aside, b.0) found b.2))

  cdata : (text : List ℕ) (found : Piece × List ℕ) → cdata_at text ≡ Some found → cdata_at (longer text) ≡ Some (found_longer found)
  unfolding cdata_at
  cdata text found h =
      let a = bind_some (until (codes "]]>") text) _ found h in
      bound_to (until (codes "]]>") (longer text)) _ (a.0.0, longer a.0.1) _ (until_longer (codes "]]>") text a.0 refl a.1) (at_last (CData a.0.0, a.0.1) found a.2)

  instruction : (text : List ℕ) (found : Piece × List ℕ) → instruction_at text ≡ Some found → instruction_at (longer text) ≡ Some (found_longer found)
  unfolding instruction_at
  instruction text found h =
      let a = bind_some (ncname_at text) _ found h in
      let b = bind_some (when (not (is_xml a.0.0)) a.0.1) _ found a.2 in
      let w = when_some (not (is_xml a.0.0)) a.0.1 b.0 b.1 in
      let d = bind_some (until (codes "?>") b.0) _ found b.2 in
      let v = when_some (is_nil d.0.0 || begins is_white d.0.0) (Aside, d.0.1) found d.2 in
      bound_to (ncname_at (longer text)) _ (a.0.0, longer a.0.1) _ (ncname_found text a.0 a.1)
      (bound_to (when (not (is_xml a.0.0)) (longer a.0.1)) _ (longer b.0) _ (ap (λ t. when t (longer a.0.1)) w.0 ∙ ap (λ (t : List ℕ). some_text (longer t)) w.1)
      (bound_to (until (codes "?>") (longer b.0)) _ (d.0.0, longer d.0.1) _ (until_longer (codes "?>") b.0 d.0 refl d.1)
      (ap (λ t. when t (aside (longer d.0.1))) v.0 ∙ ap (λ (x : Piece × List ℕ). some_found (found_longer x)) v.1)))
    where
      aside : List ℕ → Piece × List ℕ
      aside left = (Aside, left)

  declared : (text : List ℕ) (found : Piece × List ℕ) → declared_at text ≡ Some found → declared_at (longer text) ≡ Some (found_longer found)
  unfolding declared_at
  declared text found h =
      ap (λ (o : Option (List ℕ)). choose o comment_at (after_mark (codes "[CDATA[") (longer text) >>= cdata_at)) (mark_longer (codes "--") text refl)
      ∙ ap (λ (o : Option (List ℕ)). choose (option_map longer (after_mark (codes "--") text)) comment_at (o >>= cdata_at)) (mark_longer (codes "[CDATA[") text refl)
      ∙ go (after_mark (codes "--") text) (after_mark (codes "[CDATA[") text) h
    where
      go : (a b : Option (List ℕ)) → choose a comment_at (b >>= cdata_at) ≡ Some found → choose (option_map longer a) comment_at (option_map longer b >>= cdata_at) ≡ Some (found_longer found)
      go (Some rest) b e = comment rest found e
      go None (Some rest) e = cdata rest found e
      go None None e = absurd (none-some found e)

  markup : (text : List ℕ) (found : Piece × List ℕ) → markup_at text ≡ Some found → markup_at (longer text) ≡ Some (found_longer found)
  unfolding markup_at
  markup [] found h = absurd (none-some found h)
  markup (c ∷ text) found h = go (c == 47) (c == 63) (c == 33) h
    where
      go : (a b d : Bool) → cond a (end_tag_at text) (cond b (instruction_at text) (cond d (declared_at text) (start_tag_at (c ∷ text)))) ≡ Some found
          → cond a (end_tag_at (longer text)) (cond b (instruction_at (longer text)) (cond d (declared_at (longer text)) (start_tag_at (longer (c ∷ text))))) ≡ Some (found_longer found)
      go true b d e = end_tag text found e
      go false true d e = instruction text found e
      go false false true e = declared text found e
      go false false false e = start_tag (c ∷ text) found e

  pub piece_longer : (text : List ℕ) (found : Piece × List ℕ) → piece_at text ≡ Some found → piece_at (longer text) ≡ Some (found_longer found)
  unfolding piece_at characters_at
  piece_longer [] found h = absurd (none-some found h)
  piece_longer (c ∷ text) found h = go (c == 60) h
    where
      said : List ℕ × List ℕ → Piece × List ℕ
      said x = (Characters x.0, x.1)

      go : (b : Bool) → cond b (markup_at text) (some_found (said (cut (prefix_len is_text (c ∷ text)) (c ∷ text)))) ≡ Some found
          → cond b (markup_at (longer text)) (some_found (said (cut (prefix_len is_text (longer (c ∷ text))) (longer (c ∷ text))))) ≡ Some (found_longer found)
      go true e = markup text found e
      go false e =
          ap (λ (x : List ℕ × List ℕ). some_found (said x)) (cut_longer is_text (c ∷ text) refl)
          ∙ at_last (said (cut (prefix_len is_text (c ∷ text)) (c ∷ text))) found e
