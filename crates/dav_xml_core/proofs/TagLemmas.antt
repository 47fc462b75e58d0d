-- Names, tags and texts that are written out are read as themselves.
use Rattle.std.proofs.Common.{◌≡◌, refl, sym, ap, ◌∙◌, ℕ, zero, suc, ◌+◌, ◌<◌, ◌≤◌, arith, Bool, true, false, ◌&&◌, ◌||◌, not, cond, eqb, nat_eq, List, [], ◌∷◌, ◌++◌, take, drop, length, Option, None, Some, append_assoc, length-append}
use Rattle.std.specs.Prelude.{flat_map, ◌==◌}
use Rattle.std.specs.List.{list_all, list_any, prefix_len, starts_with}
use Rattle.std.proofs.lemmas.Bool.{and_parts, false≢true, eqb-true}
use Rattle.std.proofs.lemmas.Cmp.{nat_eq_equiv}
use Rattle.dav_xml_core.specs.Characters.{is_white}
use Rattle.dav_xml_core.specs.Markup.{RawAttribute, Piece, Tag, EndTag, Characters, attribute_at, quoted_at, eq_at, tag_end, start_tag_at, end_tag_at, instruction_at, declared_at, markup_at, is_text, characters_at, piece_at}
use Rattle.dav_xml_core.specs.Names.{QName, is_name_start, is_name_char, is_ncname, ncname_at, qname_at}
use Rattle.dav_xml_core.specs.Optional.{◌>>=◌, when, choose}
use Rattle.dav_xml_core.specs.Scanning.{Found, after_char, skip_white, until, with_char, is_nil}
use Rattle.dav_xml_core.specs.Writing.{escaped_character}
use Rattle.dav_xml_core.proofs.EscapeLemmas.{no_tag, longer}
use Rattle.dav_xml_core.specs.Sequences.{many, sequence}

-- ---- fronts

run : (p : ℕ → Bool) (l : List ℕ) (c : ℕ) (rest : List ℕ) → list_all p l ≡ true → p c ≡ false → prefix_len p (l ++ c ∷ rest) ≡ length l
run p [] c rest h e = ap (λ b. cond b (1 + prefix_len p rest) 0) e
run p (x ∷ l) c rest h e =
    let q = and_parts (p x) (list_all p l) h in
    let r = run p l c rest q.1 e in
    let s : 1 + prefix_len p (l ++ c ∷ rest) ≡ length (x ∷ l) = omega (arith, r) in
    ap (λ b. cond b (1 + prefix_len p (l ++ c ∷ rest)) 0) q.0 ∙ s

take_front : (l rest : List ℕ) → take (length l) (l ++ rest) ≡ l
take_front [] rest = refl
take_front (x ∷ l) rest = ap (λ (t : List ℕ). x ∷ t) (take_front l rest)

drop_front : (l rest : List ℕ) → drop (length l) (l ++ rest) ≡ rest
drop_front [] rest = refl
drop_front (x ∷ l) rest = drop_front l rest

abbrev both : {A : Type 0} → A → List ℕ → Found A
both x rest = Some (x, rest)

abbrev cut : ℕ → List ℕ → Found (List ℕ)
cut n text = Some (take n text, drop n text)

cut_at : (n : ℕ) (l rest : List ℕ) → n ≡ length l → cut n (l ++ rest) ≡ Some (l, rest)
cut_at n l rest e =
    ap (λ (m : ℕ). cut m (l ++ rest)) e
    ∙ ap (λ (t : List ℕ). both t (drop (length l) (l ++ rest))) (take_front l rest)
    ∙ ap (λ (t : List ℕ). both l t) (drop_front l rest)

-- a character that passes a test is none that doesn't
pub differs : (p : ℕ → Bool) (x k : ℕ) → p x ≡ true → p k ≡ false → (x == k) ≡ false
differs p x k h e = go (x == k) refl
  where
    go : (b : Bool) → (x == k) ≡ b → b ≡ false
    go true is = absurd (false≢true (sym e ∙ sym (ap p (eqb-true x k is)) ∙ h))
    go false is = refl

-- ---- names

-- a name is read up to a character that is in no name
pub ncname_again : (l : List ℕ) (c : ℕ) (rest : List ℕ) → is_ncname l ≡ true → is_name_char c ≡ false → ncname_at (l ++ c ∷ rest) ≡ Some (l, c ∷ rest)
unfolding ncname_at
ncname_again [] c rest h e = absurd (false≢true h)
ncname_again (x ∷ l) c rest h e =
    let q = and_parts (is_name_start x) (list_all is_name_char (x ∷ l)) h in
    let n = prefix_len is_name_char (x ∷ l ++ c ∷ rest) in
    ap (λ b. when b (take n (x ∷ l ++ c ∷ rest), drop n (x ∷ l ++ c ∷ rest))) q.0
    ∙ cut_at n (x ∷ l) (c ∷ rest) (run is_name_char (x ∷ l) c rest q.1 e)

-- a name as it is written
abbrev pub spelled : List ℕ → List ℕ → List ℕ
spelled [] local = local
spelled (x ∷ prefix) local = (x ∷ prefix) ++ 58 ∷ local

abbrev pub qname : List ℕ → List ℕ → QName
qname prefix local = record { prefix = prefix; local = local }

abbrev pub is_prefix : List ℕ → Bool
is_prefix prefix = is_nil prefix || is_ncname prefix

abbrev after_first : Found (List ℕ) → Found QName
after_first found =
    found >>= λ first.
    choose (after_char 58 first.1)
    (λ rest. ncname_at rest >>= λ second. Some (qname first.0 second.0, second.1))
    (Some (qname [] first.0, first.1))

pub qname_again : (prefix local : List ℕ) (c : ℕ) (rest : List ℕ) → is_prefix prefix ≡ true → is_ncname local ≡ true → is_name_char c ≡ false → (c == 58) ≡ false
    → qname_at (spelled prefix local ++ c ∷ rest) ≡ Some (qname prefix local, c ∷ rest)
unfolding qname_at
qname_again [] local c rest p h e f =
    ap after_first (ncname_again local c rest h e)
    ∙ ap (λ b. choose (when b rest) (λ left. ncname_at left >>= λ second. both (qname local second.0) second.1) (both (qname [] local) (c ∷ rest))) f
qname_again (x ∷ prefix) local c rest p h e f =
    ap qname_at (append_assoc (x ∷ prefix) (58 ∷ local) (c ∷ rest))
    ∙ ap after_first (ncname_again (x ∷ prefix) 58 (local ++ c ∷ rest) p refl)
    ∙ ap (λ (o : Found (List ℕ)). o >>= λ second. both (qname (x ∷ prefix) second.0) second.1) (ncname_again local c rest h e)

-- the first character of a name
pub record Starts (text : List ℕ) : Type 0 where
  pub first : ℕ
  pub others : List ℕ
  pub is : text ≡ first ∷ others
  pub start : is_name_start first ≡ true

name_starts : (l : List ℕ) → is_ncname l ≡ true → Starts l
name_starts [] h = absurd (false≢true h)
name_starts (x ∷ l) h = record { first = x; others = l; is = refl; start = (and_parts (is_name_start x) (list_all is_name_char (x ∷ l)) h).0 }

pub spelled_starts : (prefix local : List ℕ) → is_prefix prefix ≡ true → is_ncname local ≡ true → Starts (spelled prefix local)
spelled_starts [] local p h = name_starts local h
spelled_starts (x ∷ prefix) local p h =
    record { first = x; others = prefix ++ 58 ∷ local; is = refl; start = (and_parts (is_name_start x) (list_all is_name_char (x ∷ prefix)) p).0 }

white_not : (a b d e : Bool) → a ≡ false → b ≡ false → d ≡ false → e ≡ false → (a || b || d || e) ≡ false
white_not a b d e h i j k = rw (h, i, j, k) refl

not_white : (x : ℕ) → is_name_start x ≡ true → is_white x ≡ false
not_white x h = white_not _ _ _ _ (differs is_name_start x 32 h refl) (differs is_name_start x 9 h refl) (differs is_name_start x 13 h refl) (differs is_name_start x 10 h refl)

not_skipped : (text rest : List ℕ) → Starts text → skip_white (text ++ rest) ≡ text ++ rest
not_skipped text rest s =
    ap (λ (t : List ℕ). skip_white (t ++ rest)) s.is
    ∙ ap (λ b. cond b (skip_white (s.others ++ rest)) (s.first ∷ s.others ++ rest)) (not_white s.first s.start)
    ∙ ap (λ (t : List ℕ). t ++ rest) (sym s.is)

-- ---- attributes

pub quote_again : (raw rest : List ℕ) → list_any (λ c. c == 34) raw ≡ false → until (34 ∷ []) (raw ++ 34 ∷ rest) ≡ Some (raw, rest)
quote_again [] rest h = refl
quote_again (c ∷ raw) rest h =
    let q = or_parts (c == 34) _ h in
    ap (λ b. cond b (Some ([], drop 1 (c ∷ raw ++ 34 ∷ rest))) (with_char c (until (34 ∷ []) (raw ++ 34 ∷ rest)))) (missed (eqb 34 c) (nat_eq_equiv.symm 34 c ∙ q.0))
    ∙ ap (with_char c) (quote_again raw rest q.1)
  where
    or_parts : (a b : Bool) → (a || b) ≡ false → (a ≡ false) × (b ≡ false)
    or_parts true b e = absurd (false≢true (sym e))
    or_parts false b e = (refl, e)

    missed : (b : Bool) → b ≡ false → (b && true) ≡ false
    missed true e = e
    missed false e = e

-- an attribute as it is written, behind a blank
abbrev pub raw_text : RawAttribute → List ℕ
raw_text attribute = 32 ∷ (spelled attribute.name.prefix attribute.name.local ++ 61 ∷ 34 ∷ (attribute.raw ++ 34 ∷ []))

pub record IsRaw (attribute : RawAttribute) : Type 0 where
  pub prefix : is_prefix attribute.name.prefix ≡ true
  pub local : is_ncname attribute.name.local ≡ true
  pub raw : list_any (λ c. c == 34) attribute.raw ≡ false

pub attribute_again : (attribute : RawAttribute) (rest : List ℕ) → IsRaw attribute → attribute_at (raw_text attribute ++ rest) ≡ Some (attribute, rest)
unfolding attribute_at
attribute_again attribute rest is =
    let name = spelled attribute.name.prefix attribute.name.local in
    ap (λ (t : List ℕ). by_name (qname_at t))
    (ap skip_white (append_assoc name (61 ∷ 34 ∷ (attribute.raw ++ 34 ∷ [])) rest)
    ∙ not_skipped name (61 ∷ 34 ∷ ((attribute.raw ++ 34 ∷ []) ++ rest)) (spelled_starts attribute.name.prefix attribute.name.local is.prefix is.local))
    ∙ ap by_name (qname_again attribute.name.prefix attribute.name.local 61 (34 ∷ ((attribute.raw ++ 34 ∷ []) ++ rest)) is.prefix is.local refl refl)
    ∙ ap (λ (t : List ℕ). by_value (until (34 ∷ []) t)) (append_assoc attribute.raw (34 ∷ []) rest)
    ∙ ap by_value (quote_again attribute.raw rest is.raw)
  where
    by_name : Found QName → Found RawAttribute
    by_name found = found >>= λ name. eq_at name.1 >>= λ after. quoted_at after >>= λ value. Some (record { name = name.0; raw = value.0 }, value.1)

    by_value : Found (List ℕ) → Found RawAttribute
    by_value found = found >>= λ value. Some (record { name = attribute.name; raw = value.0 }, value.1)

-- ---- start tags

abbrev ended_by : Bool → List ℕ → Option (Bool × List ℕ)
ended_by empty left = Some (empty, left)

abbrev ending : List ℕ → Option (Bool × List ℕ)
ending rest = tag_end (skip_white rest)

no_end : (text rest : List ℕ) → Starts text → tag_end (text ++ rest) ≡ None
no_end text rest s =
    ap (λ (t : List ℕ). tag_end (t ++ rest)) s.is
    ∙ go (s.first == 62) (eqb 47 s.first) (starts_with nat_eq (s.others ++ rest) (62 ∷ [])) (drop 2 (s.first ∷ s.others ++ rest))
    (differs is_name_start s.first 62 s.start refl) (nat_eq_equiv.symm 47 s.first ∙ differs is_name_start s.first 47 s.start refl)
  where
    go : (b d e : Bool) (after : List ℕ) → b ≡ false → d ≡ false
        → choose (when b (s.others ++ rest)) (λ left. ended_by false left) (when (d && e) after >>= λ left. ended_by true left) ≡ None
    go true d e after f g = absurd (false≢true (sym f))
    go false true e after f g = absurd (false≢true (sym g))
    go false false e after f g = refl

not_ended : (attribute : RawAttribute) (rest : List ℕ) → IsRaw attribute → ending (raw_text attribute ++ rest) ≡ None
not_ended attribute rest is =
    let name = spelled attribute.name.prefix attribute.name.local in
    let starts = spelled_starts attribute.name.prefix attribute.name.local is.prefix is.local in
    let more = 61 ∷ 34 ∷ (attribute.raw ++ 34 ∷ []) in
    ap (λ (t : List ℕ). tag_end (skip_white t)) (append_assoc name more rest)
    ∙ ap tag_end (not_skipped name (more ++ rest) starts)
    ∙ no_end name (more ++ rest) starts

abbrev pub AllRaw : List RawAttribute → Type 0
AllRaw [] = Unit {0}
AllRaw (attribute ∷ attributes) = IsRaw attribute × AllRaw attributes

abbrev raws : ℕ → List ℕ → Option (List RawAttribute × (Bool × List ℕ))
raws n text = many ending attribute_at n text

abbrev pub tag_text : List ℕ → List ℕ → List RawAttribute → List ℕ
tag_text prefix local attributes = 60 ∷ (spelled prefix local ++ (flat_map raw_text attributes ++ 62 ∷ []))

abbrev one_more : ℕ → Found RawAttribute → Option (List RawAttribute × (Bool × List ℕ))
one_more n found = found >>= λ first. raws n first.1 >>= λ others. Some (first.0 ∷ others.0, others.1)

abbrev turn : ℕ → List ℕ → Option (Bool × List ℕ) → Option (List RawAttribute × (Bool × List ℕ))
turn n text ended = choose ended (λ e. Some ([], e)) (one_more n (attribute_at text))

abbrev put : RawAttribute → Option (List RawAttribute × (Bool × List ℕ)) → Option (List RawAttribute × (Bool × List ℕ))
put first others = others >>= λ o. Some (first ∷ o.0, o.1)

raws_again : (attributes : List RawAttribute) (rest : List ℕ) (n : ℕ) → AllRaw attributes → length attributes < n
    → raws n (flat_map raw_text attributes ++ 62 ∷ rest) ≡ Some (attributes, (false, rest))
unfolding many
raws_again attributes rest zero is lt = absurd (omega arith)
raws_again [] rest (suc n) is lt = refl
raws_again (attribute ∷ attributes) rest (suc n) is lt =
    let more = flat_map raw_text attributes ++ 62 ∷ rest in
    ap (raws (suc n)) (append_assoc (raw_text attribute) (flat_map raw_text attributes) (62 ∷ rest))
    ∙ ap (turn n (raw_text attribute ++ more)) (not_ended attribute more is.0)
    ∙ ap (one_more n) (attribute_again attribute more is.0)
    ∙ ap (put attribute) (raws_again attributes rest n is.1 (omega arith))

length_raws : (attributes : List RawAttribute) (rest : List ℕ) → length attributes ≤ length (flat_map raw_text attributes ++ rest)
length_raws [] rest = omega arith
length_raws (attribute ∷ attributes) rest =
    let h = length_raws attributes rest in
    omega (arith, h, ap length (append_assoc (raw_text attribute) (flat_map raw_text attributes) rest), length-append (raw_text attribute) (flat_map raw_text attributes ++ rest))

sequence_again : (attributes : List RawAttribute) (rest : List ℕ) → AllRaw attributes
    → sequence ending attribute_at (flat_map raw_text attributes ++ 62 ∷ rest) ≡ Some (attributes, (false, rest))
unfolding sequence
sequence_again attributes rest is = raws_again attributes rest (suc (length (flat_map raw_text attributes ++ 62 ∷ rest))) is (omega (arith, length_raws attributes (62 ∷ rest)))

-- what stands behind the name of a tag is in no name
abbrev after_name : QName → Option (List RawAttribute × (Bool × List ℕ)) → Found Piece
after_name name found = found >>= λ all. Some (Tag name all.0 all.1.0, all.1.1)

abbrev by_qname : Found QName → Found Piece
by_qname found = found >>= λ name. after_name name.0 (sequence ending attribute_at name.1)

-- a character that stands behind a name
record Behind (text : List ℕ) : Type 0 where
  pub first : ℕ
  pub others : List ℕ
  pub is : text ≡ first ∷ others
  pub outside : is_name_char first ≡ false
  pub colon : (first == 58) ≡ false

behind_name : (attributes : List RawAttribute) (rest : List ℕ) → Behind (flat_map raw_text attributes ++ 62 ∷ rest)
behind_name [] rest = record { first = 62; others = rest; is = refl; outside = refl; colon = refl }
behind_name (attribute ∷ attributes) rest = record { first = 32; others = _; is = refl; outside = refl; colon = refl }

qname_before : (prefix local text : List ℕ) → is_prefix prefix ≡ true → is_ncname local ≡ true → Behind text
    → qname_at (spelled prefix local ++ text) ≡ Some (qname prefix local, text)
qname_before prefix local text p h b =
    ap (λ (t : List ℕ). qname_at (spelled prefix local ++ t)) b.is
    ∙ qname_again prefix local b.first b.others p h b.outside b.colon
    ∙ ap (λ (t : List ℕ). both (qname prefix local) t) (sym b.is)

start_tag_again : (prefix local : List ℕ) (attributes : List RawAttribute) (rest : List ℕ) → is_prefix prefix ≡ true → is_ncname local ≡ true → AllRaw attributes
    → start_tag_at (spelled prefix local ++ (flat_map raw_text attributes ++ 62 ∷ rest)) ≡ Some (Tag (qname prefix local) attributes false, rest)
unfolding start_tag_at
start_tag_again prefix local attributes rest p h is =
    ap by_qname (qname_before prefix local (flat_map raw_text attributes ++ 62 ∷ rest) p h (behind_name attributes rest))
    ∙ ap (after_name (qname prefix local)) (sequence_again attributes rest is)

markup_of : (text rest : List ℕ) → Starts text → markup_at (text ++ rest) ≡ start_tag_at (text ++ rest)
unfolding markup_at
markup_of text rest s =
    ap (λ (t : List ℕ). markup_at (t ++ rest)) s.is
    ∙ ap (λ b. cond b (end_tag_at (s.others ++ rest)) (cond (s.first == 63) (instruction_at (s.others ++ rest)) (cond (s.first == 33) (declared_at (s.others ++ rest)) (start_tag_at (s.first ∷ s.others ++ rest)))))
    (differs is_name_start s.first 47 s.start refl)
    ∙ ap (λ b. cond b (instruction_at (s.others ++ rest)) (cond (s.first == 33) (declared_at (s.others ++ rest)) (start_tag_at (s.first ∷ s.others ++ rest))))
    (differs is_name_start s.first 63 s.start refl)
    ∙ ap (λ b. cond b (declared_at (s.others ++ rest)) (start_tag_at (s.first ∷ s.others ++ rest))) (differs is_name_start s.first 33 s.start refl)
    ∙ ap (λ (t : List ℕ). start_tag_at (t ++ rest)) (sym s.is)

-- a start tag with its attributes is read as it is written
pub tag_again : (prefix local : List ℕ) (attributes : List RawAttribute) (rest : List ℕ) → is_prefix prefix ≡ true → is_ncname local ≡ true → AllRaw attributes
    → piece_at (tag_text prefix local attributes ++ rest) ≡ Some (Tag (qname prefix local) attributes false, rest)
unfolding piece_at
tag_again prefix local attributes rest p h is =
    ap markup_at (append_assoc (spelled prefix local) (flat_map raw_text attributes ++ 62 ∷ []) rest
    ∙ ap (λ (t : List ℕ). spelled prefix local ++ t) (append_assoc (flat_map raw_text attributes) (62 ∷ []) rest))
    ∙ markup_of (spelled prefix local) (flat_map raw_text attributes ++ 62 ∷ rest) (spelled_starts prefix local p h)
    ∙ start_tag_again prefix local attributes rest p h is

-- ---- end tags

abbrev pub end_text : List ℕ → List ℕ → List ℕ
end_text prefix local = 60 ∷ 47 ∷ (spelled prefix local ++ 62 ∷ [])

abbrev by_end : Found QName → Found Piece
by_end found = found >>= λ name. after_char 62 (skip_white name.1) >>= λ rest. Some (EndTag name.0, rest)

-- an end tag is read as it is written
pub end_tag_again : (prefix local rest : List ℕ) → is_prefix prefix ≡ true → is_ncname local ≡ true
    → piece_at (end_text prefix local ++ rest) ≡ Some (EndTag (qname prefix local), rest)
unfolding piece_at markup_at end_tag_at
end_tag_again prefix local rest p h =
    ap (λ (t : List ℕ). by_end (qname_at t)) (append_assoc (spelled prefix local) (62 ∷ []) rest)
    ∙ ap by_end (qname_again prefix local 62 rest p h refl refl)

-- ---- texts

all_text : (raw : List ℕ) → list_any (λ c. c == 60) raw ≡ false → list_all is_text raw ≡ true
all_text [] h = refl
all_text (c ∷ raw) h = go (c == 60) (list_any (λ x. x == 60) raw) h (all_text raw)
  where
    go : (a b : Bool) → (a || b) ≡ false → (b ≡ false → list_all is_text raw ≡ true) → (not a && list_all is_text raw) ≡ true
    go true b e f = absurd (false≢true (sym e))
    go false b e f = f e

cut_characters : ℕ → List ℕ → Found Piece
cut_characters n text = Some (Characters (take n text), drop n text)

-- a text without `<` is read up to the next `<`
pub characters_again : (c : ℕ) (raw rest : List ℕ) → list_any (λ x. x == 60) (c ∷ raw) ≡ false
    → piece_at (c ∷ raw ++ 60 ∷ rest) ≡ Some (Characters (c ∷ raw), 60 ∷ rest)
unfolding piece_at characters_at cut_characters
characters_again c raw rest h =
    let text = c ∷ raw ++ 60 ∷ rest in
    let n = prefix_len is_text text in
    ap (λ b. cond b (markup_at (raw ++ 60 ∷ rest)) (cut_characters n text)) (first (c == 60) (list_any (λ x. x == 60) raw) h)
    ∙ ap (λ (o : Found (List ℕ)). o >>= λ found. Some (Characters found.0, found.1)) (cut_at n (c ∷ raw) (60 ∷ rest) (run is_text (c ∷ raw) 60 rest (all_text (c ∷ raw) h) refl))
  where
    first : (a b : Bool) → (a || b) ≡ false → a ≡ false
    first true b e = e
    first false b e = refl

-- what is written for a text is read up to the next tag
pub text_piece_again : (text rest : List ℕ) → is_nil text ≡ false → piece_at (flat_map (escaped_character false) text ++ 60 ∷ rest) ≡ Some (Characters (flat_map (escaped_character false) text), 60 ∷ rest)
text_piece_again text rest h = go (flat_map (escaped_character false) text) (no_tag false text) (omega (arith, some text h, longer false text))
  where
    some : (xs : List ℕ) → is_nil xs ≡ false → 1 ≤ length xs
    some [] e = absurd (false≢true (sym e))
    some (x ∷ xs) e = omega arith

    go : (raw : List ℕ) → list_any (λ x. x == 60) raw ≡ false → 1 ≤ length raw → piece_at (raw ++ 60 ∷ rest) ≡ Some (Characters raw, 60 ∷ rest)
    go [] e l = absurd (omega arith)
    go (c ∷ raw) e l = characters_again c raw rest e
