-- Segments of an `If` that stay as they are where a text is put in front of its rooted tags.
use Rattle.std.proofs.Common.{◌≡◌, ◌≢◌, refl, sym, ap, ◌∙◌, subst, arith, ℕ, ◌<◌, Bool, true, false}
use Rattle.std.proofs.Common.{not, ◌&&◌, cond, eqb, ltb}
use Rattle.std.proofs.Common.{List, [], ◌∷◌, ◌++◌, inl, inr}
use Rattle.std.specs.List.{AllByRecursion, list_all}
use Rattle.std.specs.Prelude.{codes}
use Rattle.std.proofs.lemmas.Bool.{and_from, and_parts, eqb-true, eq-eqb, ltb-true, ne_eqb}
use Rattle.std.proofs.lemmas.Bool.Decides.{nat_tests}
use Rattle.std.proofs.lemmas.List.{append_assoc}
use Rattle.std.proofs.lemmas.List.Sums.{AllPass-from_list_all, list_all-from_AllPass}
use Rattle.http_header.specs.FieldValue.{IsFieldValue}
use Rattle.http_header.specs.Token.{is_value_byte}
use Rattle.dav_headers_core.specs.CommaPieces.{is_blank}
use Rattle.dav_headers_core.specs.IfBytes.{Condition, Item, Tag, Token, is_word_byte, odd_quotes}
use Rattle.dav_headers_core.specs.IfGrammar.{Between, ConditionAt, ConditionsAt, EndsWord, ItemAt}
use Rattle.dav_headers_core.specs.IfGrammar.{ListAt, NotAt}
use Rattle.dav_headers_core.specs.Tags.{quote}
use Rattle.dav_headers_core.proofs.ifs.EnclosedLemmas.{EnclosedFrom, flips}
use Rattle.dav_headers_core.proofs.texts.TextLemmas.{text-append}
use Rattle.dav_fields_core.specs.RootedTags.{is_host_byte}
use Rattle.dav_fields_core.specs.declared.tag_fronts.Place.{Place}
use Rattle.dav_fields_core.specs.declared.tag_fronts.Place.TheVariants.{Outside, Opened, Listed}
use Rattle.dav_fields_core.specs.declared.tag_fronts.Place.TheVariants.{Enclosed}
use Rattle.dav_fields_core.specs.Private.TagFronts.{begins_path, lead, left_at, place_behind}
use Rattle.dav_fields_core.specs.Private.TagFronts.{with_fronts}

-- ---- from place to place

abbrev pub is_opened : Place → Bool
is_opened Opened = true
is_opened Outside = false
is_opened Listed = false
is_opened (Enclosed listed closing quoted) = false

-- the bytes lead from one place to another, and nothing is put before one of them
abbrev pub Passes : Place → List ℕ → Place → Type 0
Passes from [] to = from ≡ to
Passes from (b ∷ bytes) to = (is_opened from ≡ false) × Passes (place_behind from b) bytes to

pub no_lead : (front : List ℕ) (place : Place) (b : ℕ) → is_opened place ≡ false
    → lead front place b ≡ []
no_lead front Opened b h = absurd cc
no_lead front Outside b h = refl
no_lead front Listed b h = refl
no_lead front (Enclosed listed closing quoted) b h = refl

pub passes_on : (from at to : Place) (xs ys : List ℕ) → Passes from xs at → Passes at ys to
    → Passes from (xs ++ ys) to
passes_on from at to [] ys p q = subst (λ (place : Place). Passes place ys to) (sym p) q
passes_on from at to (b ∷ xs) ys p q = (p.0, passes_on (place_behind from b) at to xs ys p.1 q)

pub keeps : (front : List ℕ) (from to : Place) (xs rest : List ℕ) → Passes from xs to
    → with_fronts front from (xs ++ rest) ≡ xs ++ with_fronts front to rest
keeps front from to [] rest p = ap (λ (place : Place). with_fronts front place rest) p
keeps front from to (b ∷ xs) rest p =
    rw (no_lead front from b p.0)
    (ap (λ (bytes : List ℕ). b ∷ bytes) (keeps front (place_behind from b) to xs rest p.1))

-- what stands behind the bytes in the one text, and with fronts in the other
pub record Kept (front : List ℕ) (to : Place) (xs bytes after : List ℕ) : Type 0 where
  pub rest : List ℕ
  pub parts : bytes ≡ xs ++ rest
  pub after_is : after ≡ with_fronts front to rest

pub kept : (front : List ℕ) (from to : Place) (xs bytes after : List ℕ) → Passes from xs to
    → with_fronts front from bytes ≡ xs ++ after
    → Kept front to xs bytes after
kept front from to [] bytes after p e =
    record {
      rest = bytes;
      parts = refl;
      after_is = sym e
          ∙ ap (λ (place : Place). with_fronts front place bytes) p;
    }
kept front from to (b ∷ xs) [] after p e = absurd cc
kept front from to (b ∷ xs) (c ∷ bytes) after p e =
    let whole : c ∷ with_fronts front (place_behind from c) bytes ≡ b ∷ (xs ++ after) =
    rw (no_lead front from c p.0) at e in
    let first : c ≡ b = cc in
    let more : with_fronts front (place_behind from c) bytes ≡ xs ++ after = cc in
    with_first first
    (kept front (place_behind from b) to xs bytes after p.1
    (subst (λ (x : ℕ). with_fronts front (place_behind from x) bytes ≡ xs ++ after) first more))
  where
    with_first : c ≡ b → Kept front to xs bytes after → Kept front to (b ∷ xs) (c ∷ bytes) after
    with_first first k = record {
      rest = k.rest;
      parts = ap (λ (x : ℕ). x ∷ bytes) first ∙ ap (λ (x : List ℕ). b ∷ x) k.parts;
      after_is = k.after_is;
    }

-- ---- blanks, words and enclosed texts

apart : (test : ℕ → Bool) (b c : ℕ) → test b ≡ true → test c ≡ false → eqb b c ≡ false
apart test b c p q = ne_eqb b c (λ same. let r : test c ≡ true = rw same at p in cc)

blank_listed : (b : ℕ) → is_blank b ≡ true → place_behind Listed b ≡ Listed
blank_listed b p = rw
    (apart is_blank b 41 p refl, apart is_blank b 60 p refl, apart is_blank b 91 p refl) refl

blank_outside : (b : ℕ) → is_blank b ≡ true → place_behind Outside b ≡ Outside
blank_outside b p = rw (apart is_blank b 60 p refl, apart is_blank b 40 p refl) refl

word_listed : (b : ℕ) → is_word_byte b ≡ true → place_behind Listed b ≡ Listed
word_listed b p = rw (
  apart is_word_byte b 41 p refl,
  apart is_word_byte b 60 p refl,
  apart is_word_byte b 91 p refl,
) refl

-- bytes none of which leads away
stays : (place : Place) (test : ℕ → Bool) → is_opened place ≡ false
    → ((b : ℕ) → test b ≡ true → place_behind place b ≡ place) → (xs : List ℕ)
    → AllByRecursion (λ b. test b ≡ true) xs → Passes place xs place
stays place test closed each [] all = refl
stays place test closed each (b ∷ xs) all = (
  closed,
  subst (λ (p : Place). Passes p xs place) (sym (each b all.0))
      (stays place test closed each xs all.1),
)

pub blanks_listed : (xs : List ℕ) → AllByRecursion (λ b. is_blank b ≡ true) xs
    → Passes Listed xs Listed
blanks_listed xs all = stays Listed is_blank refl blank_listed xs all

pub blanks_outside : (xs : List ℕ) → AllByRecursion (λ b. is_blank b ≡ true) xs
    → Passes Outside xs Outside
blanks_outside xs all = stays Outside is_blank refl blank_outside xs all

words_listed : (xs : List ℕ) → AllByRecursion (λ b. is_word_byte b ≡ true) xs
    → Passes Listed xs Listed
words_listed xs all = stays Listed is_word_byte refl word_listed xs all

flips_twice : (t q : Bool) → flips t (flips t q) ≡ q
flips_twice true true = refl
flips_twice true false = refl
flips_twice false q = refl

flips_not : (t q : Bool) → flips t (not q) ≡ not (flips t q)
flips_not true q = refl
flips_not false q = refl

not_yet : (closing b : ℕ) (text : List ℕ) (q t : Bool) → eqb b closing ≡ t
    → ((before after : List ℕ) → b ∷ text ≡ before ++ closing ∷ after → odd_quotes before ≡ not q)
    → (not q && t) ≡ false
not_yet closing b text true t e inside = refl
not_yet closing b text false false e inside = refl
not_yet closing b text false true e inside =
    let same = ap (λ (n : ℕ). n ∷ text) (eqb-true b closing e) in
    absurd (let odd : odd_quotes [] ≡ true = inside [] text same in cc)

-- behind the first byte of an enclosed text
enclosed_tail : (quoted : Bool) (closing b : ℕ) (text : List ℕ)
    → EnclosedFrom quoted closing (b ∷ text)
    → EnclosedFrom (flips (eqb b quote) quoted) closing text
enclosed_tail quoted closing b text h = record {
  no_blank = h.no_blank.1;
  parity = sym (flips_twice (eqb b quote) (odd_quotes text)) ∙ ap (flips (eqb b quote)) h.parity;
  inside = λ before after e. sym (flips_twice (eqb b quote) (odd_quotes before))
      ∙ ap (flips (eqb b quote)) (h.inside (b ∷ before) after (ap (λ (t : List ℕ). b ∷ t) e))
      ∙ flips_not (eqb b quote) quoted;
}

pub enclosed_passes : (listed : Bool) (closing : ℕ) (quoted : Bool) (text : List ℕ)
    → EnclosedFrom quoted closing text
    → Passes (Enclosed listed closing quoted) (text ++ closing ∷ []) (left_at listed)
enclosed_passes listed closing quoted [] h =
    (refl, rw (← h.parity, eq-eqb closing closing refl) refl)
enclosed_passes listed closing quoted (b ∷ text) h = (
  refl,
  rw (not_yet closing b text quoted (eqb b closing) refl h.inside)
      (enclosed_passes listed closing (flips (eqb b quote) quoted) text
      (enclosed_tail quoted closing b text h)),
)

-- ---- lists

-- a segment of a list, which is read alike before anything that ends a word where the rest does
record Segment (Reads : List ℕ → List ℕ → Type 0) (from to : Place)
    (whole rest : List ℕ) : Type 0 where
  pub bytes : List ℕ
  pub parts : whole ≡ bytes ++ rest
  pub passes : Passes from bytes to
  pub anywhere : (after : List ℕ) → (EndsWord rest → EndsWord after) → Reads (bytes ++ after) after

bracket : (opening closing : ℕ) (text after : List ℕ) → opening ∷ text ++ closing ∷ after
    ≡ (opening ∷ text ++ closing ∷ []) ++ after
bracket opening closing text after = sym (append_assoc (opening ∷ text) (closing ∷ []) after)

bracketed : (opening closing : ℕ) (whole text rest : List ℕ) → place_behind Listed opening
    ≡ Enclosed true closing false → Between opening closing whole text rest
    → Segment (λ w r. Between opening closing w text r) Listed Listed whole rest
bracketed opening closing whole text rest opens h = record {
  bytes = opening ∷ text ++ closing ∷ [];
  parts = h.parts ∙ bracket opening closing text rest;
  passes = (
    refl,
    subst (λ (p : Place). Passes p (text ++ closing ∷ []) Listed) (sym opens)
        (enclosed_passes true closing false text
        record {
          no_blank = h.enclosed.no_blank;
          parity = h.enclosed.even;
          inside = h.enclosed.inside;
        }),
  );
  anywhere = λ after ends. record {
    parts = sym
        (bracket opening closing text after);
    enclosed = h.enclosed;
    utf8 = h.utf8;
  };
}

item_segment : (whole : List ℕ) (item : Item) (rest : List ℕ) → ItemAt whole item rest
    → Segment (λ w r. ItemAt w item r) Listed Listed whole rest
item_segment whole (Token text) rest (inl h) =
    let s = bracketed 60 62 whole text rest refl h.0 in
    record {
      bytes = s.bytes;
      parts = s.parts;
      passes = s.passes;
      anywhere = λ after ends. inl
          (s.anywhere after ends, h.1);
    }
item_segment whole (Token text) rest (inr h) = record {
  bytes = text;
  parts = h.parts;
  passes = words_listed text h.each;
  anywhere = λ after ends. inr record {
    parts = refl;
    each = h.each;
    utf8 = h.utf8;
    colon = h.colon;
    no_not = h.no_not;
    ends = ends h.ends;
  };
}
item_segment whole (Tag text) rest h =
    let s = bracketed 91 93 whole text rest refl h.0 in
    record {
      bytes = s.bytes;
      parts = s.parts;
      passes = s.passes;
      anywhere = λ after ends.
          (s.anywhere after ends, h.1);
    }

not_segment : (negated : Bool) (whole rest : List ℕ) → NotAt negated whole rest
    → Segment (λ w r. NotAt negated w r) Listed Listed whole rest
not_segment true whole rest h = record {
  bytes = codes "Not" ++ h.2.blanks;
  parts = h.1 ∙ ap (λ (x : List ℕ). codes "Not" ++ x) h.2.parts;
  passes = (refl, (refl, (refl, blanks_listed h.2.blanks h.2.each)));
  anywhere = λ after ends.
      (h.2.blanks ++ after, refl, record { blanks = h.2.blanks; each = h.2.each; parts = refl });
}
not_segment false whole rest h =
    record { bytes = []; parts = h; passes = refl; anywhere = λ after ends. refl }

ends_on : (xs rest after : List ℕ) → (EndsWord rest → EndsWord after) → EndsWord (xs ++ rest)
    → EndsWord (xs ++ after)
ends_on [] rest after ends h = ends h
ends_on (b ∷ xs) rest after ends h = h

condition_segment : (whole : List ℕ) (condition : Condition) (rest : List ℕ)
    → ConditionAt whole condition rest
    → Segment (λ w r. ConditionAt w condition r) Listed Listed whole rest
condition_segment whole condition rest h =
    let n = not_segment condition.negated whole h.0 h.1 in
    let i = item_segment h.0 condition.item rest h.2 in
    record {
      bytes = n.bytes ++ i.bytes;
      parts = n.parts ∙ ap (λ (x : List ℕ). n.bytes ++ x) i.parts
          ∙ sym (append_assoc n.bytes i.bytes rest);
      passes = passes_on Listed Listed Listed n.bytes i.bytes n.passes i.passes;
      anywhere = λ after ends. (
        i.bytes ++ after,
        subst (λ (w : List ℕ). NotAt condition.negated w (i.bytes ++ after))
            (sym (append_assoc n.bytes i.bytes after))
            (n.anywhere (i.bytes ++ after)
            (λ e. ends_on i.bytes rest after ends
            (subst (λ (x : List ℕ). EndsWord x) i.parts e))),
        i.anywhere after ends,
      );
    }

-- the same, read alike before anything
pub record Closed (Reads : List ℕ → List ℕ → Type 0) (from to : Place)
    (whole rest : List ℕ) : Type 0 where
  pub bytes : List ℕ
  pub parts : whole ≡ bytes ++ rest
  pub passes : Passes from bytes to
  pub some : bytes ≢ []
  pub anywhere : (after : List ℕ) → Reads (bytes ++ after) after

ends_some : (xs rest after : List ℕ) → xs ≢ [] → EndsWord (xs ++ rest) → EndsWord (xs ++ after)
ends_some [] rest after some h = absurd (some refl)
ends_some (b ∷ xs) rest after some h = h

some_behind : (xs ys : List ℕ) → ys ≢ [] → xs ++ ys ≢ []
some_behind [] ys some e = some e
some_behind (x ∷ xs) ys some e = cc

conditions_segment : (conditions : List Condition) (whole rest : List ℕ)
    → ConditionsAt whole conditions rest
    → Closed (λ w r. ConditionsAt w conditions r) Listed Outside whole rest
conditions_segment [] whole rest h = record {
  bytes = h.blanks ++ 41 ∷ [];
  parts = h.parts ∙ sym (append_assoc h.blanks (41 ∷ []) rest);
  passes = passes_on Listed Listed Outside h.blanks (41 ∷ []) (blanks_listed h.blanks h.each)
      (refl, refl);
  some = some_behind h.blanks (41 ∷ []) (λ e. cc);
  anywhere = λ after. record {
    blanks = h.blanks;
    each = h.each;
    parts = append_assoc h.blanks
        (41 ∷ []) after;
  };
}
conditions_segment (condition ∷ conditions) whole rest h =
    let blanks = h.2.blanks in
    let one = condition_segment h.0 condition h.1 h.3 in
    let more = conditions_segment conditions h.1 rest h.4 in
    record {
      bytes = blanks ++ (one.bytes ++ more.bytes);
      parts = h.2.parts
          ∙ ap (λ (x : List ℕ). blanks ++ x)
          (one.parts ∙ ap (λ (x : List ℕ). one.bytes ++ x) more.parts
          ∙ sym (append_assoc one.bytes more.bytes rest))
          ∙ sym (append_assoc blanks (one.bytes ++ more.bytes) rest);
      passes = passes_on Listed Listed Outside blanks (one.bytes ++ more.bytes)
          (blanks_listed blanks h.2.each)
          (passes_on Listed Listed Outside one.bytes more.bytes one.passes more.passes);
      some = some_behind blanks (one.bytes ++ more.bytes)
          (some_behind one.bytes more.bytes more.some);
      anywhere = λ after. (
        one.bytes ++ (more.bytes ++ after),
        more.bytes ++ after,
        record {
          blanks = blanks;
          each = h.2.each;
          parts = append_assoc blanks (one.bytes ++ more.bytes) after
              ∙ ap (λ (x : List ℕ). blanks ++ x) (append_assoc one.bytes more.bytes after);
        },
        one.anywhere (more.bytes ++ after)
            (λ e. ends_some more.bytes rest after more.some
            (subst (λ (x : List ℕ). EndsWord x) more.parts e)),
        more.anywhere after,
      );
    }

pub list_segment : (whole : List ℕ) (conditions : List Condition) (rest : List ℕ)
    → ListAt whole conditions rest
    → Closed (λ w r. ListAt w conditions r) Outside Outside whole rest
list_segment whole conditions rest h =
    let inner = conditions_segment conditions h.inner rest h.conditions_at in
    record {
      bytes = 40 ∷ inner.bytes;
      parts = h.parts ∙ ap (λ (x : List ℕ). 40 ∷ x) inner.parts;
      passes = (refl, inner.passes);
      some = λ e. cc;
      anywhere = λ after.
          record {
            inner = inner.bytes ++ after;
            parts = refl;
            some = h.some;
            conditions_at = inner.anywhere after;
          };
    }

-- ---- the bytes of a value

host_value : (b : ℕ) → 32 < b → b < 127 → is_value_byte b ≡ true
host_value b above below = grind (arith, nat_tests)

host_values : (front : List ℕ) → list_all is_host_byte front ≡ true → list_all is_value_byte front
    ≡ true
host_values [] plain = refl
host_values (b ∷ front) plain =
    let p = and_parts (is_host_byte b) (list_all is_host_byte front) plain in
    let q = and_parts (ltb 32 b && ltb b 127 && not (eqb b quote)) (not (eqb b 62)) p.0 in
    let r = and_parts (ltb 32 b && ltb b 127) (not (eqb b quote)) q.0 in
    let s = and_parts (ltb 32 b) (ltb b 127) r.0 in
    and_from (is_value_byte b) (list_all is_value_byte front)
    (host_value b (ltb-true 32 b s.0) (ltb-true b 127 s.1)) (host_values front p.1)

lead_values : (front : List ℕ) (at : Place) (b : ℕ) → list_all is_value_byte front ≡ true
    → list_all is_value_byte (lead front at b) ≡ true
lead_values front at b h = by (begins_path at b)
  where
    by : (t : Bool) → list_all is_value_byte (cond t front []) ≡ true
    by true = h
    by false = refl

all_values : (front : List ℕ) (at : Place) (bytes : List ℕ) → list_all is_value_byte front ≡ true
    → list_all is_value_byte bytes ≡ true
    → list_all is_value_byte (with_fronts front at bytes) ≡ true
all_values front at [] h k = refl
all_values front at (b ∷ bytes) h k =
    let p = and_parts (is_value_byte b) (list_all is_value_byte bytes) k in
    let rest = with_fronts front (place_behind at b) bytes in
    text-append is_value_byte (lead front at b) (b ∷ rest) (lead_values front at b h)
    (and_from (is_value_byte b) (list_all is_value_byte rest) p.0
    (all_values front (place_behind at b) bytes h p.1))

-- a value stays one
pub stays_value : (front bytes : List ℕ) (at : Place) → list_all is_host_byte front ≡ true
    → IsFieldValue bytes → IsFieldValue (with_fronts front at bytes)
stays_value front bytes at plain h =
    AllPass-from_list_all is_value_byte (with_fronts front at bytes)
    (all_values front at bytes (host_values front plain)
    (list_all-from_AllPass is_value_byte bytes h))
