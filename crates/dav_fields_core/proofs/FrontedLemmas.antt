-- An `If` with a text in front of its rooted tags is read as the same groups with these tags, both
-- ways.
use Rattle.std.proofs.Common.{◌≡◌, ◌≢◌, arith, refl, sym, ap, ◌∙◌, subst, ℕ, ◌<◌, Bool, true, false}
use Rattle.std.proofs.Common.{not, ◌&&◌, cond, eqb, ltb, List, [], ◌∷◌, ◌++◌, Option, None, Some}
use Rattle.std.proofs.Common.{IsUtf8}
use Rattle.std.specs.List.{list_all}
use Rattle.std.specs.Prelude.{map, option_map}
use Rattle.std.proofs.lemmas.Bool.{and_parts, ltb-true, ne_eqb}
use Rattle.std.proofs.lemmas.List.{append_assoc}
use Rattle.std.proofs.lemmas.Str.{IsUtf8-append, IsUtf8-from_ascii, IsUtf8-nil, IsUtf8-past_char}
use Rattle.std.proofs.lemmas.Str.Ascii.{IsAscii-cons, IsAscii-nil, encode_ascii}
use Rattle.dav_headers_core.specs.CommaPieces.{is_blank}
use Rattle.dav_headers_core.specs.Destinations.{is_rooted}
use Rattle.dav_headers_core.specs.IfBytes.{Condition, Group, odd_quotes}
use Rattle.dav_headers_core.specs.IfGrammar.{Between, Enclosed, GroupAt, Groups, IfText, ListAt}
use Rattle.dav_headers_core.specs.IfGrammar.{ResourceTagAt, SkipsTo}
use Rattle.dav_headers_core.specs.Tags.{quote}
use Rattle.dav_fields_core.specs.RootedTags.{fronted_group, fronted_tag, is_host_byte}
use Rattle.dav_fields_core.specs.Private.TagFronts.{with_fronts}
use Rattle.dav_fields_core.specs.declared.tag_fronts.Place.TheVariants as place
use Rattle.dav_fields_core.proofs.TagFrontLemmas.{Passes, blanks_outside, enclosed_passes, keeps}
use Rattle.dav_fields_core.proofs.TagFrontLemmas.{kept, list_segment}

-- ---- a byte of a front

record Plain (b : ℕ) : Type 0 where
  pub small : b < 128
  pub no_blank : is_blank b ≡ false
  pub no_quote : eqb b quote ≡ false
  pub no_end : eqb b 62 ≡ false

from_not : (t : Bool) → not t ≡ true → t ≡ false
from_not true h = absurd cc
from_not false h = refl

no_blank_above : (b : ℕ) → 32 < b → is_blank b ≡ false
no_blank_above b above =
    rw (
      ne_eqb b 32 (λ (e : b ≡ 32). absurd (omega arith)),
      ne_eqb b 9
          (λ (e : b ≡ 9). absurd (omega arith)),
    ) refl

plain_from : (b : ℕ) → is_host_byte b ≡ true → Plain b
plain_from b h =
    let p = and_parts (ltb 32 b && ltb b 127 && not (eqb b quote)) (not (eqb b 62)) h in
    let q = and_parts (ltb 32 b && ltb b 127) (not (eqb b quote)) p.0 in
    let r = and_parts (ltb 32 b) (ltb b 127) q.0 in
    record {
      small = omega (arith, ltb-true b 127 r.1);
      no_blank = no_blank_above b (ltb-true 32 b r.0);
      no_quote = from_not (eqb b quote) q.1;
      no_end = from_not (eqb b 62) p.1;
    }

-- ---- the front of an enclosed text

more_enclosed : (b : ℕ) (text : List ℕ) → Plain b → Enclosed 62 text → Enclosed 62 (b ∷ text)
more_enclosed b text p h = record {
  no_blank = (p.no_blank, h.no_blank);
  even = rw p.no_quote h.even;
  inside = inside;
}
  where
    inside : (before after : List ℕ) → b ∷ text ≡ before ++ 62 ∷ after → odd_quotes before ≡ true
    inside [] after e = absurd
        (let same : b ≡ 62 = cc in let t : eqb 62 62 ≡ false = rw same at p.no_end in cc)
    inside (x ∷ before) after e =
        let first : x ≡ b = cc in
        let more : text ≡ before ++ 62 ∷ after = cc in
        rw (first, p.no_quote) (h.inside before after more)

less_enclosed : (b : ℕ) (text : List ℕ) → Plain b → Enclosed 62 (b ∷ text) → Enclosed 62 text
less_enclosed b text p h = record {
  no_blank = h.no_blank.1;
  even = rw p.no_quote at h.even;
  inside = λ before after e. rw p.no_quote at
      (h.inside (b ∷ before) after (ap (λ (x : List ℕ). b ∷ x) e));
}

one_utf8 : (b : ℕ) (text : List ℕ) → b < 128 → IsUtf8 (b ∷ text) → IsUtf8 text
one_utf8 b text small h = IsUtf8-past_char (b ∷ text) text b h
    (ap (λ (x : List ℕ). x ++ text) (sym (encode_ascii b small)))

all_plain : (b : ℕ) (front : List ℕ) → list_all is_host_byte (b ∷ front) ≡ true → Plain b
    × (list_all is_host_byte front ≡ true)
all_plain b front h = let p = and_parts (is_host_byte b) (list_all is_host_byte front) h in
    (plain_from b p.0, p.1)

pub front_enclosed : (front text : List ℕ) → list_all is_host_byte front ≡ true → Enclosed 62 text
    → Enclosed 62 (front ++ text)
front_enclosed [] text plain h = h
front_enclosed (b ∷ front) text plain h =
    let p = all_plain b front plain in more_enclosed b (front ++ text) p.0
    (front_enclosed front text p.1 h)

front_utf8 : (front : List ℕ) → list_all is_host_byte front ≡ true → IsUtf8 front
front_utf8 [] plain = IsUtf8-nil
front_utf8 (b ∷ front) plain =
    let p = all_plain b front plain in
    IsUtf8-append (b ∷ []) front
    (IsUtf8-from_ascii (b ∷ []) (IsAscii-cons b [] p.0.small IsAscii-nil))
    (front_utf8 front p.1)

-- a text with the front before it, enclosed
record Behind (front text after : List ℕ) (whole : List ℕ) : Type 0 where
  pub tail : List ℕ
  pub text_is : text ≡ front ++ tail
  pub whole_is : whole ≡ tail ++ 62 ∷ after
  pub enclosed : Enclosed 62 tail
  pub utf8 : IsUtf8 tail

behind_front : (front text after whole : List ℕ) → list_all is_host_byte front ≡ true
    → front ++ whole ≡ text ++ 62 ∷ after → Enclosed 62 text → IsUtf8 text
    → Behind front text after whole
behind_front [] text after whole plain e h u =
    record { tail = text; text_is = refl; whole_is = e; enclosed = h; utf8 = u }
behind_front (b ∷ front) [] after whole plain e h u =
    let p = all_plain b front plain in
    let same : b ≡ 62 = cc in
    absurd (let no_end = p.0.no_end in let t : eqb 62 62 ≡ false = rw same at no_end in cc)
behind_front (b ∷ front) (c ∷ text) after whole plain e h u =
    let p = all_plain b front plain in
    let first : c ≡ b = cc in
    let more : front ++ whole ≡ text ++ 62 ∷ after = cc in
    let inner : Enclosed 62 (b ∷ text) = rw first at h in
    let utf8 : IsUtf8 (b ∷ text) = rw first at u in
    with_first first
    (behind_front front text after whole p.1 more (less_enclosed b text p.0 inner)
    (one_utf8 b text p.0.small utf8))
  where
    with_first : c ≡ b → Behind front text after whole → Behind (b ∷ front) (c ∷ text) after whole
    with_first first r = record {
      tail = r.tail;
      text_is = ap (λ (x : ℕ). x ∷ text) first ∙ ap (λ (x : List ℕ). b ∷ x) r.text_is;
      whole_is = r.whole_is;
      enclosed = r.enclosed;
      utf8 = r.utf8;
    }

-- ---- a resource tag

tag_passes : (text : List ℕ) → Enclosed 62 text
    → Passes (place.Enclosed false 62 false) (text ++ 62 ∷ []) place.Outside
tag_passes text h = enclosed_passes false 62 false text
    record { no_blank = h.no_blank; parity = h.even; inside = h.inside }

ending : (text rest : List ℕ) → text ++ 62 ∷ rest ≡ (text ++ 62 ∷ []) ++ rest
ending text rest = sym (append_assoc text (62 ∷ []) rest)

-- ---- what stood there before fronts were put

rooted_false : (b : ℕ) (bytes text rest : List ℕ) → b ∷ bytes ≡ text ++ 62 ∷ rest → eqb b 47 ≡ false
    → is_rooted text ≡ false
rooted_false b bytes [] rest e other = refl
rooted_false b bytes (c ∷ text) rest e other =
    let same : c ≡ b = cc in ap (λ (x : ℕ). eqb x 47) same ∙ other

rooted_true : (b : ℕ) (bytes text rest : List ℕ) → b ∷ bytes ≡ text ++ 62 ∷ rest → eqb b 47 ≡ true
    → is_rooted text ≡ true
rooted_true b bytes [] rest e slash =
    let same : b ≡ 62 = cc in
    absurd (let t : eqb 62 47 ≡ true = rw same at slash in cc)
rooted_true b bytes (c ∷ text) rest e slash =
    let same : c ≡ b = cc in ap (λ (x : ℕ). eqb x 47) same ∙ slash

abbrev out : List ℕ → List ℕ → List ℕ
out front bytes = with_fronts front place.Outside bytes

-- behind `<`
record FromWithin (front text after bytes : List ℕ) : Type 0 where
  pub tag : List ℕ
  pub rest : List ℕ
  pub parts : bytes ≡ tag ++ 62 ∷ rest
  pub enclosed : Enclosed 62 tag
  pub utf8 : IsUtf8 tag
  pub text_is : text ≡ fronted_tag front tag
  pub after_is : after ≡ out front rest

record FromTag (front : List ℕ) (fronted : Option (List ℕ)) (after bytes : List ℕ) : Type 0 where
  pub tag : Option (List ℕ)
  pub rest : List ℕ
  pub at : ResourceTagAt bytes tag rest
  pub tag_is : fronted ≡ option_map (fronted_tag front) tag
  pub after_is : after ≡ out front rest

record FromBlanks (front after bytes : List ℕ) : Type 0 where
  pub rest : List ℕ
  pub skips : SkipsTo bytes rest
  pub after_is : after ≡ out front rest

record FromList (front : List ℕ) (conditions : List Condition) (after bytes : List ℕ) : Type 0 where
  pub rest : List ℕ
  pub at : ListAt bytes conditions rest
  pub after_is : after ≡ out front rest

record FromGroup (front : List ℕ) (fronted : Group) (after bytes : List ℕ) : Type 0 where
  pub group : Group
  pub rest : List ℕ
  pub at : GroupAt bytes group rest
  pub group_is : fronted ≡ fronted_group front group
  pub after_is : after ≡ out front rest

record FromGroups (front : List ℕ) (fronted : List Group) (bytes : List ℕ) : Type 0 where
  pub groups : List Group
  pub at : Groups bytes groups
  pub groups_are : fronted ≡ map (fronted_group front) groups

-- bytes that read as groups which give these once fronts are put
pub record TextFrom (front : List ℕ) (fronted : List Group) (bytes : List ℕ) : Type 0 where
  pub groups : List Group
  pub text : IfText bytes groups
  pub groups_are : fronted ≡ map (fronted_group front) groups

nothing_left : (front rest : List ℕ) → [] ≡ out front rest → rest ≡ []
nothing_left front [] e = refl
nothing_left front (b ∷ rest) e = absurd cc

no_end_of_nothing : (text after : List ℕ) → [] ≡ text ++ 62 ∷ after → ⊥
no_end_of_nothing [] after e = cc
no_end_of_nothing (b ∷ text) after e = cc

some_mapped : (front : List ℕ) (groups : List Group) → groups ≢ []
    → map (fronted_group front) groups ≢ []
some_mapped front [] some e = some refl
some_mapped front (group ∷ groups) some e = cc

some_before : (front : List ℕ) (groups fronted : List Group) → fronted
    ≡ map (fronted_group front) groups → fronted ≢ [] → groups ≢ []
some_before front [] fronted e some none = some e
some_before front (group ∷ groups) fronted e some none = cc

module _ (front : List ℕ) (plain : list_all is_host_byte front ≡ true) where
  abbrev in_tag : List ℕ → List ℕ
  in_tag bytes = with_fronts front (place.Enclosed false 62 false) bytes

  tag_text : (text rest : List ℕ) → Enclosed 62 text → in_tag (text ++ 62 ∷ rest)
      ≡ text ++ 62 ∷ out front rest
  tag_text text rest h =
      ap in_tag (ending text rest)
      ∙ keeps front (place.Enclosed false 62 false) place.Outside (text ++ 62 ∷ []) rest
      (tag_passes text h)
      ∙ sym (ending text (out front rest))

  opened : (text rest : List ℕ) → Enclosed 62 text
      → with_fronts front place.Opened (text ++ 62 ∷ rest)
      ≡ fronted_tag front text ++ 62 ∷ out front rest
  opened [] rest h = refl
  opened (b ∷ text) rest h = by (eqb b 47) (tag_text (b ∷ text) rest h)
    where
      by : (t : Bool) → in_tag (b ∷ text ++ 62 ∷ rest) ≡ b ∷ text ++ 62 ∷ out front rest
          → cond t front [] ++ in_tag (b ∷ text ++ 62 ∷ rest)
          ≡ cond t (front ++ b ∷ text) (b ∷ text) ++ 62 ∷ out front rest
      by true e = ap (λ (x : List ℕ). front ++ x) e
          ∙ sym (append_assoc front (b ∷ text) (62 ∷ out front rest))
      by false e = e

  tag_enclosed : (text : List ℕ) → Enclosed 62 text → Enclosed 62 (fronted_tag front text)
  tag_enclosed text h = by (is_rooted text)
    where
      by : (t : Bool) → Enclosed 62 (cond t (front ++ text) text)
      by true = front_enclosed front text plain h
      by false = h

  tag_utf8 : (text : List ℕ) → IsUtf8 text → IsUtf8 (fronted_tag front text)
  tag_utf8 text h = by (is_rooted text)
    where
      by : (t : Bool) → IsUtf8 (cond t (front ++ text) text)
      by true = IsUtf8-append front text (front_utf8 front plain) h
      by false = h

  tag_to : (whole text rest : List ℕ) → Between 60 62 whole text rest
      → Between 60 62 (out front whole) (fronted_tag front text) (out front rest)
  tag_to whole text rest h = record {
    parts = ap (out front) h.parts ∙ ap (λ (x : List ℕ). 60 ∷ x) (opened text rest h.enclosed);
    enclosed = tag_enclosed text h.enclosed;
    utf8 = tag_utf8 text h.utf8;
  }

  -- ---- with fronts, from the text without them

  skips_to : (whole rest : List ℕ) → SkipsTo whole rest → SkipsTo (out front whole) (out front rest)
  skips_to whole rest h = record {
    blanks = h.blanks;
    each = h.each;
    parts = ap (out front) h.parts
        ∙ keeps front place.Outside place.Outside h.blanks rest (blanks_outside h.blanks h.each);
  }

  list_to : (whole : List ℕ) (conditions : List Condition) (rest : List ℕ)
      → ListAt whole conditions rest → ListAt (out front whole) conditions (out front rest)
  list_to whole conditions rest h =
      let s = list_segment whole conditions rest h in
      subst (λ (w : List ℕ). ListAt w conditions (out front rest))
      (sym (ap (out front) s.parts ∙ keeps front place.Outside place.Outside s.bytes rest s.passes))
      (s.anywhere (out front rest))

  resource_to : (tag : Option (List ℕ)) (whole rest : List ℕ) → ResourceTagAt whole tag rest
      → ResourceTagAt (out front whole) (option_map (fronted_tag front) tag) (out front rest)
  resource_to None whole rest h = ap (out front) h
  resource_to (Some text) whole rest h = tag_to whole text rest h

  group_to : (whole : List ℕ) (group : Group) (rest : List ℕ) → GroupAt whole group rest
      → GroupAt (out front whole) (fronted_group front group) (out front rest)
  group_to whole group rest h = (
    out front h.0,
    out front h.1,
    resource_to group.tag whole h.0 h.2,
    skips_to h.0 h.1 h.3,
    list_to h.1 group.conditions rest h.4,
  )

  groups_to : (groups : List Group) (whole : List ℕ) → Groups whole groups
      → Groups (out front whole) (map (fronted_group front) groups)
  groups_to [] whole h = skips_to whole [] h
  groups_to (group ∷ groups) whole h = (
    out front h.0,
    out front h.1,
    skips_to whole h.0 h.2,
    group_to h.0 group h.1 h.3,
    groups_to groups h.1 h.4,
  )

  pub text_to : (bytes : List ℕ) (groups : List Group) → IfText bytes groups
      → IfText (out front bytes) (map (fronted_group front) groups)
  text_to bytes groups h =
      record {
        some = some_mapped front groups h.some;
        groups_at = groups_to groups bytes h.groups_at;
      }

  -- ---- the text without fronts, from that with them

  within_from : (bytes text after : List ℕ) → with_fronts front place.Opened bytes
      ≡ text ++ 62 ∷ after → Enclosed 62 text → IsUtf8 text
      → FromWithin front text after bytes
  within_from [] text after e h u = absurd (no_end_of_nothing text after e)
  within_from (b ∷ bytes) text after e h u = by (eqb b 47) refl e
    where
      by : (t : Bool) → eqb b 47 ≡ t → cond t front [] ++ in_tag (b ∷ bytes) ≡ text ++ 62 ∷ after
          → FromWithin front text after (b ∷ bytes)
      by true slash e =
          let r = behind_front front text after (in_tag (b ∷ bytes)) plain e h u in
          let k = kept front (place.Enclosed false 62 false) place.Outside (r.tail ++ 62 ∷ [])
          (b ∷ bytes) after (tag_passes r.tail r.enclosed)
          (r.whole_is ∙ ending r.tail after) in
          let parts : b ∷ bytes ≡ r.tail ++ 62 ∷ k.rest = k.parts ∙ sym (ending r.tail k.rest) in
          record {
            tag = r.tail;
            rest = k.rest;
            parts = parts;
            enclosed = r.enclosed;
            utf8 = r.utf8;
            text_is = r.text_is ∙ sym
                (ap (λ (t : Bool). cond t (front ++ r.tail) r.tail)
                (rooted_true b bytes r.tail k.rest parts slash));
            after_is = k.after_is;
          }
      by false other e =
          let k = kept front (place.Enclosed false 62 false) place.Outside (text ++ 62 ∷ [])
          (b ∷ bytes) after (tag_passes text h) (e ∙ ending text after) in
          let parts : b ∷ bytes ≡ text ++ 62 ∷ k.rest = k.parts ∙ sym (ending text k.rest) in
          record {
            tag = text;
            rest = k.rest;
            parts = parts;
            enclosed = h;
            utf8 = u;
            text_is = sym (ap (λ (t : Bool). cond t (front ++ text) text)
                (rooted_false b bytes text k.rest parts other));
            after_is = k.after_is;
          }

  resource_from : (tag : Option (List ℕ)) (bytes after : List ℕ)
      → ResourceTagAt (out front bytes) tag after → FromTag front tag after bytes
  resource_from None bytes after h =
      record { tag = None; rest = bytes; at = refl; tag_is = refl; after_is = sym h }
  resource_from (Some text) bytes after h =
      let k = kept front place.Outside place.Opened (60 ∷ []) bytes (text ++ 62 ∷ after)
      (refl, refl) h.parts in
      let w = within_from k.rest text after (sym k.after_is) h.enclosed h.utf8 in
      record {
        tag = Some w.tag;
        rest = w.rest;
        at = record {
          parts = k.parts
              ∙ ap (λ (x : List ℕ). 60 ∷ x) w.parts;
          enclosed = w.enclosed;
          utf8 = w.utf8;
        };
        tag_is = ap (λ (x : List ℕ). some x) w.text_is;
        after_is = w.after_is;
      }
    where
      some : List ℕ → Option (List ℕ)
      some x = Some x

  skips_from : (bytes after : List ℕ) → SkipsTo (out front bytes) after
      → FromBlanks front after bytes
  skips_from bytes after h =
      let k = kept front place.Outside place.Outside h.blanks bytes after
      (blanks_outside h.blanks h.each) h.parts in
      record {
        rest = k.rest;
        skips = record { blanks = h.blanks; each = h.each; parts = k.parts };
        after_is = k.after_is;
      }

  list_from : (conditions : List Condition) (bytes after : List ℕ)
      → ListAt (out front bytes) conditions after → FromList front conditions after bytes
  list_from conditions bytes after h =
      let s = list_segment (out front bytes) conditions after h in
      let k = kept front place.Outside place.Outside s.bytes bytes after s.passes s.parts in
      record {
        rest = k.rest;
        at = subst (λ (w : List ℕ). ListAt w conditions k.rest) (sym k.parts)
            (s.anywhere k.rest);
        after_is = k.after_is;
      }

  group_from : (group : Group) (bytes after : List ℕ) → GroupAt (out front bytes) group after
      → FromGroup front group after bytes
  group_from group bytes after h =
      let t = resource_from group.tag bytes h.0 h.2 in
      let s = skips_from t.rest h.1 (subst (λ (x : List ℕ). SkipsTo x h.1) t.after_is h.3) in
      let l = list_from group.conditions s.rest after
      (subst (λ (x : List ℕ). ListAt x group.conditions after) s.after_is h.4) in
      record {
        group = record { tag = t.tag; conditions = group.conditions };
        rest = l.rest;
        at = (t.rest, s.rest, t.at, s.skips, l.at);
        group_is = ap (λ (tag : Option (List ℕ)). with_tag tag) t.tag_is;
        after_is = l.after_is;
      }
    where
      with_tag : Option (List ℕ) → Group
      with_tag tag = record { tag = tag; conditions = group.conditions }

  groups_from : (groups : List Group) (bytes : List ℕ) → Groups (out front bytes) groups
      → FromGroups front groups bytes
  groups_from [] bytes h =
      let s = skips_from bytes [] h in
      record {
        groups = [];
        at = subst (λ (x : List ℕ). SkipsTo bytes x)
            (nothing_left front s.rest s.after_is) s.skips;
        groups_are = refl;
      }
  groups_from (group ∷ groups) bytes h =
      let s = skips_from bytes h.0 h.2 in
      let one = group_from group s.rest h.1
      (subst (λ (x : List ℕ). GroupAt x group h.1) s.after_is h.3) in
      let more = groups_from groups one.rest
      (subst (λ (x : List ℕ). Groups x groups) one.after_is h.4) in
      record {
        groups = one.group ∷ more.groups;
        at = (s.rest, one.rest, s.skips, one.at, more.at);
        groups_are = ap (λ (x : Group). x ∷ groups) one.group_is
            ∙ ap (λ (x : List Group). fronted_group front one.group ∷ x) more.groups_are;
      }

  pub text_from : (bytes : List ℕ) (groups : List Group) → IfText (out front bytes) groups
      → TextFrom front groups bytes
  text_from bytes groups h =
      let r = groups_from groups bytes h.groups_at in
      record {
        groups = r.groups;
        text =
            record { some = some_before front r.groups groups r.groups_are h.some; groups_at = r.at };
        groups_are = r.groups_are;
      }
