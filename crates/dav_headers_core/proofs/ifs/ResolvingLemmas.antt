-- Reading with URLs is reading, and then resolving each tag.
use Rattle.std.proofs.Common.{◌≡◌, refl, sym, ap, subst, ◌∙◌, ℕ, zero, suc, Bool, true, false, cond, not, List, [], ◌∷◌, length, get_or, arith, Option, None, Some}
use Rattle.http_header.specs.FieldValue.{FieldValue}
use Rattle.dav_headers_core.specs.declared.davheaders.errors.HeaderError.{HeaderError}
use Rattle.dav_headers_core.specs.declared.davheaders.errors.HeaderError.TheVariants.{Invalid, OutOfMemory}
use Rattle.dav_headers_core.specs.HeaderGives.{Refuses}
use Rattle.dav_headers_core.specs.IfBytes.{Condition, Group}
use Rattle.dav_headers_core.specs.IfGrammar.{IfText}
use Rattle.dav_headers_core.specs.Private.IfReading.{Found, is_empty, choose, skip_blanks, after_byte, text_at, list_at, as_it_is, behind_tag, group_at, groups_at, decoded_lists}
use Rattle.dav_headers_core.specs.Optional.{◌>>=◌, when}
use Rattle.dav_headers_core.proofs.lists.OptionalLemmas.{bind_some, when_some, some_is}
use Rattle.dav_headers_core.proofs.ifs.GroupLemmas.{reading_sound, reading_complete}
use Rattle.dav_headers_core.specs.IfValues.{Located, TagIs, Resolves, ReadsAs}
use Rattle.dav_headers_core.specs.Urls.{url_of}
use Rattle.url.specs.Parts.{Parts}

-- the URL of a tag's text, where it has one
abbrev resolve_tag : Option (List ℕ) → Option (Option Parts)
resolve_tag None = Some None
resolve_tag (Some text) = url_of text >>= λ url. Some (Some url)

abbrev resolve : Group → Option Located
resolve group = resolve_tag group.tag >>= λ url. Some (record { tag = url; conditions = group.conditions })

abbrev resolve_all : List Group → Option (List Located)
resolve_all [] = Some []
resolve_all (group ∷ groups) =
    resolve group >>= λ first. resolve_all groups >>= λ others. Some (first ∷ others)

-- a group found, with its URL
abbrev resolved : Found Group → Found Located
resolved found = found >>= λ g. resolve g.0 >>= λ l. Some (l, g.1)

resolved_group : (tag : Option (List ℕ)) (url : Option Parts) (bytes : List ℕ) → resolve_tag tag ≡ Some url → resolved (behind_tag tag bytes) ≡ behind_tag url bytes
resolved_group tag url bytes e = go (list_at (skip_blanks bytes))
  where
    go : (found : Found (List Condition)) → resolved (found >>= λ f. Some (record { tag = tag; conditions = f.0 }, f.1)) ≡ (found >>= λ f. Some (record { tag = url; conditions = f.0 }, f.1))
    go None = refl
    go (Some f) = rw e refl

unresolved_group : (tag : Option (List ℕ)) (bytes : List ℕ) → resolve_tag tag ≡ None → resolved (behind_tag tag bytes) ≡ None
unresolved_group tag bytes e = go (list_at (skip_blanks bytes))
  where
    go : (found : Found (List Condition)) → resolved (found >>= λ f. Some (record { tag = tag; conditions = f.0 }, f.1)) ≡ None
    go None = refl
    go (Some f) = rw e refl

located_is : (bytes : List ℕ) → group_at url_of bytes ≡ resolved (group_at as_it_is bytes)
unfolding group_at
located_is bytes = go (after_byte 60 bytes)
  where
    text : (found : Found (List ℕ)) → (found >>= λ text. url_of text.0 >>= λ url. behind_tag (Some url) text.1) ≡ resolved (found >>= λ text. behind_tag (Some text.0) text.1)
    text None = refl
    text (Some t) = url (url_of t.0) refl
      where
        url : (u : Option Parts) → url_of t.0 ≡ u → (url_of t.0 >>= λ url. behind_tag (Some url) t.1) ≡ resolved (behind_tag (Some t.0) t.1)
        url (Some u) e = rw e (sym (resolved_group (Some t.0) (Some u) t.1 (rw e refl)))
        url None e = rw e (sym (unresolved_group (Some t.0) t.1 (rw e refl)))

    go : (o : Option (List ℕ)) → choose o (λ after. text_at 62 after >>= λ text. url_of text.0 >>= λ url. behind_tag (Some url) text.1) (behind_tag None bytes)
        ≡ resolved (choose o (λ after. text_at 62 after >>= λ text. behind_tag (Some text.0) text.1) (behind_tag None bytes))
    go None = sym (resolved_group None None bytes refl)
    go (Some after) = text (text_at 62 after)

-- the first is refused, or the others are, or all are resolved
step : (first : Found Group) (others : Group × List ℕ → Option (List Group)) (others' : Located × List ℕ → Option (List Located))
    → ((g : Group × List ℕ) (l : Located) → others' (l, g.1) ≡ (others g >>= resolve_all))
    → (resolved first >>= λ l. others' l >>= λ ls. Some (l.0 ∷ ls)) ≡ ((first >>= λ g. others g >>= λ gs. Some (g.0 ∷ gs)) >>= resolve_all)
step None others others' h = refl
step (Some g) others others' h = go (resolve g.0) refl
  where
    gone : (gs : Option (List Group)) → resolve g.0 ≡ None → None ≡ ((gs >>= λ gs. Some (g.0 ∷ gs)) >>= resolve_all)
    gone None e = refl
    gone (Some gs) e = rw e refl

    kept : (gs : Option (List Group)) (l : Located) → resolve g.0 ≡ Some l → ((gs >>= resolve_all) >>= λ ls. Some (l ∷ ls)) ≡ ((gs >>= λ gs. Some (g.0 ∷ gs)) >>= resolve_all)
    kept None l e = refl
    kept (Some gs) l e = rw e refl

    go : (r : Option Located) → resolve g.0 ≡ r → (resolved (Some g) >>= λ l. others' l >>= λ ls. Some (l.0 ∷ ls)) ≡ ((others g >>= λ gs. Some (g.0 ∷ gs)) >>= resolve_all)
    go None e = rw e (gone (others g) e)
    go (Some l) e = rw (e, h g l) (kept (others g) l e)

lists_are : (n : ℕ) (bytes : List ℕ) → groups_at url_of n bytes ≡ (groups_at as_it_is n bytes >>= resolve_all)
lists_are zero bytes = refl
lists_are (suc n) bytes = go (is_empty (skip_blanks bytes)) (lists_are n)
  where
    go : (t : Bool) → ((b : List ℕ) → groups_at url_of n b ≡ (groups_at as_it_is n b >>= resolve_all))
        → cond t (Some []) (group_at url_of (skip_blanks bytes) >>= λ first. groups_at url_of n first.1 >>= λ others. Some (first.0 ∷ others))
        ≡ (cond t (Some []) (group_at as_it_is (skip_blanks bytes) >>= λ first. groups_at as_it_is n first.1 >>= λ others. Some (first.0 ∷ others)) >>= resolve_all)
    go true hyp = refl
    go false hyp =
        ap (λ (f : Found Located). f >>= λ first. groups_at url_of n first.1 >>= λ others. Some (first.0 ∷ others)) (located_is (skip_blanks bytes))
        ∙ step (group_at as_it_is (skip_blanks bytes)) (λ g. groups_at as_it_is n g.1) (λ l. groups_at url_of n l.1) (λ g l. hyp g.1)

-- ---- resolving is a relation

tag_sound : (tag : Option (List ℕ)) (url : Option Parts) → resolve_tag tag ≡ Some url → TagIs tag url
tag_sound None url e = rw (← some_is _ _ e) tt
tag_sound (Some text) url e =
    let f : Parts → Option (Option Parts) = λ u. Some (Some u) in
    let r = bind_some (url_of text) f url e in
    rw (← some_is _ _ r.2) r.1

tag_complete : (tag : Option (List ℕ)) (url : Option Parts) → TagIs tag url → resolve_tag tag ≡ Some url
tag_complete None None h = refl
tag_complete (Some text) (Some url) h = rw h refl
tag_complete None (Some url) h = absurd h
tag_complete (Some text) None h = absurd h

resolve_one : (g : Group) (l : Located) → resolve g ≡ Some l → TagIs g.tag l.tag × (g.conditions ≡ l.conditions)
resolve_one g l e =
    let m : Option Parts → Option Located = λ url. Some (record { tag = url; conditions = g.conditions }) in
    let t = bind_some (resolve_tag g.tag) m l e in
    let made : record { tag = t.0; conditions = g.conditions } ≡ l = some_is _ _ t.2 in
    let tag : TagIs g.tag t.0 = tag_sound g.tag t.0 t.1 in
    (subst (λ (u : Option Parts). TagIs g.tag u) (ap (λ (x : Located). x.tag) made) tag, ap (λ (x : Located). x.conditions) made)

resolve_sound : (groups : List Group) (lists : List Located) → resolve_all groups ≡ Some lists → Resolves groups lists
resolve_sound [] lists e = rw (← some_is _ _ e) tt
resolve_sound (g ∷ groups) lists e =
    let f : Located → Option (List Located) = λ first. resolve_all groups >>= λ others. Some (first ∷ others) in
    let r = bind_some (resolve g) f lists e in
    let k : List Located → Option (List Located) = λ others. Some (r.0 ∷ others) in
    let q = bind_some (resolve_all groups) k lists r.2 in
    let one = resolve_one g r.0 r.1 in
    rw (← some_is _ _ q.2) (one.0, one.1, resolve_sound groups q.0 q.1)

resolve_complete : (groups : List Group) (lists : List Located) → Resolves groups lists → resolve_all groups ≡ Some lists
resolve_complete [] [] h = refl
resolve_complete (g ∷ groups) (l ∷ lists) h = rw (tag_complete g.tag l.tag h.0, h.1, resolve_complete groups lists h.2) refl
resolve_complete [] (l ∷ lists) h = absurd h
resolve_complete (g ∷ groups) [] h = absurd h

-- ---- the whole value

empty_same : (groups : List Group) (lists : List Located) → Resolves groups lists → is_empty lists ≡ is_empty groups
empty_same [] [] h = refl
empty_same (g ∷ groups) (l ∷ lists) h = refl
empty_same [] (l ∷ lists) h = absurd h
empty_same (g ∷ groups) [] h = absurd h

-- bytes that read as groups, which resolve to lists
record Reads (bytes : List ℕ) (lists : List Located) : Type 0 where
  pub groups : List Group
  pub text : IfText bytes groups
  pub resolves : Resolves groups lists

decoded_sound : (bytes : List ℕ) (lists : List Located) → decoded_lists bytes ≡ Some lists → Reads bytes lists
decoded_sound bytes lists e =
    let f : List Located → Option (List Located) = λ lists. when (not (is_empty lists)) lists in
    let r = bind_some (groups_at url_of (suc (length bytes)) bytes) f lists e in
    let w = when_some (not (is_empty r.0)) r.0 lists r.2 in
    let g = bind_some (groups_at as_it_is (suc (length bytes)) bytes) resolve_all r.0 (sym (lists_are (suc (length bytes)) bytes) ∙ r.1) in
    let res = resolve_sound g.0 r.0 g.2 in
    let some : not (is_empty g.0) ≡ true = ap not (sym (empty_same g.0 r.0 res)) ∙ w.0 in
    rw (← w.1) record { groups = g.0; text = reading_sound bytes g.0 (ap (λ (o : Option (List Group)). o >>= λ groups. when (not (is_empty groups)) groups) g.1 ∙ rw some refl); resolves = res }

decoded_complete : (bytes : List ℕ) (lists : List Located) → Reads bytes lists → decoded_lists bytes ≡ Some lists
decoded_complete bytes lists h =
    let f : List Group → Option (List Group) = λ groups. when (not (is_empty groups)) groups in
    let r = bind_some (groups_at as_it_is (suc (length bytes)) bytes) f h.groups (reading_complete bytes h.groups h.text) in
    let w = when_some (not (is_empty r.0)) r.0 h.groups r.2 in
    let found : groups_at as_it_is (suc (length bytes)) bytes ≡ Some h.groups = r.1 ∙ ap (λ (g : List Group). some g) w.1 in
    let there : groups_at url_of (suc (length bytes)) bytes ≡ Some lists = lists_are (suc (length bytes)) bytes ∙ ap (λ (o : Option (List Group)). o >>= resolve_all) found ∙ resolve_complete h.groups lists h.resolves in
    let nonempty : not (is_empty lists) ≡ true = ap not (empty_same h.groups lists h.resolves ∙ ap is_empty (sym w.1)) ∙ w.0 in
    rw (there, nonempty) refl
  where
    some : List Group → Option (List Group)
    some x = Some x

-- ---- one value

pub one_value : {A : Type 0} (xs : List A) (x : A) → length xs ≡ 1 → x ≡ get_or xs 0 x → xs ≡ x ∷ []
one_value [] x one e = absurd (omega arith)
one_value {A = A} (y ∷ []) x one e = ap (λ (z : A). z ∷ []) (sym e)
one_value (y ∷ z ∷ xs) x one e = absurd (omega arith)

pub refused_for_memory : {A : Type 0} (e : HeaderError) (o : Option A) (x : A) → Refuses e o → o ≡ Some x → e ≡ OutOfMemory
refused_for_memory OutOfMemory o x r h = refl
refused_for_memory Invalid o x r h = absurd cc

pub decodes : (values : List FieldValue) (value : FieldValue) (lists : List Located) → values ≡ value ∷ [] → ReadsAs values lists → decoded_lists value.bytes ≡ Some lists
decodes values value lists e h =
    let same : h.value ≡ value = head_is h.value value (sym h.only ∙ e) in
    ap (λ (v : FieldValue). decoded_lists v.bytes) (sym same) ∙ decoded_complete h.value.bytes lists record { groups = h.groups; text = h.text; resolves = h.resolves }
  where
    head_is : (x y : FieldValue) → x ∷ [] ≡ y ∷ [] → x ≡ y
    head_is x y e = cc

pub reads : (values : List FieldValue) (value : FieldValue) (lists : List Located) → values ≡ value ∷ [] → decoded_lists value.bytes ≡ Some lists → ReadsAs values lists
reads values value lists e h =
    let r = decoded_sound value.bytes lists h in record { value = value; only = e; groups = r.groups; text = r.text; resolves = r.resolves }
