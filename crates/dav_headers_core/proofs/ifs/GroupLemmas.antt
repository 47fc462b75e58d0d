-- Groups and whole values, both ways: bytes have at most one reading.
use Rattle.std.proofs.Common.{◌≡◌, refl, sym, ap, subst, ◌∙◌, ℕ, zero, suc, ◌<◌, arith, Bool, true, false, not, cond, List, [], ◌∷◌, length, Option, None, Some}
use Rattle.std.proofs.lemmas.List.{length-append}
use Rattle.dav_headers_core.specs.IfBytes.{Condition, Group}
use Rattle.dav_headers_core.specs.IfGrammar.{SkipsTo, ListAt, ConditionsAt, ResourceTagAt, GroupAt, Groups, IfText}
use Rattle.dav_headers_core.specs.Optional.{◌>>=◌, when}
use Rattle.dav_headers_core.specs.Private.IfReading.{is_empty, skip_blanks, text_at, choose, after_byte, list_at, as_it_is, behind_tag, group_at, groups_at, if_reading}
use Rattle.dav_headers_core.proofs.lists.OptionalLemmas.{bind_some, when_some, some_is}
use Rattle.dav_headers_core.proofs.ifs.BlankLemmas.{skipped, skip_same}
use Rattle.dav_headers_core.proofs.ifs.ItemLemmas.{text_sound, text_complete}
use Rattle.dav_headers_core.proofs.ifs.ConditionLemmas.{after_byte_sound, skips_len, not_empty, begins_condition, list_sound, list_complete}

abbrev Pair : Type 0
Pair = List ℕ × List ℕ

-- ---- a group

behind_tag_sound : (tag : Option (List ℕ)) (bytes : List ℕ) (found : Group × List ℕ) → behind_tag tag bytes ≡ Some found → (found.0.tag ≡ tag) × ListAt (skip_blanks bytes) found.0.conditions found.1
behind_tag_sound tag bytes found e =
    let f : List Condition × List ℕ → Option (Group × List ℕ) = λ l. Some (record { tag = tag; conditions = l.0 }, l.1) in
    let r = bind_some (list_at (skip_blanks bytes)) f found e in
    rw (← some_is _ _ r.2) (refl, list_sound (skip_blanks bytes) r.0 r.1)

group_sound : (bytes : List ℕ) (found : Group × List ℕ) → group_at as_it_is bytes ≡ Some found → GroupAt bytes found.0 found.1
unfolding group_at
group_sound bytes found e = go (after_byte 60 bytes) refl e
  where
    go : (o : Option (List ℕ)) → after_byte 60 bytes ≡ o → choose o (λ after. text_at 62 after >>= λ text. behind_tag (Some text.0) text.1) (behind_tag None bytes) ≡ Some found → GroupAt bytes found.0 found.1
    go (Some after) s h =
        let f : Pair → Option (Group × List ℕ) = λ text. behind_tag (Some text.0) text.1 in
        let r = bind_some (text_at 62 after) f found h in
        let g = behind_tag_sound (Some r.0.0) r.0.1 found r.2 in
        let whole : bytes ≡ 60 ∷ after = after_byte_sound 60 bytes after s in
        let tag : ResourceTagAt bytes (Some r.0.0) r.0.1 = rw whole (text_sound 60 62 after r.0 r.1) in
        (r.0.1, skip_blanks r.0.1, subst (λ (t : Option (List ℕ)). ResourceTagAt bytes t r.0.1) (sym g.0) tag, skipped r.0.1, g.1)
    go None s h =
        let g = behind_tag_sound None bytes found h in
        (bytes, skip_blanks bytes, rw g.0 refl, skipped bytes, g.1)

list_begins : (whole : List ℕ) (cs : List Condition) (rest : List ℕ) → ListAt whole cs rest → (skip_blanks whole ≡ whole) × (after_byte 60 whole ≡ None) × (length rest < length whole)
list_begins whole cs rest h = rw h.parts (refl, refl, closes cs h.inner rest h.conditions_at)
  where
    closes : (cs : List Condition) (inner rest : List ℕ) → ConditionsAt inner cs rest → length rest < suc (length inner)
    closes [] inner rest c = omega (arith, skips_len inner (41 ∷ rest) c)
    closes (x ∷ cs) inner rest c = omega (arith, closes cs c.1 rest c.4, skips_len inner c.0 c.2, (begins_condition c.0 x c.1 c.3).shorter)

behind_tag_complete : (tag : Option (List ℕ)) (whole at : List ℕ) (cs : List Condition) (rest : List ℕ) → SkipsTo whole at → ListAt at cs rest → behind_tag tag whole ≡ Some (record { tag = tag; conditions = cs }, rest)
behind_tag_complete tag whole at cs rest s h =
    let there : skip_blanks whole ≡ at = skip_same whole at s ∙ (list_begins at cs rest h).0 in
    rw (there, list_complete at cs rest h) refl

-- a group is read from where its blanks end
group_with : (tag : Option (List ℕ)) (cs : List Condition) (whole after at rest : List ℕ) → ResourceTagAt whole tag after → SkipsTo after at → ListAt at cs rest
    → (group_at as_it_is (skip_blanks whole) ≡ Some (record { tag = tag; conditions = cs }, rest)) × (is_empty (skip_blanks whole) ≡ false) × (length rest < length whole)
unfolding group_at
group_with None cs whole after at rest t s h =
    let l = list_begins at cs rest h in
    let there : skip_blanks whole ≡ at = ap skip_blanks t ∙ skip_same after at s ∙ l.0 in
    let still : SkipsTo at at = record { blanks = []; each = tt; parts = refl } in
    rw there (
      rw l.1 (behind_tag_complete None at at cs rest still h),
      rw h.parts refl,
      omega (arith, l.2, skips_len after at s, ap length t),
    )
group_with (Some text) cs whole after at rest t s h =
    let x = text_complete 60 62 whole text after t in
    let l = list_begins at cs rest h in
    rw x.1 (
      rw x.2 (behind_tag_complete (Some text) after at cs rest s h),
      refl,
      omega (arith, l.2, skips_len after at s, length-append text (62 ∷ after), ap length t.parts, ap length x.1),
    )

-- ---- the value

groups_sound : (n : ℕ) (bytes : List ℕ) (found : List Group) → groups_at as_it_is n bytes ≡ Some found → Groups bytes found
groups_sound zero bytes found e = absurd cc
groups_sound (suc n) bytes found e = go (skip_blanks bytes) refl (is_empty (skip_blanks bytes)) refl e (groups_sound n)
  where
    nil : (bytes : List ℕ) → is_empty bytes ≡ true → bytes ≡ []
    nil [] e = refl
    nil (b ∷ bytes) e = absurd cc

    go : (at : List ℕ) → skip_blanks bytes ≡ at → (t : Bool) → is_empty at ≡ t
        → cond t (Some []) (group_at as_it_is at >>= λ first. groups_at as_it_is n first.1 >>= λ others. Some (first.0 ∷ others)) ≡ Some found
        → ((b : List ℕ) (f : List Group) → groups_at as_it_is n b ≡ Some f → Groups b f)
        → Groups bytes found
    go at s true t h hyp =
        let there : skip_blanks bytes ≡ [] = s ∙ nil at t in rw (← some_is _ _ h) (rw there at (skipped bytes))
    go at s false t h hyp =
        let f : Group × List ℕ → Option (List Group) = λ first. groups_at as_it_is n first.1 >>= λ others. Some (first.0 ∷ others) in
        let r = bind_some (group_at as_it_is at) f found h in
        let g : List Group → Option (List Group) = λ others. Some (r.0.0 ∷ others) in
        let q = bind_some (groups_at as_it_is n r.0.1) g found r.2 in
        rw (← some_is _ _ q.2) (at, r.0.1, rw s at (skipped bytes), group_sound at r.0 r.1, hyp r.0.1 q.0 q.1)

groups_complete : (gs : List Group) (n : ℕ) (whole : List ℕ) → Groups whole gs → length whole < n → groups_at as_it_is n whole ≡ Some gs
groups_complete gs zero whole h lt = absurd (omega arith)
groups_complete [] (suc n) whole h lt =
    let there : skip_blanks whole ≡ [] = skip_same whole [] h in rw there refl
groups_complete (g ∷ gs) (suc n) whole h lt =
    let w = group_with g.tag g.conditions h.0 h.3.0 h.3.1 h.1 h.3.2 h.3.3 h.3.4 in
    let there : skip_blanks whole ≡ skip_blanks h.0 = skip_same whole h.0 h.2 in
    let others = groups_complete gs n h.1 h.4 (omega (arith, w.2, skips_len whole h.0 h.2)) in
    rw (there, w.1, w.0, others) refl

-- what is read is a reading
pub reading_sound : (bytes : List ℕ) (groups : List Group) → if_reading bytes ≡ Some groups → IfText bytes groups
reading_sound bytes groups e =
    let f : List Group → Option (List Group) = λ groups. when (not (is_empty groups)) groups in
    let r = bind_some (groups_at as_it_is (suc (length bytes)) bytes) f groups e in
    let w = when_some (not (is_empty r.0)) r.0 groups r.2 in
    rw (← w.1) record {
      some = λ none. let t : not (is_empty {A = Group} []) ≡ true = rw none at w.0 in absurd cc;
      groups_at = groups_sound (suc (length bytes)) bytes r.0 r.1;
    }

-- a reading is what is read
pub reading_complete : (bytes : List ℕ) (groups : List Group) → IfText bytes groups → if_reading bytes ≡ Some groups
reading_complete bytes groups h =
    rw (groups_complete groups (suc (length bytes)) bytes h.groups_at (omega arith), not_empty groups h.some) refl

pub one_reading : (bytes : List ℕ) (a b : List Group) → IfText bytes a → IfText bytes b → a ≡ b
one_reading bytes a b p q = some_is a b (sym (reading_complete bytes a p) ∙ reading_complete bytes b q)
