-- Conditions and lists of them, both ways.
use Rattle.std.proofs.Common.{◌≡◌, ◌≢◌, refl, sym, ap, ◌∙◌, ℕ, zero, suc, ◌<◌, ◌≤◌, arith, Bool, true, false, not, eqb, List, [], ◌∷◌, ◌++◌, length, Option, None, Some, inl, inr}
use Rattle.std.specs.Prelude.{codes}
use Rattle.std.proofs.lemmas.Bool.{eqb-true}
use Rattle.std.proofs.lemmas.List.{length-append}
use Rattle.dav_headers_core.specs.CommaPieces.{is_blank}
use Rattle.dav_headers_core.specs.IfBytes.{Item, Token, Tag, Condition}
use Rattle.dav_headers_core.specs.IfGrammar.{SkipsTo, Between, HoldsColon, WordAt, ItemAt, NotAt, ConditionAt, ConditionsAt, ListAt}
use Rattle.dav_headers_core.specs.Optional.{◌>>=◌, when}
use Rattle.dav_headers_core.specs.Private.IfReading.{is_empty, skip_blanks, after_not, item_at, choose, condition_as, condition_at, after_byte, conditions_at, list_at}
use Rattle.dav_headers_core.proofs.lists.OptionalLemmas.{bind_some, when_some, some_is}
use Rattle.dav_headers_core.proofs.ifs.BlankLemmas.{skipped, skip_same, skip_stops}
use Rattle.dav_headers_core.proofs.ifs.WordLemmas.{not_sound, not_complete, none_after}
use Rattle.dav_headers_core.proofs.ifs.ItemLemmas.{item_sound, item_complete, word_first, apart, blank_apart}

-- ---- what stands first in an item

record StandsFirst (whole rest : List ℕ) : Type 0 where
  pub no_blank : skip_blanks whole ≡ whole
  pub no_not : after_not whole ≡ None
  pub no_close : after_byte 41 whole ≡ None
  pub shorter : length rest < length whole

between_first : (opening closing : ℕ) (whole text rest : List ℕ) → is_blank opening ≡ false → eqb opening 78 ≡ false → eqb opening 41 ≡ false
    → Between opening closing whole text rest → StandsFirst whole rest
between_first opening closing whole text rest p q r h = rw h.parts record {
  no_blank = skip_stops opening (text ++ closing ∷ rest) p;
  no_not = none_after (opening ∷ text ++ closing ∷ rest) (λ more e. let same : opening ≡ 78 = cc in let t : eqb opening 78 ≡ true = rw same refl in cc);
  no_close = rw r refl;
  shorter = omega (arith, length-append text (closing ∷ rest));
}

-- a word is not a front of `Not`
not_front : (text rest more : List ℕ) → HoldsColon text → ((x : List ℕ) → text ≢ codes "Not" ++ x) → text ++ rest ≢ codes "Not" ++ more
not_front [] rest more c n e = absurd cc
not_front (a ∷ []) rest more c n e = let p : a ≡ 78 = cc in absurd (let t : HoldsColon (78 ∷ []) = rw p at c in cc)
not_front (a ∷ b ∷ []) rest more c n e = let p : a ≡ 78 = cc in let q : b ≡ 111 = cc in absurd (let t : HoldsColon (78 ∷ 111 ∷ []) = rw (p, q) at c in cc)
not_front (a ∷ b ∷ d ∷ text) rest more c n e =
    let p : a ≡ 78 = cc in let q : b ≡ 111 = cc in let r : d ≡ 116 = cc in absurd (n text (rw (p, q, r) refl))

word_stands : (whole text rest : List ℕ) → WordAt whole text rest → StandsFirst whole rest
word_stands whole text rest h =
    let f = word_first whole text rest h in
    let b = f.0 in
    let more = f.1 in
    record {
      no_blank = ap skip_blanks f.3 ∙ skip_stops b (more ++ rest) (blank_apart b f.4) ∙ sym f.3;
      no_not = none_after whole (λ after e. not_front text rest after h.colon h.no_not (sym h.parts ∙ e));
      no_close = ap (after_byte 41) f.3 ∙ rw (apart b 41 f.4 refl) refl;
      shorter = omega (arith, length-append more rest, ap length f.3);
    }

item_stands : (whole : List ℕ) (item : Item) (rest : List ℕ) → ItemAt whole item rest → StandsFirst whole rest
item_stands whole (Token text) rest (inl h) = between_first 60 62 whole text rest refl refl refl h.0
item_stands whole (Token text) rest (inr h) = word_stands whole text rest h
item_stands whole (Tag text) rest h = between_first 91 93 whole text rest refl refl refl h.0

-- ---- a condition

condition_as_sound : (negated : Bool) (bytes : List ℕ) (found : Condition × List ℕ) → condition_as negated bytes ≡ Some found → (found.0.negated ≡ negated) × ItemAt bytes found.0.item found.1
condition_as_sound negated bytes found e =
    let f : Item × List ℕ → Option (Condition × List ℕ) = λ item. Some (record { negated = negated; item = item.0 }, item.1) in
    let r = bind_some (item_at bytes) f found e in
    rw (← some_is _ _ r.2) (refl, item_sound bytes r.0 r.1)

condition_sound : (bytes : List ℕ) (found : Condition × List ℕ) → condition_at bytes ≡ Some found → ConditionAt bytes found.0 found.1
condition_sound bytes found e = go (after_not bytes) refl e
  where
    go : (o : Option (List ℕ)) → after_not bytes ≡ o → choose o (λ after. condition_as true (skip_blanks after)) (condition_as false bytes) ≡ Some found → ConditionAt bytes found.0 found.1
    go (Some after) s h =
        let c = condition_as_sound true (skip_blanks after) found h in
        (skip_blanks after, rw c.0 (after, not_sound bytes after s, skipped after), c.1)
    go None s h =
        let c = condition_as_sound false bytes found h in
        (bytes, rw c.0 refl, c.1)

condition_as_complete : (negated : Bool) (bytes : List ℕ) (item : Item) (rest : List ℕ) → ItemAt bytes item rest → condition_as negated bytes ≡ Some (record { negated = negated; item = item }, rest)
condition_as_complete negated bytes item rest h = rw (item_complete bytes item rest h) refl

condition_with : (negated : Bool) (item : Item) (whole at rest : List ℕ) → NotAt negated whole at → ItemAt at item rest → condition_at whole ≡ Some (record { negated = negated; item = item }, rest)
condition_with true item whole at rest n h =
    let there : skip_blanks n.0 ≡ at = skip_same n.0 at n.2 ∙ (item_stands at item rest h).no_blank in
    ap (λ (o : Option (List ℕ)). choose o (λ after. condition_as true (skip_blanks after)) (condition_as false whole)) (not_complete whole n.0 n.1)
    ∙ ap (condition_as true) there ∙ condition_as_complete true at item rest h
condition_with false item whole at rest n h =
    ap (λ (o : Option (List ℕ)). choose o (λ after. condition_as true (skip_blanks after)) (condition_as false whole)) (ap after_not n ∙ (item_stands at item rest h).no_not)
    ∙ ap (condition_as false) n ∙ condition_as_complete false at item rest h

condition_complete : (whole : List ℕ) (c : Condition) (rest : List ℕ) → ConditionAt whole c rest → condition_at whole ≡ Some (c, rest)
condition_complete whole c rest h = condition_with c.negated c.item whole h.0 rest h.1 h.2

-- where blanks stop, `)` or a condition stands
pub record BeginsCondition (whole rest : List ℕ) : Type 0 where
  pub no_blank : skip_blanks whole ≡ whole
  pub no_close : after_byte 41 whole ≡ None
  pub shorter : length rest < length whole

pub skips_len : (whole rest : List ℕ) → SkipsTo whole rest → length rest ≤ length whole
skips_len whole rest s = omega (arith, length-append s.blanks rest, ap length s.parts)

condition_begins : (negated : Bool) (item : Item) (whole at rest : List ℕ) → NotAt negated whole at → ItemAt at item rest → BeginsCondition whole rest
condition_begins true item whole at rest n h = record {
  no_blank = ap skip_blanks n.1 ∙ sym n.1;
  no_close = ap (after_byte 41) n.1;
  shorter = let i = item_stands at item rest h in omega (arith, i.shorter, skips_len n.0 at n.2, ap length n.1);
}
condition_begins false item whole at rest n h =
    let i = item_stands at item rest h in rw n record { no_blank = i.no_blank; no_close = i.no_close; shorter = i.shorter }

pub begins_condition : (whole : List ℕ) (c : Condition) (rest : List ℕ) → ConditionAt whole c rest → BeginsCondition whole rest
begins_condition whole c rest h = condition_begins c.negated c.item whole h.0 rest h.1 h.2

-- ---- conditions

pub after_byte_sound : (byte : ℕ) (bytes rest : List ℕ) → after_byte byte bytes ≡ Some rest → bytes ≡ byte ∷ rest
after_byte_sound byte [] rest e = absurd cc
after_byte_sound byte (b ∷ bytes) rest e =
    let w = when_some (eqb b byte) bytes rest e in ap (λ (x : ℕ). x ∷ bytes) (eqb-true b byte w.0) ∙ ap (λ (x : List ℕ). byte ∷ x) w.1

conditions_sound : (n : ℕ) (bytes : List ℕ) (found : List Condition × List ℕ) → conditions_at n bytes ≡ Some found → ConditionsAt bytes found.0 found.1
conditions_sound zero bytes found e = absurd cc
conditions_sound (suc n) bytes found e = go (after_byte 41 (skip_blanks bytes)) refl e (conditions_sound n)
  where
    go : (o : Option (List ℕ)) → after_byte 41 (skip_blanks bytes) ≡ o
        → choose o (λ rest. Some ([], rest)) (condition_at (skip_blanks bytes) >>= λ first. conditions_at n first.1 >>= λ others. Some (first.0 ∷ others.0, others.1)) ≡ Some found
        → ((b : List ℕ) (f : List Condition × List ℕ) → conditions_at n b ≡ Some f → ConditionsAt b f.0 f.1)
        → ConditionsAt bytes found.0 found.1
    go (Some rest) s h hyp = rw (← some_is _ _ h) (let there : skip_blanks bytes ≡ 41 ∷ rest = after_byte_sound 41 (skip_blanks bytes) rest s in rw there at (skipped bytes))
    go None s h hyp =
        let f : Condition × List ℕ → Option (List Condition × List ℕ) = λ first. conditions_at n first.1 >>= λ others. Some (first.0 ∷ others.0, others.1) in
        let r = bind_some (condition_at (skip_blanks bytes)) f found h in
        let g : List Condition × List ℕ → Option (List Condition × List ℕ) = λ others. Some (r.0.0 ∷ others.0, others.1) in
        let q = bind_some (conditions_at n r.0.1) g found r.2 in
        rw (← some_is _ _ q.2) (skip_blanks bytes, r.0.1, skipped bytes, condition_sound (skip_blanks bytes) r.0 r.1, hyp r.0.1 q.0 q.1)

conditions_complete : (cs : List Condition) (n : ℕ) (whole rest : List ℕ) → ConditionsAt whole cs rest → length whole ≤ n → conditions_at n whole ≡ Some (cs, rest)
conditions_complete [] zero whole rest h le = absurd (omega (arith, skips_len whole (41 ∷ rest) h))
conditions_complete [] (suc n) whole rest h le =
    let there : skip_blanks whole ≡ 41 ∷ rest = skip_same whole (41 ∷ rest) h in rw there refl
conditions_complete (c ∷ cs) zero whole rest h le =
    let b = begins_condition h.0 c h.1 h.3 in absurd (omega (arith, b.shorter, skips_len whole h.0 h.2))
conditions_complete (c ∷ cs) (suc n) whole rest h le =
    let b = begins_condition h.0 c h.1 h.3 in
    let there : skip_blanks whole ≡ h.0 = skip_same whole h.0 h.2 ∙ b.no_blank in
    let others = conditions_complete cs n h.1 rest h.4 (omega (arith, b.shorter, skips_len whole h.0 h.2)) in
    rw (there, b.no_close, condition_complete h.0 c h.1 h.3, others) refl

-- ---- a list

pub list_sound : (bytes : List ℕ) (found : List Condition × List ℕ) → list_at bytes ≡ Some found → ListAt bytes found.0 found.1
list_sound bytes found e =
    let f : List ℕ → Option (List Condition × List ℕ) = λ inner. conditions_at (length inner) inner >>= λ found. when (not (is_empty found.0)) found in
    let r = bind_some (after_byte 40 bytes) f found e in
    let g : List Condition × List ℕ → Option (List Condition × List ℕ) = λ found. when (not (is_empty found.0)) found in
    let q = bind_some (conditions_at (length r.0) r.0) g found r.2 in
    let w = when_some (not (is_empty q.0.0)) q.0 found q.2 in
    rw (← w.1) record {
      inner = r.0;
      parts = after_byte_sound 40 bytes r.0 r.1;
      some = λ none. let t : not (is_empty {A = Condition} []) ≡ true = rw none at w.0 in absurd cc;
      conditions_at = conditions_sound (length r.0) r.0 q.0 q.1;
    }

pub not_empty : {A : Type 0} (xs : List A) → xs ≢ [] → not (is_empty xs) ≡ true
not_empty [] h = absurd (h refl)
not_empty (x ∷ xs) h = refl

pub list_complete : (whole : List ℕ) (cs : List Condition) (rest : List ℕ) → ListAt whole cs rest → list_at whole ≡ Some (cs, rest)
list_complete whole cs rest h =
    rw (h.parts, conditions_complete cs (length h.inner) h.inner rest h.conditions_at (omega arith), not_empty cs h.some) refl
