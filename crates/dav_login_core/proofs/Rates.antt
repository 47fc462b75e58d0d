-- How often buckets let a guess through that is wrong.
use Rattle.std.proofs.Common.{◌≡◌, ◌≤◌, ◌⊎◌, ◌+◌, ◌*◌, ◌&&◌, ◌||◌, ℕ, Bool, true, false, max, List, [], ◌∷◌, Option, None, Some, is_some, unwrap_or, nat_eq, if◌then◌else◌, refl, sym, ap, subst, ◌∙◌, inl, inr, arith}
use Rattle.std.proofs.lemmas.Bool.{false≢true, leb-true}
use Rattle.std.proofs.lemmas.Bool.Decides.{nat_tests}
use Rattle.dav_login_core.specs.declared.buckets.Bucket.{Bucket}
use Rattle.dav_login_core.specs.GuessRuns.{Asked, GuessEvent, Hashed, Wrong, Happen, hash_count, wrong_of, wrong_of_strangers}
use Rattle.dav_login_core.specs.Guessing.{AsksAt, GuessState, IsRested, RefreshesBucket, behind_guess, common_behind_hash, has_guess, has_half, has_one, has_rested, has_share, may, payer, second, share}

later_full : (b : Bucket) (now : ℕ) → has_rested b now ≡ false → max b.full now + second ≡ (behind_guess b now).full
later_full b now h = ap (λ (t : Bool). (if t then now else max b.full now) + second) (sym h)

rested_full : (b : Bucket) (now : ℕ) → has_rested b now ≡ true → now + second ≡ (behind_guess b now).full
rested_full b now h = ap (λ (t : Bool). (if t then now else max b.full now) + second) (sym h)

-- a moment at which somebody asks is no earlier
asked_later : (old new : GuessState) (told : ℕ) → AsksAt told old new → old.latest ≤ new.latest
asked_later old new told asks = let latest = asks.latest in grind (arith, nat_tests, latest)

more_wrong : (n k : ℕ) → (1 + k) + n ≡ k + (1 + n)
more_wrong n k = omega arith

none_more : (k : ℕ) → k ≡ k + 0
none_more k = omega arith

others_pay : (o : Option Bucket) (b : Bucket) → is_some o ≡ false → unwrap_or o b ≡ b
others_pay None b h = refl
others_pay (Some x) b h = absurd (false≢true (sym h))

right_of : (a b : Bool) → (a && b) ≡ true → b ≡ true
right_of true b h = h
right_of false b h = absurd (false≢true h)

-- who may guess finds one in the common bucket
pub may_takes : (b : Bucket) (common now : ℕ) → may b common now ≡ true → has_share common now ≡ true
may_takes b common now h = by (has_rested b now) refl
  where
    by : (r : Bool) → has_rested b now ≡ r → has_share common now ≡ true
    by true e = ap (λ (r : Bool). if r then has_share common now else (has_one b now && has_half common now)) (sym e) ∙ h
    by false e =
        let both : (has_one b now && has_half common now) ≡ true = ap (λ (r : Bool). if r then has_share common now else (has_one b now && has_half common now)) (sym e) ∙ h in
        let half : common ≤ now + 10 * share = leb-true common (now + 10 * share) (right_of (has_one b now) (has_half common now) both) in
        grind (arith, nat_tests, half)

module _ (t : ℕ) where
  pub record Debt (k latest : ℕ) (b : Bucket) : Type 0 where
    pub full : t + k * second ≤ b.full
    pub calm : b.full ≤ b.rested
    pub few : b.full ≤ latest + 5 * second

  -- so many guesses were wrong since t, and the bucket still knows
  abbrev pub Owes : ℕ → ℕ → Option Bucket → Type 0
  Owes k latest o = (t + k * second ≤ latest) ⊎ ((b : Bucket) × (o ≡ Some b) × Debt k latest b)

  owes_few : (k latest : ℕ) (o : Option Bucket) → Owes k latest o → t + k * second ≤ latest + 5 * second
  owes_few k latest o (inl h) = omega (arith, h)
  owes_few k latest o (inr h) = omega (arith, h.2.full, h.2.few)

  owes_later : (k latest now : ℕ) (o o' : Option Bucket) → latest ≤ now → RefreshesBucket now o o' → Owes k latest o → Owes k now o'
  owes_later k latest now o o' le r (inl h) = inl (omega (arith, le, h))
  owes_later k latest now o o' le (inl same) (inr h) =
      inr (h.0, same ∙ h.1, record { full = h.2.full; calm = h.2.calm; few = omega (arith, h.2.few, le) })
  owes_later k latest now o o' le (inr r) (inr h) =
      let rested : IsRested (Some h.0) now = subst (λ (p : Option Bucket). IsRested p now) h.1 r.0 in
      inl (omega (arith, h.2.full, h.2.calm, rested))

  owes_one : (k now : ℕ) (b : Bucket) → has_guess b now ≡ true → Owes k now (Some b) → Owes (1 + k) now (Some (behind_guess b now))
  owes_one k now b let_through owed = by (has_rested b now) refl
    where
      by : (r : Bool) → has_rested b now ≡ r → Owes (1 + k) now (Some (behind_guess b now))
      by true h =
          let is : now + second ≡ (behind_guess b now).full = rested_full b now h in
          let least : t + k * second ≤ now = from owed in
          inr (behind_guess b now, refl, record { full = omega (arith, is, least); calm = omega (arith, is); few = omega (arith, is) })
        where
          from : Owes k now (Some b) → t + k * second ≤ now
          from (inl h') = h'
          from (inr d) =
              let e : b ≡ d.0 = cc (d.1) in
              let calm : d.0.rested ≤ now = subst (λ (x : Bucket). x.rested ≤ now) e (leb-true b.rested now h) in
              omega (arith, d.2.full, d.2.calm, calm)
      by false h =
          let is : max b.full now + second ≡ (behind_guess b now).full = later_full b now h in
          let one : has_one b now ≡ true = ap (λ (r : Bool). r || has_one b now) (sym h) ∙ let_through in
          let few : b.full ≤ now + 4 * second = leb-true b.full (now + 4 * second) one in
          let least : t + k * second ≤ max b.full now = from owed in
          let most : max b.full now ≤ now + 4 * second = grind (arith, nat_tests, few) in
          inr (behind_guess b now, refl, record { full = omega (arith, is, least); calm = omega (arith, is, most); few = omega (arith, is, most) })
        where
          from : Owes k now (Some b) → t + k * second ≤ max b.full now
          from (inl h') = grind (arith, nat_tests, h')
          from (inr d) =
              let e : b ≡ d.0 = cc (d.1) in
              let full : t + k * second ≤ b.full = subst (λ (x : Bucket). t + k * second ≤ x.full) (sym e) d.2.full in
              grind (arith, nat_tests, full)

  -- ---- the bucket of one label, over a run

  same_label : (l label : ℕ) (own : Bool) → (nat_eq l label && own) ≡ true → l ≡ label
  same_label l label true h = grind (arith, nat_tests, h)
  same_label l label false h = grind (arith, nat_tests, h)

  own_bucket : (o : Option Bucket) (b : Bucket) → is_some o ≡ true → o ≡ Some (unwrap_or o b)
  own_bucket (Some x) b h = refl
  own_bucket None b h = absurd (false≢true h)

  owes_run : (label : ℕ) (es : List GuessEvent) (old new : GuessState) (k : ℕ) → Happen es old new → Owes k old.latest (old.table label)
      → Owes (k + wrong_of label es) new.latest (new.table label)
  owes_run label [] old new k same owed =
      subst (λ (n : ℕ). Owes n new.latest (new.table label)) (none_more k) (subst (λ (s : GuessState). Owes k s.latest (s.table label)) (sym same) owed)
  owes_run label (Asked told ∷ es) old new k run owed =
      owes_run label es run.0 new k run.2
      (owes_later k old.latest run.0.latest (old.table label) (run.0.table label) (asked_later old run.0 told run.1) (run.1.table label) owed)
  owes_run label (Hashed l ∷ es) old new k run owed =
      owes_run label es run.0 new k run.2 (subst (λ (s : GuessState). Owes k s.latest (s.table label)) (sym run.1.costs) owed)
  owes_run label (Wrong l own ∷ es) old new k run owed = by (λ n next. owes_run label es run.0 new n run.2 next) (nat_eq l label && own) refl
    where
      mid : GuessState
      mid = run.0

      at_label : mid.table label ≡ (if nat_eq l label && own then Some (behind_guess (payer old l) old.latest) else old.table label)
      at_label = run.1.counts.table label ∙ ap (λ (p : Bool). if nat_eq l label && p then Some (behind_guess (payer old l) old.latest) else old.table label) (sym run.1.own)

      by : ((n : ℕ) → Owes n run.0.latest (run.0.table label) → Owes (n + wrong_of label es) new.latest (new.table label)) → (test : Bool)
          → (nat_eq l label && own) ≡ test → Owes (k + wrong_of label (Wrong l own ∷ es)) new.latest (new.table label)
      by later true h =
          let is : l ≡ label = same_label l label own h in
          let some : is_some (old.table l) ≡ true = sym run.1.own ∙ right_of (nat_eq l label) own h in
          let had : old.table label ≡ Some (payer old l) = subst (λ (n : ℕ). old.table n ≡ Some (payer old l)) is (own_bucket (old.table l) old.strangers some) in
          let one : Owes (1 + k) old.latest (Some (behind_guess (payer old l) old.latest)) =
          owes_one k old.latest (payer old l) run.1.let_through (subst (Owes k old.latest) had owed) in
          let here : mid.table label ≡ Some (behind_guess (payer old l) old.latest) =
          at_label ∙ ap (λ (p : Bool). if p then Some (behind_guess (payer old l) old.latest) else old.table label) h in
          let next : Owes (1 + k) mid.latest (mid.table label) =
          subst (λ (n : ℕ). Owes (1 + k) n (mid.table label)) (sym run.1.counts.latest) (subst (Owes (1 + k) old.latest) (sym here) one) in
          subst (λ (n : ℕ). Owes n new.latest (new.table label))
          (more_wrong (wrong_of label es) k ∙ ap (λ (p : Bool). k + (if p then 1 + wrong_of label es else wrong_of label es)) (sym h))
          (later (1 + k) next)
      by later false h =
          let here : mid.table label ≡ old.table label =
          at_label ∙ ap (λ (p : Bool). if p then Some (behind_guess (payer old l) old.latest) else old.table label) h in
          let next : Owes k mid.latest (mid.table label) =
          subst (λ (n : ℕ). Owes k n (mid.table label)) (sym run.1.counts.latest) (subst (Owes k old.latest) (sym here) owed) in
          subst (λ (n : ℕ). Owes n new.latest (new.table label))
          (ap (λ (p : Bool). k + (if p then 1 + wrong_of label es else wrong_of label es)) (sym h))
          (later k next)

  -- ---- the bucket of all others

  owes_strangers : (es : List GuessEvent) (old new : GuessState) (k : ℕ) → Happen es old new → Owes k old.latest (Some old.strangers)
      → Owes (k + wrong_of_strangers es) new.latest (Some new.strangers)
  owes_strangers [] old new k same owed =
      subst (λ (n : ℕ). Owes n new.latest (Some new.strangers)) (none_more k) (subst (λ (s : GuessState). Owes k s.latest (Some s.strangers)) (sym same) owed)
  owes_strangers (Asked told ∷ es) old new k run owed =
      owes_strangers es run.0 new k run.2
      (owes_later k old.latest run.0.latest (Some old.strangers) (Some run.0.strangers) (asked_later old run.0 told run.1)
      (inl (ap (λ (b : Bucket). Some b) run.1.strangers)) owed)
  owes_strangers (Hashed l ∷ es) old new k run owed =
      owes_strangers es run.0 new k run.2 (subst (λ (s : GuessState). Owes k s.latest (Some s.strangers)) (sym run.1.costs) owed)
  owes_strangers (Wrong l true ∷ es) old new k run owed =
      let same : run.0.strangers ≡ old.strangers =
      run.1.counts.strangers ∙ ap (λ (p : Bool). if p then old.strangers else behind_guess old.strangers old.latest) (sym run.1.own) in
      owes_strangers es run.0 new k run.2
      (subst (λ (n : ℕ). Owes k n (Some run.0.strangers)) (sym run.1.counts.latest) (subst (λ (b : Bucket). Owes k old.latest (Some b)) (sym same) owed))
  owes_strangers (Wrong l false ∷ es) old new k run owed =
      let next : run.0.strangers ≡ behind_guess old.strangers old.latest =
      run.1.counts.strangers ∙ ap (λ (p : Bool). if p then old.strangers else behind_guess old.strangers old.latest) (sym run.1.own) in
      let let_through : has_guess old.strangers old.latest ≡ true =
      subst (λ (b : Bucket). has_guess b old.latest ≡ true) (others_pay (old.table l) old.strangers (sym run.1.own)) run.1.let_through in
      let one : Owes (1 + k) old.latest (Some (behind_guess old.strangers old.latest)) = owes_one k old.latest old.strangers let_through owed in
      subst (λ (n : ℕ). Owes n new.latest (Some new.strangers)) (more_wrong (wrong_of_strangers es) k)
      (owes_strangers es run.0 new (1 + k) run.2
      (subst (λ (n : ℕ). Owes (1 + k) n (Some run.0.strangers)) (sym run.1.counts.latest)
      (subst (λ (b : Bucket). Owes (1 + k) old.latest (Some b)) (sym next) one)))

  -- ---- the common bucket

  abbrev pub Shares : ℕ → ℕ → ℕ → Type 0
  Shares k latest common = (t + k * share ≤ latest) ⊎ ((t + k * share ≤ common) × (common ≤ latest + 20 * share))

  shares_few : (k latest common : ℕ) → Shares k latest common → t + k * share ≤ latest + 20 * share
  shares_few k latest common (inl h) = omega (arith, h)
  shares_few k latest common (inr h) = omega (arith, h.0, h.1)

  shares_later : (k latest now common : ℕ) → latest ≤ now → Shares k latest common → Shares k now common
  shares_later k latest now common le (inl h) = inl (omega (arith, h, le))
  shares_later k latest now common le (inr h) = inr (h.0, omega (arith, h.1, le))

  shares_one : (k now common : ℕ) → has_share common now ≡ true → Shares k now common → Shares (1 + k) now (common_behind_hash common now)
  shares_one k now common is shares =
      let few : common ≤ now + 19 * share = leb-true common (now + 19 * share) is in
      let least : t + k * share ≤ max common now = from shares in
      let most : max common now ≤ now + 19 * share = grind (arith, nat_tests, few) in
      inr (omega (arith, least), omega (arith, most))
    where
      from : Shares k now common → t + k * share ≤ max common now
      from (inl h) = grind (arith, nat_tests, h)
      from (inr h) = let least = h.0 in grind (arith, nat_tests, least)

  shares_run : (es : List GuessEvent) (old new : GuessState) (k : ℕ) → Happen es old new → Shares k old.latest old.common → Shares (k + hash_count es) new.latest new.common
  shares_run [] old new k same shares =
      subst (λ (n : ℕ). Shares n new.latest new.common) (none_more k) (subst (λ (s : GuessState). Shares k s.latest s.common) (sym same) shares)
  shares_run (Asked told ∷ es) old new k run shares =
      shares_run es run.0 new k run.2
      (subst (Shares k run.0.latest) (sym run.1.common) (shares_later k old.latest run.0.latest old.common (asked_later old run.0 told run.1) shares))
  shares_run (Hashed l ∷ es) old new k run shares =
      let has : has_share old.common old.latest ≡ true = may_takes (payer old l) old.common old.latest run.1.let_through in
      subst (λ (n : ℕ). Shares n new.latest new.common) (more_wrong (hash_count es) k)
      (shares_run es run.0 new (1 + k) run.2
      (subst (λ (s : GuessState). Shares (1 + k) s.latest s.common) (sym run.1.costs) (shares_one k old.latest old.common has shares)))
  shares_run (Wrong l own ∷ es) old new k run shares =
      shares_run es run.0 new k run.2
      (subst (λ (n : ℕ). Shares k n run.0.common) (sym run.1.counts.latest) (subst (Shares k old.latest) (sym run.1.counts.common) shares))

module _ (old new : GuessState) (es : List GuessEvent) (seconds : ℕ) (happen : Happen es old new) (soon : new.latest ≤ old.latest + seconds * second) where
  pub few_of : (label : ℕ) → wrong_of label es ≤ 5 + seconds
  few_of label =
      let few = owes_few old.latest (0 + wrong_of label es) new.latest (new.table label)
      (owes_run old.latest label es old new 0 happen (inl (omega arith))) in
      omega (arith, few, soon)

  pub few_of_strangers : wrong_of_strangers es ≤ 5 + seconds
  few_of_strangers =
      let few = owes_few old.latest (0 + wrong_of_strangers es) new.latest (Some new.strangers)
      (owes_strangers old.latest es old new 0 happen (inl (omega arith))) in
      omega (arith, few, soon)

  pub few_hashed : hash_count es ≤ 20 + 20 * seconds
  few_hashed =
      let few = shares_few old.latest (0 + hash_count es) new.latest new.common (shares_run old.latest es old new 0 happen (inl (omega arith))) in
      omega (arith, few, soon)
