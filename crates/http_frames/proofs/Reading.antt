-- How bytes are received, one read after another.
use Rattle.std.proofs.Common.{◌≡◌, ◌≢◌, ◌⊎◌, ℕ, Bool, true, false, List, [], ◌∷◌, ◌++◌, length, if◌then◌else◌, ◌==◌, refl, sym, ap, ◌∙◌, append_assoc, append-nil, arith, inl, inr, true≢false}
use Rattle.std.proofs.lemmas.Bool.{ne_eqb}
use Rattle.http_server.specs.declared.connection.Connection.{Connection}
use Rattle.http_server.specs.Connection.{config_of as connection_config, history}
use Rattle.http_server.specs.History.{History, after_read}
use Rattle.http_frames.specs.Private.Steps.{Reads, ReadsFront}

after_read-nothing : (h : History) → h.ended ≡ true → after_read h [] ≡ h
after_read-nothing h ended = λ i. record {
  state = h.state;
  received = append-nil h.received i;
  ended = still h.ended ended i;
  unread = append-nil h.unread i;
  calls = h.calls;
  sent = h.sent;
  pending = h.pending;
}
  where
    still : (b : Bool) → b ≡ true → (if b then b else true) ≡ b
    still true is = refl
    still false is = sym is

pub full_test : (t : List ℕ) → t ≢ [] → (length t == 0) ≡ false
full_test [] full = absurd (full refl)
full_test (x ∷ t) full = ne_eqb (length (x ∷ t)) 0 (λ none. omega (arith, none))

full-append : (t m : List ℕ) → m ≢ [] → t ++ m ≢ []
full-append [] m full is = full is
full-append (x ∷ t) m full is = cc

ended_twice : (b : Bool) (t m : List ℕ) → (b ≡ true) ⊎ ((t ≢ []) × (m ≢ []))
    → (if (if b then b else length t == 0) then (if b then b else length t == 0) else length m == 0) ≡ (if b then b else length (t ++ m) == 0)
ended_twice true t m why = refl
ended_twice false t m (inl is) = absurd (true≢false (sym is))
ended_twice false t m (inr full) = rw (full_test t full.0, full_test m full.1, full_test (t ++ m) (full-append t m full.1)) refl

after_read-then : (h : History) (t m : List ℕ) → (h.ended ≡ true) ⊎ ((t ≢ []) × (m ≢ [])) → after_read (after_read h t) m ≡ after_read h (t ++ m)
after_read-then h t m why = λ i. record {
  state = h.state;
  received = append_assoc h.received t m i;
  ended = ended_twice h.ended t m why i;
  unread = append_assoc h.unread t m i;
  calls = h.calls;
  sent = h.sent;
  pending = h.pending;
}

-- once it has ended, it stays so
front_ended : (t : List ℕ) (k k1 : Connection) → ReadsFront t k k1 → (history k).ended ≡ true → (history k1).ended ≡ true
front_ended t k k1 (inl x) ended = ap (λ (h : History). h.ended) x.1 ∙ ended
front_ended t k k1 (inr x) ended = ap (λ (h : History). h.ended) x.1.history ∙ ap (λ (b : Bool). if b then b else length t == 0) ended

-- and before its end it goes on
pub front_unended : (t : List ℕ) (k k1 : Connection) → ReadsFront t k k1 → (history k).ended ≡ false → (history k1).ended ≡ false
front_unended t k k1 (inl x) unended = ap (λ (h : History). h.ended) x.1 ∙ unended
front_unended t k k1 (inr x) unended = ap (λ (h : History). h.ended) x.1.history ∙ ap (λ (b : Bool). if b then b else length t == 0) unended ∙ full_test t x.0

module _ (k k1 k2 : Connection) (t : List ℕ) (same : connection_config k2 ≡ connection_config k1) where
  -- nothing was read, since it had ended
  nothing_more : ReadsFront t k k1 → history k2 ≡ history k1 → ReadsFront t k k2
  nothing_more (inl x) is = inl (x.0, is ∙ x.1, same ∙ x.2)
  nothing_more (inr x) is = inr (x.0, record { history = is ∙ x.1.history; config = same ∙ x.1.config })

  some_more : (m : List ℕ) → m ≢ [] → ReadsFront t k k1 → history k2 ≡ after_read (history k1) m → (b : Bool) → (history k).ended ≡ b → Reads (t ++ m) k k2
  some_more m full (inl x) is b was = record {
    history = is ∙ ap (λ (h : History). after_read h m) x.1 ∙ ap (λ (s : List ℕ). after_read (history k) (s ++ m)) (sym x.0);
    config = same ∙ x.2;
  }
  some_more m full (inr x) is true was = record {
    history = is ∙ ap (λ (h : History). after_read h m) x.1.history ∙ after_read-then (history k) t m (inl was);
    config = same ∙ x.1.config;
  }
  some_more m full (inr x) is false was = record {
    history = is ∙ ap (λ (h : History). after_read h m) x.1.history ∙ after_read-then (history k) t m (inr (x.0, full));
    config = same ∙ x.1.config;
  }

  more-by : (m : List ℕ) (b : Bool) → ReadsFront t k k1 → history k2 ≡ after_read (history k1) m → (history k).ended ≡ b → (b ≡ false → m ≢ []) → ReadsFront (t ++ m) k k2
  more-by [] true x is was some = rw (append-nil t) (nothing_more x (is ∙ after_read-nothing (history k1) (front_ended t k k1 x was)))
  more-by [] false x is was some = absurd (some refl refl)
  more-by (y ∷ m) b x is was some = inr (full-append t (y ∷ m) (λ e. cc), some_more (y ∷ m) (λ e. cc) x is b was)

  -- one read more
  pub more : (m : List ℕ) → ReadsFront t k k1 → history k2 ≡ after_read (history k1) m → ((history k).ended ≡ false → m ≢ []) → ReadsFront (t ++ m) k k2
  more m x is some = more-by m (history k).ended x is refl some

  last-by : (m : List ℕ) → ReadsFront t k k1 → history k2 ≡ after_read (history k1) m → (m ≡ [] → t ≡ []) → Reads (t ++ m) k k2
  last-by [] (inl x) is none = record {
    history = is ∙ ap (λ (h : History). after_read h []) x.1 ∙ ap (λ (s : List ℕ). after_read (history k) s) (sym (append-nil t ∙ x.0));
    config = same ∙ x.2;
  }
  last-by [] (inr x) is none = absurd (x.0 (none refl))
  last-by (y ∷ m) x is none = some_more (y ∷ m) (λ e. cc) x is (history k).ended refl

  -- the last read
  pub last : (m : List ℕ) → ReadsFront t k k1 → history k2 ≡ after_read (history k1) m → (m ≡ [] → t ≡ []) → Reads (t ++ m) k k2
  last m x is none = last-by m x is none

-- the first part of nothing is nothing
pub first_none : (xs ys : List ℕ) → xs ++ ys ≡ [] → xs ≡ []
first_none [] ys is = refl
first_none (x ∷ xs) ys is = cc
