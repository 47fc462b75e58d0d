-- How what happened between two moments is put together.
use Rattle.std.proofs.Common.{◌≡◌, ◌⊎◌, ℕ, zero, suc, ◌+◌, ◌-◌, ◌<◌, ◌≤◌, Bool, true, false, List, [], ◌∷◌, ◌++◌, length, take, refl, sym, ap, ◌∙◌, subst, arith, append_assoc, append-nil, ltb, ltb-true, ltb-false, inl, inr}
use lib.Seq.{take-append-le, take-append-add}
use Rattle.std.proofs.lemmas.Grind.{flat_map-append}
use Rattle.http_frames.specs.declared.clients.Clients.{Clients}
use Rattle.http_frames.specs.declared.clients.Windows.{Windows}
use Rattle.http_frames.specs.Clients.{Adds, Alone, Has, Joins, StaysSo, count_begun, config_of, queue_of, window_of}
use Rattle.http_frames.specs.ConnectionEvents.{Event, Clock, Free, Late, Touched, Turned, Users, account}
use Rattle.http_frames.specs.TurnRuns.{AtMoment, InOrder, Moments, turn_in, turns_of, windows_after}
use Rattle.http_frames.proofs.Accounts.{account-none, account-zero}
use Rattle.http_frames.proofs.Beginning.{new_alone}
use Rattle.http_frames.proofs.Happenings.{in_order_then, windows-append}
use Rattle.http_frames.proofs.Keeping.{all_alike, word_then}

-- each connection stands as if it were alone, those too that have not begun
has_alone-by : (c : Clients) (es : List Event) → Has c es → (n : ℕ) → (0 ≡ n) ⊎ (0 < n) → (n ≤ count_begun c) ⊎ (count_begun c < n) → Alone (config_of c) (window_of c) (account n es)
has_alone-by c es h n (inl none) place =
    subst (λ m. Alone (config_of c) (window_of c) (account m es)) none (subst (Alone (config_of c) (window_of c)) (sym (account-zero (count_begun c) es h.numbers)) (new_alone (config_of c) (window_of c)))
has_alone-by c es h n (inr some) (inl within) = (h.stands n some within).0
has_alone-by c es h n (inr some) (inr above) =
    subst (Alone (config_of c) (window_of c)) (sym (account-none n (count_begun c) es above h.numbers)) (new_alone (config_of c) (window_of c))

pub either : (n b : ℕ) → (n ≤ b) ⊎ (b < n)
either n b = by (ltb b n) refl
  where
    by : (t : Bool) → ltb b n ≡ t → (n ≤ b) ⊎ (b < n)
    by true is = inr (ltb-true b n is)
    by false is = inl (ltb-false b n is)

pub has_alone : (c : Clients) (es : List Event) → Has c es → (n : ℕ) → Alone (config_of c) (window_of c) (account n es)
has_alone c es h n = has_alone-by c es h n (zero_or n) (either n (count_begun c))
  where
    zero_or : (n : ℕ) → (0 ≡ n) ⊎ (0 < n)
    zero_or zero = inl refl
    zero_or (suc n) = inr (omega arith)

take_none : {A : Type 0} (k : ℕ) → take {A = A} k [] ≡ []
take_none zero = refl
take_none (suc k) = refl

-- it is now
now : (c : Clients) (es : List Event) → Has c es → AtMoment c es []
now c es h = record { clients = c; has = rw (append-nil es) h; config = refl; window = refl; in_order = ([], sym (append-nil (queue_of c))) }

-- ---- nothing happened

pub still : (c c' : Clients) → StaysSo c c' → InOrder [] (queue_of c) (queue_of c') → config_of c' ≡ config_of c → window_of c' ≡ window_of c → Moments [] c c'
still c c' stays line config window = record {
  has = λ es h. rw (append-nil es) (stays es h);
  always = λ es h k. rw (take_none {A = Event} k) (now c es h);
  in_order = line;
  config = config;
  window = window;
}

pub none : (c : Clients) → Moments [] c c
none c = still c c (λ es h. h) ([], sym (append-nil (queue_of c))) refl refl

-- none or one joined the queue
pub joins_line : (n : ℕ) (c c' : Clients) → Joins n (queue_of c) (queue_of c') → InOrder [] (queue_of c) (queue_of c')
joins_line n c c' (inl same) = ([], same ∙ sym (append-nil (queue_of c)))
joins_line n c c' (inr longer) = (n ∷ [], longer)

pub same_line : (c c' : Clients) → queue_of c' ≡ queue_of c → InOrder [] (queue_of c) (queue_of c')
same_line c c' same = ([], same ∙ sym (append-nil (queue_of c)))

-- ---- one thing happened

one_always : (c c' : Clients) (e : Event) → Adds c c' e → InOrder (turns_of (e ∷ [])) (queue_of c) (queue_of c') → config_of c' ≡ config_of c → window_of c' ≡ windows_after (window_of c) (e ∷ [])
    → (es : List Event) → Has c es → (k : ℕ) → AtMoment c es (take k (e ∷ []))
one_always c c' e adds line config window es h zero = now c es h
one_always c c' e adds line config window es h (suc k) =
    rw (take_none {A = Event} k) (record { clients = c'; has = adds es h; config = config; window = window; in_order = line })

pub one : (c c' : Clients) (e : Event) → Adds c c' e → InOrder (turn_in e) (queue_of c) (queue_of c') → config_of c' ≡ config_of c → window_of c' ≡ windows_after (window_of c) (e ∷ [])
    → Moments (e ∷ []) c c'
one c c' e adds line config window = record {
  has = adds;
  always = one_always c c' e adds (rw (append-nil (turn_in e)) line) config window;
  in_order = rw (append-nil (turn_in e)) line;
  config = config;
  window = window;
}

-- word of the moment
pub clock_one : (c : Clients) (m : ℕ) → Moments (Clock m ∷ []) c c
clock_one c m = one c c (Clock m) (word_then c c (Clock m) refl (λ b. refl) (all_alike c)) ([], sym (append-nil (queue_of c))) refl refl

-- word of what is free on the disk
pub free_one : (c : Clients) (count : ℕ) → Moments (Free count ∷ []) c c
free_one c count = one c c (Free count) (word_then c c (Free count) refl (λ b. refl) (all_alike c)) ([], sym (append-nil (queue_of c))) refl refl

-- word of a client that was too slow, and of connections that had no place
pub late_one : (c : Clients) (number : ℕ) → Moments (Late number ∷ []) c c
late_one c number = one c c (Late number) (word_then c c (Late number) refl (λ b. refl) (all_alike c)) ([], sym (append-nil (queue_of c))) refl refl

pub turned_one : (c : Clients) (address : List ℕ) (count : ℕ) → Moments (Turned address count ∷ []) c c
turned_one c address count = one c c (Turned address count) (word_then c c (Turned address count) refl (λ b. refl) (all_alike c)) ([], sym (append-nil (queue_of c))) refl refl

-- a touch
pub touched_one : (c : Clients) → Moments (Touched ∷ []) c c
touched_one c = one c c Touched (word_then c c Touched refl (λ b. refl) (all_alike c)) ([], sym (append-nil (queue_of c))) refl refl

-- word of the users
pub users_one : (c : Clients) (file : List ℕ) → Moments (Users file ∷ []) c c
users_one c file = one c c (Users file) (word_then c c (Users file) refl (λ b. refl) (all_alike c)) ([], sym (append-nil (queue_of c))) refl refl

-- ---- one after the other

joined_always : (c c1 c2 : Clients) (xs ys : List Event) → Moments xs c c1 → Moments ys c1 c2 → (es : List Event) → Has c es → (k : ℕ) → (k ≤ length xs) ⊎ (length xs < k)
    → AtMoment c es (take k (xs ++ ys))
joined_always c c1 c2 xs ys x y es h k (inl within) = rw (take-append-le k xs ys within) (x.always es h k)
joined_always c c1 c2 xs ys x y es h k (inr past) =
    let rest = k - length xs in
    let is : length xs + rest ≡ k = omega (arith, past) in
    let split : take k (xs ++ ys) ≡ xs ++ take rest ys = ap (λ (m : ℕ). take m (xs ++ ys)) (sym is) ∙ take-append-add xs ys rest in
    let m = y.always (es ++ xs) (x.has es h) rest in
    rw split (record {
      clients = m.clients;
      has = subst (Has m.clients) (append_assoc es xs (take rest ys)) m.has;
      config = m.config ∙ x.config;
      window = m.window ∙ ap (λ (w : Windows). windows_after w (take rest ys)) x.window ∙ sym (windows-append (window_of c) xs (take rest ys));
      in_order = subst (λ (t : List ℕ). InOrder t (queue_of c) (queue_of m.clients)) (sym (flat_map-append turn_in xs (take rest ys)))
          (in_order_then (turns_of xs) (turns_of (take rest ys)) (queue_of c) (queue_of c1) (queue_of m.clients) x.in_order m.in_order);
    })

pub joined : (c c1 c2 : Clients) (xs ys : List Event) → Moments xs c c1 → Moments ys c1 c2 → Moments (xs ++ ys) c c2
joined c c1 c2 xs ys x y = record {
  has = λ es h. rw (sym (append_assoc es xs ys)) (y.has (es ++ xs) (x.has es h));
  always = λ es h k. joined_always c c1 c2 xs ys x y es h k (either k (length xs));
  in_order = subst (λ (t : List ℕ). InOrder t (queue_of c) (queue_of c2)) (sym (flat_map-append turn_in xs ys))
      (in_order_then (turns_of xs) (turns_of ys) (queue_of c) (queue_of c1) (queue_of c2) x.in_order y.in_order);
  config = y.config ∙ x.config;
  window = y.window ∙ ap (λ (w : Windows). windows_after w ys) x.window ∙ sym (windows-append (window_of c) xs ys);
}
