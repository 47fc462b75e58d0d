-- How frames are read, and where no more are served.
use Rattle.std.proofs.Common.{◌≡◌, ◌≢◌, ◌⊎◌, ℕ, zero, suc, ◌+◌, ◌<◌, ◌≤◌, ◌==◌, true, false, List, [], ◌∷◌, ◌++◌, length, take, drop, Option, Some, None, IfSome, refl, sym, ap, ◌∙◌, subst, arith, append_assoc, take-append-drop, eqb-true, true≢false, inl, inr}
use Rattle.std.specs.Io.KnownBytes.{Consumes, IsAtEnd}
use Rattle.std.specs.Option.{option_map}
use Rattle.http_frames.specs.declared.clients.Clients.{Clients}
use Rattle.http_frames.specs.declared.held.Held.{Held}
use Rattle.http_frames.specs.declared.frames.Frames.{Frames}
use Rattle.http_frames.specs.declared.frames.Head.{Head}
use Rattle.http_frames.specs.declared.frames.Head.TheVariants.{Taken, Nothing}
use Rattle.http_frames.specs.declared.serving.End.TheVariants.{Whole, Wrong, Cut}
use Rattle.http_frames.specs.Clients.{Has, Stands, asked_of, count_begun, config_of, held_at, queue_of, window_of}
use Rattle.http_frames.specs.ConnectionEvents.{Event, Going, IsNumber, account}
use Rattle.http_frames.specs.Frames.{IsFrame, IsPart, bytes_at_hand, unread}
use Rattle.http_frames.specs.FrameSteps.{IsEndFor, IsWrongFor}
use Rattle.http_frames.proofs.Moments.{either}

-- ---- the end of the input

at_end : (input part : Option (List ℕ)) → Consumes input part [] → IsAtEnd part → IsAtEnd input
at_end None part x y = tt
at_end (Some xs) None x y = absurd x
at_end (Some xs) (Some ys) x y = x ∙ y

-- all that was read was taken
pub whole_end : (c : Clients) (input part : Option (List ℕ)) (bytes : List ℕ) → (length bytes == 0) ≡ true → Consumes input part bytes → IsAtEnd part → IsEndFor c Whole input
whole_end c input part [] none x y = λ events h. at_end input part x y
whole_end c input part (b ∷ bytes) none x y = absurd (omega (arith, eqb-true (length (b ∷ bytes)) 0 none))

some_bytes : (bytes : List ℕ) → (length bytes == 0) ≡ false → bytes ≢ []
some_bytes bytes some none = true≢false (sym (ap (λ (t : List ℕ). length t == 0) none) ∙ some)

-- a part of a frame is left
pub cut_end : (c : Clients) (input part : Option (List ℕ)) (bytes old : List ℕ) → (length bytes == 0) ≡ false → Consumes input part bytes → IsAtEnd part → bytes ≡ old → IsPart old → IsEndFor c Cut input
cut_end c input part bytes old some x y same is_part = λ events h. (bytes, part, some_bytes bytes some, subst IsPart (sym same) is_part, x, y)

-- ---- a frame that is wrong

front_consumed : (bytes : List ℕ) (n : ℕ) (rest : Option (List ℕ)) → (after : Option (List ℕ)) × Consumes (option_map (λ (rest : List ℕ). bytes ++ rest) rest) after (take n bytes)
front_consumed bytes n None = (None, tt)
front_consumed bytes n (Some rest) = (Some (drop n bytes ++ rest), ap (λ (t : List ℕ). t ++ rest) (sym (take-append-drop n bytes)) ∙ append_assoc (take n bytes) (drop n bytes) rest)

-- it stands at the front of what was read
pub wrong_end : {I : Type 0} (remaining : I → Option (List ℕ)) (frames : Frames I) (c : Clients) (h : Option Head) (bytes : List ℕ) (n : ℕ) → IsFrame h bytes (take n (bytes_at_hand frames)) → IsWrongFor c h
    → IsEndFor c Wrong (unread remaining frames)
wrong_end remaining frames c h bytes n frame wrong = λ events has.
    let x = front_consumed (bytes_at_hand frames) n (remaining frames.input) in (h, bytes, take n (bytes_at_hand frames), x.0, frame, x.1, wrong events has)

-- nobody asked
pub unasked : (c : Clients) → asked_of c ≡ false → IsWrongFor c (Some Nothing)
unasked c is = λ events h. sym h.asked ∙ is

-- more was taken than was handed out
taken_more-by : (c : Clients) (n count : ℕ) (o : Option Held) → held_at c n ≡ o → ¬ (IfSome o (λ (k : Held). count ≤ k.ahead)) → 0 < n → n ≤ count_begun c → (events : List Event) → Has c events
    → ((account n events).place ≡ Going) × (length (account n events).went < (account n events).took + count)
taken_more-by c n count None is fits some within events h = absurd (fits tt)
taken_more-by c n count (Some k) is fits some within events h =
    let stands : Stands (config_of c) (window_of c) (queue_of c) n (Some k) (account n events) = subst (λ (o : Option Held). Stands (config_of c) (window_of c) (queue_of c) n o (account n events)) is (h.stands n some within) in
    let more : k.ahead < count = elim (either count k.ahead) [ inl fit ↦ absurd (fits fit) | inr more ↦ more ] in
    (stands.1.going, omega (arith, stands.1.ahead, more))

number_or : (count n : ℕ) → IsNumber count n ⊎ (¬ (IsNumber count n))
number_or count zero = inr (λ x. omega (arith, x.0))
number_or count (suc n) = elim (either (suc n) count) [ inl within ↦ inl (omega arith, within) | inr above ↦ inr (λ x. omega (arith, x.1, above)) ]

pub taken_wrong : (c : Clients) (n count : ℕ) → ¬ (IsNumber (count_begun c) n × IfSome (held_at c n) (λ (k : Held). count ≤ k.ahead)) → IsWrongFor c (Some (Taken n count))
taken_wrong c n count wrong = λ events h. elim (number_or (count_begun c) n) [
  | inl number ↦ inr (taken_more-by c n count (held_at c n) refl (λ fits. wrong (number, fits)) number.0 number.1 events h)
  | inr none ↦ inl none
]
