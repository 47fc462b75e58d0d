-- Which bytes a command draws.
use Rattle.std.proofs.Common.{arith, ◌≡◌, ℕ, Bool, true, false, cond, nat_eq, List, Option, Some, None, refl, sym, ap, ◌∙◌}
use Rattle.std.specs.Prelude.{replicate}
use Rattle.std.proofs.lemmas.Bool.Decides.{nat_tests}
use Rattle.std.proofs.lemmas.Bool.{true≢false}
use Rattle.rand_core.specs.Stream.{Stream, fill_bytes}
use Rattle.uuid.specs.Parts.{v4_of_fill}
use Rattle.uuid.specs.Text.{urn_text, lower}
use Rattle.dav_locks_core.specs.Tokens.{token_from}
use Rattle.dav_guarded_core.specs.Requests.{Command}
use Rattle.dav_notes_core.specs.Changes.{grants}
use Rattle.dav_notes_core.specs.Drawing.{stream_giving}
use Rattle.dav_notes_core.specs.Stepping.{Draws}

-- it gives its bytes
pub fill-stream_giving : (bytes : List ℕ) → (fill_bytes 16 (stream_giving bytes)).0 ≡ bytes
unfolding fill_bytes stream_giving
fill-stream_giving bytes = refl

fills : (bytes : List ℕ) (n : ℕ) → fill_bytes n (stream_giving bytes) ≡ (cond (nat_eq n 16) bytes (replicate n 0), stream_giving bytes)
unfolding fill_bytes stream_giving
fills bytes n = refl

pub fills_whole : (bytes : List ℕ) (n : ℕ) → n ≡ 16 → fill_bytes n (stream_giving bytes) ≡ (bytes, stream_giving bytes)
fills_whole bytes n is = fills bytes n ∙ ap (λ (m : ℕ). (cond (nat_eq m 16) bytes (replicate m 0), stream_giving bytes)) is

other_length : (n : ℕ) → ¬ (n ≡ 16) → nat_eq n 16 ≡ false
other_length n other = grind (arith, nat_tests)

pub fills_other : (bytes : List ℕ) (n : ℕ) → ¬ (n ≡ 16) → fill_bytes n (stream_giving bytes) ≡ (replicate n 0, stream_giving bytes)
fills_other bytes n other = fills bytes n ∙ ap (λ (b : Bool). (cond b bytes (replicate n 0), stream_giving bytes)) (other_length n other)

-- for any command
pub draws_some : (c : Command) (bytes : List ℕ) → Draws c (Some bytes) (stream_giving bytes)
draws_some (Command.Lock path owner timeout shared deep) bytes = ap Some (sym (fill-stream_giving bytes))
draws_some _ bytes = tt

-- only for it there need to be bytes
pub draws_as : (c : Command) (bytes : List ℕ) → Draws c (cond (grants c) (Some bytes) None) (stream_giving bytes)
draws_as (Command.Lock path owner timeout shared deep) bytes = ap Some (sym (fill-stream_giving bytes))
draws_as _ bytes = tt

-- the token is made of the bytes alone
token_alike : (f g : Stream) → (fill_bytes 16 f).0 ≡ (fill_bytes 16 g).0 → (token_from f).0 ≡ (token_from g).0
unfolding token_from
token_alike f g h = ap (λ (bytes : List ℕ). urn_text lower (v4_of_fill (bytes, f)).0) h

pub tokens_alike : (drawn : Option (List ℕ)) (f g : Stream) → drawn ≡ Some (fill_bytes 16 f).0 → drawn ≡ Some (fill_bytes 16 g).0 → (token_from f).0 ≡ (token_from g).0
tokens_alike drawn f g p q =
    let same : (fill_bytes 16 f).0 ≡ (fill_bytes 16 g).0 = cc in
    token_alike f g same
