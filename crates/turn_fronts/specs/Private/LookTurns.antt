-- The calls and the turns of a read-only service are some of the service behind it.
use Rattle.std.proofs.Common.{◌≤◌, ℕ, Bool, true, false, List, [], ◌∷◌, length, cond, sym, ap, subst, inl, inr, arith}
use Rattle.http.specs.declared.request.Request.{Request}
use Rattle.http_server.specs.declared.response.Response.{Response}
use Rattle.http_server.specs.Exchange.{Call, Chain}
use Rattle.http_frames.specs.Gate.{CallsOnce, IsTold, TakesTurn}
use Rattle.turn_fronts.specs.declared.read_only.ReadOnly.{ReadOnly}
use Rattle.turn_fronts.specs.Looking.{LetsLook, looking, only_looks}

-- what is left is no more than there was
no_more : (b : Bool) (c : Call) (kept calls : List Call) → length kept ≤ length calls → length (cond b (c ∷ kept) kept) ≤ length (c ∷ calls)
no_more true c kept calls fewer = omega (arith, fewer)
no_more false c kept calls fewer = omega (arith, fewer)

looking_short : (calls : List Call) → length (looking calls) ≤ length calls
looking_short [] = omega arith
looking_short (c ∷ calls) = no_more (only_looks c.0) c (looking calls) calls (looking_short calls)

module _ {S : Type 0} (begins : S → ℕ → S → Type 0) (answers : S → Request (List ℕ) → Response → S → Type 0) where
  -- what is begun, and what is answered
  abbrev pub ReadsBegin : ReadOnly S → ℕ → ReadOnly S → Type 0
  ReadsBegin old number new = begins old.service number new.service

  abbrev pub ReadsAnswer : ReadOnly S → Request (List ℕ) → Response → ReadOnly S → Type 0
  ReadsAnswer old request response new = LetsLook answers old.service request response new.service

  -- one call more in front, where it only_looks or not
  one_more : (c : Call) (calls : List Call) (old next new : S) → LetsLook answers old c.0 c.1 next → Chain answers next (looking calls) new → Chain answers old (looking (c ∷ calls)) new
  one_more c calls old next new (inl looked) chain =
      subst (λ (b : Bool). Chain answers old (cond b (c ∷ looking calls) (looking calls)) new) (sym looked.0) (next, looked.1, chain)
  one_more c calls old next new (inr kept) chain =
      subst (λ (b : Bool). Chain answers old (cond b (c ∷ looking calls) (looking calls)) new) (sym kept.0) (subst (λ (s : S). Chain answers s (looking calls) new) kept.2 chain)

  pub chain_looks : (calls : List Call) (old new : ReadOnly S) → Chain ReadsAnswer old calls new → Chain answers old.service (looking calls) new.service
  chain_looks [] old new same = ap (λ (r : ReadOnly S). r.service) same
  chain_looks (c ∷ calls) old new chain =
      one_more c calls old.service (chain.0).service new.service chain.1 (chain_looks calls chain.0 new chain.2)

  -- where it was called once at most, so was the service
  pub once_looks : (old : ReadOnly S) (calls : List Call) (new : ReadOnly S) → CallsOnce ReadsAnswer old calls new → CallsOnce answers old.service (looking calls) new.service
  once_looks old calls new once = record { one = omega (arith, once.one, looking_short calls); chain = chain_looks calls old new once.chain }

  -- where it was told of a turn and called, the service was
  pub told_looks : (old : ReadOnly S) (number : ℕ) (calls : List Call) (new : ReadOnly S) → IsTold ReadsBegin ReadsAnswer old number calls new
      → IsTold begins answers old.service number (looking calls) new.service
  told_looks old number calls new told = ((told.0).service, told.1, once_looks told.0 calls new told.2)

  pub turn_looks : (number : ℕ) (calls : List Call) (old new : ReadOnly S) → TakesTurn ReadsBegin ReadsAnswer old number calls new
      → TakesTurn begins answers old.service number (looking calls) new.service
  turn_looks number calls old new (inl none) = inl (ap looking none.0, ap (λ (r : ReadOnly S). r.service) none.1)
  turn_looks number calls old new (inr told) = inr (told_looks old number calls new told)
