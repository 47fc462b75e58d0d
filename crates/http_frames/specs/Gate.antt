-- A turn: the service is told whose it is, and makes one call at most (own).
use Rattle.std.specs.Prelude.{◌≡◌, ◌⊎◌, ◌≤◌, ℕ, List, [], length, Option, Some}
use Rattle.http.specs.declared.request.Request.{Request}
use Rattle.http_server.specs.declared.response.Response.{Response}
use Rattle.http_server.specs.Exchange.{Call, Chain}
use Rattle.http_frames.specs.declared.frames.Head.{Head}
use Rattle.http_frames.specs.declared.frames.Head.TheVariants.{Free}

-- how many bytes are free on the disk, as far as frames told it: a frame that tells it comes behind what was told before
abbrev pub free_behind : Option Head → Option ℕ → Option ℕ
free_behind (Some (Free bytes)) before = Some bytes
free_behind _ before = before

-- one call at most, from one state of the service to the other
pub record CallsOnce {S : Type 0} (answers : S → Request (List ℕ) → Response → S → Type 0) (old : S) (calls : List Call) (new : S) : Type 0 where
  pub one : length calls ≤ 1
  pub chain : Chain answers old calls new

-- the turn begins, and the service is told of so much room at most
abbrev pub BeginsWithin : {S : Type 0} → (S → ℕ → S → Type 0) → (S → ℕ) → ℕ → S → ℕ → S → Type 0
BeginsWithin begins room most old number told = begins old number told × (room told ≤ most)

module _ {S : Type 0} (begins : S → ℕ → S → Type 0) (answers : S → Request (List ℕ) → Response → S → Type 0) where
  -- it was told that a turn of the connection comes, and then called
  abbrev pub IsTold : S → ℕ → List Call → S → Type 0
  IsTold old number calls new = (told : S) × begins old number told × CallsOnce answers told calls new

  -- nothing was asked of the service, or it was told and called
  abbrev pub TakesTurn : S → ℕ → List Call → S → Type 0
  TakesTurn old number calls new = ((calls ≡ []) × (new ≡ old)) ⊎ IsTold old number calls new
