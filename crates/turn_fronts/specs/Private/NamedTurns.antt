-- The turns of a service that tells users are those of the service.
use Rattle.std.proofs.Common.{ℕ, List, [], ◌∷◌, ap}
use Rattle.http.specs.declared.request.Request.{Request}
use Rattle.http_server.specs.declared.response.Response.{Response}
use Rattle.http_server.specs.Exchange.{Call, Chain}
use Rattle.http_frames.specs.Gate.{CallsOnce, IsTold}
use Rattle.turn_fronts.specs.declared.named.Named.{Named}
use Rattle.turn_fronts.specs.NamedUsers.{AnswersNamed, BeginsUnnamed}

module _ {S : Type 0} (begins : S → ℕ → S → Type 0) (answers : S → Request (List ℕ) → Response → S → Type 0) where
  chain_behind : (calls : List Call) (old new : Named S) → Chain (AnswersNamed answers) old calls new → Chain answers old.service calls new.service
  chain_behind [] old new same = ap (λ (n : Named S). n.service) same
  chain_behind (c ∷ calls) old new chain = ((chain.0).service, chain.1.answered, chain_behind calls chain.0 new chain.2)

  pub once_behind : (old : Named S) (calls : List Call) (new : Named S) → CallsOnce (AnswersNamed answers) old calls new → CallsOnce answers old.service calls new.service
  once_behind old calls new once = record { one = once.one; chain = chain_behind calls old new once.chain }

  pub told_behind : (old : Named S) (number : ℕ) (calls : List Call) (new : Named S) → IsTold (BeginsUnnamed begins) (AnswersNamed answers) old number calls new → IsTold begins answers old.service number calls new.service
  told_behind old number calls new told = ((told.0).service, told.1.begun, once_behind told.0 calls new told.2)
