-- What the record of a turn says (own).
use Rattle.std.specs.Prelude.{ℕ, ◌≤◌, List, ◌++◌, length}
use Rattle.http.specs.declared.request.Request.{Request}
use Rattle.http_server.specs.declared.response.Response.{Response}
use Rattle.http_server.specs.Exchange.{Call}
use Rattle.http_frames.specs.Gate.{CallsOnce, IsTold}
use Rattle.journal_core.specs.declared.round.Round.{Round}
use Rattle.journal_core.specs.Format.{records_text}
use Rattle.journal_core.specs.Resting.{Carries}

-- What the round has more is what the service changed in its last turn.
pub record RecordsTurn {S : Type 0} (begins : S → ℕ → S → Type 0) (answers : S → Request (List ℕ) → Response → S → Type 0) (stands : List (List ℕ) → S → Type 0) (room : S → ℕ) (round round' : Round) (now : S) : Type 0 where
  -- it has these records more
  pub more : List (List ℕ)
  pub adds : (records : List (List ℕ)) → Carries round records → Carries round' (records ++ more)
  -- where records stood for the service before the turn, they stand for it with these behind them
  pub stand : (before : S) (number : ℕ) (calls : List Call) (records : List (List ℕ)) → stands records before → IsTold begins answers before number calls now → stands (records ++ more) now
  -- they take no more room than it said once it was told of the turn
  pub fits : (before told : S) (number : ℕ) (calls : List Call) → begins before number told → CallsOnce answers told calls now → length (records_text more) ≤ room told
