-- How a password is checked within the limits of guesses (own).
use Rattle.std.specs.Prelude.{◌≡◌, ℕ, Bool, true, false, List}
use Rattle.http.specs.declared.request.Request.{Request}
use Rattle.dav_login_core.specs.declared.addresses.Addresses.{Addresses}
use Rattle.dav_login_core.specs.ClientAddresses.{address_of_request}
use Rattle.dav_login_core.specs.Guessing.{AsksAt, CountsWrong, GuessState, behind_hash, may_guess}
use Rattle.dav_login_core.specs.Friends.{payer_of}
use Rattle.dav_login_core.specs.Networks.{label_of, network_of}
use Rattle.dav_login_core.specs.declared.checking.Verdict.{Verdict}
use Rattle.dav_login_core.specs.declared.checking.Verdict.TheVariants.{Right, Wrong, TooMany}

-- the label by which the guesses of a request's client count
abbrev pub label_of_client : List ℕ → Addresses → Request (List ℕ) → ℕ
label_of_client key addresses request = label_of key (network_of (address_of_request addresses request))

-- the label whose bucket pays for a guess of the client at a name
abbrev pub payer_of_client : List ℕ → List (ℕ × ℕ) → Addresses → Request (List ℕ) → List ℕ → ℕ → ℕ
payer_of_client key let_in addresses request name now = payer_of key let_in (network_of (address_of_request addresses request)) name now

-- It is asked first. Where the guess is let through, it costs a hash, and its verdict is whether it is right; what is wrong is counted. Else nothing is hashed, and nothing is said of it.
abbrev pub Judges : ℕ → Bool → Verdict → GuessState → GuessState → Type 0
Judges label is_right Right asked new = (may_guess asked label ≡ true) × (is_right ≡ true) × (new ≡ behind_hash asked)
Judges label is_right Wrong asked new = (may_guess asked label ≡ true) × (is_right ≡ false) × CountsWrong label (behind_hash asked) new
Judges label is_right TooMany asked new = (may_guess asked label ≡ false) × (new ≡ asked)

pub record Checks (now label : ℕ) (is_right : Bool) (verdict : Verdict) (old new : GuessState) : Type 0 where
  pub asked : GuessState
  pub asks : AsksAt now old asked
  pub judges : Judges label is_right verdict asked new
