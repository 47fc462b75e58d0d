-- What the lines of a scenario do: how requests and answers belong to lines (own).
use Rattle.std.specs.Prelude.{◌≡◌, ◌⊎◌, ℕ, ◌+◌, take, Bool, true, false, List, [], ◌∷◌, ◌++◌, length, Option, Some, None, Result, Ok, Err, IfSome}
use Rattle.std.specs.Io.KnownBytes.{Appends}
use Rattle.std.specs.List.{concat}
use Rattle.line_streams.specs.Lines.{lines}
use Rattle.dav_resource_core.specs.declared.davreplay.lines.Unread.{Unread}
use Rattle.dav_resource_core.specs.declared.davreplay.lines.Unread.TheVariants.{Malformed, BadPath, OutOfMemory}
use Rattle.dav_guarded_core.specs.declared.guarded.requests.Request.{Request}
use Rattle.dav_resource_core.specs.AnswerTexts.{answer_line, bad_path_line, out_of_memory_line, tokens_after}
use Rattle.dav_resource_core.specs.Labels.{label_in}
use Rattle.dav_resource_core.specs.Private.LineReading.{LineIs}
use Rattle.dav_guarded_core.specs.Requests as plain
use Rattle.dav_guarded_core.specs.Served.{request_of}
use Rattle.dav_guarded_core.specs.Step.{State, Step}

-- the stores with what the generator still gives, and the tokens of the locks granted so far, in the order of granting
abbrev pub Played : Type 0
Played = State × List (List ℕ)

-- ---- a line

-- a request is a step of the stores, the token of a lock that it was granted is kept, and the line of its answer is written
abbrev pub PlaysRequest : Played → plain.Request → Played → List ℕ → Type 0
PlaysRequest p r p' written =
    (a : plain.Answer) × Step p.0 r a p'.0 × (p'.1 ≡ tokens_after r.command a p.1)
    × (written ≡ answer_line (label_in p'.1) r.command a)

-- what follows what a line says, what is written, and whether the next line is read: a request alone changes the stores, and a malformed line ends the run
abbrev pub PlaysLine : Played → Result (Option Request) Unread → Bool → Played → List ℕ → Type 0
PlaysLine p (Ok (Some request)) on p' written = (on ≡ true) × PlaysRequest p (request_of request) p' written
PlaysLine p (Ok None) on p' written = (on ≡ true) × (p' ≡ p) × (written ≡ [])
PlaysLine p (Err Malformed) on p' written = (on ≡ false) × (p' ≡ p) × (written ≡ [])
PlaysLine p (Err (BadPath e)) on p' written = (on ≡ true) × (p' ≡ p) × (written ≡ bad_path_line e)
PlaysLine p (Err OutOfMemory) on p' written = (on ≡ true) × (p' ≡ p) × (written ≡ out_of_memory_line)

-- a line of these bytes
abbrev pub LinePlayed : Played → List ℕ → Bool → Played → List ℕ → Type 0
LinePlayed p line on p' written = (said : Result (Option Request) Unread) × LineIs p.1 line said × PlaysLine p said on p' written

-- ---- all lines

-- these lines one after another, none of them malformed, each with what is written for it
abbrev pub LinesPlayed : Played → List (List ℕ) → List (List ℕ) → Played → Type 0
LinesPlayed p [] [] p' = p' ≡ p
LinesPlayed p [] (text ∷ texts) p' = ⊥
LinesPlayed p (line ∷ more) [] p' = ⊥
LinesPlayed p (line ∷ more) (text ∷ texts) p' = (mid : Played) × LinePlayed p line true mid text × LinesPlayed mid more texts p'

-- all of these lines, or those in front of the first malformed one, which is told by its number, from 1
abbrev pub AllPlayed : Played → List (List ℕ) → Option ℕ → List (List ℕ) → Played → Type 0
AllPlayed p all None texts p' = LinesPlayed p all texts p'
AllPlayed p all (Some number) texts p' =
    (front : List (List ℕ)) × (line : List ℕ) × (more : List (List ℕ)) × (all ≡ front ++ line ∷ more) × (number ≡ length front + 1)
    × LinesPlayed p front texts p' × LineIs (p'.1) line (Err Malformed)

-- the lines of an input, all of them where its bytes are known
abbrev pub AreLines : List (List ℕ) → Option (List ℕ) → Type 0
AreLines all input = IfSome input (λ bytes. all ≡ lines bytes)

-- an input, how it ends, and what is written for its lines
abbrev pub InputPlayed : Played → Option (List ℕ) → Option ℕ → List (List ℕ) → Played → Type 0
InputPlayed p input end texts p' = (all : List (List ℕ)) × AreLines all input × AllPlayed p all end texts p'

-- ---- a run that a fault has stopped

-- where an input's bytes are known, its lines begin with these
abbrev pub BeginWith : List (List ℕ) → Option (List ℕ) → Type 0
BeginWith front input = IfSome input (λ bytes. (rest : List (List ℕ)) × (lines bytes ≡ front ++ rest))

-- of a line that was read, a front of its text was written, or nothing
abbrev pub LineStopped : Played → List ℕ → Option (List ℕ) → Option (List ℕ) → Type 0
LineStopped p line old new =
    (written : List ℕ) × Appends old new written
    × ((written ≡ []) ⊎ ((on : Bool) × (p' : Played) × (text : List ℕ) × (count : ℕ) × LinePlayed p line on p' text × (written ≡ take count text)))

-- of what a line says, a front of the text was written, or nothing
abbrev pub SaidStopped : Played → Result (Option Request) Unread → Option (List ℕ) → Option (List ℕ) → Type 0
SaidStopped p said old new =
    (written : List ℕ) × Appends old new written
    × ((written ≡ []) ⊎ ((on : Bool) × (p' : Played) × (text : List ℕ) × (count : ℕ) × PlaysLine p said on p' text × (written ≡ take count text)))

-- what was written of the line behind those that were played: nothing, or a front of its text
abbrev pub WroteNext : Played → List (List ℕ) → Option (List ℕ) → List ℕ → Type 0
WroteNext p front input written =
    (written ≡ []) ⊎ ((line : List ℕ) × (on : Bool) × (p' : Played) × (text : List ℕ) × (count : ℕ)
    × BeginWith (front ++ line ∷ []) input × LinePlayed p line on p' text × (written ≡ take count text))

-- the lines in front of some one were played, and their texts were written, and behind them at most a front of that line's
abbrev pub PlayedPart : Played → Option (List ℕ) → Option (List ℕ) → Option (List ℕ) → Type 0
PlayedPart p input old new =
    (front : List (List ℕ)) × (texts : List (List ℕ)) × (p' : Played) × (written : List ℕ)
    × BeginWith front input × LinesPlayed p front texts p' × WroteNext p' front input written × Appends old new (concat texts ++ written)
