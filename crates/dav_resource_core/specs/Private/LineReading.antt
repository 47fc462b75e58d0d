-- What the readers of words answer.
use Rattle.std.specs.Prelude.{ℕ, List, [], ◌∷◌, map, option_map, string_bytes, bytes_eq, unwrap_or, ◌≡◌, ◌⊎◌, Option, Some, None, Result, Ok, Err, IsUtf8}
use Rattle.std.specs.Bool.{MatchBool}
use Rattle.dav_path_core.specs.Fault.{Fault}
use Rattle.dav_path_core.specs.PathText.{PathText}
use Rattle.dav_path_core.specs.PathReading.{Read}
use Rattle.dav_path_core.specs.declared.davpath.ParseError.{ParseError}
use Rattle.dav_path_core.specs.declared.davpath.ParseError.TheVariants.{OutOfMemory as NoRoom}
use Rattle.dav_guarded_core.specs.declared.guarded.requests.Command.{Command}
use Rattle.dav_guarded_core.specs.declared.guarded.requests.Request.{Request}
use Rattle.dav_resource_core.specs.declared.davreplay.lines.Head.{Head as declared_head}
use Rattle.dav_resource_core.specs.declared.davreplay.lines.Unread.{Unread}
use Rattle.dav_resource_core.specs.declared.davreplay.lines.Unread.TheVariants.{Malformed, BadPath, OutOfMemory}
use Rattle.dav_resource_core.specs.RequestLines.{Form, form_alone, has_two_paths, form_of_ends, form_with_one, form_with_two, form_with_three, words, Head, head_form, request_with}
use Rattle.dav_guarded_core.specs.declared.guarded.requests.Reply.{Reply}
use Rattle.dav_guarded_core.specs.declared.guarded.requests.Reply.TheVariants.{Lock as Granted}
use Rattle.dav_guarded_core.specs.declared.guarded.requests.Refusal.{Refusal}
use Rattle.dav_guarded_core.specs.declared.guarded.requests.Refusal.TheVariants.{Fs, Locked, NoLock, OutOfMemory as NoMemory}
use Rattle.dav_resource_core.specs.AnswerTexts.{error_line, locked_line, no_lock_line, out_of_memory_line}
use Rattle.dav_resource_core.specs.Labels.{label_in}
use Rattle.dav_guarded_core.specs.Requests as plain
use Rattle.dav_guarded_core.specs.Served.{command_of, request_of}

-- what a word says, or that it is malformed
abbrev pub exactly : {U : Type 0} → Option U → Result U Unread
exactly (Some x) = Ok x
exactly None = Err Malformed

-- the same, with the value as it is shown, or out of memory
abbrev pub Gives : {V U : Type 0} → (V → U) → Result V Unread → Option U → Type 0
Gives shown (Ok x) said = said ≡ Some (shown x)
Gives shown (Err e) said = (e ≡ OutOfMemory) ⊎ ((e ≡ Malformed) × (said ≡ None))

-- how a path that isn't read is told
abbrev pub unread_by : ParseError → Unread
unread_by NoRoom = OutOfMemory
unread_by e = BadPath e

-- what reading a text as a path answers
abbrev pub PathIs : List ℕ → Result PathText ParseError → Type 0
PathIs text (Ok path) = (path.prefix ≡ []) × Read text path.bytes
PathIs text (Err e) = (e ≡ NoRoom) ⊎ Fault text e

-- two paths, or why the first that isn't read is none
abbrev pub both : {A : Type 0} → Result A ParseError → Result A ParseError → Result (A × A) ParseError
both (Ok x) (Ok y) = Ok (x, y)
both (Ok x) (Err e) = Err e
both (Err e) other = Err e

-- the command of words and paths: a wrong form of the words comes before a path that isn't read
abbrev pub command_reading : {P : Type 0} → Form P → Result P ParseError → Result plain.Command Unread
command_reading None path = Err Malformed
command_reading (Some form) (Ok path) = Ok (form path)
command_reading (Some form) (Err e) = Err (unread_by e)

-- this answer
abbrev pub IsReadCommand : Result Command Unread → Result plain.Command Unread → Type 0
IsReadCommand (Ok command) wanted = wanted ≡ Ok (command_of command)
IsReadCommand (Err e) wanted = wanted ≡ Err e

-- this answer, or out of memory
abbrev pub IsReadOrRoom : Result Command Unread → Result plain.Command Unread → Type 0
IsReadOrRoom (Ok command) wanted = wanted ≡ Ok (command_of command)
IsReadOrRoom (Err e) wanted = (e ≡ OutOfMemory) ⊎ (wanted ≡ Err e)

-- a command with one word behind its path, which is a second path of some commands
abbrev pub IsWithOne : List (List ℕ) → List ℕ → Result PathText ParseError → List ℕ → Result Command Unread → Type 0
IsWithOne tokens command path one result = MatchBool (has_two_paths command)
    ((to : Result PathText ParseError) × PathIs one to × IsReadCommand result (command_reading (form_of_ends command) (both path to)))
    (IsReadOrRoom result (command_reading (form_with_one tokens command one) path))

-- a command with these words behind its path
abbrev pub CommandIs : List (List ℕ) → List ℕ → Result PathText ParseError → List (List ℕ) → Result Command Unread → Type 0
CommandIs tokens command path [] result = IsReadCommand result (command_reading (form_alone command) path)
CommandIs tokens command path (one ∷ []) result = IsWithOne tokens command path one result
CommandIs tokens command path (one ∷ two ∷ []) result = IsReadOrRoom result (command_reading (form_with_two tokens command one two) path)
CommandIs tokens command path (one ∷ two ∷ three ∷ []) result = IsReadOrRoom result (command_reading (form_with_three command one two three) path)
CommandIs tokens command path (one ∷ two ∷ three ∷ four ∷ more) result = result ≡ Err Malformed

-- ---- a line

-- what stands in front of a command, as it is said
abbrev pub said_head : declared_head → Head
said_head head = record { now = head.now.0; principal = option_map string_bytes head.principal; tokens = map string_bytes head.tokens.items }

-- the request of its first three words and its command: a wrong form of those words comes first
abbrev pub line_request : Option Head → Result Command Unread → Result (Option plain.Request) Unread
line_request None command = Err Malformed
line_request (Some head) (Ok command) = Ok (Some (request_with head (command_of command)))
line_request (Some head) (Err e) = Err e

-- this request, or out of memory
abbrev pub IsAskedOrRoom : Result (Option Request) Unread → Result (Option plain.Request) Unread → Type 0
IsAskedOrRoom (Ok request) wanted = wanted ≡ Ok (option_map request_of request)
IsAskedOrRoom (Err e) wanted = (e ≡ OutOfMemory) ⊎ (wanted ≡ Err e)

-- a line with these words: nothing without any, and a path behind four others at least
abbrev pub WordsAre : List (List ℕ) → List (List ℕ) → Result (Option Request) Unread → Type 0
WordsAre tokens [] result = result ≡ Ok None
WordsAre tokens (moment ∷ principal ∷ labels ∷ word ∷ first ∷ args) result =
    (path : Result PathText ParseError) × (command : Result Command Unread) × PathIs first path × CommandIs tokens word path args command
    × IsAskedOrRoom result (line_request (head_form tokens moment principal labels) command)
WordsAre tokens _ result = result ≡ Err Malformed

-- a line of these bytes: malformed where they aren't UTF-8, and else as its words say, or out of memory
abbrev pub LineIs : List (List ℕ) → List ℕ → Result (Option Request) Unread → Type 0
LineIs tokens line result = (IsUtf8 line → (result ≡ Err OutOfMemory) ⊎ WordsAre tokens (words line) result) × (¬ IsUtf8 line → result ≡ Err Malformed)

-- the line of a refusal
abbrev pub refusal_line : List (List ℕ) → Refusal → List ℕ
refusal_line tokens (Fs e) = error_line e
refusal_line tokens (Locked lock) = locked_line (label_in tokens lock.token)
refusal_line tokens NoLock = no_lock_line
refusal_line tokens NoMemory = out_of_memory_line

-- a reply that shows no single lock
abbrev pub IsNoLock : Reply → Type 0
IsNoLock (Granted lock) = ⊥
IsNoLock _ = Unit {0}
