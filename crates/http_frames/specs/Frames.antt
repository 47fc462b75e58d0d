-- Frames: the bytes of many connections on one stream (own).
use Rattle.std.specs.Prelude.{◌≡◌, ◌≢◌, ◌⊎◌, ◌<◌, ℕ, Bool, true, false, List, [], ◌∷◌, ◌++◌, length, Option, Some, None, All, codes, nat_lt, option_map, ◌&&◌, ◌==◌, if◌then◌else◌}
use Rattle.std.specs.Fmt.{decimal}
use Rattle.std.specs.Io.KnownBytes.{Appends}
use Rattle.std.specs.List.{before_first, after_first, list_all}
use Rattle.std.specs.Str.{bytes_eq}
use Rattle.line_streams.specs.Numerals.{numeral}
use Rattle.http_frames.specs.declared.frames.Frames.{Frames}
use Rattle.http_frames.specs.declared.frames.Head.{Head}
use Rattle.http_frames.specs.declared.frames.Head.TheVariants.{Piece, Taken, Gone, Clock, Free, From, Users, Late, Turned, Nothing, Touch, Go}

-- ---- the head of a frame: words with one blank between them

abbrev pub is_single_space : ℕ → Bool
is_single_space b = b == 32

abbrev pub gone_in : Option ℕ → Option Head
gone_in None = None
gone_in (Some number) = Some (Gone number)

abbrev pub clock_in : Option ℕ → Option Head
clock_in None = None
clock_in (Some moment) = Some (Clock moment)

abbrev pub free_in : Option ℕ → Option Head
free_in None = None
free_in (Some bytes) = Some (Free bytes)

abbrev pub taken_by : Option ℕ → Option ℕ → Option Head
taken_by None count = None
taken_by (Some number) None = None
taken_by (Some number) (Some count) = Some (Taken number count)

-- a number, and how many bytes were taken
abbrev pub taken_in : List ℕ → Option Head
taken_in rest = taken_by (numeral (before_first is_single_space rest)) (numeral (after_first is_single_space rest))

-- so many bytes of a connection, at most 1 MiB
abbrev pub piece_in : Option ℕ → Option ℕ → Option Head
piece_in None length = None
piece_in (Some number) None = None
piece_in (Some number) (Some length) = if nat_lt 1_048_576 length then None else Some (Piece number length)

-- the address of a client: 1 to 64 bytes of 33 to 126
abbrev pub is_address_byte : ℕ → Bool
is_address_byte b = nat_lt 32 b && nat_lt b 127

abbrev pub is_address : List ℕ → Bool
is_address address = nat_lt 0 (length address) && (nat_lt (length address) 65 && list_all is_address_byte address)

abbrev pub from_by : Option ℕ → List ℕ → Option Head
from_by None address = None
from_by (Some number) address = if is_address address then Some (From number) else None

-- a number, and the address of that connection's client
abbrev pub from_in : List ℕ → Option Head
from_in rest = from_by (numeral (before_first is_single_space rest)) (after_first is_single_space rest)

-- the address of a line that tells one: what stands behind the second blank
abbrev pub address_in : List ℕ → List ℕ
address_in line = after_first is_single_space (after_first is_single_space line)

-- so many bytes of a file of users, at most 1 MiB
abbrev pub users_head : Option ℕ → Option Head
users_head None = None
users_head (Some length) = if nat_lt 1_048_576 length then None else Some (Users length)

abbrev pub late_in : Option ℕ → Option Head
late_in None = None
late_in (Some number) = Some (Late number)

abbrev pub turned_by : List ℕ → Option ℕ → Option Head
turned_by address None = None
turned_by address (Some count) = if is_address address then Some (Turned count) else None

-- an address, and how many connections
abbrev pub turned_in : List ℕ → Option Head
turned_in rest = turned_by (before_first is_single_space rest) (numeral (after_first is_single_space rest))

-- the word of a line that stands between its first two blanks
abbrev pub second_word : List ℕ → List ℕ
second_word line = before_first is_single_space (after_first is_single_space line)

-- where the first word is none of those below
abbrev pub told_head_of : List ℕ → List ℕ → Option Head
told_head_of word rest =
    if bytes_eq word (codes "users") then users_head (numeral rest)
    else (if bytes_eq word (codes "late") then late_in (numeral rest)
    else (if bytes_eq word (codes "turned") then turned_in rest else piece_in (numeral word) (numeral rest)))

-- where the first word is none of `gone`, `taken` and `clock`
abbrev pub other_head_of : List ℕ → List ℕ → Option Head
other_head_of word rest =
    if bytes_eq word (codes "free") then free_in (numeral rest)
    else (if bytes_eq word (codes "from") then from_in rest else told_head_of word rest)

-- by the first word and what stands behind it
abbrev pub head_of : List ℕ → List ℕ → Option Head
head_of word rest =
    if bytes_eq word (codes "gone") then gone_in (numeral rest)
    else (if bytes_eq word (codes "taken") then taken_in rest
    else (if bytes_eq word (codes "clock") then clock_in (numeral rest) else other_head_of word rest))

-- a line that is one word
abbrev pub one_word : List ℕ → Option Head
one_word line =
    if bytes_eq line (codes "none") then Some Nothing
    else (if bytes_eq line (codes "touch") then Some Touch else (if bytes_eq line (codes "go") then Some Go else None))

-- by the word that is the line, or else by its words
abbrev pub head_by : Option Head → List ℕ → Option Head
head_by (Some h) line = Some h
head_by None line = head_of (before_first is_single_space line) (after_first is_single_space line)

-- what a line says, without its end
abbrev pub head : List ℕ → Option Head
head line = head_by (one_word line) line

-- how many bytes follow the line
abbrev pub more_in : Option Head → ℕ
more_in (Some (Piece number length)) = length
more_in (Some (Users length)) = length
more_in _ = 0

-- what it gives: the address that its line tells, or the bytes that follow the line
abbrev pub frame_bytes : Option Head → List ℕ → List ℕ → List ℕ
frame_bytes (Some (From number)) line behind = address_in line
frame_bytes (Some (Turned count)) line behind = second_word line
frame_bytes _ line behind = behind

-- ---- a frame that comes in

-- its line, of fewer than 4096 bytes, with the line feed (byte 10) at its end
pub record IsLine (line text : List ℕ) : Type 0 where
  pub whole : All (λ b. b ≢ 10) line
  pub short : length line < 4096
  pub text_is : text ≡ line ++ 10 ∷ []

-- the line says this, and the bytes follow it
pub record HasBytes (h : Head) (bytes text : List ℕ) : Type 0 where
  pub line : List ℕ
  pub first : List ℕ
  pub is_line : IsLine line first
  pub says : head line ≡ Some h
  pub text_is : text ≡ first ++ bytes

-- the line says how many bytes of the connection come, and they follow it
abbrev pub IsPiece : ℕ → List ℕ → List ℕ → Type 0
IsPiece number bytes text = HasBytes (Piece number (length bytes)) bytes text

-- the line says how many bytes of a file of users come, and they follow it
abbrev pub TellsUsers : List ℕ → List ℕ → Type 0
TellsUsers bytes text = HasBytes (Users (length bytes)) bytes text

-- the line says this
abbrev pub Says : Head → List ℕ → Type 0
Says h text = (line : List ℕ) × IsLine line text × (head line ≡ Some h)

-- the line tells this address of the connection's client
abbrev pub TellsAddress : ℕ → List ℕ → List ℕ → Type 0
TellsAddress number address text = (line : List ℕ) × IsLine line text × (head line ≡ Some (From number)) × (address ≡ address_in line)

-- the line tells that so many connections from this address had no place
abbrev pub TellsTurned : List ℕ → ℕ → List ℕ → Type 0
TellsTurned address count text = (line : List ℕ) × IsLine line text × (head line ≡ Some (Turned count)) × (address ≡ second_word line)

-- the line is no head, or it has no end within 4096 bytes
abbrev pub IsWrongLine : List ℕ → Type 0
IsWrongLine text = ((line : List ℕ) × IsLine line text × (head line ≡ None)) ⊎ (All (λ b. b ≢ 10) text × (4095 < length text))

-- a frame, with what its line says and its bytes
abbrev pub IsFrame : Option Head → List ℕ → List ℕ → Type 0
IsFrame None bytes text = IsWrongLine text
IsFrame (Some (Piece number length)) bytes text = IsPiece number bytes text
IsFrame (Some (Taken number count)) bytes text = Says (Taken number count) text
IsFrame (Some (Gone number)) bytes text = Says (Gone number) text
IsFrame (Some (Clock moment)) bytes text = Says (Clock moment) text
IsFrame (Some (Free count)) bytes text = Says (Free count) text
IsFrame (Some (From number)) bytes text = TellsAddress number bytes text
IsFrame (Some (Users length)) bytes text = TellsUsers bytes text
IsFrame (Some (Late number)) bytes text = Says (Late number) text
IsFrame (Some (Turned count)) bytes text = TellsTurned bytes count text
IsFrame (Some Nothing) bytes text = Says Nothing text
IsFrame (Some Touch) bytes text = Says Touch text
IsFrame (Some Go) bytes text = Says Go text

-- no frame has come whole: its line has no end yet, or its bytes are not all there
abbrev pub IsPart : List ℕ → Type 0
IsPart bytes =
    (All (λ b. b ≢ 10) bytes × (length bytes < 4096))
    ⊎ ((line : List ℕ) × (first : List ℕ) × (rest : List ℕ) × (bytes ≡ first ++ rest) × IsLine line first × (length rest < more_in (head line)))

-- ---- a stream of frames

-- what was read and is still to be taken
abbrev pub bytes_at_hand : {I : Type 0} → Frames I → List ℕ
bytes_at_hand frames = frames.buffer.items

-- what is still to be taken: what is at hand, and what the stream still has
abbrev pub unread : {I : Type 0} → (I → Option (List ℕ)) → Frames I → Option (List ℕ)
unread remaining frames = option_map (λ (rest : List ℕ). frames.buffer.items ++ rest) (remaining frames.input)

-- ---- a frame that goes out

-- the number of the connection, how many bytes there are, and these bytes
abbrev pub piece_text : ℕ → List ℕ → List ℕ
piece_text number bytes = decimal number ++ codes " " ++ decimal (length bytes) ++ codes "\n" ++ bytes

-- a front of the text was written
abbrev pub AppendsFront : List ℕ → Option (List ℕ) → Option (List ℕ) → Type 0
AppendsFront text held holds = (front : List ℕ) × (rest : List ℕ) × (text ≡ front ++ rest) × Appends held holds front

-- the client of the connection may send so many bytes more
abbrev pub grant_text : ℕ → ℕ → List ℕ
grant_text number count = codes "grant " ++ decimal number ++ codes " " ++ decimal count ++ codes "\n"

-- the connection waits for its client, of which so many bytes were taken: for the rest of a request, or for the next one
abbrev pub wait_text : ℕ → Bool → ℕ → List ℕ
wait_text number true count = codes "owes " ++ decimal number ++ codes " " ++ decimal count ++ codes "\n"
wait_text number false count = codes "rests " ++ decimal number ++ codes " " ++ decimal count ++ codes "\n"

-- a user was let in on the connection
abbrev pub known_text : ℕ → List ℕ
known_text number = codes "known " ++ decimal number ++ codes "\n"

-- a frame that goes out
abbrev pub IsFrameOut : List ℕ → Type 0
IsFrameOut text =
    ((number : ℕ) × (bytes : List ℕ) × (text ≡ piece_text number bytes)) ⊎ (((number : ℕ) × (count : ℕ) × (text ≡ grant_text number count))
    ⊎ (((number : ℕ) × (part : Bool) × (count : ℕ) × (text ≡ wait_text number part count)) ⊎ (((number : ℕ) × (text ≡ known_text number))
    ⊎ ((text ≡ codes "more\n") ⊎ (text ≡ codes "touched\n")))))

-- a front of one frame was written
abbrev pub BreaksOff : Option (List ℕ) → Option (List ℕ) → Type 0
BreaksOff held holds = (text : List ℕ) × IsFrameOut text × AppendsFront text held holds
