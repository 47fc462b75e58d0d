-- The line of a log for one request, or for clients that were sent away (own).
use Rattle.std.specs.Prelude.{ℕ, ◌+◌, ◌/◌, ◌%◌, Bool, not, ◌==◌, ◌&&◌, ◌||◌, nat_le, cond, List, [], ◌∷◌, ◌++◌, take, drop, codes, decimal}
use Rattle.std.specs.List.{flat_map}
use Rattle.turn_fronts.specs.declared.lines.Format.{Format}
use Rattle.turn_fronts.specs.declared.lines.Format.TheVariants.{Common, Combined, Json}
use Rattle.turn_fronts.specs.declared.lines.Place.{Place}
use Rattle.turn_fronts.specs.declared.lines.Place.TheVariants.{InWord, InQuotes, InJson}

-- ---- what a client chooses

-- a byte that is seen, and is neither `"` nor `\`; between quotes a blank, too
abbrev pub is_shown : Place → ℕ → Bool
is_shown InQuotes b = nat_le 32 b && (nat_le b 126 && not (b == 34 || b == 92))
is_shown place b = nat_le 33 b && (nat_le b 126 && not (b == 34 || b == 92))

-- what stands before the two digits of a byte that is not shown: `\x`, or `\u00` in JSON (RFC 8259 section 7)
abbrev pub escape : Place → List ℕ
escape InJson = codes "\\u00"
escape place = codes "\\x"

-- a digit of base 16, in capital letters
abbrev pub hex_letter : ℕ → ℕ
hex_letter n = cond (nat_le n 9) (48 + n) (55 + n)

-- a byte as it stands in a line
abbrev pub escaped_byte : Place → ℕ → List ℕ
escaped_byte place b = cond (is_shown place b) (b ∷ []) (escape place ++ hex_letter (b / 16) ∷ hex_letter (b % 16) ∷ [])

abbrev pub escaped_bytes : Place → List ℕ → List ℕ
escaped_bytes place bytes = flat_map (escaped_byte place) bytes

-- ---- what a line tells

-- a request, by its method and its target; or something that is none; or so many connections that had no place
pub data Told : Type 0 where
  Request : List ℕ → List ℕ → Told
  Nothing : Told
  Connections : ℕ → Told

-- where a client is, or who was let in, as it stands in a line: `-` where nobody told
abbrev pub shown_word : List ℕ → List ℕ
shown_word [] = codes "-"
shown_word (b ∷ word) = b ∷ word

-- Where its client is, who was let in, the moment in seconds since 1970 and as HTTP writes dates, what was asked, the status of the answer and how many bytes went out as its body, how many microseconds it
-- took, and what the fields `Referer` and `User-Agent` have.
pub record LogEntry : Type 0 where
  pub address : List ℕ
  pub user : List ℕ
  pub seconds : ℕ
  pub date : List ℕ
  pub told : Told
  pub status : ℕ
  pub bytes : ℕ
  pub took : ℕ
  pub referer : List ℕ
  pub agent : List ℕ

-- ---- a line

-- `Sun, 06 Nov 1994 08:49:37 GMT` (RFC 9110 section 5.6.7) is `06/Nov/1994:08:49:37 +0000`
unfoldable pub log_date : List ℕ → List ℕ
log_date date = take 2 (drop 5 date) ++ codes "/" ++ take 3 (drop 8 date) ++ codes "/" ++ take 4 (drop 12 date) ++ codes ":" ++ take 8 (drop 17 date) ++ codes " +0000"

-- `METHOD TARGET HTTP/1.1`, `-` or `COUNT connections`
abbrev pub log_told : Place → Told → List ℕ
log_told place (Request method target) = escaped_bytes place method ++ codes " " ++ escaped_bytes place target ++ codes " HTTP/1.1"
log_told place Nothing = codes "-"
log_told place (Connections count) = decimal count ++ codes " connections"

-- `ADDRESS - USER [DATE] "TOLD" STATUS BYTES`, as the common log format has it
abbrev pub log_common : LogEntry → List ℕ
log_common e =
    escaped_bytes InWord e.address ++ codes " - " ++ escaped_bytes InWord e.user ++ codes " [" ++ log_date e.date ++ codes "] \"" ++ log_told InWord e.told ++ codes "\" " ++ decimal e.status ++ codes " " ++ decimal e.bytes

-- ` "REFERER" "USER-AGENT"`
abbrev pub log_fields : LogEntry → List ℕ
log_fields e = codes " \"" ++ escaped_bytes InQuotes e.referer ++ codes "\" \"" ++ escaped_bytes InQuotes e.agent ++ codes "\""

-- ` MICROSECONDS`, and the end of the line
abbrev pub log_took : LogEntry → List ℕ
log_took e = codes " " ++ decimal e.took ++ codes "\n"

-- ---- an object of JSON (RFC 8259)

-- `"NAME":NUMBER`
unfoldable pub json_number : List ℕ → ℕ → List ℕ
json_number name number = codes "\"" ++ name ++ codes "\":" ++ decimal number

-- `"NAME":"TEXT"`
unfoldable pub json_text : List ℕ → List ℕ → List ℕ
json_text name text = codes "\"" ++ name ++ codes "\":\"" ++ escaped_bytes InJson text ++ codes "\""

-- `"request":"TOLD"`
unfoldable pub json_told : Told → List ℕ
json_told told = codes "\"request\":\"" ++ log_told InJson told ++ codes "\""

-- `{"time":SECONDS,"address":"ADDRESS","user":"USER",`
abbrev pub log_client_json : LogEntry → List ℕ
log_client_json e = codes "{" ++ json_number (codes "time") e.seconds ++ codes "," ++ json_text (codes "address") e.address ++ codes "," ++ json_text (codes "user") e.user ++ codes ","

-- `"request":"TOLD","status":STATUS,`
abbrev pub log_told_json : LogEntry → List ℕ
log_told_json e = json_told e.told ++ codes "," ++ json_number (codes "status") e.status ++ codes ","

-- `"bytes":BYTES,"took":MICROSECONDS,`
abbrev pub log_answer_json : LogEntry → List ℕ
log_answer_json e = json_number (codes "bytes") e.bytes ++ codes "," ++ json_number (codes "took") e.took ++ codes ","

-- `"referer":"REFERER","agent":"USER-AGENT"}`, and the end of the line
abbrev pub log_fields_json : LogEntry → List ℕ
log_fields_json e = json_text (codes "referer") e.referer ++ codes "," ++ json_text (codes "agent") e.agent ++ codes "}\n"

-- by the format that is chosen
abbrev pub log_line : Format → LogEntry → List ℕ
log_line Common e = log_common e ++ log_took e
log_line Combined e = log_common e ++ log_fields e ++ log_took e
log_line Json e = log_client_json e ++ log_told_json e ++ log_answer_json e ++ log_fields_json e
