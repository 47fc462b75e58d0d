-- What the words of a line of `davreplay` say (own).
use Rattle.std.specs.Prelude.{ℕ, Bool, true, false, not, ◌&&◌, ◌||◌, ◌==◌, List, [], ◌∷◌, Option, Some, None, bytes_eq, codes, if◌then◌else◌, option_map, unwrap_or, slice_get, ◌-◌, filter, map}
use Rattle.std.specs.Char.{is_ascii_digit}
use Rattle.std.specs.List.{list_all, slice_split}
use Rattle.std.specs.Option.{option_map_or}
use Rattle.std.specs.Result.{result_ok}
use Rattle.hex.specs.Hex.{decode_of}
use Rattle.dav_headers_core.specs.Behind.{rest_after}
use Rattle.dav_headers_core.specs.Optional.{◌>>=◌, when}
use Rattle.dav_headers_core.specs.CommaPieces.{is_comma}
use Rattle.dav_path_core.specs.PathText.{PathText}
use Rattle.dav_path_core.specs.Segments.{segments, is_nonempty}
use Rattle.dav_files_core.specs.Resources.{Property}
use Rattle.dav_guarded_core.specs.Requests as plain
use Rattle.line_streams.specs.Numerals.{numeral}

-- a space
abbrev pub is_space : ℕ → Bool
is_space b = b == 32

-- the words of a line: what stands between spaces, but for nothing between two
unfoldable pub words : List ℕ → List (List ℕ)
words line = filter is_nonempty (slice_split is_space line)

-- ---- single words

-- the word for nothing
abbrev pub is_dash : List ℕ → Bool
is_dash word = bytes_eq word (codes "-")

-- whether a check or a lock is deep
unfoldable pub depth_of_word : List ℕ → Option Bool
depth_of_word word =
    if bytes_eq word (codes "shallow") then Some false else (
    if bytes_eq word (codes "deep") then Some true else None)

-- whether a lock is shared
unfoldable pub scope_of_word : List ℕ → Option Bool
scope_of_word word =
    if bytes_eq word (codes "exclusive") then Some false else (
    if bytes_eq word (codes "shared") then Some true else None)

-- nothing by a word of its own, or a number
unfoldable pub number_or : List ℕ → List ℕ → Option (Option ℕ)
number_or none word = if bytes_eq word none then Some None else option_map Some (numeral word)

-- no timeout, or so many seconds
abbrev pub timeout_word : List ℕ → Option (Option ℕ)
timeout_word = number_or (codes "-")

-- the end of a file, or a place in it
abbrev pub place_word : List ℕ → Option (Option ℕ)
place_word = number_or (codes "end")

-- no text, or the word itself
unfoldable pub text_word : List ℕ → Option (List ℕ)
text_word word = if is_dash word then None else Some word

-- no bytes, or those of an even number of hexadecimal digits
unfoldable pub hex_word : List ℕ → Option (List ℕ)
hex_word word = if is_dash word then Some [] else result_ok (decode_of word)

-- ---- labels

-- decimal digits, the first of them no `0`
abbrev pub is_count : List ℕ → Bool
is_count [] = false
is_count (first ∷ digits) = not (first == 48) && list_all is_ascii_digit (first ∷ digits)

-- `t`, and such digits
unfoldable pub is_label : List ℕ → Bool
is_label word = option_map_or is_count (rest_after (codes "t") word) false

-- the labels between commas, or none
unfoldable pub labels_word : List ℕ → Option (List (List ℕ))
labels_word word =
    if is_dash word then Some [] else when (list_all is_label (slice_split is_comma word)) (slice_split is_comma word)

-- the token of the lock that was granted as this one, from 1: tokens stand in the order of granting
unfoldable pub nth_token : List (List ℕ) → ℕ → Option (List ℕ)
nth_token tokens n = if n == 0 then None else slice_get tokens (n - 1)

-- the token of the lock that a label names, if it was granted
unfoldable pub token_at : List (List ℕ) → List ℕ → Option (List ℕ)
token_at tokens label = rest_after (codes "t") label >>= λ digits. numeral digits >>= λ n. nth_token tokens n

-- the token that a label stands for; where no such lock was granted its own text
abbrev pub labelled_token : List (List ℕ) → List ℕ → List ℕ
labelled_token tokens label = unwrap_or (token_at tokens label) label

-- ---- what the words behind a command's paths make of these

-- a command for each path, or pair of paths
abbrev pub Form : Type 0 → Type 0
Form P = Option (P → plain.Command)

-- a property without a prefix
abbrev pub property_word : List ℕ → List ℕ → Option (List ℕ) → Property
property_word space name xml = record { name = name; prefix = None; namespace = text_word space; xml = xml }

abbrev pub put_form : List ℕ → Form PathText
put_form hex = hex_word hex >>= λ bytes. Some (λ path. plain.Command.Put (segments path.bytes) bytes)

abbrev pub write_form : List ℕ → List ℕ → Form PathText
write_form place hex = place_word place >>= λ at. hex_word hex >>= λ bytes. Some (λ path. plain.Command.Write (segments path.bytes) at bytes)

abbrev pub read_form : List ℕ → List ℕ → Form PathText
read_form first second = numeral first >>= λ at. numeral second >>= λ count. Some (λ path. plain.Command.Read (segments path.bytes) at count)

abbrev pub move_form : Form (PathText × PathText)
move_form = Some (λ ends. plain.Command.Move (segments ends.0.bytes) (segments ends.1.bytes))

abbrev pub copy_form : Form (PathText × PathText)
copy_form = Some (λ ends. plain.Command.Copy (segments ends.0.bytes) (segments ends.1.bytes))

abbrev pub set_form : List ℕ → List ℕ → List ℕ → Form PathText
set_form space name hex = hex_word hex >>= λ xml.
    Some (λ path. plain.Command.PatchProps (segments path.bytes) ((true, property_word space name (Some xml)) ∷ []))

abbrev pub delete_form : List ℕ → List ℕ → Form PathText
delete_form space name = Some (λ path. plain.Command.PatchProps (segments path.bytes) ((false, property_word space name None) ∷ []))

abbrev pub props_form : Form PathText
props_form = Some (λ path. plain.Command.GetProps (segments path.bytes) false)

abbrev pub prop_form : List ℕ → List ℕ → Form PathText
prop_form space name = Some (λ path. plain.Command.GetProp (segments path.bytes) (property_word space name None))

-- a lock has no owner's text
abbrev pub lock_form : List ℕ → List ℕ → List ℕ → Form PathText
lock_form scope depth limit = scope_of_word scope >>= λ shared. depth_of_word depth >>= λ deep. timeout_word limit >>= λ timeout.
    Some (λ path. plain.Command.Lock path None timeout shared deep)

abbrev pub check_form : List ℕ → Form PathText
check_form depth = depth_of_word depth >>= λ deep. Some (λ path. plain.Command.Check (segments path.bytes) deep)

abbrev pub unlock_form : List (List ℕ) → List ℕ → Form PathText
unlock_form tokens label = when (is_label label) (λ path. plain.Command.Unlock (segments path.bytes) (labelled_token tokens label))

abbrev pub refresh_form : List (List ℕ) → List ℕ → List ℕ → Form PathText
refresh_form tokens label limit = when (is_label label) (labelled_token tokens label) >>= λ token. timeout_word limit >>= λ timeout.
    Some (λ path. plain.Command.Refresh (segments path.bytes) token timeout)

-- ---- which command its word names, by the count of words behind its path

unfoldable pub form_alone : List ℕ → Form PathText
form_alone command =
    if bytes_eq command (codes "list") then Some (λ path. plain.Command.List (segments path.bytes)) else (
    if bytes_eq command (codes "meta") then Some (λ path. plain.Command.Meta (segments path.bytes)) else (
    if bytes_eq command (codes "mkcol") then Some (λ path. plain.Command.MkCol (segments path.bytes)) else (
    if bytes_eq command (codes "remove") then Some (λ path. plain.Command.Remove (segments path.bytes)) else (
    if bytes_eq command (codes "props") then props_form else (
    if bytes_eq command (codes "discover") then Some (λ path. plain.Command.Discover (segments path.bytes)) else None)))))

abbrev pub has_two_paths : List ℕ → Bool
has_two_paths command = bytes_eq command (codes "move") || bytes_eq command (codes "copy")

unfoldable pub form_of_ends : List ℕ → Form (PathText × PathText)
form_of_ends command =
    if bytes_eq command (codes "move") then move_form else (
    if bytes_eq command (codes "copy") then copy_form else None)

unfoldable pub form_with_one : List (List ℕ) → List ℕ → List ℕ → Form PathText
form_with_one tokens command one =
    if bytes_eq command (codes "put") then put_form one else (
    if bytes_eq command (codes "unlock") then unlock_form tokens one else (
    if bytes_eq command (codes "check") then check_form one else None))

unfoldable pub form_with_two : List (List ℕ) → List ℕ → List ℕ → List ℕ → Form PathText
form_with_two tokens command one two =
    if bytes_eq command (codes "write") then write_form one two else (
    if bytes_eq command (codes "read") then read_form one two else (
    if bytes_eq command (codes "delprop") then delete_form one two else (
    if bytes_eq command (codes "prop") then prop_form one two else (
    if bytes_eq command (codes "refresh") then refresh_form tokens one two else None))))

unfoldable pub form_with_three : List ℕ → List ℕ → List ℕ → List ℕ → Form PathText
form_with_three command one two three =
    if bytes_eq command (codes "setprop") then set_form one two three else (
    if bytes_eq command (codes "lock") then lock_form one two three else None)

-- ---- the first three words of a line, and what they and its command ask

-- the moment, the principal, and the tokens that the labels stand for
pub record Head : Type 0 where
  pub now : ℕ
  pub principal : Option (List ℕ)
  pub tokens : List (List ℕ)

abbrev pub head_form : List (List ℕ) → List ℕ → List ℕ → List ℕ → Option Head
head_form tokens moment principal labels = numeral moment >>= λ now. labels_word labels >>= λ named.
    Some (record { now = now; principal = text_word principal; tokens = map (labelled_token tokens) named })

abbrev pub request_with : Head → plain.Command → plain.Request
request_with head command = record { principal = head.principal; tokens = head.tokens; now = head.now; command = command }
