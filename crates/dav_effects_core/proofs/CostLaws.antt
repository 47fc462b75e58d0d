-- No note has more bytes in a record than it costs.
use Rattle.std.proofs.Common.{◌≡◌, ◌≤◌, ℕ, ◌+◌, ◌-◌, Bool, true, false, List as Sequence, [], ◌∷◌, ◌++◌, length, drop, Option, Some, None, refl, ap, ◌∙◌, arith}
use Rattle.std.specs.Prelude.{IfSome}
use Rattle.std.specs.List.{AllByRecursion, flat_map, sum_by}
use Rattle.std.proofs.lemmas.List.{length-append, length-drop}
use Rattle.std.proofs.lemmas.List.Concat.{flat_map-cons}
use Rattle.std.proofs.lemmas.List.Sums.{sum_by-cons}
use Rattle.dav_path_core.specs.Fronts.{Path}
use Rattle.dav_path_core.specs.PathText.{folder_bytes}
use Rattle.dav_files_core.specs.Resources.{Property}
use Rattle.dav_guarded_core.specs.Requests.{Command}
use Rattle.dav_notes_core.specs.Asking.{Caller}
use Rattle.dav_notes_core.specs.Costs.{text_cost, path_cost, property_cost, patch_cost, caller_cost, command_cost, note_cost, notes_cost}
use Rattle.dav_notes_core.specs.Noting.{Noted}
use Rattle.dav_effects_core.specs.ByteForms.{number_text, counted_text, flag_text, optional_text, each_text, following_text, common_len}
use Rattle.dav_effects_core.specs.Records.{IsNoted, IsRecord}
use Rattle.dav_effects_core.specs.RecordText.{asker, caller_text, path_text, stored_property_text, patch_text, command_text, path_behind, body_of, drawn_text, note_text, notes_text, head_text, bodies_text, record_of_notes}

-- ---- fields

len_number : (n : ℕ) → length (number_text n) ≡ 8
unfolding number_text
len_number n = refl

len_counted : (bytes : Sequence ℕ) → length (counted_text bytes) ≡ length bytes + 8
len_counted bytes = omega (arith, length-append (number_text (length bytes)) bytes, len_number (length bytes))

len_flag : (b : Bool) → length (flag_text b) ≡ 1
len_flag true = refl
len_flag false = refl

len_optional : (text : Option (Sequence ℕ)) → length (optional_text counted_text text) ≤ text_cost text + 9
len_optional None = omega arith
len_optional (Some text) = omega (arith, len_counted text)

len_optional_number : (n : Option ℕ) → length (optional_text number_text n) ≤ 9
len_optional_number None = omega arith
len_optional_number (Some n) = omega (arith, len_number n)

len_drawn : (drawn : Option (Sequence ℕ)) → IfSome drawn (λ bytes. length bytes ≡ 16) → length (optional_text drawn_text drawn) ≤ 17
len_drawn None h = omega arith
len_drawn (Some bytes) h = omega (arith, h)

-- each of a list
len_all : {A : Type 0} (text : A → Sequence ℕ) (cost : A → ℕ) → ((x : A) → length (text x) ≤ cost x) → (xs : Sequence A) → length (flat_map text xs) ≤ sum_by cost xs
len_all text cost each [] = omega arith
len_all text cost each (x ∷ xs) =
    omega (arith, ap length (flat_map-cons text x xs), length-append (text x) (flat_map text xs), each x, len_all text cost each xs, sum_by-cons cost x xs)

len_each : {A : Type 0} (text : A → Sequence ℕ) (cost : A → ℕ) → ((x : A) → length (text x) ≤ cost x) → (xs : Sequence A) → length (each_text text xs) ≤ sum_by cost xs + 8
len_each text cost each xs = omega (arith, length-append (number_text (length xs)) (flat_map text xs), len_number (length xs), len_all text cost each xs)

len_following : (before text : Sequence ℕ) → length (following_text before text) ≤ length text + 16
unfolding following_text
len_following before text =
    let rest = drop (common_len before text) text in
    omega (
      arith,
      length-append (number_text (common_len before text)) (number_text (length text) ++ rest),
      length-append (number_text (length text)) rest,
      len_number (common_len before text),
      len_number (length text),
      length-drop (common_len before text) text,
    )

len_folder : (path : Path) → length (folder_bytes path) ≤ path_cost path
len_folder path = omega (arith, len_all (λ s. s ++ 47 ∷ []) (λ s. length s + 1) (λ s. omega (arith, length-append s (47 ∷ []))) path)

len_path : (before : Sequence ℕ) (path : Path) → length (path_text before path) ≤ path_cost path + 16
len_path before path = omega (arith, len_following before (folder_bytes path), len_folder path)

len_property : (p : Property) → length (stored_property_text p) ≤ property_cost p + 35
unfolding stored_property_text
len_property p =
    let rest = optional_text counted_text p.namespace ++ optional_text counted_text p.xml in
    omega (
      arith,
      length-append (counted_text p.name) (optional_text counted_text p.prefix ++ rest),
      length-append (optional_text counted_text p.prefix) rest,
      length-append (optional_text counted_text p.namespace) (optional_text counted_text p.xml),
      len_counted p.name,
      len_optional p.prefix,
      len_optional p.namespace,
      len_optional p.xml,
    )

len_patch : (e : Bool × Property) → length (patch_text e) ≤ property_cost e.1 + 36
len_patch e = omega (arith, length-append (flag_text e.0) (stored_property_text e.1), len_flag e.0, len_property e.1)

-- ---- who asks, and what for

len_caller : (who : Caller) → length (caller_text who) ≤ caller_cost who + 25
unfolding caller_text
len_caller who =
    let tokens = each_text counted_text who.tokens in
    omega (
      arith,
      length-append (number_text who.now) (optional_text counted_text who.principal ++ tokens),
      length-append (optional_text counted_text who.principal) tokens,
      len_number who.now,
      len_optional who.principal,
      len_each counted_text (λ t. length t + 8) (λ t. omega (arith, len_counted t)) who.tokens,
    )

len_two : (before : Sequence ℕ) (from to : Path) → length (path_text before from ++ path_text (folder_bytes from) to) ≤ (path_cost from + path_cost to) + 32
len_two before from to = omega (arith, length-append (path_text before from) (path_text (folder_bytes from) to), len_path before from, len_path (folder_bytes from) to)

-- a command and its body
len_command : (before : Sequence ℕ) (c : Command) → length (command_text before c) + length (body_of c) ≤ command_cost c + 45
unfolding command_text
len_command before (Command.Put path bytes) = omega (arith, length-append (path_text before path) (number_text (length bytes)), len_path before path, len_number (length bytes))
len_command before (Command.Write path at bytes) =
    omega (
      arith,
      length-append (path_text before path) (optional_text number_text at ++ number_text (length bytes)),
      length-append (optional_text number_text at) (number_text (length bytes)),
      len_path before path,
      len_optional_number at,
      len_number (length bytes),
    )
len_command before (Command.MkCol path) = omega (arith, len_path before path)
len_command before (Command.Remove path) = omega (arith, len_path before path)
len_command before (Command.Move from to) = omega (arith, len_two before from to)
len_command before (Command.Copy from to) = omega (arith, len_two before from to)
len_command before (Command.PatchProps path patch) =
    omega (arith, length-append (path_text before path) (each_text patch_text patch), len_path before path, len_each patch_text (λ e. property_cost e.1 + 36) len_patch patch)
len_command before (Command.Lock path owner timeout shared deep) =
    let flags = flag_text shared ++ flag_text deep in
    let times = optional_text number_text timeout ++ flags in
    let owned = optional_text counted_text owner ++ times in
    omega (
      arith,
      length-append (counted_text path.prefix) (following_text before path.bytes ++ owned),
      length-append (following_text before path.bytes) owned,
      length-append (optional_text counted_text owner) times,
      length-append (optional_text number_text timeout) flags,
      length-append (flag_text shared) (flag_text deep),
      len_counted path.prefix,
      len_following before path.bytes,
      len_optional owner,
      len_optional_number timeout,
      len_flag shared,
      len_flag deep,
    )
len_command before (Command.Unlock path token) = omega (arith, length-append (path_text before path) (counted_text token), len_path before path, len_counted token)
len_command before (Command.Refresh path token timeout) =
    omega (
      arith,
      length-append (path_text before path) (counted_text token ++ optional_text number_text timeout),
      length-append (counted_text token) (optional_text number_text timeout),
      len_path before path,
      len_counted token,
      len_optional_number timeout,
    )
len_command before (Command.Read path at count) = omega arith
len_command before (Command.List path) = omega arith
len_command before (Command.Meta path) = omega arith
len_command before (Command.GetProps path content) = omega arith
len_command before (Command.GetProp path wanted) = omega arith
len_command before (Command.Discover path) = omega arith
len_command before (Command.Check path deep) = omega arith

-- ---- notes

len_note : (caller path : Sequence ℕ) (n : Noted) → IfSome n.drawn (λ bytes. length bytes ≡ 16) → length (note_text caller path n) + length (body_of n.request.command) ≤ note_cost n
unfolding note_text
len_note caller path n drawn =
    let who = following_text caller (caller_text (asker n.request)) in
    let command = command_text path n.request.command in
    omega (
      arith,
      length-append who (optional_text drawn_text n.drawn ++ command),
      length-append (optional_text drawn_text n.drawn) command,
      len_following caller (caller_text (asker n.request)),
      len_caller (asker n.request),
      len_drawn n.drawn drawn,
      len_command path n.request.command,
    )

len_notes : (caller path : Sequence ℕ) (ns : Sequence Noted) → AllByRecursion IsNoted ns
    → length (notes_text caller path ns) + length (bodies_text ns) ≤ notes_cost ns
unfolding notes_text
len_notes caller path [] h = omega arith
len_notes caller path (n ∷ ns) h =
    let more = notes_text (caller_text (asker n.request)) (path_behind path n.request.command) ns in
    omega (
      arith,
      length-append (note_text caller path n) more,
      ap length (flat_map-cons (λ m. body_of m.request.command) n ns),
      length-append (body_of n.request.command) (bodies_text ns),
      len_note caller path n h.0.drawn,
      len_notes (caller_text (asker n.request)) (path_behind path n.request.command) ns h.1,
      sum_by-cons note_cost n ns,
    )

len_record : (ns : Sequence Noted) → AllByRecursion IsNoted ns → length (record_of_notes ns) ≤ notes_cost ns + 16
len_record ns h =
    omega (
      arith,
      length-append (counted_text (head_text ns)) (bodies_text ns),
      len_counted (head_text ns),
      length-append (number_text (length ns)) (notes_text [] [] ns),
      len_number (length ns),
      len_notes [] [] ns h,
    )

pub record_within : (ns : Sequence Noted) (bytes : Sequence ℕ) → IsRecord ns bytes → length bytes ≤ notes_cost ns + 16
record_within ns bytes h = omega (arith, ap length h.written, len_record ns h.notes)
