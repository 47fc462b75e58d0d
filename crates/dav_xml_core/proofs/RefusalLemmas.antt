-- One more piece of a text that may be refused, and that a text is answered with nodes exactly where it is a document.
use Rattle.std.proofs.Common.{◌≡◌, refl, sym, ap, ◌∙◌, ℕ, zero, suc, ◌+◌, ◌-◌, ◌<◌, ◌≤◌, arith, Bool, true, false, ◌&&◌, cond, List, [], ◌∷◌, length, chars, Option, None, Some, Result, Ok, Err}
use Rattle.std.specs.Char.{len_utf8}
use Rattle.std.specs.List.{list_all}
use Rattle.std.specs.Option.{ok_or}
use Rattle.std.specs.Result.{result_ok}
use Rattle.std.specs.Str.{is_utf8}
use Rattle.std.specs.Str.Lossy.{utf8_valid_len}
use Rattle.dav_xml_core.specs.Characters.{is_char, lines_from, characters}
use Rattle.dav_xml_core.specs.Declarations.{after_declaration, are_fields, declaration_at, fields_at}
use Rattle.dav_xml_core.specs.Documents.{Node}
use Rattle.dav_xml_core.specs.Markup.{RawAttribute}
use Rattle.dav_xml_core.specs.Optional.{◌>>=◌, when, choose}
use Rattle.dav_xml_core.specs.Reading.{Front, nothing, finished_nodes, nodes_of, step, without_mark, content_nodes, document_of}
use Rattle.dav_xml_core.specs.Refusals.{XmlRefusal, NotWellFormed, Encoding, ◌>=>◌, refusal_of_text, read_on, nodes_answer, names_another_encoding, declaration_answer, content_answer, with_place, has_utf16_mark, no_char_at, characters_answer, reading_answer}
use Rattle.dav_xml_core.proofs.ReaderLemmas.{rest_of, starts, at_the_end, one_piece, none_are}

-- ---- piece by piece

left : (n k : ℕ) → k < n → n - k ≡ suc (n - (k + 1))
left n k lt = omega arith

none_left : (n k : ℕ) → n ≤ k → n - k ≡ 0
none_left n k le = omega arith

abbrev after_step : ℕ → XmlRefusal → Option (Front × List ℕ) → Result (List Node) XmlRefusal
after_step n refusal stepped = choose stepped (λ next. read_on next.0 n next.1) (Err refusal)

by_step : (front : Front) (n : ℕ) (text : List ℕ) → (length text ≡ 0 → ⊥) → read_on front (suc n) text ≡ after_step n (refusal_of_text text) (step front text)
unfolding read_on
by_step front n [] more = absurd (more refl)
by_step front n (c ∷ text) more = refl

by_end : (front : Front) (n : ℕ) (text : List ℕ) → length text ≡ 0 → read_on front (suc n) text ≡ ok_or (finished_nodes front) (NotWellFormed 0)
unfolding read_on
by_end front n [] none = refl
by_end front n (c ∷ text) none = absurd (omega arith)

pub begins : (text : List ℕ) → read_on nothing (suc (length text) - 0) text ≡ nodes_answer text
unfolding nodes_answer
begins text = ap (λ (n : ℕ). read_on nothing n text) all
  where
    all : suc (length text) - 0 ≡ suc (length text)
    all = omega arith

pub ends : (front : Front) (n k : ℕ) (text : List ℕ) (whole : Result (List Node) XmlRefusal) → k < n → length text ≡ 0
    → read_on front (n - k) text ≡ whole → whole ≡ ok_or (finished_nodes front) (NotWellFormed 0)
ends front n k text whole lt none inv = sym inv ∙ ap (λ (m : ℕ). read_on front m text) (left n k lt) ∙ by_end front (n - (k + 1)) text none

pub goes_on : (front : Front) (n k : ℕ) (text : List ℕ) (more : Front) (after : List ℕ) (whole : Result (List Node) XmlRefusal) → k < n → (length text ≡ 0 → ⊥)
    → step front text ≡ Some (more, after) → read_on front (n - k) text ≡ whole → read_on more (n - (k + 1)) after ≡ whole
goes_on front n k text more after whole lt some found inv =
    sym (ap (λ (m : ℕ). read_on front m text) (left n k lt) ∙ by_step front (n - (k + 1)) text some ∙ ap (after_step (n - (k + 1)) (refusal_of_text text)) found) ∙ inv

pub fails : (front : Front) (n k : ℕ) (text : List ℕ) (whole : Result (List Node) XmlRefusal) → k < n → (length text ≡ 0 → ⊥)
    → step front text ≡ None → read_on front (n - k) text ≡ whole → whole ≡ Err (refusal_of_text text)
fails front n k text whole lt some found inv =
    sym inv ∙ ap (λ (m : ℕ). read_on front m text) (left n k lt) ∙ by_step front (n - (k + 1)) text some ∙ ap (after_step (n - (k + 1)) (refusal_of_text text)) found

pub exhausted : (front : Front) (n k : ℕ) (text : List ℕ) (whole : Result (List Node) XmlRefusal) → n ≤ k → read_on front (n - k) text ≡ whole → whole ≡ Err (NotWellFormed 0)
unfolding read_on
exhausted front n k text whole le inv = sym inv ∙ ap (λ (m : ℕ). read_on front m text) (none_left n k le)

-- ---- answered with nodes exactly where it is a document

ok_or_is : {A : Type 0} (o : Option A) (refusal : XmlRefusal) → result_ok (ok_or o refusal) ≡ o
ok_or_is (Some x) refusal = refl
ok_or_is None refusal = refl

ok_then : {A B : Type 0} (r : Result A XmlRefusal) (f : A → Result B XmlRefusal) → result_ok (r >=> f) ≡ result_ok r >>= λ x. result_ok (f x)
ok_then (Ok x) f = refl
ok_then (Err e) f = refl

ok_placed : {A : Type 0} (text : List ℕ) (r : Result A XmlRefusal) → result_ok (with_place text r) ≡ result_ok r
ok_placed text (Ok x) = refl
ok_placed text (Err e) = refl

same_then : {A B : Type 0} (o : Option A) (f g : A → Option B) → ((x : A) → f x ≡ g x) → o >>= f ≡ o >>= g
same_then (Some x) f g h = h x
same_then None f g h = refl

nodes_agree : (n : ℕ) (front : Front) (text : List ℕ) → result_ok (read_on front n text) ≡ rest_of front n text
unfolding read_on
nodes_agree zero front text = sym (none_are front text)
nodes_agree (suc n) front [] = ok_or_is (finished_nodes front) (NotWellFormed 0) ∙ sym (at_the_end front n)
nodes_agree (suc n) front (c ∷ text) = next (λ more after. nodes_agree n more after) (step front (c ∷ text)) ∙ sym (one_piece front n c text)
  where
    next : ((more : Front) (after : List ℕ) → result_ok (read_on more n after) ≡ rest_of more n after) → (stepped : Option (Front × List ℕ))
        → result_ok (after_step n (refusal_of_text (c ∷ text)) stepped) ≡ stepped >>= λ x. rest_of x.0 n x.1
    next others (Some x) = others x.0 x.1
    next others None = refl

all_nodes_agree : (text : List ℕ) → result_ok (nodes_answer text) ≡ nodes_of text
unfolding nodes_answer
all_nodes_agree text = nodes_agree (suc (length text)) nothing text ∙ starts text

declarations_agree : (text : List ℕ) → result_ok (declaration_answer text) ≡ after_declaration text
unfolding declaration_answer after_declaration
declarations_agree text = at (declaration_at text)
  where
    fit : (found : List RawAttribute × List ℕ) (b other : Bool) → result_ok (cond b (Ok found.1) (cond other (Err Encoding) (Err (refusal_of_text text)))) ≡ when b found.1
    fit found true other = refl
    fit found false true = refl
    fit found false false = refl

    of : (fields : Option (List RawAttribute × List ℕ))
        → result_ok (choose fields (λ found. cond (are_fields found.0) (Ok found.1) (cond (names_another_encoding found.0) (Err Encoding) (Err (refusal_of_text text)))) (Err (refusal_of_text text)))
        ≡ fields >>= λ found. when (are_fields found.0) found.1
    of (Some found) = fit found (are_fields found.0) (names_another_encoding found.0)
    of None = refl

    at : (declaration : Option (List ℕ))
        → result_ok (choose declaration (λ rest. choose (fields_at rest) (λ found. cond (are_fields found.0) (Ok found.1) (cond (names_another_encoding found.0) (Err Encoding) (Err (refusal_of_text text)))) (Err (refusal_of_text text))) (Ok text))
        ≡ choose declaration (λ rest. fields_at rest >>= λ found. when (are_fields found.0) found.1) (Some text)
    at (Some rest) = of (fields_at rest)
    at None = refl

contents_agree : (text : List ℕ) → result_ok (content_answer text) ≡ content_nodes text
unfolding content_answer content_nodes
contents_agree text =
    ok_then (declaration_answer (without_mark text)) nodes_answer
    ∙ ap (λ (o : Option (List ℕ)). o >>= λ x. result_ok (nodes_answer x)) (declarations_agree (without_mark text))
    ∙ same_then (after_declaration (without_mark text)) (λ x. result_ok (nodes_answer x)) nodes_of all_nodes_agree

lines_if : (at : ℕ) (text whole : List ℕ) → (result_ok (choose (no_char_at at text) (λ place. Err (NotWellFormed place)) (Ok whole)) >>= λ t. Some (lines_from false t))
    ≡ when (list_all is_char text) (lines_from false whole)
lines_if at [] whole = refl
lines_if at (c ∷ text) whole = go (lines_if (at + len_utf8 c) text whole) (is_char c)
  where
    go : ((result_ok (choose (no_char_at (at + len_utf8 c) text) (λ place. Err (NotWellFormed place)) (Ok whole)) >>= λ t. Some (lines_from false t))
        ≡ when (list_all is_char text) (lines_from false whole)) → (b : Bool) → (result_ok (choose (cond b (no_char_at (at + len_utf8 c) text) (Some at)) (λ place. Err (NotWellFormed place)) (Ok whole)) >>= λ t. Some (lines_from false t))
        ≡ when (b && list_all is_char text) (lines_from false whole)
    go others true = others
    go others false = refl

characters_agree : (bytes : List ℕ) → (result_ok (characters_answer bytes) >>= λ text. Some (lines_from false text)) ≡ characters bytes
unfolding characters_answer
characters_agree bytes = go (is_utf8 bytes) (has_utf16_mark bytes)
  where
    go : (b mark : Bool) → (result_ok (cond b (choose (no_char_at 0 (chars bytes)) (λ at. Err (NotWellFormed at)) (Ok (chars bytes))) (cond mark (Err Encoding) (Err (NotWellFormed (utf8_valid_len bytes)))))
        >>= λ text. Some (lines_from false text))
        ≡ when (b && list_all is_char (chars bytes)) (lines_from false (chars bytes))
    go true mark = lines_if 0 (chars bytes) (chars bytes)
    go false true = refl
    go false false = refl

in_lines : (o : Option (List ℕ)) → (o >>= λ text. content_nodes (lines_from false text)) ≡ ((o >>= λ text. Some (lines_from false text)) >>= content_nodes)
in_lines (Some text) = refl
in_lines None = refl

pub answers_agree : (bytes : List ℕ) → result_ok (reading_answer bytes) ≡ document_of bytes
unfolding reading_answer document_of
answers_agree bytes =
    ok_then (characters_answer bytes) (λ text. with_place text (content_answer (lines_from false text)))
    ∙ same_then (result_ok (characters_answer bytes)) (λ text. result_ok (with_place text (content_answer (lines_from false text)))) (λ text. content_nodes (lines_from false text))
    (λ text. ok_placed text (content_answer (lines_from false text)) ∙ contents_agree (lines_from false text))
    ∙ in_lines (result_ok (characters_answer bytes))
    ∙ ap (λ (o : Option (List ℕ)). o >>= content_nodes) (characters_agree bytes)
