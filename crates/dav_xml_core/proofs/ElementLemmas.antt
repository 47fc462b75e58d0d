-- What is read is one element.
use Rattle.std.proofs.Common.{◌≡◌, refl, sym, ap, subst, ◌∙◌, ℕ, suc, arith, Bool, true, false, ◌&&◌, ◌||◌, not, cond, ◌⊎◌, inl, inr, List, [], ◌∷◌, ◌++◌, length, Option, None, Some}
use Rattle.std.proofs.lemmas.List.{append_assoc, append-nil, length-append}
use Rattle.std.proofs.lemmas.Bool.{false≢true}
use Rattle.std.proofs.lemmas.Option.{none-some, same_Some, some_pair_parts}
use Rattle.dav_xml_core.proofs.BuilderLemmas.{last_pushed}
use Rattle.std.specs.List.{list_all}
use Rattle.dav_xml_core.specs.Characters.{is_white, characters}
use Rattle.dav_xml_core.specs.Documents.{Node, Start, End, Name, Attribute, closes, is_element}
use Rattle.dav_xml_core.specs.Markup.{RawAttribute, Piece, Tag, EndTag, Characters, CData, Aside, piece_at}
use Rattle.dav_xml_core.specs.Names.{QName}
use Rattle.dav_xml_core.specs.Namespaces.{Binding, Started, started_of}
use Rattle.dav_xml_core.specs.Optional.{◌>>=◌, when}
use Rattle.dav_xml_core.specs.Reading.{Front, Element, nothing, is_empty, last_of, text_nodes, with_start_tag, with_end_tag, with_tag, content_of, with_characters, with_cdata, with_piece, with_pieces, finished_nodes, nodes_of, content_nodes, without_mark, document_of}
use Rattle.dav_xml_core.specs.Declarations.{after_declaration}
use Rattle.dav_xml_core.specs.Sequences.{all_of}

-- the nodes begin an element, in which so many have begun and not ended
abbrev Begins : List Node → ℕ → Type 0
Begins nodes n = (rest : List Node) → is_element (nodes ++ rest) ≡ closes n rest

record Before (nodes : List Node) (text : List ℕ) (elements : List Element) : Type 0 where
  no_nodes : nodes ≡ []
  no_text : text ≡ []
  no_elements : elements ≡ []

record Inside (nodes : List Node) (text : List ℕ) (elements : List Element) : Type 0 where
  begins : Begins nodes (length elements)
  some : is_empty nodes ≡ false
  over : length elements ≡ 0 → text ≡ []

abbrev IsState : List Node → List ℕ → List Element → Type 0
IsState nodes text elements = Before nodes text elements ⊎ Inside nodes text elements

abbrev IsFront : Front → Type 0
IsFront front = IsState front.nodes front.text front.elements

text_inside : (m : ℕ) (text : List ℕ) (rest : List Node) → closes (suc m) (text_nodes text ++ rest) ≡ closes (suc m) rest
text_inside m [] rest = refl
text_inside m (c ∷ text) rest = refl

no_cons : {A : Type 0} (x : A) (xs : List A) → x ∷ xs ≡ [] → ⊥
no_cons x xs e = cc

no_pushed : {A : Type 0} (xs : List A) (x : A) → xs ++ x ∷ [] ≡ [] → ⊥
no_pushed [] x e = cc
no_pushed (y ∷ xs) x e = cc

-- one more node behind the text
pushed : (nodes : List Node) (text : List ℕ) (m : ℕ) (node : Node) (rest : List Node) → Begins nodes (suc m)
    → is_element ((nodes ++ text_nodes text ++ node ∷ []) ++ rest) ≡ closes (suc m) (node ∷ rest)
pushed nodes text m node rest begins =
    ap is_element (append_assoc (nodes ++ text_nodes text) (node ∷ []) rest ∙ append_assoc nodes (text_nodes text) (node ∷ rest))
    ∙ begins (text_nodes text ++ node ∷ rest) ∙ text_inside m text (node ∷ rest)

pub some_pushed : {A : Type 0} (xs : List A) (x : A) → is_empty (xs ++ x ∷ []) ≡ false
some_pushed [] x = refl
some_pushed (y ∷ xs) x = refl

longer : {A : Type 0} (xs : List A) (x : A) → length (xs ++ x ∷ []) ≡ suc (length xs)
longer xs x = length-append xs (x ∷ []) ∙ omega arith

-- ---- a start tag

first_begins : (nodes : List Node) (text : List ℕ) (name : Name) (attributes : List Attribute) → nodes ≡ [] → text ≡ []
    → Begins (nodes ++ text_nodes text ++ Start name attributes ∷ []) 1
first_begins nodes text name attributes e f rest =
    ap (λ (x : List Node). is_element ((x ++ text_nodes text ++ Start name attributes ∷ []) ++ rest)) e
    ∙ ap (λ (x : List ℕ). is_element (([] ++ text_nodes x ++ Start name attributes ∷ []) ++ rest)) f

start_keeps : (nodes : List Node) (text : List ℕ) (elements : List Element) (element : Element) (name : Name) (attributes : List Attribute)
    → IsState nodes text elements → (not (is_empty elements) || is_empty nodes) ≡ true
    → IsState (nodes ++ text_nodes text ++ Start name attributes ∷ []) [] (elements ++ element ∷ [])
start_keeps nodes text [] element name attributes (inl before) allowed =
    inr (record { begins = first_begins nodes text name attributes before.no_nodes before.no_text; some = some_pushed (nodes ++ text_nodes text) (Start name attributes); over = λ _. refl })
start_keeps nodes text [] element name attributes (inr inside) allowed = absurd (false≢true (sym inside.some ∙ allowed))
start_keeps nodes text (x ∷ elements) element name attributes (inl before) allowed = absurd (no_cons x elements before.no_elements)
start_keeps nodes text (x ∷ elements) element name attributes (inr inside) allowed =
    inr (record {
      begins = λ rest. pushed nodes text (length elements) (Start name attributes) rest inside.begins ∙ ap (λ (n : ℕ). closes n rest) (sym (longer (x ∷ elements) element));
      some = some_pushed (nodes ++ text_nodes text) (Start name attributes);
      over = λ _. refl;
    })

-- ---- an end tag

end_keeps : (nodes : List Node) (text : List ℕ) (elements before : List Element) (element : Element)
    → IsState nodes text elements → elements ≡ before ++ element ∷ []
    → IsState (nodes ++ text_nodes text ++ End ∷ []) [] before
end_keeps nodes text elements before element (inl none) e = absurd (no_pushed before element (sym e ∙ none.no_elements))
end_keeps nodes text elements before element (inr inside) e =
    let count : length elements ≡ suc (length before) = ap length e ∙ longer before element in
    let begins : Begins nodes (suc (length before)) = λ rest. inside.begins rest ∙ ap (λ (n : ℕ). closes n rest) count in
    inr (record {
      begins = λ rest. pushed nodes text (length before) End rest begins;
      some = some_pushed (nodes ++ text_nodes text) End;
      over = λ _. refl;
    })

-- ---- text

text_keeps : (nodes : List Node) (text more : List ℕ) (elements : List Element) → IsState nodes text elements → is_empty elements ≡ false → IsState nodes more elements
text_keeps nodes text more elements (inl before) h = absurd (false≢true (sym h ∙ ap is_empty before.no_elements))
text_keeps nodes text more [] (inr inside) h = absurd (false≢true (sym h))
text_keeps nodes text more (x ∷ elements) (inr inside) h = inr (record { begins = inside.begins; some = inside.some; over = λ e. absurd (omega arith) })

-- ---- pieces

pub bind_some : {A B : Type 0} (o : Option A) (f : A → Option B) (y : B) → (o >>= f) ≡ Some y → (x : A) × (o ≡ Some x) × (f x ≡ Some y)
bind_some None f y e = absurd (none-some y e)
bind_some (Some x) f y e = (x, refl, e)

pub when_some : {A : Type 0} (b : Bool) (x y : A) → when b x ≡ Some y → (b ≡ true) × (x ≡ y)
when_some false x y e = absurd (none-some y e)
when_some true x y e = (refl, same_Some x y e)

pushed_view : {A : Type 0} (x : A) (xs : List A) → (ys : List A) × (z : A) × (x ∷ xs ≡ ys ++ z ∷ [])
pushed_view x [] = ([], x, refl)
pushed_view {A} x (y ∷ xs) = let r = pushed_view y xs in (x ∷ r.0, r.1, ap (λ (l : List A). x ∷ l) r.2)

pub last_is : {A : Type 0} (xs before : List A) (x : A) → last_of xs ≡ Some (before, x) → xs ≡ before ++ x ∷ []
last_is [] before x e = absurd (none-some _ e)
last_is {A} (y ∷ xs) before x e =
    let r = pushed_view y xs in
    let p = some_pair_parts r.0 before r.1 x (sym (last_pushed r.0 r.1) ∙ sym (ap last_of r.2) ∙ e) in
    r.2 ∙ ap (λ (b : List A). b ++ r.1 ∷ []) p.0 ∙ ap (λ (z : A). before ++ z ∷ []) p.1

moved : (front more : Front) → front ≡ more → IsFront front → IsFront more
moved front more e state = subst IsFront e state

abbrev some_front : Front → Option Front
some_front front = Some front

abbrev pub after : Front → QName → List Binding → Started → Front
after front name around start = record {
  nodes = front.nodes ++ text_nodes front.text ++ Start start.name start.attributes ∷ [];
  text = [];
  elements = front.elements ++ record { name = name; around = length around } ∷ [];
  bindings = start.bindings;
}

by_start : (front more : Front) (name : QName) (attributes : List RawAttribute) → IsFront front → with_start_tag front name attributes ≡ Some more → IsFront more
unfolding with_start_tag
by_start front more name attributes state h =
    let a = bind_some _ _ more h in
    let allowed = when_some _ _ a.0 a.1 in
    let b : (start : Started) × (started_of a.0 name attributes ≡ Some start) × (some_front (after front name a.0 start) ≡ some_front more) = bind_some _ _ more a.2 in
    moved _ more (same_Some _ more b.2) (start_keeps front.nodes front.text front.elements _ b.0.name b.0.attributes state allowed.0)

by_end : (front more : Front) (name : QName) → IsFront front → with_end_tag front name ≡ Some more → IsFront more
unfolding with_end_tag
by_end front more name state h =
    let a = bind_some _ _ more h in
    let same = when_some _ _ more a.2 in
    moved _ more same.1 (end_keeps front.nodes front.text front.elements a.0.0 a.0.1 state (last_is front.elements a.0.0 a.0.1 a.1))

or_begun : (empty : Bool) (begun more : Front) (name : QName) → IsFront begun → cond empty (with_end_tag begun name) (Some begun) ≡ Some more → IsFront more
or_begun true begun more name state h = by_end begun more name state h
or_begun false begun more name state h = moved begun more (same_Some begun more h) state

by_tag : (front more : Front) (name : QName) (attributes : List RawAttribute) (empty : Bool) → IsFront front → with_tag front name attributes empty ≡ Some more → IsFront more
unfolding with_tag
by_tag front more name attributes empty state h =
    let a = bind_some _ _ more h in
    or_begun empty a.0 more name (by_start front a.0 name attributes state a.1) a.2

not_empty : (b : Bool) → not b ≡ true → b ≡ false
not_empty true e = sym e
not_empty false e = refl

by_cdata : (front more : Front) (raw : List ℕ) → IsFront front → with_cdata front raw ≡ Some more → IsFront more
unfolding with_cdata
by_cdata front more raw state h =
    let a = when_some _ _ more h in
    moved _ more a.1 (text_keeps front.nodes front.text (front.text ++ raw) front.elements state (not_empty _ a.0))

abbrev with_more : Front → List ℕ → Front
with_more front text = record front { text = front.text ++ text }

white_or_text : (b : Bool) (front more : Front) (raw : List ℕ) → is_empty front.elements ≡ b → IsFront front
    → cond b (when (list_all is_white raw) front) (content_of raw >>= λ text. Some (record front { text = front.text ++ text })) ≡ Some more → IsFront more
white_or_text true front more raw e state h = moved front more (when_some _ front more h).1 state
white_or_text false front more raw e state h =
    let a = bind_some (content_of raw) (λ text. some_front (with_more front text)) more h in
    moved (with_more front a.0) more (same_Some (with_more front a.0) more a.2) (text_keeps front.nodes front.text (front.text ++ a.0) front.elements state e)

by_characters : (front more : Front) (raw : List ℕ) → IsFront front → with_characters front raw ≡ Some more → IsFront more
unfolding with_characters
by_characters front more raw state h = white_or_text (is_empty front.elements) front more raw refl state h

by_piece : (front more : Front) (piece : Piece) → IsFront front → with_piece front piece ≡ Some more → IsFront more
by_piece front more (Tag name attributes empty) state h = by_tag front more name attributes empty state h
by_piece front more (EndTag name) state h = by_end front more name state h
by_piece front more (Characters raw) state h = by_characters front more raw state h
by_piece front more (CData raw) state h = by_cdata front more raw state h
by_piece front more Aside state h = moved front more (same_Some front more h) state

by_pieces : (pieces : List Piece) (front more : Front) → IsFront front → with_pieces front pieces ≡ Some more → IsFront more
by_pieces [] front more state h = moved front more (same_Some front more h) state
by_pieces (piece ∷ pieces) front more state h =
    let a = bind_some _ _ more h in
    by_pieces pieces a.0 more (by_piece front a.0 piece state a.1) a.2

-- ---- the whole

at_last : (nodes : List Node) (text : List ℕ) (elements : List Element) → IsState nodes text elements → (is_empty elements && not (is_empty nodes)) ≡ true → is_element nodes ≡ true
at_last nodes text (x ∷ elements) state h = absurd (false≢true h)
at_last nodes text [] (inl before) h = absurd (false≢true (sym (ap (λ (n : List Node). not (is_empty n)) before.no_nodes) ∙ h))
at_last nodes text [] (inr inside) h = ap is_element (sym (append-nil nodes)) ∙ inside.begins []

by_nodes : (text : List ℕ) (nodes : List Node) → nodes_of text ≡ Some nodes → is_element nodes ≡ true
unfolding nodes_of
by_nodes text nodes h =
    let a = bind_some (all_of piece_at text) (λ pieces. with_pieces nothing pieces >>= finished_nodes) nodes h in
    let b = bind_some (with_pieces nothing a.0) finished_nodes nodes a.2 in
    let c = when_some (is_empty b.0.elements && not (is_empty b.0.nodes)) b.0.nodes nodes b.2 in
    ap is_element (sym c.1) ∙ at_last b.0.nodes b.0.text b.0.elements (by_pieces a.0 nothing b.0 (inl (record { no_nodes = refl; no_text = refl; no_elements = refl })) b.1) c.0

-- what bytes spell is one element
pub one_element : (bytes : List ℕ) (nodes : List Node) → document_of bytes ≡ Some nodes → is_element nodes ≡ true
unfolding document_of content_nodes
one_element bytes nodes h =
    let a = bind_some (characters bytes) content_nodes nodes h in
    let b = bind_some (after_declaration (without_mark a.0)) nodes_of nodes a.2 in
    by_nodes b.0 nodes b.2
