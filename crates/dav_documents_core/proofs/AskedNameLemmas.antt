-- The names that the body of a PROPFIND gives are those of elements, and so is the owner that the body of a LOCK gives an element.
use Rattle.std.proofs.Common.{◌≡◌, refl, ap, subst, ℕ, ◌^◌, ◌<◌, Bool, true, false, cond, List, [], ◌∷◌, ◌++◌, length, Option, None, Some, codes}
use Rattle.std.specs.Prelude.{option_and_then}
use Rattle.std.specs.List.{AllByRecursion, list_any}
use Rattle.dav_xml_core.specs.Documents.{Name, Node}
use Rattle.dav_xml_core.specs.Optional.{when}
use Rattle.dav_xml_core.specs.ReadableDocuments.{CouldBeRead}
use Rattle.dav_xml_core.specs.Reading.{document_of}
use Rattle.dav_xml_core.proofs.ElementLemmas.{bind_some, when_some}
use Rattle.dav_xml_core.proofs.ReadNodesLemmas.{read_could, read_room}
use Rattle.dav_documents_core.specs.Elements.{at_most_one, children, name_of_element, is_dav, elements_named, the_one}
use Rattle.dav_documents_core.specs.KeptElements.{IsElementIn, IsElementName}
use Rattle.dav_documents_core.specs.KeptReading.{IsLang, WasRead}
use Rattle.dav_documents_core.specs.LockInfos.{LockInfo, is_shared, is_write, lock_info_by, lock_info_in, lock_info_of, owner_text}
use Rattle.dav_documents_core.specs.PropertyQuestions.{Question, All, Names, Listed, and_name, and_names, and_new, and_within, question_asked, asked_by, asked_in, asked_names, has_part, names_within, question_in}
use Rattle.dav_xml_core.specs.Namespaces.{same_name}
use Rattle.dav_documents_core.specs.PropertyUpdates.{own_lang, with_lang}
use Rattle.dav_documents_core.proofs.KeptReadingLaws.{kept_could, name_could, own_text}
use Rattle.dav_documents_core.proofs.NamedLemmas.{only_holds}
use Rattle.dav_documents_core.proofs.ReadChildLemmas.{children_could, children_read}

abbrev AreNames : List Name → Type 0
AreNames names = AllByRecursion IsElementName names

-- ---- names

pushed : (names : List Name) (name : Name) → AreNames names → IsElementName name → AreNames (names ++ name ∷ [])
pushed [] name h is = (is, tt)
pushed (x ∷ names) name h is = (h.0, pushed names name h.1 is)

with_new : (names : List Name) (name : Name) → AreNames names → IsElementName name → AreNames (and_new names name)
with_new names name h is = by (list_any (same_name name) names)
  where
    by : (b : Bool) → AreNames (cond b names (names ++ name ∷ []))
    by true = h
    by false = pushed names name h is

with_name : (names : List Name) (element : List Node) → AreNames names → CouldBeRead element → AreNames (and_name names (name_of_element element))
with_name names element h could = by (name_of_element element) refl
  where
    by : (o : Option Name) → name_of_element element ≡ o → AreNames (and_name names o)
    by None is = h
    by (Some name) is = with_new names name h (name_could element name could is)

with_names : (names : List Name) (elements : List (List Node)) → AreNames names → AllByRecursion CouldBeRead elements → AreNames (and_names names elements)
with_names names [] h could = h
with_names names (element ∷ elements) h could =
    with_names (and_name names (name_of_element element)) elements (with_name names element h could.0) could.1

within : (local : List ℕ) (names : List Name) (part : List Node) → AreNames names → CouldBeRead part → AreNames (and_within local names part)
within local names part h could = by (is_dav local part)
  where
    by : (b : Bool) → AreNames (cond b (and_names names (children part)) names)
    by true = with_names names (children part) h (children_could part could)
    by false = h

all_within : (local : List ℕ) (names : List Name) (parts : List (List Node)) → AreNames names → AllByRecursion CouldBeRead parts → AreNames (names_within local names parts)
all_within local names [] h could = h
all_within local names (part ∷ parts) h could = all_within local (and_within local names part) parts (within local names part h could.0) could.1

-- ---- the question

of_question : (names all prop : Bool) (included listed : List Name) (question : Question) → question_asked names all prop included listed ≡ Some question
    → AreNames included → AreNames listed → AreNames (asked_names question)
of_question true false false included listed question is h k = let same : Names ≡ question = cc in subst (λ (q : Question). AreNames (asked_names q)) same tt
of_question false true false included listed question is h k = let same : All included ≡ question = cc in subst (λ (q : Question). AreNames (asked_names q)) same h
of_question false false true included listed question is h k = let same : Listed listed ≡ question = cc in subst (λ (q : Question). AreNames (asked_names q)) same k
of_question true true prop included listed question is h k = absurd (cc)
of_question true false true included listed question is h k = absurd (cc)
of_question false true true included listed question is h k = absurd (cc)
of_question false false false included listed question is h k = absurd (cc)

in_parts : (parts : List (List Node)) (question : Question) → AllByRecursion CouldBeRead parts → asked_by parts ≡ Some question → AreNames (asked_names question)
in_parts parts question could is =
    of_question (has_part (codes "propname") parts) (has_part (codes "allprop") parts) (has_part (codes "prop") parts) (names_within (codes "include") [] parts)
    (names_within (codes "prop") [] parts) question is (all_within (codes "include") [] parts tt could) (all_within (codes "prop") [] parts tt could)

in_nodes : (nodes : List Node) (question : Question) → CouldBeRead nodes → asked_in nodes ≡ Some question → AreNames (asked_names question)
in_nodes nodes question could is = by (is_dav (codes "propfind") nodes) is
  where
    by : (b : Bool) → cond b (asked_by (children nodes)) None ≡ Some question → AreNames (asked_names question)
    by true is = in_parts (children nodes) question (children_could nodes could) is
    by false is = absurd (cc)

pub question_names : (body : List ℕ) (question : Question) → length body < 2 ^ 64 → question_in body ≡ Some question → AreNames (asked_names question)
question_names [] question fits is = let same : All [] ≡ question = cc in subst (λ (q : Question). AreNames (asked_names q)) same tt
question_names (b ∷ bytes) question fits is = by (document_of (b ∷ bytes)) refl is
  where
    by : (o : Option (List Node)) → document_of (b ∷ bytes) ≡ o → option_and_then asked_in o ≡ Some question → AreNames (asked_names question)
    by None read is = absurd (cc)
    by (Some nodes) read is = in_nodes nodes question (read_could (b ∷ bytes) nodes fits read) is

-- ---- the owner

owner_kept : (lang : Option (List ℕ)) (inside : List (List Node)) (owner : Option (List Node)) → IsLang lang → AllByRecursion WasRead inside
    → at_most_one (elements_named (codes "owner") inside) ≡ Some owner → IsElementIn (owner_text lang owner)
owner_kept lang inside None text read is = tt
owner_kept lang inside (Some element) text read is =
    record { nodes = with_lang lang element; could = kept_could lang element text (only_holds WasRead (is_dav (codes "owner")) inside element is read); written = refl }

owner_in : (lang : Option (List ℕ)) (inside : List (List Node)) (info : LockInfo) → IsLang lang → AllByRecursion WasRead inside → lock_info_by lang inside ≡ Some info
    → IsElementIn info.owner
unfolding lock_info_by
owner_in lang inside info text read is =
    let a = bind_some (the_one (elements_named (codes "lockscope") inside)) _ info is in
    let b = bind_some (is_shared a.0) _ info a.2 in
    let d = bind_some (the_one (elements_named (codes "locktype") inside)) _ info b.2 in
    let e = bind_some (when (is_write d.0) d.0) _ info d.2 in
    let f = bind_some (at_most_one (elements_named (codes "owner") inside)) _ info e.2 in
    let made : LockInfo = record { shared = b.0; owner = owner_text lang f.0 } in
    let same : made ≡ info = cc in
    subst (λ (o : Option (List ℕ)). IsElementIn o) (ap (λ (i : LockInfo). i.owner) same) (owner_kept lang inside f.0 text read f.1)

pub lock_owner : (body : List ℕ) (info : LockInfo) → length body < 2 ^ 64 → lock_info_in body ≡ Some info → IsElementIn info.owner
lock_owner body info fits is =
    let a = bind_some (document_of body) lock_info_of info is in
    let b = bind_some (when (is_dav (codes "lockinfo") a.0) (children a.0)) (lock_info_by (own_lang a.0)) info a.2 in
    let inside = (when_some (is_dav (codes "lockinfo") a.0) (children a.0) b.0 b.1).1 in
    let read : WasRead a.0 = record { could = read_could body a.0 fits a.1; room = read_room body a.0 fits a.1 } in
    owner_in (own_lang a.0) b.0 info (own_text a.0 read.could) (subst (λ (es : List (List Node)). AllByRecursion WasRead es) inside (children_read a.0 read)) b.2
