-- What a LOCK keeps of its owner is what its body has.
use Rattle.std.proofs.Common.{◌≡◌, refl, sym, ap, subst, ◌∙◌, ℕ, ◌^◌, ◌<◌, Bool, true, false, cond, inl, inr, List, [], ◌∷◌, length, map, Option, None, Some, codes}
use Rattle.std.specs.List.{AllByRecursion, filter}
use Rattle.std.proofs.lemmas.Option.{same_Some}
use Rattle.dav_path_core.proofs.lists.MemberLemmas.{In, In-filter, all_in}
use Rattle.dav_xml_core.specs.Documents.{Name, Node}
use Rattle.dav_xml_core.specs.Optional.{when}
use Rattle.dav_xml_core.specs.Reading.{document_of}
use Rattle.dav_xml_core.specs.Writing.{written_alone}
use Rattle.dav_xml_core.proofs.ElementLemmas.{bind_some, when_some}
use Rattle.dav_xml_core.proofs.ReadNodesLemmas.{read_could, read_room}
use Rattle.dav_documents_core.specs.Elements.{at_most_one, children, elements_named, is_dav, is_dav_name, name_of_element, the_one}
use Rattle.dav_documents_core.specs.ElementPlaces.{ElementPlace, StartTag, element_with_lang, lang_of_tags, tags_around}
use Rattle.dav_documents_core.specs.KeptReading.{WasRead}
use Rattle.dav_documents_core.specs.LockInfos.{LockInfo, is_shared, is_write, lock_info_by, lock_info_in, lock_info_of, owner_text}
use Rattle.dav_documents_core.specs.PropertyUpdates.{own_lang, with_lang}
use Rattle.dav_documents_core.specs.RefusalBodies.{dav_name}
use Rattle.dav_documents_core.specs.SentOwners.{IsOwnerIn, IsOwnerOf, IsSentOwner}
use Rattle.dav_documents_core.proofs.AskedPropertyLemmas.{or_none}
use Rattle.dav_documents_core.proofs.ElementPlaceLemmas.{Spot, below, children_below, element_at, place_at, stands_there, tag_at}
use Rattle.dav_documents_core.proofs.ReadPlaceLemmas.{IsReadSpot, below_read, told_again}
use Rattle.dav_documents_core.proofs.RootPlaceLemmas.{IsRoot, dav_is, right_inside, root_of, same_length}

abbrev is_owner : Spot → Bool
is_owner s = is_dav (codes "owner") (element_at s)

named_alike : (ss : List Spot) → elements_named (codes "owner") (map element_at ss) ≡ map element_at
    (filter is_owner ss)
named_alike [] = refl
named_alike (s ∷ ss) = by (is_owner s) (named_alike ss)
  where
    by : (b : Bool) → elements_named (codes "owner") (map element_at ss)
        ≡ map element_at (filter is_owner ss)
        → cond b (element_at s ∷ elements_named (codes "owner") (map element_at ss))
        (elements_named (codes "owner") (map element_at ss))
        ≡ map element_at (cond b (s ∷ filter is_owner ss) (filter is_owner ss))
    by true h = ap (λ (es : List (List Node)). element_at s ∷ es) h
    by false h = h

in_filter : (ss : List Spot) (s : Spot) → In s (filter is_owner ss) → In s ss × (is_owner s ≡ true)
in_filter [] s i = absurd i
in_filter (t ∷ ss) s i = by (is_owner t) refl i (in_filter ss s)
  where
    by : (b : Bool) → is_owner t ≡ b → In s (cond b (t ∷ filter is_owner ss) (filter is_owner ss))
        → (In s (filter is_owner ss) → In s ss × (is_owner s ≡ true))
        → In s (t ∷ ss) × (is_owner s ≡ true)
    by true is i next = elim i [
      | inl e ↦ (inl e, ap is_owner (sym e) ∙ is)
      | inr j ↦
          (let n = next j in (inr n.0, n.1))
    ]
    by false is i next = let n = next i in (inr n.0, n.1)

module _ (nodes : List Node) (root : Spot) (h : IsRoot nodes root)
    (named : root.name ≡ dav_name (codes "lockinfo")) where
  each : AllByRecursion (IsReadSpot nodes (tag_at root ∷ [])) (below root)
  each = below_read nodes [] root h.is

  owner_at : (s : Spot) → In s (filter is_owner (below root)) → IsOwnerOf nodes (place_at s)
  owner_at s i =
      let there = in_filter (below root) s i in
      let is = all_in (IsReadSpot nodes (tag_at root ∷ [])) (below root) s each there.0 in
      record {
        stands = stands_there nodes (tag_at root ∷ []) s is.spot;
        within = ap (map (λ (tag : StartTag). tag.name)) is.spot.around
            ∙ ap (λ (name : Name). name ∷ []) named;
        named = ap (λ (name : Name). Some name) (dav_is (codes "owner") s.name there.1);
      }

  found : (place : ElementPlace) → IsOwnerOf nodes place
      → (s : Spot) × In s (filter is_owner (below root)) × (place_at s ≡ place)
  found place owner =
      let at = right_inside nodes root place h owner.stands
      (same_length (tags_around place) (dav_name (codes "lockinfo") ∷ []) owner.within) in
      let name : Some at.0.name ≡ Some (dav_name (codes "owner")) = ap
      (λ (p : ElementPlace). name_of_element p.element) at.2 ∙ owner.named in
      let is : is_owner at.0 ≡ true = ap (is_dav_name (codes "owner"))
      (same_Some at.0.name (dav_name (codes "owner")) name) in
      (at.0, In-filter is_owner (below root) at.0 at.1 is, at.2)

  of_filtered : (ss : List Spot) (owner : Option (List Node)) → filter is_owner (below root) ≡ ss
      → at_most_one (map element_at ss) ≡ Some owner
      → IsOwnerIn nodes (owner_text (own_lang (element_at root)) owner)
  of_filtered [] None are one = λ place owner. let at = found place owner in subst
      (In at.0) are at.1
  of_filtered [] (Some element) are one = absurd (cc)
  of_filtered (s ∷ t ∷ ss) owner are one = absurd (cc)
  of_filtered (s ∷ []) None are one = absurd (cc)
  of_filtered (s ∷ []) (Some element) are one =
      let i : In s (filter is_owner (below root)) = subst (In s) (sym are) (inl refl) in
      let is = all_in (IsReadSpot nodes (tag_at root ∷ [])) (below root) s each
      (in_filter (below root) s i).0 in
      let same : element_at s ≡ element = cc in
      let told : element_with_lang (place_at s) ≡ with_lang (own_lang (element_at root)) element =
      ap (λ (lang : Option (List ℕ)). with_lang lang (element_at s))
      (ap lang_of_tags is.spot.around ∙ or_none (own_lang (element_at root)))
      ∙ ap (with_lang (own_lang (element_at root))) same in
      record {
        place = place_at s;
        owner = owner_at s i;
        only = λ other is. let at = found other is in sym at.2
            ∙ ap place_at (elim (subst (In at.0) are at.1) [
              | inl e ↦ sym e
              | inr none ↦
                  absurd none
            ]);
        kept = ap written_alone (sym told);
        is_read = ap (λ (ns : List Node). document_of (written_alone ns)) (sym told)
            ∙ told_again nodes (tag_at root ∷ []) s is;
      }

  in_root : (info : LockInfo) → lock_info_by (own_lang (element_at root))
      (children (element_at root)) ≡ Some info → IsOwnerIn nodes info.owner
  unfolding lock_info_by
  in_root info is =
      let inside = children (element_at root) in
      let lang = own_lang (element_at root) in
      let a = bind_some (the_one (elements_named (codes "lockscope") inside)) _ info is in
      let b = bind_some (is_shared a.0) _ info a.2 in
      let d = bind_some (the_one (elements_named (codes "locktype") inside)) _ info b.2 in
      let e = bind_some (when (is_write d.0) d.0) _ info d.2 in
      let f = bind_some (at_most_one (elements_named (codes "owner") inside)) _ info e.2 in
      let made : LockInfo = record { shared = b.0; owner = owner_text lang f.0 } in
      let same : made ≡ info = same_Some made info f.2 in
      subst (λ (o : Option (List ℕ)). IsOwnerIn nodes o) (ap (λ (i : LockInfo). i.owner) same)
      (of_filtered (filter is_owner (below root)) f.0 refl
      (ap at_most_one (sym (named_alike (below root)))
      ∙ ap (λ (es : List (List Node)). at_most_one (elements_named (codes "owner") es))
      (sym (children_below root)) ∙ f.1))

-- ---- the law

pub owners_are_sent : (body : List ℕ) (info : LockInfo) → length body < 2 ^ 64
    → lock_info_in body ≡ Some info → IsSentOwner body info.owner
owners_are_sent body info fits is =
    let document = bind_some (document_of body) lock_info_of info is in
    let nodes = document.0 in
    let read : WasRead nodes = record {
      could = read_could body nodes fits document.1;
      room = read_room body nodes fits document.1;
    } in
    let root = root_of nodes read in
    let there : lock_info_of (element_at root.0) ≡ Some info = ap lock_info_of (sym root.1.all)
    ∙ document.2 in
    let inside = bind_some (when (is_dav (codes "lockinfo") (element_at root.0))
    (children (element_at root.0))) (lock_info_by (own_lang (element_at root.0))) info there in
    let w = when_some (is_dav (codes "lockinfo") (element_at root.0))
    (children (element_at root.0)) inside.0 inside.1 in
    record {
      nodes = nodes;
      spelled = document.1;
      owner = in_root nodes root.0 root.1 (dav_is (codes "lockinfo") root.0.name w.0) info
          (ap (lock_info_by (own_lang (element_at root.0))) w.1 ∙ inside.2);
    }
