use Rattle.std.proofs.Common.{◌≡◌, inl, inr, List, Ok, map, Contains, sym, ap, ◌∙◌, subst}
use Rattle.std.proofs.lemmas.Result.{IfOk-weaker, IfErr-weaker}
use Rattle.dav_path_core.specs.PathText.{PathText}
use Rattle.dav_path_core.specs.Segments.{segments}
use Rattle.dav_files_core.specs.Listing.{listed_entry, read_dir}
use Rattle.dav_files_core.specs.declared.memfs.listing.MemFsEntry.{MemFsEntry}
use Rattle.dav_files_core.specs.declared.memfs.Kind.TheVariants.{Folder}
use Rattle.dav_files_core.specs.Resources.{IsResourceMap}
use Rattle.dav_guarded_core.specs.Step.{State}
use Rattle.dav_session_core.specs.MemberPaths.{paths_in}
use Rattle.dav_session_core.specs.Questions.{LacksKind}
use Rattle.dav_session_core.specs.Private.WalkPlaces.{is_listed_folder, place_path}
use Rattle.dav_session_core.proofs.KindLemmas.{if_both, known_members}
use Rattle.dav_session_core.proofs.SubtreeLemmas.{members_told, named_all, none_listed, odd_told, plain_nowhere}
use Rattle.dav_session_core.proofs.session.Session.places_in.Goals as goal

pub returns-in-Ok-clause-ok : goal.returns-in-Ok-clause-ok
returns-in-Ok-clause-ok g c =
    let was : read_dir c.args.self.now.stores.stores.map (segments c.args.place.now.path.bytes) ≡ Ok (map listed_entry c.in-Ok.entries.items) =
    ap (λ (q : PathText). read_dir c.args.self.now.stores.stores.map (segments q.bytes)) (sym c.in_ok-copy_of.ensures) ∙ c.in-Ok.ensures.ok in
    let p = segments c.args.place.now.path.bytes in
    IfOk-weaker c.member_places.result _ _
    (λ paths h. members_told c.args.self.now.stores.stores.map p c.in-Ok.entries.items _ was (h ∙ ap (λ (es : List MemFsEntry). paths_in p (map (λ e. e.name) es)) c.deref.ensures.value))
    c.member_places.ensures.ok

pub returns-in-Ok-clause-err : goal.returns-in-Ok-clause-err
returns-in-Ok-clause-err g c =
    let was : read_dir c.args.self.now.stores.stores.map (segments c.args.place.now.path.bytes) ≡ Ok (map listed_entry c.in-Ok.entries.items) =
    ap (λ (q : PathText). read_dir c.args.self.now.stores.stores.map (segments q.bytes)) (sym c.in_ok-copy_of.ensures) ∙ c.in-Ok.ensures.ok in
    IfErr-weaker c.member_places.result _ _ (λ e h. elim h [
      | inl lacks ↦ inl lacks
      | inr odd ↦ inr (odd.0, odd_told c.args.self.now.stores.stores.map (segments c.args.place.now.path.bytes) c.in-Ok.entries.items odd.1.0 was (subst (λ es. Contains es odd.1.0) c.deref.ensures.value odd.1.1) odd.1.2)
    ]) c.member_places.ensures.err

pub returns-in-Err-NotFound-clause-ok : goal.returns-in-Err-NotFound-clause-ok
returns-in-Err-NotFound-clause-ok g c =
    let m = c.args.self.now.stores.stores.map in
    let shape : IsResourceMap m = subst IsResourceMap
    (ap (λ (s : State). s.map) c.list.ensures.looks.live) c.list.ensures.shape in
    let lacks : LacksKind Folder m (segments c.args.place.now.path.bytes) c.in-Err-NotFound.field-0 =
    subst (λ (q : PathText). LacksKind Folder m
    (segments q.bytes) c.in-Err-NotFound.field-0) c.in_ok-copy_of.ensures c.in-Err-NotFound.ensures.err in
    ap (map place_path) c.new-in-Err-NotFound.ensures.items
    ∙ none_listed m
    (segments c.args.place.now.path.bytes) c.in-Err-NotFound.field-0 c.in-Err-NotFound.field-0-is shape lacks

pub returns-in-Ok-clause-plain : goal.returns-in-Ok-clause-plain
returns-in-Ok-clause-plain g c =
    let was : read_dir c.args.self.now.stores.stores.map (segments c.args.place.now.path.bytes)
    ≡ Ok (map listed_entry c.in-Ok.entries.items) =
    ap (λ (q : PathText). read_dir c.args.self.now.stores.stores.map (segments q.bytes))
    (sym c.in_ok-copy_of.ensures) ∙ c.in-Ok.ensures.ok in
    named_all c.member_places.result c.args.self.now.stores.stores.map
    (segments c.args.place.now.path.bytes) c.in-Ok.entries.items c.deref.result.now was c.deref.ensures.value c.member_places.ensures.plain

pub returns-in-Err-NotFound-clause-plain : goal.returns-in-Err-NotFound-clause-plain
returns-in-Err-NotFound-clause-plain g c =
    let m = c.args.self.now.stores.stores.map in
    let shape : IsResourceMap m = subst IsResourceMap
    (ap (λ (s : State). s.map) c.list.ensures.looks.live) c.list.ensures.shape in
    let lacks : LacksKind Folder m (segments c.args.place.now.path.bytes) c.in-Err-NotFound.field-0 =
    subst (λ (q : PathText). LacksKind Folder m
    (segments q.bytes) c.in-Err-NotFound.field-0) c.in_ok-copy_of.ensures c.in-Err-NotFound.ensures.err in
    plain_nowhere m
    (segments c.args.place.now.path.bytes) c.in-Err-NotFound.field-0 c.in-Err-NotFound.field-0-is shape lacks

pub returns-then-not-place-clause-ok : goal.returns-then-not-place-clause-ok
returns-then-not-place-clause-ok g c =
    ap (map place_path) c.new.ensures.items ∙ sym (c.requires.known c.if-not-place.true).0

pub returns-then-not-place-clause-plain : goal.returns-then-not-place-clause-plain
returns-then-not-place-clause-plain g c = (c.requires.known c.if-not-place.true).1

pub returns-in-Ok-clause-known : goal.returns-in-Ok-clause-known
returns-in-Ok-clause-known g c =
    let m = c.args.self.now.stores.stores.map in
    let p = segments c.args.place.now.path.bytes in
    let was : read_dir m p ≡ Ok (map listed_entry c.in-Ok.entries.items) =
    ap (λ (q : PathText). read_dir m (segments q.bytes)) (sym c.in_ok-copy_of.ensures) ∙ c.in-Ok.ensures.ok in
    let shape : IsResourceMap m = subst IsResourceMap
    (ap (λ (s : State). s.map) c.list.ensures.looks.live) c.list.ensures.shape in
    if_both c.member_places.result _ _ _ (λ places paths kinds. known_members m p shape c.in-Ok.entries.items places.items was
    (paths ∙ ap (λ (es : List MemFsEntry). paths_in p (map (λ e. e.name) es)) c.deref.ensures.value)
    (kinds ∙ ap (map is_listed_folder) c.deref.ensures.value))
    c.member_places.ensures.ok c.member_places.ensures.kinds
