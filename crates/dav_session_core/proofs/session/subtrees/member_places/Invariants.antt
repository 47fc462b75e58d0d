use Rattle.std.proofs.Common.{◌≡◌, map, take}
use Rattle.std.specs.List.{All}
use Rattle.dav_path_core.specs.PathReading.{CanBeSegment}
use Rattle.dav_path_core.specs.Segments.{segments}
use Rattle.dav_files_core.specs.declared.memfs.listing.MemFsEntry.{MemFsEntry}
use Rattle.dav_session_core.specs.declared.session.subtrees.Place.{Place}
use Rattle.dav_session_core.specs.Private.WalkPlaces.{is_listed_folder, place_path}
use Rattle.dav_session_core.specs.MemberPaths.{paths_in}
use Rattle.dav_session_core.proofs.session.subtrees.member_places.Given as goal

abbrev pub invariant-loop-entry : goal.invariant-loop-entry
invariant-loop-entry l = record {
  told : map place_path l.places.items
      ≡ paths_in (segments l.folder.bytes) (map (λ e. e.name) (take l.entry-index l.entries));
  kinds : map (λ (w : Place). w.folder) l.places.items ≡ map is_listed_folder (take l.entry-index l.entries);
  plain : All (λ (e : MemFsEntry). CanBeSegment e.name) (take l.entry-index l.entries);
}
