-- What a contract sees of a description.
use Rattle.std.specs.Prelude.{map, string_bytes}
use Rattle.dav_files_core.specs.Properties.{property_of}
use Rattle.dav_documents_core.specs.declared.property_documents.Description as code
use Rattle.dav_documents_core.specs.PropertyDocuments.{Description}

abbrev pub description_of : code.Description → Description
description_of d = record {
  url = string_bytes d.url;
  folder = d.folder;
  size = d.size;
  content_type = d.content_type.now;
  tag = string_bytes d.tag;
  created = string_bytes d.created;
  modified = string_bytes d.modified;
  props = map property_of d.props.items;
  locks = d.locks.items;
}
