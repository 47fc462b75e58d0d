-- What is known of a folder or a file, without its number (RFC 4918 section 15).
use Rattle.std.specs.Prelude.{ℕ, length}
use Rattle.dav_files_core.specs.declared.memfs.Kind.{Kind}
use Rattle.dav_files_core.specs.declared.memfs.MemFsMeta.{MemFsMeta}
use Rattle.dav_files_core.specs.Resources.{Node}

pub record Meta : Type 0 where
  pub kind : Kind
  pub length : ℕ
  pub modified : ℕ
  pub created : ℕ

-- of a node: a folder has no bytes, and so length 0
abbrev pub meta_at : Node → Meta
meta_at node = record { kind = node.kind; length = length node.bytes; modified = node.modified; created = node.created }

-- of what a call answers
abbrev pub meta_of : MemFsMeta → Meta
meta_of meta = record { kind = meta.kind; length = meta.length; modified = meta.modified.0; created = meta.created.0 }
