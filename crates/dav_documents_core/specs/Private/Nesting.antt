-- How deep nodes stand inside each other. Private contracts alone speak of it.
use Rattle.std.specs.Prelude.{ℕ, zero, suc}
use Rattle.dav_xml_core.specs.Documents.{Node, Start, Text, End}

-- how many elements have begun and not ended behind a node
abbrev pub depth_behind : ℕ → Node → ℕ
depth_behind depth (Start name attributes) = suc depth
depth_behind depth (Text text) = depth
depth_behind zero End = zero
depth_behind (suc depth) End = depth
