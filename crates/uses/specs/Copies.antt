-- What the headers of a COPY or a MOVE ask for (RFC 4918 sections 9.8.3 and 10.6).
use Rattle.std.specs.Prelude.{Bool, true, Option, None, Some, List, [], ◌∷◌, option_map}
use Rattle.http_header.specs.FieldValue.{FieldValue}
use Rattle.dav_headers_core.specs.Optional.{◌>>=◌}
use Rattle.dav_headers_core.specs.Depths.{depth_header}
use Rattle.dav_headers_core.specs.Overwrites.{overwrite_header}
use Rattle.dav_headers_core.specs.declared.davheaders.depths.Depth.{Depth}
use Rattle.dav_headers_core.specs.declared.davheaders.depths.Depth.TheVariants.{Default, Zero, One, Infinity}

-- the depths that a COPY may have: the resource alone, or all below it
abbrev pub copied_at : Depth → Option Depth
copied_at Default = None
copied_at Zero = Some Zero
copied_at One = None
copied_at Infinity = Some Infinity

-- how far down a COPY reaches: all the way without a `Depth`
abbrev pub copy_depth : List FieldValue → Option Depth
copy_depth [] = Some Infinity
copy_depth (value ∷ values) = depth_header (value ∷ values) >>= copied_at

-- whether it may replace what stands at its destination: it may without an `Overwrite`
abbrev pub may_overwrite : List FieldValue → Option Bool
may_overwrite [] = Some true
may_overwrite (value ∷ values) = option_map (λ o. o.0) (overwrite_header (value ∷ values))
