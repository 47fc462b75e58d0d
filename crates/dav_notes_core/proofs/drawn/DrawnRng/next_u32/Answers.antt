use Rattle.std.proofs.Common.{refl}
use Rattle.rand_core.specs.Stream.{next_u32}
use Rattle.dav_notes_core.specs.Drawing.{stream_giving}
use Rattle.dav_notes_core.proofs.drawn.DrawnRng.next_u32.Goals as goal

pub returns : goal.returns
unfolding next_u32 stream_giving
returns c = refl
