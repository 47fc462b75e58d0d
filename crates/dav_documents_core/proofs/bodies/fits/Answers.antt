use Rattle.std.proofs.Common.{arith}
use Rattle.dav_documents_core.proofs.bodies.fits.Goals as goal

pub returns : goal.returns
returns c = omega arith
