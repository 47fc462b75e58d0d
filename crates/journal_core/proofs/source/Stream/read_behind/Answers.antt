use Rattle.std.proofs.Common.{arith}
use Rattle.journal_core.proofs.Streams.{read_behind}
use Rattle.journal_core.proofs.source.Stream.read_behind.Goals as goal

pub returns-clause-reads : goal.returns-clause-reads
returns-clause-reads g c =
    read_behind c.read.result (g.R.Read.remaining c.args.self.now.reader) (g.R.Read.remaining c.read.new.self) c.args.count c.args.buf.now c.read.new.buf _ (omega arith) c.read.ensures.bound c.read.ensures.bytes
