use Rattle.std.proofs.Common.{false, refl}
use Rattle.http_frames.proofs.clients.Clients.add.Goals as goal

pub returns-clause-adds : goal.returns-clause-adds
returns-clause-adds c = λ is. record {
  begins = refl;
  new = record { connection = c.new.result; address = c.take.result; ahead = 0; heard = 0; behind = 0; due = 0; ended = false; queued = false; part = false; news = false; known = false; told = false; round = 0; called = 0; last = c.args.self.now.frames; longest = 0; waiting = 0 };
  settings = c.new.ensures.config;
  history = c.new.ensures.history;
  ahead = refl;
  heard = refl;
  behind = refl;
  due = refl;
  unended = refl;
  unqueued = refl;
  puts = c.place.ensures.puts c.if-not-place.false;
  queue = refl;
  config = refl;
  window = refl;
  asked = refl;
}
