use Rattle.std.proofs.Common.{◌≡◌, ◌≤◌, ◌⊎◌, length}
use Rattle.dav_notes_core.specs.Seen.{AreCopies}
use Rattle.dav_notes_core.proofs.noted.add_spares.Given as goal

abbrev pub invariant-loop : goal.invariant-loop
invariant-loop l = record {
  copies : AreCopies l.who l.spares.items;
  many : length l.spares.items ≡ l.counter;
  most : (l.counter ≡ length l.fn.spares.items) ⊎ (l.counter ≤ l.count);
}
