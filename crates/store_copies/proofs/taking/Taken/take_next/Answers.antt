use Rattle.std.proofs.Common.{[], ◌∷◌, ◌++◌, ℕ, List, sym, subst}
use Rattle.std.specs.Io.Buffered.{reader_remaining}
use Rattle.store_copies.specs.TakenRounds.{Came}
use Rattle.store_copies.proofs.Streams.{came_two, consumes_two}
use Rattle.store_copies.proofs.taking.Taken.take_next.Goals as goal

pub returns-in-Round-clause-taken : goal.returns-in-Round-clause-taken
returns-in-Round-clause-taken g c = λ is.
    let remaining = reader_remaining g.I.Read.remaining in
    let round = c.deref.result.now in
    let read = c.in_ok-round.ensures c.in-Round.round c.in-Round.is in
    let taken = c.take_round.ensures.taken is in
    let first : Came (round ∷ []) read.0 = subst (λ (l : List ℕ). Came (l ∷ []) read.0) (sym c.deref.ensures.value) read.1 in (
      round ∷ taken.0,
      read.0 ++ taken.1,
      came_two (round ∷ []) taken.0 read.0 taken.1 first taken.2,
      consumes_two (remaining c.args.input.now) (remaining c.read_next.new.input) (remaining c.take_round.new.input) read.0 taken.1 read.2 taken.3,
      taken.4,
    )
