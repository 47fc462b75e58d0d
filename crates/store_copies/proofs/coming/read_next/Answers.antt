use Rattle.std.proofs.Common.{rules, ◌≡◌, [], ◌∷◌, ◌++◌, ℕ, List, length, subst, ap}
use Rattle.std.specs.Io.KnownBytes.{Consumes}
use Rattle.journal_core.proofs.Causes.{some_at}
use Rattle.store_copies.specs.declared.coming.Next.{Next}
use Rattle.store_copies.specs.declared.coming.Next.TheVariants.{Round as RoundNext}
use Rattle.store_copies.specs.TakenRounds.{Came}
use Rattle.store_copies.proofs.Streams.{came_one, consumes_two}
use Rattle.store_copies.proofs.coming.read_next.Goals as goal

bytes_in : Next → List ℕ
bytes_in (RoundNext round) = round.items
bytes_in _ = []

pub returns-in-Some-2 : goal.returns-in-Some-2
unfolding bytes_in
returns-in-Some-2 g c = λ round is.
    let word = c.in-Some.word in
    let first = some_at _ c.in_ok-word.field-0 word c.in_ok-word.ensures c.in-Some.is in
    let second = some_at _ c.in_ok-round.field-0 c.in-Some-2.round c.in_ok-round.ensures.reads c.in-Some-2.is in
    let len : length word ≡ 8 = search rules in
    let input = g.I.Read.remaining in
    let text = c.in-Some-2.round.items in
    subst (λ (l : List ℕ). (bytes : List ℕ) × Came (l ∷ []) bytes × Consumes (input c.args.input.now) (input c.read_round.new.input) bytes) (ap bytes_in is)
    (word ++ text, came_one word text len, consumes_two (input c.args.input.now) (input c.read_word.new.input) (input c.read_round.new.input) word text first second.1)
