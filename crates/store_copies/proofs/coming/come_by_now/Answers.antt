use Rattle.std.proofs.Common.{rules, ◌≡◌, [], ◌∷◌, ◌++◌, ℕ, List, sym, ◌∙◌, ap, subst}
use Rattle.std.proofs.lemmas.List.{map-append}
use Rattle.std.specs.Global.{Vec}
use Rattle.std.specs.Io.Buffered.{reader_remaining}
use Rattle.journal_copies.specs.ReadRounds.{bytes_of_each}
use Rattle.store_copies.specs.TakenRounds.{Came}
use Rattle.store_copies.proofs.Streams.{came_two, consumes_two}
use Rattle.store_copies.proofs.coming.come_by_now.Goals as goal

pub coming-preserved : goal.coming-preserved
coming-preserved g c =
    let rounds = c.coming.rounds.items in
    let round = c.in-Round.round in
    let first = c.coming.invariant in
    let second = c.in_ok-round.ensures round c.in-Round.is in
    let pushed : c.push.new.self.items ≡ rounds ++ round ∷ [] = search rules in
    let all : bytes_of_each c.push.new.self.items ≡ bytes_of_each rounds ++ round.items ∷ [] =
    ap (λ (l : List (Vec ℕ)). bytes_of_each l) pushed ∙ map-append (λ (r : Vec ℕ). r.items) rounds (round ∷ []) in
    let remaining = reader_remaining g.I.Read.remaining in (
      first.0 ++ second.0,
      subst (λ (l : List (List ℕ)). Came l (first.0 ++ second.0)) (sym all) (came_two (bytes_of_each rounds) (round.items ∷ []) first.0 second.0 first.1 second.1),
      consumes_two (remaining c.args.input.now) (remaining c.coming.input) (remaining c.read_next.new.input) first.0 second.0 first.2 second.2,
    )
