use Rattle.std.proofs.Common.{◌≡◌, ◌⊎◌, ◌+◌, ℕ, List, Option, arith, inl, inr}
use Rattle.http_frames.specs.declared.clients.Clients.{Clients}
use Rattle.http_frames.specs.Clients.{Adds, StaysSo, Takes, count_begun}
use Rattle.http_frames.specs.ConnectionEvents.{Gone, IsNumber}
use Rattle.http_frames.specs.Private.Steps.{BeginsFresh}
use Rattle.http_frames.proofs.Beginning.{new_has, away_has}
use Rattle.http_frames.proofs.Keeping.{alike_stays}
use Rattle.http_frames.proofs.Results.{on_err}
use Rattle.http_frames.proofs.clients.Clients.take.Goals as goal

module _ (number : ℕ) (before middle after : Clients) (next : number ≡ count_begun before + 1) (b : BeginsFresh number before middle) where
  is_number : IsNumber (count_begun middle) number
  is_number = (omega (arith, next), omega (arith, b.begins))

  takes_then : (bytes : List ℕ) (held holds : Option (List ℕ)) → Takes number bytes middle after held holds → Takes number bytes before after held holds
  takes_then bytes held holds (inl x) = inl (λ es h. x.0 es (new_has number before middle es h next b), x.1)
  takes_then bytes held holds (inr x) = inr (inl next, λ es h. x.1 es (new_has number before middle es h next b), x.2)

  gone_then : Adds middle after (Gone number) → StaysSo before after ⊎ Adds before after (Gone number)
  gone_then x = inr (λ es h. x es (new_has number before middle es h next b))

pub returns-in_err-take_some-2-clause-fails : goal.returns-in_err-take_some-2-clause-fails
returns-in_err-take_some-2-clause-fails g c =
    let next : c.args.number ≡ count_begun c.args.self.now + 1 = omega (arith, c.in-Some.ensures, c.if-before-self.false, c.if-before-self-2.false) in
    let b = c.add.ensures.adds c.if-add.true in
    let n = is_number c.args.number c.args.self.now c.add.new.self c.take_some-then-add.new.self next b in
    on_err _ (gone_then c.args.number c.args.self.now c.add.new.self c.take_some-then-add.new.self next b (c.in_err-take_some-2.ensures.fails n))

pub returns-then-add-clause-takes : goal.returns-then-add-clause-takes
returns-then-add-clause-takes g c = λ is.
    let next : c.args.number ≡ count_begun c.args.self.now + 1 = omega (arith, c.in-Some.ensures, c.if-before-self.false, c.if-before-self-2.false) in
    let b = c.add.ensures.adds c.if-add.true in
    let n = is_number c.args.number c.args.self.now c.add.new.self c.take_some-then-add.new.self next b in
    takes_then c.args.number c.args.self.now c.add.new.self c.take_some-then-add.new.self next b c.args.bytes.now (g.O.Write.contents c.args.output.now) (g.O.Write.contents c.take_some-then-add.new.output)
    (c.in_ok-take_some-2.ensures.takes n)

pub returns-in_err-write_piece-clause-fails : goal.returns-in_err-write_piece-clause-fails
returns-in_err-write_piece-clause-fails g c = on_err _ (inl (alike_stays c.args.self.now c.add.new.self (c.add.ensures.fails c.if-add.false)))

pub returns-clause-takes : goal.returns-clause-takes
returns-clause-takes g c = λ is.
    let next : c.args.number ≡ count_begun c.args.self.now + 1 = omega (arith, c.in-Some.ensures, c.if-before-self.false, c.if-before-self-2.false) in
    inr (inl next, λ es h. away_has c.args.number c.args.self.now c.add.new.self es c.args.bytes.now h next (c.add.ensures.fails c.if-add.false), c.in_ok-write_piece.ensures.ok)
