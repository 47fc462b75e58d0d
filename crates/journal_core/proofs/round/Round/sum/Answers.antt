-- The parts are fed one by one, and then the tail.
use Rattle.std.proofs.Common.{◌≡◌, ◌++◌, ◌+◌, List, length, take, sym, ◌∙◌, ap, arith}
use Rattle.std.proofs.lemmas.Grind.{common_steps}
use Rattle.std.proofs.lemmas.List.{take_all}
use Rattle.std.specs.Hash.DefaultHasher.{write, finish}
use Rattle.std.specs.declared.hash.DefaultHasher.{DefaultHasher}
use Rattle.journal_core.specs.Format.{begun_sum}
use Rattle.journal_core.specs.declared.round.Part.{Part}
use Rattle.journal_core.specs.Private.Stages.{bytes_of_part, parts_text}
use Rattle.journal_core.proofs.Feeding.{fed_none, fed_more, fed_all}
use Rattle.journal_core.proofs.round.Round.sum.Goals as goal

pub feeding-init : goal.feeding-init
feeding-init c = sym (fed_none _ ∙ sym c.begin_sum-hasher.ensures)

pub feeding-preserved : goal.feeding-preserved
feeding-preserved c =
    let parts = c.args.self.now.parts.items in
    let i = c.feeding.part-index in
    let part = c.part-item.result in
    let more : parts_text (take (i + 1) parts) ≡ parts_text (take i parts) ++ bytes_of_part part = grind (arith, common_steps) in
    let begun = begun_sum c.args.key c.args.place c.args.len in
    let fed : c.write-in-feeding.new.self ≡ write (write c.feeding.hasher part.own.items) part.body =
    c.write-in-feeding.ensures ∙ ap (write c.write.new.self) c.deref-in-feeding.ensures ∙ ap (λ (s : DefaultHasher). write s part.body) (c.write.ensures ∙ ap (write c.feeding.hasher) c.deref.ensures.value) in
    fed ∙ fed_more begun c.feeding.hasher (parts_text (take i parts)) part.own.items part.body c.feeding.invariant ∙ ap (write begun) (sym more)

pub returns : goal.returns
returns c =
    let parts = c.args.self.now.parts.items in
    let i = c.feeding.part-index in
    let tail = c.args.self.now.tail.items in
    let all : take i parts ≡ parts = take_all i parts (omega (arith, c.deref-part-items.ensures.len, c.feeding-test.false, ap length c.deref-part-items.ensures.value)) in
    let fed : c.feeding.hasher ≡ write (begun_sum c.args.key c.args.place c.args.len) (parts_text parts) = c.feeding.invariant ∙ ap (λ (l : List Part). write (begun_sum c.args.key c.args.place c.args.len) (parts_text l)) all in
    c.finish.ensures ∙ ap finish (c.write-2.ensures ∙ ap (write c.feeding.hasher) c.deref-2.ensures.value) ∙ fed_all c.args.key c.args.place c.args.len c.feeding.hasher (parts_text parts) tail c.requires fed
