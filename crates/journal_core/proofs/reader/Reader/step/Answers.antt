use Rattle.std.proofs.Common.{rules, ◌≡◌, ◌+◌, ◌-◌, ◌<◌, ◌^◌, ◌++◌, ◌∷◌, ℕ, List, length, take, drop, refl, sym, ◌∙◌, ap, arith}
use Rattle.std.proofs.lemmas.List.{length-drop}
use Rattle.journal_core.specs.Format.{record_text}
use Rattle.journal_core.proofs.Pieces.{slice_behind}
use Rattle.journal_core.proofs.Records.{first_record, record_at}
use Rattle.journal_core.proofs.reader.Reader.step.Goals as goal

pub returns-clause-reads : goal.returns-clause-reads
returns-clause-reads c = λ _ left is.
    let bytes = c.args.self.now.round.items in
    let at = c.args.self.now.to in
    let one = c.in-Some.record.now in
    let behind = c.in-Some._behind.now in
    let front : drop at bytes ≡ record_text one ++ behind = ap (λ (l : List ℕ). drop at l) (sym c.deref.ensures.value) ∙ sym (slice_behind at c.deref.result.now) ∙ c.in-Some.ensures in
    let fits : length bytes < 2 ^ 64 = search rules in
    let short : length (drop at bytes) < 2 ^ 64 = omega (arith, fits, length-drop at bytes) in
    let first = first_record (drop at bytes) left one behind short is front in
    let stands = record_at bytes at one behind front in
    let shown : take (at + 8 + length one - (at + 8)) (drop (at + 8) bytes) ≡ one = ap (λ n. take n (drop (at + 8) bytes)) (omega arith) ∙ stands.0 in
    record { rest = first.0; left_is = first.1 ∙ ap (λ (l : List ℕ). l ∷ first.0) (sym shown); buffered = stands.1 ∙ first.2; header = refl; place = refl; ended = refl }
