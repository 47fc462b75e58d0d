use Rattle.std.proofs.Common.{◌≡◌, ℕ, List, [], ◌++◌, Ok, length, ◌==◌, refl, sym, ap, ◌∙◌, subst, append_assoc, append-nil, inl}
use Rattle.std.proofs.lemmas.Bool.{eqb-true}
use Rattle.std.proofs.lemmas.List.{nil_from_length}
use Rattle.http_frames.specs.Private.Steps.{Reads}
use Rattle.http_frames.proofs.Reading.{more, last, first_none, front_unended}
use Rattle.http_frames.proofs.held.read_all.Goals as goal

pub loop-turn-init : goal.loop-turn-init
loop-turn-init c = ([], refl, inl (refl, refl, refl), λ none. none)

pub returns-then-is_empty : goal.returns-then-is_empty
returns-then-is_empty c =
    let came = c.in_ok-read_from.ensures.ok in
    let inv = c.loop-turn.invariant in
    let none = nil_from_length _ (eqb-true _ 0 (sym c.is_empty.ensures ∙ c.if-is_empty.true)) in
    let all : c.args.rest.now.now ≡ inv.0 ++ came.0 = inv.1 ∙ ap (λ (t : List ℕ). inv.0 ++ t) (came.2 ∙ ap (λ (t : List ℕ). came.0 ++ t) none ∙ append-nil came.0) in
    subst (λ (b : List ℕ). Reads b c.args.connection.now c.read_from.new.self) (sym all)
    (last c.args.connection.now c.loop-turn.connection c.read_from.new.self inv.0 c.read_from.ensures.config came.0 inv.2 came.3
    (λ nothing. first_none inv.0 c.loop-turn.rest.now (sym inv.1 ∙ inv.3 (came.2 ∙ ap (λ (t : List ℕ). t ++ c.read_from.new.reader.now) nothing ∙ none))))

pub loop-turn-preserved : goal.loop-turn-preserved
loop-turn-preserved c =
    let came = c.in_ok-read_from.ensures.ok in
    let inv = c.loop-turn.invariant in
    let full : c.read_from.new.reader.now ≡ [] → ⊥ = λ none. let empty = c.is_empty.ensures ∙ ap (λ (t : List ℕ). length t == 0) none in let not_empty = c.if-is_empty.false in cc in (
      inv.0 ++ came.0,
      inv.1 ∙ ap (λ (t : List ℕ). inv.0 ++ t) came.2 ∙ sym (append_assoc inv.0 came.0 _),
      more c.args.connection.now c.loop-turn.connection c.read_from.new.self inv.0 c.read_from.ensures.config came.0 inv.2 came.3 (λ unended nothing. full (
          c.read_from.ensures.end (c.in_ok-read_from.was ∙ ap (λ (n : ℕ). Ok n) (sym came.1 ∙ ap (λ (t : List ℕ). length t) nothing)) (front_unended inv.0 c.args.connection.now c.loop-turn.connection inv.2 unended)
          )),
      λ none. absurd (full none),
    )
