use Rattle.std.proofs.Common.{◌+◌, ◌++◌, List, ℕ, take, drop, sym, ◌∙◌, ap, subst, arith}
use Rattle.std.proofs.lemmas.List.{drop-drop}
use Rattle.journal_core.specs.Sources.{GivesFrom}
use Rattle.journal_core.proofs.Pieces.{take_more}
use Rattle.journal_core.proofs.source.StreamSourceUnit.fill.Goals as goal

pub filling-preserved : goal.filling-preserved
filling-preserved g c =
    let count = c.filling.count in
    let more = c.in_ok-more.more in (
      omega (arith, c.in_ok-more.ensures.bound),
      λ file at it.
          let was = c.filling.invariant.1 file at it in
          let read = c.in_ok-more.ensures.reads file (at + count) was.0 in (
            subst (λ n. GivesFrom g.R.Read.remaining c.read_behind.new.self file n) (omega arith) read.0,
            read.1 ∙ ap (λ (l : List ℕ). l ++ take more (drop (at + count) file)) was.1 ∙ ap (λ (l : List ℕ). take count (drop at file) ++ take more l) (sym (drop-drop count at file))
                ∙ take_more count more (drop at file),
          ),
    )
