-- Round by round.
use Rattle.std.proofs.lemmas.Grind.{common_steps}
use Rattle.std.proofs.Common.{rules, arith, ◌≡◌, ◌∷◌, ◌++◌, [], ◌+◌, ℕ, List, take, drop, sym, ◌∙◌, ap, subst, append_assoc}
use Rattle.std.proofs.lemmas.List.{append-nil, map-append, take-append-drop}
use Rattle.std.specs.Global.{Vec}
use Rattle.journal_core.specs.Batches.{Gathers}
use Rattle.journal_copies.specs.ReadRounds.{HoldRecords, bytes_of_each, records_of_all}
use Rattle.journal_copies.proofs.Coming.{have_alone, have_last, have_one, records_last}
use Rattle.journal_copies.proofs.appending.batch_of.Goals as goal

pub adding-init : goal.adding-init
adding-init g c = (
  c.add_to.ensures.place ∙ c.behind-batch.ensures.fits,
  λ new it.
      let one = have_alone c.args.first.now new it in
      let first = c.add_to.ensures.adds (search rules) [] one.0 c.behind-batch.ensures.none one.2 in
      subst (λ (l : List (List ℕ)). Gathers c.add_to.new.batch l) (sym (append-nil one.0) ∙ ap (λ (n : List (List (List ℕ))). records_of_all n) (sym one.1)) first,
)

pub returns-then-not-branch-2-clause-none : goal.returns-then-not-branch-2-clause-none
returns-then-not-branch-2-clause-none g c = λ _ new it.
    let rounds = c.args.more.now in
    let i = c.adding.round-index in
    let item = c.round-item.result in
    let front = bytes_of_each (take i rounds) in
    let back = bytes_of_each (drop (i + 1) rounds) in
    let more : bytes_of_each (take (i + 1) rounds) ≡ front ++ item.items ∷ [] = grind (arith, common_steps) in
    let all : bytes_of_each rounds ≡ front ++ item.items ∷ back =
    ap (λ (l : List (Vec ℕ)). bytes_of_each l) (sym (take-append-drop (i + 1) rounds)) ∙ map-append (λ (r : Vec ℕ). r.items) (take (i + 1) rounds) (drop (i + 1) rounds)
    ∙ ap (λ (l : List (List ℕ)). l ++ back) more ∙ append_assoc front (item.items ∷ []) back in
    let there = have_one (c.args.first.now ∷ front) back item.items new (subst (λ (l : List (List ℕ)). HoldRecords (c.args.first.now ∷ l) new) all it) in
    c.add_to-in-adding.ensures.other (search rules) there.0 (ap (λ (l : List ℕ). drop 16 l) c.deref.ensures.value ∙ there.1)

pub adding-preserved : goal.adding-preserved
adding-preserved g c =
    let rounds = c.args.more.now in
    let i = c.adding.round-index in
    let item = c.round-item.result in
    let first = c.args.first.now in
    let more : bytes_of_each (take (i + 1) rounds) ≡ bytes_of_each (take i rounds) ++ item.items ∷ [] = grind (arith, common_steps) in (
      c.add_to-in-adding.ensures.place ∙ c.adding.invariant.0,
      λ new it.
          let split = have_last (first ∷ bytes_of_each (take i rounds)) item.items new (subst (λ (l : List (List ℕ)). HoldRecords (first ∷ l) new) more it) in
          let done = c.adding.invariant.1 split.0 split.3 in
          let added = c.add_to-in-adding.ensures.adds (search rules) (records_of_all split.0) split.1 done (ap (λ (l : List ℕ). drop 16 l) c.deref.ensures.value ∙ split.4) in
          subst (λ (l : List (List ℕ)). Gathers c.add_to-in-adding.new.batch l) (sym (ap (λ (n : List (List (List ℕ))). records_of_all n) split.2 ∙ records_last split.0 split.1)) added,
    )
