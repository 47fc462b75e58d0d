-- Its gate, where it is not the first, and then its length, its sum and its records.
use Rattle.std.proofs.Common.{rules, ◌≡◌, ◌++◌, inl, inr, List, ℕ, [], length, ◌∙◌, ap, append_assoc}
use Rattle.std.proofs.lemmas.Result.{on_ok_weaker}
use Rattle.std.specs.Prelude.{◌<◌, OnOk}
use Rattle.std.proofs.lemmas.List.{nil_from_length}
use Rattle.journal_core.specs.declared.batch.Batch.{Batch}
use Rattle.journal_core.proofs.Numbers.{word_as}
use Rattle.journal_core.specs.Format.{open_word, round_text, sum_of, word_of}
use Rattle.journal_core.proofs.batch.Batch.join.Goals as goal
use Rattle.journal_core.proofs.batch.Batch.join.Goals.{then-not-is_empty+in_ok-extend_from_slice, else-not-is_empty}

joined : (front one two three word sum bytes : List ℕ) (key place : ℕ) → one ≡ front ++ word → two ≡ one ++ sum → three ≡ two ++ bytes → word ≡ word_of (length bytes) → sum ≡ word_of (sum_of key place bytes)
    → three ≡ front ++ round_text key place bytes
joined front one two three word sum bytes key place a b c word_is sum_is =
    c ∙ ap (λ (l : List ℕ). l ++ bytes) (b ∙ ap (λ (l : List ℕ). l ++ sum) a) ∙ append_assoc (front ++ word) sum bytes ∙ append_assoc front word (sum ++ bytes)
    ∙ λ i. front ++ (word_is i ++ (sum_is i ++ bytes))

pub returns-clause-joins : goal.returns-clause-joins
unfolding word_of
returns-clause-joins c =
    let old = c.args.self.now in
    let bytes = c.args.records.now in
    let base = c.if-not-is_empty.self.text.items in
    let new = c.extend_from_slice-4.new.self.items in
    let round = round_text old.key c.args.place bytes in
    let last : OnOk c.extend_from_slice-4.result (new ≡ c.extend_from_slice-3.new.self.items ++ bytes) = search rules in
    let word : c.to_le_bytes.result ≡ word_of (length bytes) = search rules in
    let sum = word_as c.sum_at-sum.result (sum_of old.key c.args.place bytes) c.to_le_bytes-2.result c.to_le_bytes-2.ensures c.sum_at-sum.ensures in
    let all : new ≡ c.extend_from_slice-3.new.self.items ++ bytes → new ≡ base ++ round = λ e.
    joined base c.extend_from_slice-2.new.self.items c.extend_from_slice-3.new.self.items new c.to_le_bytes.result c.to_le_bytes-2.result bytes old.key c.args.place
    c.in_ok-extend_from_slice-2.ensures.items c.in_ok-extend_from_slice-3.ensures.items e word sum in
    on_ok_weaker c.extend_from_slice-4.result
    (λ e. elim c.if-not-is_empty.branch [
      | then-not-is_empty+in_ok-extend_from_slice w ↦
          let some : 0 < length old.text.items = search rules in
          let first : base ≡ old.text.items ++ open_word = ap (λ (b : Batch). b.text.items) w.self-is ∙ w.in_ok-extend_from_slice.ensures.items in
          inr (some, all e ∙ ap (λ (l : List ℕ). l ++ round) first ∙ append_assoc old.text.items open_word round)
      | else-not-is_empty w ↦
          let none : old.text.items ≡ [] = nil_from_length old.text.items (search rules) in
          let first : base ≡ [] = ap (λ (b : Batch). b.text.items) w.self-is ∙ none in
          inl (none, all e ∙ ap (λ (l : List ℕ). l ++ round) first)
    ])
    last
