use Rattle.std.proofs.Common.{◌≡◌, ◌++◌, ℕ, List, length, ◌∙◌, ap, append_assoc, arith}
use Rattle.journal_core.specs.Format.{word_of}
use Rattle.journal_copies.proofs.passing.add_record.Goals as goal

pub returns : goal.returns
unfolding word_of
returns c =
    let old = c.args.text.now.items in
    let bytes = c.args.bytes.now in
    let word : c.to_le_bytes.result ≡ word_of (length bytes) = c.to_le_bytes.ensures ∙ ap word_of (omega arith) in
    c.in_ok-extend_from_slice-2.ensures.items ∙ ap (λ (l : List ℕ). l ++ bytes) (c.in_ok-extend_from_slice.ensures.items ∙ ap (λ (l : List ℕ). old ++ l) word) ∙ append_assoc old (word_of (length bytes)) bytes
