-- Each number behind those before it, and then the sum of all of them.
use Rattle.std.proofs.Common.{◌≡◌, ℕ, List, ◌++◌, append_assoc, ap, ◌∙◌}
use Rattle.journal_core.specs.Format.{header_front, header_text, magic, sum_of, version_word, word_of}
use Rattle.journal_core.specs.declared.header.Header.{Header}
use Rattle.journal_core.proofs.header.header_bytes.Goals as goal

front_is : (h : Header) (one two three four five : List ℕ) → one ≡ magic ++ version_word → two ≡ one ++ word_of h.generation → three ≡ two ++ word_of h.key → four ≡ three ++ word_of h.began → five ≡ four ++ word_of 56
    → five ≡ header_front h
unfolding header_front
front_is h one two three four five a b c d e =
    e ∙ ap (λ (l : List ℕ). l ++ word_of 56) (d ∙ ap (λ (l : List ℕ). l ++ word_of h.began) (c ∙ ap (λ (l : List ℕ). l ++ word_of h.key) (b ∙ ap (λ (l : List ℕ). l ++ word_of h.generation) a)))
    ∙ simp append_assoc

text_is : (h : Header) (five six seen : List ℕ) (own : ℕ) → five ≡ header_front h → seen ≡ five → own ≡ sum_of 0 0 seen → six ≡ five ++ word_of own → six ≡ header_text h
unfolding header_text
text_is h five six seen own front whole own_is is =
    let own_sum : own ≡ sum_of 0 0 (header_front h) = own_is ∙ ap (sum_of 0 0) (whole ∙ front) in
    is ∙ ap (λ (l : List ℕ). l ++ word_of own) front ∙ ap (λ n. header_front h ++ word_of n) own_sum

word_is : (n : ℕ) (w t u : List ℕ) → t ≡ u ++ w → w ≡ word_of n → t ≡ u ++ word_of n
word_is n w t u is word = is ∙ ap (λ (l : List ℕ). u ++ l) word

pub returns : goal.returns
unfolding word_of
returns c =
    let h = c.args.header.now in
    let one : c.extend_from_slice.new.self.items ≡ magic ++ version_word = c.in_ok-extend_from_slice.ensures.items ∙ ap (λ (l : List ℕ). l ++ (magic ++ version_word)) c.new-text.ensures.items in
    let two = word_is h.generation c.to_le_bytes.result c.extend_from_slice-2.new.self.items c.extend_from_slice.new.self.items c.in_ok-extend_from_slice-2.ensures.items c.to_le_bytes.ensures in
    let three = word_is h.key c.to_le_bytes-2.result c.extend_from_slice-3.new.self.items c.extend_from_slice-2.new.self.items c.in_ok-extend_from_slice-3.ensures.items c.to_le_bytes-2.ensures in
    let four = word_is h.began c.to_le_bytes-3.result c.extend_from_slice-4.new.self.items c.extend_from_slice-3.new.self.items c.in_ok-extend_from_slice-4.ensures.items c.to_le_bytes-3.ensures in
    let five = word_is 56 c.to_le_bytes-4.result c.extend_from_slice-5.new.self.items c.extend_from_slice-4.new.self.items c.in_ok-extend_from_slice-5.ensures.items c.to_le_bytes-4.ensures in
    let front = front_is h _ _ _ _ _ one two three four five in
    text_is h _ c.extend_from_slice-6.new.self.items c.deref.result.now c.sum_at-own.result front c.deref.ensures.value c.sum_at-own.ensures
    (word_is c.sum_at-own.result c.to_le_bytes-5.result c.extend_from_slice-6.new.self.items c.extend_from_slice-5.new.self.items c.in_ok-extend_from_slice-6.ensures.items c.to_le_bytes-5.ensures)
