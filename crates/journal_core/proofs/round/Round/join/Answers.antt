-- Its length, its head and its body stand behind what was there.
use Rattle.std.proofs.Common.{rules, ◌≡◌, ◌++◌, ◌∷◌, [], List, ℕ, length, ◌∙◌, ap, append_assoc, arith, length-append}
use Rattle.std.proofs.lemmas.List.{append-nil}
use Rattle.std.proofs.lemmas.Grind.{flat_map-append}
use Rattle.std.proofs.lemmas.Result.{on_ok_weaker}
use Rattle.std.specs.Prelude.{OnOk}
use Rattle.journal_core.specs.Format.{record_text, word_of}
use Rattle.journal_core.specs.declared.round.Part.{Part}
use Rattle.journal_core.specs.Private.Stages.{bytes_of_part, parts_text}
use Rattle.journal_core.proofs.round.Round.join.Goals as goal

joined : (parts tail one two three word head body : List ℕ) → one ≡ tail ++ word → two ≡ one ++ head → three ≡ two ++ body → word ≡ word_of (length (head ++ body)) → parts ++ three ≡ (parts ++ tail) ++ record_text (head ++ body)
joined parts tail one two three word head body a b c is =
    ap (λ (l : List ℕ). parts ++ l) (c ∙ ap (λ (l : List ℕ). l ++ body) (b ∙ ap (λ (l : List ℕ). l ++ head) (a ∙ ap (λ (l : List ℕ). tail ++ l) is))) ∙ simp append_assoc

parted : (parts : List Part) (p : Part) (bytes tail : List ℕ) → bytes_of_part p ≡ bytes → tail ≡ [] → parts_text (parts ++ p ∷ []) ++ tail ≡ parts_text parts ++ bytes
parted parts p bytes tail is none =
    ap (λ (l : List ℕ). parts_text (parts ++ p ∷ []) ++ l) none ∙ append-nil (parts_text (parts ++ p ∷ [])) ∙ flat_map-append bytes_of_part parts (p ∷ []) ∙ ap (λ (l : List ℕ). parts_text parts ++ l) (append-nil (bytes_of_part p) ∙ is)

pub returns-then-len-lt-SHARED-clause-adds : goal.returns-then-len-lt-SHARED-clause-adds
unfolding word_of
returns-then-len-lt-SHARED-clause-adds c =
    let parts = parts_text c.args.self.now.parts.items in
    let tail = c.args.self.now.tail.items in
    let head = c.args.head.now in
    let body = c.args.body.now in
    let word : c.to_le_bytes.result ≡ word_of (length (head ++ body)) = c.to_le_bytes.ensures ∙ ap word_of (omega (arith, c.len.ensures.value, length-append head body)) in
    let last : OnOk c.extend_from_slice-then-len-lt-SHARED.result (c.extend_from_slice-then-len-lt-SHARED.new.self.items ≡ c.extend_from_slice-2.new.self.items ++ c.deref.result.now) = search rules in
    on_ok_weaker c.extend_from_slice-then-len-lt-SHARED.result
    (λ e. joined parts tail c.extend_from_slice.new.self.items c.extend_from_slice-2.new.self.items c.extend_from_slice-then-len-lt-SHARED.new.self.items c.to_le_bytes.result head body
    c.in_ok-extend_from_slice.ensures.items c.in_ok-extend_from_slice-2.ensures.items (e ∙ ap (λ (l : List ℕ). c.extend_from_slice-2.new.self.items ++ l) c.deref.ensures) word)
    last

pub returns-clause-adds : goal.returns-clause-adds
unfolding word_of
returns-clause-adds c =
    let parts = parts_text c.args.self.now.parts.items in
    let tail = c.args.self.now.tail.items in
    let head = c.args.head.now in
    let body = c.args.body.now in
    let word : c.to_le_bytes.result ≡ word_of (length (head ++ body)) = c.to_le_bytes.ensures ∙ ap word_of (omega (arith, c.len.ensures.value, length-append head body)) in
    let own : c.replace-own.result.items ≡ c.extend_from_slice-2.new.self.items = search rules in
    let body_is : c.in_ok-body.body ≡ body = search rules in
    let none : c.replace-own.new.dest.items ≡ [] = search rules in
    let pushed : c.push.new.self.items ≡ c.args.self.now.parts.items ++ (record { own = c.replace-own.result; body = c.in_ok-body.body }) ∷ [] = search rules in
    ap (λ (l : List Part). parts_text l ++ c.replace-own.new.dest.items) pushed
    ∙ parted c.args.self.now.parts.items (record { own = c.replace-own.result; body = c.in_ok-body.body }) (c.extend_from_slice-2.new.self.items ++ body) c.replace-own.new.dest.items (ap (λ (l : List ℕ). l ++ c.in_ok-body.body) own ∙ ap (λ (l : List ℕ). c.extend_from_slice-2.new.self.items ++ l) body_is) none
    ∙ joined parts tail c.extend_from_slice.new.self.items c.extend_from_slice-2.new.self.items (c.extend_from_slice-2.new.self.items ++ body) c.to_le_bytes.result head body
    c.in_ok-extend_from_slice.ensures.items c.in_ok-extend_from_slice-2.ensures.items (λ i. c.extend_from_slice-2.new.self.items ++ body) word
