-- A sum that is fed in pieces, and the parts of a round so far.
use Rattle.std.proofs.Common.{◌≡◌, ℕ, List, [], ◌++◌, length, refl, sym, ◌∙◌, ap, ◌≤◌, take, drop, append_assoc, length-append, arith}
use Rattle.std.proofs.lemmas.List.{take-append-drop}
use Rattle.std.proofs.lemmas.Grind.{flat_map-append}
use Rattle.journal_core.specs.declared.round.Part.{Part}
use Rattle.journal_core.specs.Private.Stages.{BeginsWith, bytes_of_part, parts_text}
use Rattle.std.proofs.lemmas.List.Sums.{fold-append}
use Rattle.std.specs.Hash.DefaultHasher.{write, write_byte, finish}
use Rattle.std.specs.declared.hash.DefaultHasher.{DefaultHasher}
use Rattle.journal_core.specs.Format.{begun_sum, sum_of}

pub fed_none : (s : DefaultHasher) → write s [] ≡ s
unfolding write
fed_none s = refl

pub fed_two : (s : DefaultHasher) (a b : List ℕ) → write (write s a) b ≡ write s (a ++ b)
unfolding write
fed_two s a b = sym (fold-append write_byte s a b)

pub fed_more : (s t : DefaultHasher) (done own body : List ℕ) → t ≡ write s done → write (write t own) body ≡ write s (done ++ (own ++ body))
fed_more s t done own body is = fed_two t own body ∙ ap (λ (u : DefaultHasher). write u (own ++ body)) is ∙ fed_two s done (own ++ body)

pub fed_all : (key place len : ℕ) (t : DefaultHasher) (done tail : List ℕ) → len ≡ length (done ++ tail) → t ≡ write (begun_sum key place len) done → finish (write t tail) ≡ sum_of key place (done ++ tail)
unfolding sum_of
fed_all key place len t done tail len_is is =
    ap finish (ap (λ (u : DefaultHasher). write u tail) is ∙ fed_two (begun_sum key place len) done tail ∙ ap (λ n. write (begun_sum key place n) (done ++ tail)) len_is)

-- ---- the parts

pub parts_within : (n : ℕ) (parts : List Part) → length (parts_text (take n parts)) ≤ length (parts_text parts)
parts_within n parts =
    let whole : parts_text parts ≡ parts_text (take n parts) ++ parts_text (drop n parts) = ap parts_text (sym (take-append-drop n parts)) ∙ flat_map-append bytes_of_part (take n parts) (drop n parts) in
    omega (arith, ap length whole, length-append (parts_text (take n parts)) (parts_text (drop n parts)))

pub one_part : (front done own body more c : List ℕ) → more ≡ done ++ (own ++ body) → BeginsWith (((front ++ done) ++ own) ++ body) c → BeginsWith (front ++ more) c
one_part front done own body more c is it =
    (it.0, it.1 ∙ ap (λ (l : List ℕ). l ++ it.0) (append_assoc (front ++ done) own body ∙ append_assoc front done (own ++ body) ∙ ap (λ (l : List ℕ). front ++ l) (sym is)))
