-- How long a file is of which so many records were read.
use Rattle.std.proofs.Common.{◌≤◌, ◌*◌, ◌+◌, ℕ, List, [], ◌∷◌, length, length-append, ap, arith}
use Rattle.std.specs.List.{AllByRecursion}
use Rattle.std.proofs.lemmas.List.Concat.{flat_map-cons}
use Rattle.journal_core.specs.declared.reader.Reader.{Reader}
use Rattle.journal_core.specs.Format.{IsOpen, Laid, header_text, journal_front, records_in, records_text, rounds_text, size_of}
use Rattle.journal_core.specs.JournalReading.{HasRead}
use Rattle.journal_core.proofs.Records.{records_size}
use Rattle.journal_core.proofs.Rounds.{first_size}

records_long : (records : List (List ℕ)) → 8 * length records ≤ length (records_text records)
records_long [] = omega arith
records_long (one ∷ records) = omega (arith, records_size one records, records_long records)

rounds_long : (key place : ℕ) (rounds : List Laid) → AllByRecursion IsOpen rounds → 8 * length (records_in rounds) ≤ length (rounds_text key place rounds)
rounds_long key place [] gates = omega arith
rounds_long key place (r ∷ rounds) gates = omega (
  arith,
  first_size key place r rounds gates.0.word,
  records_long r.1,
  rounds_long key (place + size_of r) rounds gates.1,
  ap length (flat_map-cons (λ (q : Laid). q.1) r rounds),
  length-append r.1 (records_in rounds),
)

-- each record takes eight bytes at least
pub long_file : (r : Reader) (file : List ℕ) (done : List (List ℕ)) → HasRead r file done → 8 * length done ≤ length file
long_file r file done it = omega (
  arith,
  rounds_long r.header.key 56 it.rounds it.gates,
  ap length it.same,
  length-append done it.left,
  ap length it.split,
  length-append (journal_front it.first r.header it.rounds) it.rest,
  length-append (it.first ∷ header_text r.header) (rounds_text r.header.key 56 it.rounds),
)
