use Rattle.std.proofs.Common.{◌≡◌, map, drop, Some}
use Rattle.std.specs.List.{fold}
use Rattle.dav_path_core.specs.MethodSets.{with_word, bits_of_words}
use Rattle.dav_path_core.proofs.util.DavMethodSet.from_vec.Given as goal

-- the words from the index on are still to be joined
abbrev pub invariant-loop-word : goal.invariant-loop-word
invariant-loop-word l = bits_of_words (map (λ w. w.now) l.words) ≡ fold with_word (Some l.set) (map (λ w. w.now) (drop l.word-index l.words))
