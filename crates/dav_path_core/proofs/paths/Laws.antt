-- A text has one path at most, and none where it has a fault.
use Rattle.std.proofs.Common.{◌≡◌, ℕ, zero, suc, ◌<◌, ◌≤◌, ⊎_elim, List, [], ◌∷◌, length, take, drop, get_or, sym, refl, ap, ◌∙◌, arith}
use Rattle.std.proofs.Math.Seq.{split_at}
use Rattle.std.specs.Prelude.{IsTrue, Contains}
use Rattle.std.proofs.lemmas.List.Elements.{recursion_from_All}
use Rattle.dav_path_core.specs.Private.Keeping.{ComesDown}
use Rattle.dav_path_core.specs.PathReading.{IsTarget, Read, raw, decoded_pieces, path_of, ends_in_slash, is_ordinary, is_up, IsForeign}
use Rattle.std.proofs.lemmas.Bool.{cases_lt}
use Rattle.dav_path_core.specs.Fault.{Fault, FirstFault, IsFaultAt, nth_piece}
use Rattle.dav_path_core.specs.Fault.Fault.{no_target, first}
use Rattle.dav_path_core.specs.Fault.IsFaultAt.{foreign, above}
use Rattle.dav_path_core.specs.declared.davpath.ParseError.{ParseError}
use Rattle.dav_path_core.proofs.paths.Rewriting.{AllOrdinary-from_reduced, one_result, no_result, run, run_runs_empty, up_is, IsReduced-from_ordinary, no_up_from_ordinary}

pub one_path : (text p q : List ℕ) → Read text p → Read text q → p ≡ q
one_path text p q r s =
    let same = one_result (decoded_pieces (raw text)) r.kept s.kept r.rewrites s.rewrites (AllOrdinary-from_reduced r.kept r.reduced r.no_up) (AllOrdinary-from_reduced s.kept s.reduced s.no_up) in
    r.path_is ∙ ap (λ kept. path_of kept (ends_in_slash (raw text))) same ∙ sym s.path_is

pub no_path : (text p : List ℕ) (e : ParseError) → Fault text e → Read text p → ⊥
no_path text p _ (no_target h) r = h r.target
no_path text p _ (first e target f) r = no_path_first f.at e f.within f.fault
  where
    no_path_first : (k : ℕ) (e : ParseError) → k < length (decoded_pieces (raw text)) → IsFaultAt (decoded_pieces (raw text)) k e → ⊥
    no_path_first k _ within (foreign h) = r.clean k [] within h
    no_path_first k _ within (above h) =
        let pieces = decoded_pieces (raw text) in
        no_result pieces r.kept
        (ap (run []) (split_at pieces k [] within) ∙ run_runs_empty (take k pieces) (drop (suc k) pieces) (get_or pieces k []) h.0 h.1)
        r.rewrites (AllOrdinary-from_reduced r.kept r.reduced r.no_up)

at_two : (k c : ℕ) → k < 2 → (46 ≡ c → ⊥) → get_or (46 ∷ 46 ∷ []) k c ≡ c → ⊥
at_two zero c lt h e = h e
at_two (suc zero) c lt h e = h e
at_two (suc (suc k)) c lt h e = absurd (omega arith)

up_lacks : (up : List ℕ) (c : ℕ) → IsTrue (is_up up) → (46 ≡ c → ⊥) → ¬ Contains up c
up_lacks up c u h = λ has. let here : Contains (46 ∷ 46 ∷ []) c = rw (up_is up u) at has in at_two here.0 c here.1 h here.2

up_not_foreign : (up : List ℕ) → IsTrue (is_up up) → ¬ IsForeign up
up_not_foreign up u = ⊎_elim (up_lacks up 0 u (λ e. absurd (omega arith))) (up_lacks up 47 u (λ e. absurd (omega arith)))

-- the first fault is one
same_at : (pieces : List (List ℕ)) (k : ℕ) (e f : ParseError) → IsFaultAt pieces k e → IsFaultAt pieces k f → e ≡ f
same_at pieces k _ _ (foreign h) (foreign i) = refl
same_at pieces k _ _ (foreign h) (above i) = absurd (up_not_foreign (nth_piece pieces k) i.0 h)
same_at pieces k _ _ (above h) (foreign i) = absurd (up_not_foreign (nth_piece pieces k) h.0 i)
same_at pieces k _ _ (above h) (above i) = refl

same_first : (pieces : List (List ℕ)) (e f : ParseError) → FirstFault pieces e → FirstFault pieces f → e ≡ f
same_first pieces e f a b =
    ⊎_elim (λ (lt : a.at < b.at). absurd (b.earlier a.at lt e a.fault))
    (λ (ge : b.at ≤ a.at).
    ⊎_elim (λ (lt : b.at < a.at). absurd (a.earlier b.at lt f b.fault))
    (λ (le : a.at ≤ b.at). let same : a.at ≡ b.at = omega arith in same_at pieces b.at e f (rw same at a.fault) b.fault)
    (cases_lt b.at a.at))
    (cases_lt a.at b.at)

pub one_fault : (text : List ℕ) (e f : ParseError) → Fault text e → Fault text f → e ≡ f
one_fault text _ _ (no_target h) (no_target i) = refl
one_fault text _ _ (no_target h) (first f t b) = absurd (h t)
one_fault text _ _ (first e t a) (no_target i) = absurd (i t)
one_fault text _ _ (first e t a) (first f u b) = same_first (decoded_pieces (raw text)) e f a b

-- what the code finds is a reading
pub read_from : (text raw_text path : List ℕ) (kept : List (List ℕ)) → IsTarget text → raw_text ≡ raw text → ComesDown (decoded_pieces raw_text) kept → path ≡ path_of kept (ends_in_slash raw_text) → Read text path
read_from text raw_text path kept target e comes is =
    let down = rw e at comes in
    let all = recursion_from_All (λ piece. IsTrue (is_ordinary piece)) kept down.ordinary in
    record {
      target = target;
      clean = down.clean;
      kept = kept;
      rewrites = down.rewrites;
      reduced = IsReduced-from_ordinary kept all;
      no_up = no_up_from_ordinary kept all;
      path_is = is ∙ ap (λ r. path_of kept (ends_in_slash r)) e;
    }
