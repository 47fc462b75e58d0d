-- Notes and records are read exactly as they are written.
use Rattle.std.proofs.Common.{◌≡◌, ℕ, zero, suc, ◌-◌, ◌<◌, ◌^◌, Bool, true, false, cond, eqb, List, [], ◌∷◌, ◌++◌, length, take, drop, Option, Result, Ok, Err, refl, sym, ap, subst, ◌∙◌, append_assoc, arith}
use Rattle.std.specs.Prelude.{IfSome}
use Rattle.std.specs.List.{flat_map, AllByRecursion}
use Rattle.std.proofs.lemmas.Bool.{eqb-true}
use Rattle.std.proofs.lemmas.List.{append-nil, nil_from_length, take_at, drop_at, take-append-drop}
use Rattle.std.proofs.lemmas.List.Concat.{flat_map-cons}
use Rattle.dav_guarded_core.specs.Requests.{Command}
use Rattle.dav_notes_core.specs.Asking.{Caller}
use Rattle.dav_notes_core.specs.Noting.{Noted}
use Rattle.dav_effects_core.specs.ByteForms.{Reading, ◌>>=◌, FitsInEight, HasCount, number_text, counted_text, optional_text, following_text, pair_at, value_at, eight_bytes_at, bytes_at, counted_at, optional_at}
use Rattle.dav_effects_core.specs.RecordReading.{Behind, behind_note, start_behind, caller_at, command_at, note_from, note_at, notes_at, head_at, whole_of_head, whole_of_parts, record_at}
use Rattle.dav_effects_core.specs.RecordText.{asker, caller_text, command_text, path_behind, body_of, drawn_text, note_text, notes_text, head_text, bodies_text}
use Rattle.dav_effects_core.specs.Records.{IsCaller, IsChange, IsNoted, IsRecord}
use Rattle.dav_effects_core.proofs.Exact.{Exact, IsBytes, IsBytes-behind, IsBytes-front, bind_ok, guard_true, ok_is, pair_exact, value_exact, number_exact, bytes_exact, counted_exact, optional_exact}
use Rattle.dav_effects_core.proofs.Following.{following_bytes}
use Rattle.dav_effects_core.proofs.ValueForms.{caller_again, caller_exact}
use Rattle.dav_effects_core.proofs.CommandForms.{HasBody, command_exact}

-- ---- a note

drawn_exact : Exact (optional_text drawn_text) (λ (o : Option (List ℕ)). IfSome o (λ d. length d ≡ 16)) (optional_at (bytes_at 16))
drawn_exact = optional_exact drawn_text (λ d. length d ≡ 16) (bytes_at 16) (bytes_exact 16)

abbrev NoteFields : Type 0
NoteFields = Caller × (Option (List ℕ) × Command)

note_exact : (s : Behind) → IsBytes s.caller → Exact (note_text s.caller s.path) (λ (n : Noted). IsNoted n × HasBody s.bodies n.request.command) (note_at s)
unfolding note_at note_text
note_exact s old =
    value_exact (λ (x : NoteFields). following_text s.caller (caller_text x.0) ++ (optional_text drawn_text x.1.0 ++ command_text s.path x.1.1))
    (λ (x : NoteFields). (IsCaller x.0 × HasCount (caller_text x.0)) × (IfSome x.1.0 (λ d. length d ≡ 16) × (IsChange x.1.1 × HasBody s.bodies x.1.1)))
    (pair_at (caller_at s.caller) (λ _. pair_at (optional_at (bytes_at 16)) (λ _. command_at s.path s.bodies))) note_from
    (λ (n : Noted). (asker n.request, (n.drawn, n.request.command))) (λ (n : Noted). IsNoted n × HasBody s.bodies n.request.command)
    (pair_exact (λ (x : Caller). following_text s.caller (caller_text x)) (λ (x : Caller). IsCaller x × HasCount (caller_text x)) (caller_at s.caller)
    (λ _ y. optional_text drawn_text y.0 ++ command_text s.path y.1) (λ _ y. IfSome y.0 (λ d. length d ≡ 16) × (IsChange y.1 × HasBody s.bodies y.1)) (λ _. pair_at (optional_at (bytes_at 16)) (λ _. command_at s.path s.bodies))
    (caller_exact s.caller old)
    (λ _. pair_exact (optional_text drawn_text) (λ o. IfSome o (λ d. length d ≡ 16)) (optional_at (bytes_at 16)) (λ _. command_text s.path) (λ _ c. IsChange c × HasBody s.bodies c) (λ _. command_at s.path s.bodies)
    drawn_exact (λ _. command_exact s.path s.bodies)))
    (λ a h. (refl, (record { caller = h.0.0; brief = h.0.1; command = h.1.1.0; drawn = h.1.0 }, h.1.1.1)))
    (λ b h. (((h.0.caller, h.0.brief), (h.0.drawn, (h.0.command, h.1))), refl))

note_again : (s : Behind) (n : Noted) (rest : List ℕ) → IsNoted n → HasBody s.bodies n.request.command → note_at s (note_text s.caller s.path n ++ rest) ≡ Ok (n, rest)
unfolding note_at note_text
note_again s n rest fits has =
    let front = following_text s.caller (caller_text (asker n.request)) in
    let drawn = optional_text drawn_text n.drawn in
    let command = command_text s.path n.request.command in
    let regrouped : (front ++ (drawn ++ command)) ++ rest ≡ front ++ (drawn ++ (command ++ rest)) = simp append_assoc in
    let one = caller_again s.caller (asker n.request) (drawn ++ (command ++ rest)) (fits.caller, fits.brief) in
    let two = drawn_exact.again n.drawn (command ++ rest) fits.drawn in
    let three = (command_exact s.path s.bodies).again n.request.command rest (fits.command, has) in
    ap (note_at s) regrouped ∙ rw (one, two, three) refl

-- the next note stands behind bytes, too
caller_bytes : (s : Behind) (n : Noted) (rest : List ℕ) → IsBytes s.caller → IsBytes (note_text s.caller s.path n ++ rest) → IsBytes (caller_text (asker n.request))
unfolding note_text
caller_bytes s n rest old fits =
    let who = caller_text (asker n.request) in
    let front = following_text s.caller who in
    let more = optional_text drawn_text n.drawn ++ command_text s.path n.request.command in
    following_bytes s.caller who (more ++ rest) old (subst IsBytes (append_assoc front more rest) fits)

-- ---- notes

record TookNotes (n : ℕ) (s : Behind) (bytes : List ℕ) (ns : List Noted) (left rest : List ℕ) : Type 0 where
  pub text : bytes ≡ notes_text s.caller s.path ns ++ rest
  pub fits : AllByRecursion IsNoted ns
  pub many : length ns ≡ n
  pub bodies : s.bodies ≡ bodies_text ns ++ left

bodies_cons : (n : Noted) (ns : List Noted) → bodies_text (n ∷ ns) ≡ body_of n.request.command ++ bodies_text ns
bodies_cons n ns = flat_map-cons (λ m. body_of m.request.command) n ns

took_more : (n : ℕ) (s : Behind) (bytes : List ℕ) (note : Noted) (behind : List ℕ) (ns : List Noted) (left rest : List ℕ)
    → bytes ≡ note_text s.caller s.path note ++ behind → IsNoted note → HasBody s.bodies note.request.command
    → TookNotes n (behind_note s note) behind ns left rest → TookNotes (suc n) s bytes (note ∷ ns) left rest
unfolding notes_text
took_more n s bytes note behind ns left rest e fits has t =
    let body = body_of note.request.command in
    let more = notes_text (caller_text (asker note.request)) (path_behind s.path note.request.command) ns in
    record {
      text = e ∙ ap (λ (r : List ℕ). note_text s.caller s.path note ++ r) t.text ∙ sym (append_assoc (note_text s.caller s.path note) more rest);
      fits = (fits, t.fits);
      many = ap suc t.many;
      bodies = sym (take-append-drop (length body) s.bodies) ∙ ap (λ (f : List ℕ). f ++ drop (length body) s.bodies) has ∙ ap (λ (r : List ℕ). body ++ r) t.bodies
          ∙ sym (append_assoc body (bodies_text ns) left) ∙ ap (λ (b : List ℕ). b ++ left) (sym (bodies_cons note ns));
    }

notes_takes : (n : ℕ) (s : Behind) (bytes : List ℕ) (x : List Noted × List ℕ) (rest : List ℕ) → IsBytes s.caller → IsBytes bytes → notes_at n s bytes ≡ Ok (x, rest) → TookNotes n s bytes x.0 x.1 rest
unfolding notes_at notes_text
notes_takes zero s bytes x rest old fits e =
    let made : (List Noted × List ℕ) × List ℕ = (([], s.bodies), bytes) in
    subst (λ (y : (List Noted × List ℕ) × List ℕ). TookNotes 0 s bytes y.0.0 y.0.1 y.1) (ok_is made (x, rest) e) (record { text = refl; fits = tt; many = refl; bodies = refl })
notes_takes (suc n) s bytes x rest old fits e =
    let a = bind_ok (note_at s bytes) (λ a. notes_at n (behind_note s a.0) a.1 >>= λ b. Ok ((a.0 ∷ b.0.0, b.0.1), b.1)) (x, rest) e in
    let b = bind_ok (notes_at n (behind_note s a.0.0) a.0.1) (λ b. Ok ((a.0.0 ∷ b.0.0, b.0.1), b.1)) (x, rest) a.2 in
    let first = (note_exact s old).takes bytes a.0.0 a.0.1 fits a.1 in
    let old' = caller_bytes s a.0.0 a.0.1 old (subst IsBytes first.0 fits) in
    let behind = IsBytes-behind (note_text s.caller s.path a.0.0) a.0.1 (subst IsBytes first.0 fits) in
    let second = notes_takes n (behind_note s a.0.0) a.0.1 b.0.0 b.0.1 old' behind b.1 in
    let made : (List Noted × List ℕ) × List ℕ = ((a.0.0 ∷ b.0.0.0, b.0.0.1), b.0.1) in
    subst (λ (y : (List Noted × List ℕ) × List ℕ). TookNotes (suc n) s bytes y.0.0 y.0.1 y.1) (ok_is made (x, rest) b.2)
    (took_more n s bytes a.0.0 a.0.1 b.0.0.0 b.0.0.1 b.0.1 first.0 first.1.0 first.1.1 second)

notes_again : (ns : List Noted) (s : Behind) (left rest : List ℕ) → AllByRecursion IsNoted ns → s.bodies ≡ bodies_text ns ++ left → notes_at (length ns) s (notes_text s.caller s.path ns ++ rest) ≡ Ok ((ns, left), rest)
unfolding notes_at notes_text
notes_again [] s left rest fits e = ap (λ (b : List ℕ). Ok (([], b), rest)) e
notes_again (n ∷ ns) s left rest fits e =
    let body = body_of n.request.command in
    let all : s.bodies ≡ body ++ (bodies_text ns ++ left) = e ∙ ap (λ (b : List ℕ). b ++ left) (bodies_cons n ns) ∙ append_assoc body (bodies_text ns) left in
    let has : HasBody s.bodies n.request.command = ap (take (length body)) all ∙ take_at body (bodies_text ns ++ left) (length body) refl in
    let less : (behind_note s n).bodies ≡ bodies_text ns ++ left = ap (drop (length body)) all ∙ drop_at body (bodies_text ns ++ left) (length body) refl in
    let more = notes_text (caller_text (asker n.request)) (path_behind s.path n.request.command) ns in
    let one = note_again s n (more ++ rest) fits.0 has in
    let two = notes_again ns (behind_note s n) left rest fits.1 less in
    ap (notes_at (suc (length ns)) s) (append_assoc (note_text s.caller s.path n) more rest) ∙ rw (one, two) refl

-- ---- a record

head_takes : (bodies head : List ℕ) (x : List Noted × List ℕ) → IsBytes head → head_at bodies head ≡ Ok x
    → (head ≡ head_text x.0) × (FitsInEight (length x.0) × AllByRecursion IsNoted x.0) × (bodies ≡ bodies_text x.0 ++ x.1)
unfolding head_at
head_takes bodies head x fits e =
    let a = bind_ok (eight_bytes_at head) (λ n. notes_at n.0 (start_behind bodies) n.1 >>= λ x. cond (eqb (length x.1) 0) (Ok x.0) (Err (length x.1))) x e in
    let b = bind_ok (notes_at a.0.0 (start_behind bodies) a.0.1) (λ x. cond (eqb (length x.1) 0) (Ok x.0) (Err (length x.1))) x a.2 in
    let g = guard_true (eqb (length b.0.1) 0) (length b.0.1) (Ok b.0.0) x b.2 in
    let none = nil_from_length b.0.1 (eqb-true _ _ g.0) in
    let first = number_exact.takes head a.0.0 a.0.1 fits a.1 in
    let behind = IsBytes-behind (number_text a.0.0) a.0.1 (subst IsBytes first.0 fits) in
    let t = notes_takes a.0.0 (start_behind bodies) a.0.1 b.0.0 b.0.1 (λ i. omega arith) behind b.1 in
    let ns = b.0.0.0 in
    let whole : head ≡ head_text ns =
    first.0 ∙ ap (λ (r : List ℕ). number_text a.0.0 ++ r) (t.text ∙ ap (λ (r : List ℕ). notes_text [] [] ns ++ r) none ∙ append-nil (notes_text [] [] ns)) ∙ ap (λ (n : ℕ). number_text n ++ notes_text [] [] ns) (sym t.many) in
    subst (λ (y : List Noted × List ℕ). (head ≡ head_text y.0) × (FitsInEight (length y.0) × AllByRecursion IsNoted y.0) × (bodies ≡ bodies_text y.0 ++ y.1)) (ok_is b.0.0 x g.1)
    (whole, (subst FitsInEight (sym t.many) first.1, t.fits), t.bodies)

head_again : (ns : List Noted) → FitsInEight (length ns) → AllByRecursion IsNoted ns → head_at (bodies_text ns) (head_text ns) ≡ Ok (ns, [])
unfolding head_at
head_again ns few fits =
    let one = number_exact.again (length ns) (notes_text [] [] ns) few in
    let two : notes_at (length ns) (start_behind (bodies_text ns)) (notes_text [] [] ns) ≡ Ok ((ns, []), []) =
    ap (notes_at (length ns) (start_behind (bodies_text ns))) (sym (append-nil (notes_text [] [] ns))) ∙ notes_again ns (start_behind (bodies_text ns)) [] [] fits (sym (append-nil (bodies_text ns))) in
    rw (one, two) refl

of_parts : (len : ℕ) (r : Result (List ℕ × List ℕ) ℕ) (ns : List Noted) → whole_of_parts head_at len r ≡ Ok ns → (parts : List ℕ × List ℕ) × (r ≡ Ok parts) × (whole_of_head len (len - length parts.1) (head_at parts.1 parts.0) ≡ Ok ns)
of_parts len (Ok parts) ns e = (parts, refl, e)
of_parts len (Err left) ns e = absurd cc

of_head : (len end : ℕ) (r : Result (List Noted × List ℕ) ℕ) (ns : List Noted) → whole_of_head len end r ≡ Ok ns → r ≡ Ok (ns, [])
of_head len end (Ok x) ns e =
    let g = guard_true (eqb (length x.1) 0) (len - length x.1) (Ok x.0) ns e in
    ap (λ (l : List ℕ). Ok (x.0, l)) (nil_from_length x.1 (eqb-true _ _ g.0)) ∙ ap (λ (ms : List Noted). Ok (ms, [])) (ok_is x.0 ns g.1)
of_head len end (Err left) ns e = absurd cc

pub record_takes : (bytes : List ℕ) (ns : List Noted) → IsBytes bytes → record_at bytes ≡ Ok ns → IsRecord ns bytes
unfolding record_at
record_takes bytes ns fits e =
    let p = of_parts (length bytes) (counted_at bytes) ns e in
    let h = of_head (length bytes) (length bytes - length p.0.1) (head_at p.0.1 p.0.0) ns p.2 in
    let first = counted_exact.takes bytes p.0.0 p.0.1 fits p.1 in
    let small = IsBytes-front p.0.0 p.0.1 (IsBytes-behind (number_text (length p.0.0)) (p.0.0 ++ p.0.1) (subst IsBytes (first.0 ∙ append_assoc (number_text (length p.0.0)) p.0.0 p.0.1) fits)) in
    let t = head_takes p.0.1 p.0.0 (ns, []) small h in
    record {
      few = t.1.0;
      notes = t.1.1;
      short = subst HasCount t.0 first.1;
      written = first.0 ∙ ap (λ (w : List ℕ). counted_text w ++ p.0.1) t.0 ∙ ap (λ (w : List ℕ). counted_text (head_text ns) ++ w) (t.2 ∙ append-nil (bodies_text ns));
    }

pub record_again : (ns : List Noted) (bytes : List ℕ) → IsRecord ns bytes → record_at bytes ≡ Ok ns
unfolding record_at
record_again ns bytes r =
    let one = counted_exact.again (head_text ns) (bodies_text ns) r.short in
    let two = head_again ns r.few r.notes in
    ap record_at r.written ∙ rw (one, two) refl
