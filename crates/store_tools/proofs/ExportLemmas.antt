-- What an export has done, step by step.
use Rattle.std.proofs.Common.{◌≡◌, ℕ, Bool, true, false, ◌&&◌, if◌then◌else◌, IsTrue, Result, Ok, Err, OnOk, IfErr, is_ok, not, Option, Some, None, is_some, List, [], ◌∷◌, ◌++◌, refl, sym, ◌∙◌, ap, subst, append_assoc, append-nil}
use Rattle.std.proofs.lemmas.Bool.{false≢true, true≢false}
use Rattle.dav_files_core.specs.Resources.{is_folder}
use Rattle.dav_files_core.specs.Walks.{Stored}
use Rattle.std.specs.List.{flat_map}
use Rattle.std.proofs.Math.Bool.{and-false, and-true, and_assoc}
use Rattle.std.proofs.lemmas.Grind.{flat_map-append}
use Rattle.std.proofs.lemmas.List.Folds.{list_all-append}
use Rattle.std.proofs.lemmas.List.{map-append}
use Rattle.store_tools.specs.Exports.{SystemCall, ExportPart, folders, makes, are_made, calls_done, file_calls, folder_of, folder_calls, makes_folder, calls_of}
use Rattle.store_tools.specs.Private.ExportWork.{ExportsEach, ExportsOne, MakesEntry, Work, is_left_out}
use Rattle.store_tools.specs.declared.exporting.Unmade.{Unmade}

-- what was done of two histories
pub done_both : (h i : List (SystemCall × Bool)) → calls_done (h ++ i) ≡ calls_done h ++ calls_done i
unfolding calls_done
done_both [] i = refl
done_both ((s, true) ∷ h) i = ap (λ (l : List SystemCall). s ∷ l) (done_both h i)
done_both ((s, false) ∷ h) i = done_both h i

-- a call more
pub done_more : (h h' : List (SystemCall × Bool)) (s : SystemCall) → h' ≡ h ++ (s, true) ∷ [] → calls_done h' ≡ calls_done h ++ s ∷ []
unfolding calls_done
done_more h h' s noted = ap calls_done noted ∙ done_both h ((s, true) ∷ [])

pub done_none : (h h' : List (SystemCall × Bool)) (s : SystemCall) → h' ≡ h ++ (s, false) ∷ [] → calls_done h' ≡ calls_done h
unfolding calls_done
done_none h h' s noted = ap calls_done noted ∙ (done_both h ((s, false) ∷ []) ∙ append-nil (calls_done h))

-- three calls
pub done_three : (h i j k : List (SystemCall × Bool)) (s t u : SystemCall) → i ≡ h ++ (s, true) ∷ [] → j ≡ i ++ (t, true) ∷ [] → k ≡ j ++ (u, true) ∷ [] → calls_done k ≡ calls_done h ++ s ∷ t ∷ u ∷ []
done_three h i j k s t u one two three =
    done_more j k u three ∙ (ap (λ (l : List SystemCall). l ++ u ∷ []) (done_more i j t two ∙ (ap (λ (l : List SystemCall). l ++ t ∷ []) (done_more h i s one) ∙ append_assoc (calls_done h) (s ∷ []) (t ∷ []))) ∙ append_assoc (calls_done h) (s ∷ t ∷ []) (u ∷ []))

-- the last of them by its answer
pub three_on : {T E : Type 0} (r : Result T E) (h i j k : List (SystemCall × Bool)) (s t u : SystemCall) → i ≡ h ++ (s, true) ∷ [] → j ≡ i ++ (t, true) ∷ [] → k ≡ j ++ (u, is_ok r) ∷ []
    → OnOk r (calls_done k ≡ calls_done h ++ s ∷ t ∷ u ∷ [])
three_on (Ok x) h i j k s t u one two three = done_three h i j k s t u one two three
three_on (Err e) h i j k s t u one two three = tt

-- ---- by what a call answers

pub done_if : (b : Bool) (h h' : List (SystemCall × Bool)) (s : SystemCall) → h' ≡ h ++ (s, b) ∷ [] → IsTrue b → calls_done h' ≡ calls_done h ++ s ∷ []
done_if true h h' s noted is = done_more h h' s noted
done_if false h h' s noted is = absurd (false≢true is)

pub none_if : (b : Bool) (h h' : List (SystemCall × Bool)) (s : SystemCall) → h' ≡ h ++ (s, b) ∷ [] → IsTrue (not b) → calls_done h' ≡ calls_done h
none_if true h h' s noted is = absurd (false≢true is)
none_if false h h' s noted is = done_none h h' s noted

pub made_on : {T E : Type 0} (r : Result T E) (b : Bool) (h h' : List (SystemCall × Bool)) (s : SystemCall) → h' ≡ h ++ (s, b) ∷ [] → OnOk r (IsTrue b) → OnOk r (calls_done h' ≡ calls_done h ++ s ∷ [])
made_on (Ok x) b h h' s noted is = done_if b h h' s noted is
made_on (Err e) b h h' s noted is = tt

pub left_on : {T : Type 0} (r : Result T Unmade) (b : Bool) (h h' : List (SystemCall × Bool)) (s : SystemCall) → h' ≡ h ++ (s, b) ∷ [] → IfErr r (λ e. IsTrue (not b)) → IfErr r (λ e. IsTrue (is_left_out e) → calls_done h' ≡ calls_done h)
left_on (Ok x) b h h' s noted is = tt
left_on (Err e) b h h' s noted is = λ left. none_if b h h' s noted is

pub left_all : {T : Type 0} (r : Result T Unmade) (P : Type 0) → P → IfErr r (λ e. IsTrue (is_left_out e) → P)
left_all (Ok x) P p = tt
left_all (Err e) P p = λ left. p

pub on_ok : {T E : Type 0} (r : Result T E) (P : Type 0) → IsTrue (is_ok r) → OnOk r P → P
on_ok (Ok x) P is p = p
on_ok (Err e) P is p = absurd (false≢true is)

-- ---- folders

pub root_made : (above : Option ℕ) (place : List ℕ) (l : List SystemCall) → is_some above ≡ false → l ≡ l ++ folder_calls above place
unfolding folder_calls
root_made None place l is = sym (append-nil l)
root_made (Some n) place l is = absurd (true≢false is)

pub member_made : {T E : Type 0} (r : Result T E) (above : Option ℕ) (place : List ℕ) (l l' : List SystemCall) → is_some above ≡ true → OnOk r (l' ≡ l ++ makes_folder place ∷ []) → OnOk r (l' ≡ l ++ folder_calls above place)
unfolding folder_calls
member_made r (Some n) place l l' is made = made
member_made r None place l l' is made = absurd (false≢true is)

-- ---- an entry

pub file_made : (s : Stored) (w w' : Work) (place bytes : List ℕ) (time : ℕ) → is_folder s.resource.node.kind ≡ false → bytes ≡ s.resource.node.bytes → w'.folders ≡ w.folders → w'.whole ≡ w.whole
    → w'.done ≡ w.done ++ file_calls place bytes time → MakesEntry s w w'
unfolding calls_of folder_of
file_made s w w' place bytes time file same stay whole did =
    let at : List ℕ × ℕ = (place, time) in (
      at,
      (
        subst (λ (b : Bool). w'.folders ≡ w.folders ++ ((if b then at ∷ [] else []) ++ [])) (sym file) (stay ∙ sym (append-nil w.folders)),
        whole ∙ sym (and-true w.whole),
        subst (λ (b : Bool). w'.done ≡ w.done ++ ((if b then folder_calls s.folder place else file_calls place s.resource.node.bytes time) ++ [])) (sym file)
            (subst (λ (l : List ℕ). w'.done ≡ w.done ++ file_calls place l time) same did),
      ),
    )

pub folder_made : (s : Stored) (w w' : Work) (place : List ℕ) (time : ℕ) → is_folder s.resource.node.kind ≡ true → w'.folders ≡ w.folders ++ (place, time) ∷ [] → w'.whole ≡ w.whole
    → w'.done ≡ w.done ++ folder_calls s.folder place → MakesEntry s w w'
unfolding calls_of folder_of
folder_made s w w' place time folder more whole did =
    let at : List ℕ × ℕ = (place, time) in (
      at,
      (
        subst (λ (b : Bool). w'.folders ≡ w.folders ++ ((if b then at ∷ [] else []) ++ [])) (sym folder) more,
        whole ∙ sym (and-true w.whole),
        subst (λ (b : Bool). w'.done ≡ w.done ++ ((if b then folder_calls s.folder place else file_calls place s.resource.node.bytes time) ++ [])) (sym folder)
            (did ∙ ap (λ (l : List SystemCall). w.done ++ l) (sym (append-nil (folder_calls s.folder place)))),
      ),
    )

pub file_on : {T E : Type 0} (r : Result T E) (s : Stored) (w w' : Work) (place bytes : List ℕ) (time : ℕ) → is_folder s.resource.node.kind ≡ false → bytes ≡ s.resource.node.bytes → w'.folders ≡ w.folders → w'.whole ≡ w.whole
    → OnOk r (w'.done ≡ w.done ++ file_calls place bytes time) → OnOk r (MakesEntry s w w')
file_on (Ok x) s w w' place bytes time file same stay whole did = file_made s w w' place bytes time file same stay whole did
file_on (Err e) s w w' place bytes time file same stay whole did = tt

-- ---- entries, one behind another

pub one_made : (s : Stored) (w w' : Work) → MakesEntry s w w' → ExportsOne s w w'
one_made s w w' (at, adds) = (record { entry = s; made = Some at }, refl, adds)

pub one_left : (s : Stored) (w w' : Work) → w'.folders ≡ w.folders → w'.whole ≡ false → w'.done ≡ w.done → ExportsOne s w w'
unfolding calls_of folder_of
one_left s w w' same whole did = (record { entry = s; made = None }, refl, (same ∙ sym (append-nil w.folders), whole ∙ sym (and-false w.whole), did ∙ sym (append-nil w.done)))

pub one_same : (s : Stored) (w w' w'' : Work) → ExportsOne s w w' → w''.folders ≡ w'.folders → w''.whole ≡ w'.whole → w''.done ≡ w'.done → ExportsOne s w w''
one_same s w w' w'' (p, entry, (f, b, d)) same whole did = (p, entry, (same ∙ f, whole ∙ b, did ∙ d))

pub each_none : (w : Work) → ExportsEach [] w w
each_none w = ([], refl, (sym (append-nil w.folders), sym (and-true w.whole), sym (append-nil w.done)))

-- lists that grow by what is made of parts, and then of one more
joined : {A : Type 0} (f : ExportPart → List A) (l m n : List A) (ps : List ExportPart) (p : ExportPart) → m ≡ l ++ flat_map f ps → n ≡ m ++ flat_map f (p ∷ []) → n ≡ l ++ flat_map f (ps ++ p ∷ [])
joined {A = A} f l m n ps p one two =
    two ∙ (ap (λ (k : List A). k ++ flat_map f (p ∷ [])) one ∙ (append_assoc l (flat_map f ps) (flat_map f (p ∷ [])) ∙ ap (λ (k : List A). l ++ k) (sym (flat_map-append f ps (p ∷ [])))))

pub each_more : (ss : List Stored) (s : Stored) (w w' w'' : Work) → ExportsEach ss w w' → ExportsOne s w' w'' → ExportsEach (ss ++ s ∷ []) w w''
each_more ss s w w' w'' (ps, entries, (f, b, d)) (p, entry, (f', b', d')) = (
  ps ++ p ∷ [],
  map-append (λ (q : ExportPart). q.entry) ps (p ∷ []) ∙ (ap (λ (l : List Stored). l ++ p.entry ∷ []) entries ∙ ap (λ (x : Stored). ss ++ x ∷ []) entry),
  (
    joined folders w.folders w'.folders w''.folders ps p f f',
    b' ∙ (ap (λ (c : Bool). c && are_made (p ∷ [])) b ∙ (and_assoc w.whole (are_made ps) (are_made (p ∷ [])) ∙ ap (λ (c : Bool). w.whole && c) (sym (list_all-append (λ (q : ExportPart). is_some q.made) ps (p ∷ []))))),
    joined makes w.done w'.done w''.done ps p d d',
  ),
)
