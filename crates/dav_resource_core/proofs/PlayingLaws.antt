-- How the lines of an input are played, one after another.
use Rattle.std.proofs.Common.{◌≡◌, ℕ, ◌+◌, ◌<◌, List, [], ◌∷◌, ◌++◌, Option, Some, None, length, refl, sym, ap, ◌∙◌, subst, append-nil, append_assoc, arith, inl, inr, ◌⊎◌, take, drop, Result, OnErr, IfOk}
use Rattle.std.specs.Prelude.{Bool, true, false, Ok, Err, IfSome, IsTrue, ◌↔◌, ◌==◌, if◌then◌else◌}
use Rattle.std.specs.List.{concat}
use Rattle.std.specs.Io.Buffered.{reader_remaining, reader_inner, reader_buffer, reader_capacity}
use Rattle.std.specs.Io.BufRead.{first_piece, drop_through, DropsThrough}
use Rattle.std.specs.Io.KnownBytes.{Appends, Keeps, prepend_known}
use Rattle.std.specs.declared.io.buffered.BufReader.{BufReader}
use Rattle.std.proofs.KnownBytes.{Appends-nil, Appends-trans}
use Rattle.std.proofs.lemmas.Bool.{false≢true}
use Rattle.std.proofs.lemmas.List.{length_push, take-append-drop}
use Rattle.std.proofs.lemmas.List.Folds.{concat-append}
use Rattle.rand_core.specs.Pcg32Seed.{pcg32_seed}
use Rattle.rand_core.specs.Steps.{steps_u64_low, stream_of}
use Rattle.rand_pcg.specs.Lcg.{Lcg}
use Rattle.rand_pcg.specs.Pcg.{pcg64, pcg64_of_seed}
use Rattle.line_streams.specs.Lines.{lines}
use Rattle.line_streams.proofs.LineLaws.{lines_step}
use Rattle.std.proofs.Math.Seq.{take-append_seam}
use Rattle.dav_guarded_core.specs.declared.guarded.requests.Request.{Request}
use Rattle.dav_resource_core.specs.declared.davreplay.lines.Unread.{Unread}
use Rattle.dav_resource_core.specs.declared.davreplay.lines.Unread.TheVariants.{Malformed, BadPath, OutOfMemory}
use Rattle.dav_resource_core.specs.Private.Playing.{Played, PlaysLine, LinePlayed, LineStopped, SaidStopped, LinesPlayed, AreLines, BeginWith, InputPlayed, PlayedPart, WroteNext}
use Rattle.dav_resource_core.specs.Private.LineReading.{LineIs}
use Rattle.dav_resource_core.specs.Replaying.{ReplayedPart, ReplayedTo, generator}
use Rattle.dav_guarded_core.specs.Stores.{Stores, start_stores, state_of}

-- ---- a chain of lines

-- one line more at its end
lines_more : (p mid p' : Played) (front texts : List (List ℕ)) (line text : List ℕ) → LinesPlayed p front texts mid → LinePlayed mid line true p' text
    → LinesPlayed p (front ++ line ∷ []) (texts ++ text ∷ []) p'
lines_more p mid p' [] [] line text chain one = (p', subst (λ q. LinePlayed q line true p' text) chain one, refl)
lines_more p mid p' [] (t ∷ texts) line text chain one = absurd chain
lines_more p mid p' (l ∷ front) [] line text chain one = absurd chain
lines_more p mid p' (l ∷ front) (t ∷ texts) line text chain one = (chain.0, chain.1, lines_more chain.0 mid p' front texts line text chain.2 one)

-- a line that ends the run
malformed : (p p' : Played) (line text : List ℕ) → LinePlayed p line false p' text → LineIs p.1 line (Err Malformed) × (p' ≡ p) × (text ≡ [])
malformed p p' line text (Ok (Some request), is, does) = absurd (false≢true does.0)
malformed p p' line text (Ok None, is, does) = absurd (false≢true does.0)
malformed p p' line text (Err Malformed, is, does) = (is, does.1, does.2)
malformed p p' line text (Err (BadPath e), is, does) = absurd (false≢true does.0)
malformed p p' line text (Err OutOfMemory, is, does) = absurd (false≢true does.0)

-- ---- the lines of an input

-- where an input's bytes are known, its lines are these and then those that are left
abbrev pub Front : List (List ℕ) → Option (List ℕ) → Option (List ℕ) → Type 0
Front front input left = IfSome input (λ bytes. (rest : List ℕ) × (left ≡ Some rest) × (lines bytes ≡ front ++ lines rest))

front_none : (input : Option (List ℕ)) → Front [] input input
front_none None = tt
front_none (Some bytes) = (bytes, refl, refl)

lines_left : Option (List ℕ) → List (List ℕ)
lines_left None = []
lines_left (Some bytes) = lines bytes

-- a reader tells whether there is a line
abbrev pub Tells : Option (List ℕ) → Bool → Type 0
Tells input is_there = IfSome input (λ bytes. IsTrue is_there ↔ (0 < length bytes))

-- and gives the first, and drops it
abbrev pub Gave : Option (List ℕ) → Bool → List ℕ → Option (List ℕ) → Type 0
Gave input is_there line left = Tells input is_there × IfSome input (λ bytes. line ≡ first_piece 10 bytes) × DropsThrough input left 10

front_more : (front : List (List ℕ)) (line : List ℕ) (input left left' : Option (List ℕ)) → Front front input left → Gave left true line left' → Front (front ++ line ∷ []) input left'
front_more front line None left left' before gave = tt
front_more front line (Some bytes) left left' before gave =
    let at = subst (λ l. Gave l true line left') before.1 gave in (
      drop_through 10 before.0,
      at.2,
      before.2 ∙ ap (λ l. front ++ l) (lines_step before.0 (at.0.0 refl) ∙ ap (λ l. l ∷ lines (drop_through 10 before.0)) (sym at.1)) ∙ sym (append_assoc front (line ∷ []) _),
    )

no_lines : (bytes : List ℕ) → IsTrue false ↔ (0 < length bytes) → lines bytes ≡ []
no_lines [] none = refl
no_lines (b ∷ bytes) none = absurd (false≢true (none.1 (omega arith)))

front_ended : (front : List (List ℕ)) (input left : Option (List ℕ)) → Front front input left → Tells left false → AreLines front input
front_ended front None left before none = tt
front_ended front (Some bytes) left before none =
    sym (before.2 ∙ ap (λ l. front ++ l) (no_lines before.0 (subst (λ l. Tells l false) before.1 none)) ∙ append-nil front)

front_stopped : (front : List (List ℕ)) (line : List ℕ) (input left : Option (List ℕ)) → Front (front ++ line ∷ []) input left → AreLines (front ++ line ∷ lines_left left) input
unfolding lines_left
front_stopped front line None left before = tt
front_stopped front line (Some bytes) left before =
    ap (λ l. front ++ line ∷ lines_left l) before.1 ∙ sym (append_assoc front (line ∷ []) (lines before.0)) ∙ sym before.2

-- ---- what is written

kept : (a b c : Option (List ℕ)) (text : List ℕ) → Keeps a b → Appends b c text → Appends a c text
kept None b c text same more = tt
kept (Some x) None c text same more = absurd same
kept (Some x) (Some y) None text same more = absurd more
kept (Some x) (Some y) (Some z) text same more = more ∙ ap (λ l. l ++ text) same

pub kept_behind : (a b c : Option (List ℕ)) (text : List ℕ) → Appends a b text → Keeps b c → Appends a c text
kept_behind None b c text more same = tt
kept_behind (Some x) None c text more same = absurd more
kept_behind (Some x) (Some y) None text more same = absurd same
kept_behind (Some x) (Some y) (Some z) text more same = same ∙ more

concat_more : (texts : List (List ℕ)) (text : List ℕ) → concat (texts ++ text ∷ []) ≡ concat texts ++ text
concat_more texts text = concat-append texts (text ∷ []) ∙ ap (λ l. concat texts ++ l) (append-nil text)

-- ---- the loop

-- a line was played, and its text written
abbrev pub Wrote : Played → List ℕ → Bool → Played → Option (List ℕ) → Option (List ℕ) → Type 0
Wrote p line on p' output output' = (written : List ℕ) × LinePlayed p line on p' written × Appends output output' written

-- the lines in front of this number were played
abbrev pub PlayedFront : Played → Option (List ℕ) → Option (List ℕ) → ℕ → Played → Option (List ℕ) → Option (List ℕ) → Type 0
PlayedFront p input output number p' left output' =
    (front : List (List ℕ)) × (texts : List (List ℕ)) × (number ≡ length front + 1) × LinesPlayed p front texts p' × Front front input left
    × Appends output output' (concat texts)

-- how it ends
abbrev pub PlayedTo : Played → Option (List ℕ) → Option (List ℕ) → Option ℕ → Played → Option (List ℕ) → Type 0
PlayedTo p input output end p' output' = (texts : List (List ℕ)) × InputPlayed p input end texts p' × Appends output output' (concat texts)

pub none_played : (p : Played) (input output : Option (List ℕ)) → PlayedFront p input output 1 p input output
none_played p input output = ([], [], refl, refl, front_none input, Appends-nil output)

pub one_more : (p mid p' : Played) (input output left left' out out-read out' : Option (List ℕ)) (number : ℕ) (line : List ℕ) (is_there on : Bool)
    → PlayedFront p input output number mid left out → Gave left is_there line left' → is_there ≡ true → Keeps out out-read → Wrote mid line on p' out-read out' → on ≡ true
    → PlayedFront p input output (number + 1) p' left' out'
one_more p mid p' input output left left' out out-read out' number line is_there on before gave there same one right = (
  before.0 ++ line ∷ [],
  before.1 ++ one.0 ∷ [],
  ap (λ n. n + 1) (before.2 ∙ sym (length_push before.0 line)),
  lines_more p mid p' before.0 before.1 line one.0 before.3 (subst (λ b. LinePlayed mid line b p' one.0) right one.1),
  front_more before.0 line input left left' before.4 (subst (λ b. Gave left b line left') there gave),
  subst (Appends output out') (sym (concat_more before.1 one.0)) (Appends-trans output out out' (concat before.1) one.0 before.5 (kept out out-read out' one.0 same one.2)),
)

pub all_played : (p p' : Played) (input output left out out' : Option (List ℕ)) (number : ℕ) (is_there : Bool)
    → PlayedFront p input output number p' left out → Tells left is_there → is_there ≡ false → Keeps out out' → PlayedTo p input output None p' out'
all_played p p' input output left out out' number is_there before tells none same = (
  before.1,
  (before.0, front_ended before.0 input left before.4 (subst (Tells left) none tells), before.3),
  kept_behind output out out' (concat before.1) before.5 same,
)

pub stopped : (p mid p' : Played) (input output left left' out out-read out' : Option (List ℕ)) (number : ℕ) (line : List ℕ) (is_there on : Bool)
    → PlayedFront p input output number mid left out → Gave left is_there line left' → is_there ≡ true → Keeps out out-read → Wrote mid line on p' out-read out' → on ≡ false
    → PlayedTo p input output (Some number) p' out'
stopped p mid p' input output left left' out out-read out' number line is_there on before gave there same one wrong =
    let bad = malformed mid p' line one.0 (subst (λ b. LinePlayed mid line b p' one.0) wrong one.1) in
    let ends = subst (λ q. LinesPlayed p before.0 before.1 q × LineIs q.1 line (Err Malformed)) (sym bad.1) (before.3, bad.0) in
    let nothing = subst (Appends out-read out') bad.2 one.2 in
    let end = lines_left left' in (
      before.1,
      (
        before.0 ++ line ∷ end,
        front_stopped before.0 line input left' (front_more before.0 line input left left' before.4 (subst (λ b. Gave left b line left') there gave)),
        (before.0, line, end, refl, before.2, ends.0, ends.1),
      ),
      subst (Appends output out') (append-nil (concat before.1)) (Appends-trans output out out' (concat before.1) [] before.5 (kept out out-read out' [] same nothing)),
    )

-- ---- a run that a fault stops

begin_none : (input : Option (List ℕ)) → BeginWith [] input
begin_none None = tt
begin_none (Some bytes) = (lines bytes, refl)

front_begins : (front : List (List ℕ)) (input left : Option (List ℕ)) → Front front input left → BeginWith front input
front_begins front None left before = tt
front_begins front (Some bytes) left before = (lines before.0, before.2)

pub nothing_played : (p : Played) (input output : Option (List ℕ)) → PlayedPart p input output output
nothing_played p input output = ([], [], p, [], begin_none input, refl, inl refl, Appends-nil output)

-- what has stopped it, or not, and what was written then
onerr : {A E : Type 0} (r : Result A E) (P : Type 0) → P → OnErr r P
onerr (Ok x) P h = tt
onerr (Err e) P h = h

pub stopped_by : {A E : Type 0} (r : Result A E) (p : Played) (input old new : Option (List ℕ)) → PlayedPart p input old new → OnErr r (PlayedPart p input old new)
stopped_by r p input old new part = onerr r (PlayedPart p input old new) part

pub said_stopped_by : {A E : Type 0} (r : Result A E) (p : Played) (said : Result (Option Request) Unread) (old new : Option (List ℕ)) → SaidStopped p said old new
    → OnErr r (SaidStopped p said old new)
said_stopped_by r p said old new part = onerr r (SaidStopped p said old new) part

pub wrote_by : {A E : Type 0} (r : Result A E) (text : List ℕ) (old new : Option (List ℕ)) → (count : ℕ) × Appends old new (take count text)
    → OnErr r ((count : ℕ) × Appends old new (take count text))
wrote_by r text old new part = onerr r _ part

pub kept_same : (x : Option (List ℕ)) → Keeps x x
kept_same None = tt
kept_same (Some x) = refl

kept_part : (p : Played) (input old new new' : Option (List ℕ)) → PlayedPart p input old new → Keeps new new' → PlayedPart p input old new'
kept_part p input old new new' part same =
    (part.0, part.1, part.2, part.3, part.4, part.5, part.6, kept_behind old new new' (concat part.1 ++ part.3) part.7 same)

begin_with : (front rest all : List (List ℕ)) (input : Option (List ℕ)) → all ≡ front ++ rest → AreLines all input → BeginWith front input
begin_with front rest all None split are = tt
begin_with front rest all (Some bytes) split are = (rest, sym are ∙ split)

-- one that nothing has stopped is such a part, too
whole_part : (p p' : Played) (input old new : Option (List ℕ)) (end : Option ℕ) (texts : List (List ℕ)) → InputPlayed p input end texts p' → Appends old new (concat texts)
    → PlayedPart p input old new
whole_part p p' input old new None texts played more = (
  played.0,
  texts,
  p',
  [],
  begin_with played.0 [] played.0 input (sym (append-nil played.0)) played.1,
  played.2,
  inl refl,
  subst (Appends old new) (sym (append-nil (concat texts))) more,
)
whole_part p p' input old new (Some n) texts played more =
    let stop = played.2 in (
      stop.0,
      texts,
      p',
      [],
      begin_with stop.0 (stop.1 ∷ stop.2) played.0 input stop.3 played.1,
      stop.5,
      inl refl,
      subst (Appends old new) (sym (append-nil (concat texts))) more,
    )

pub part_of : {E : Type 0} (r : Result (Option ℕ) E) (p p' : Played) (input old new new' : Option (List ℕ))
    → IfOk r (λ end. (texts : List (List ℕ)) × InputPlayed p input end texts p' × Appends old new (concat texts)) → OnErr r (PlayedPart p input old new) → Keeps new new'
    → PlayedPart p input old new'
part_of (Ok end) p p' input old new new' ok err same = kept_part p input old new new' (whole_part p p' input old new end ok.0 ok.1 ok.2) same
part_of (Err e) p p' input old new new' ok err same = kept_part p input old new new' err same

-- of what a line says, whose text was made, a front was written
pub part_written : (p p' : Played) (said : Result (Option Request) Unread) (on : Bool) (before after text written : List ℕ) (old new : Option (List ℕ)) (count : ℕ)
    → PlaysLine p said on p' written → before ≡ [] → Appends (Some before) (Some after) written → text ≡ after → Appends old new (take count text)
    → SaidStopped p said old new
part_written p p' said on before after text written old new count follows none grown same more =
    let made : text ≡ written = same ∙ grown ∙ ap (λ l. l ++ written) none in
    (take count text, more, inr (on, p', written, count, follows, ap (take count) made))

-- and so of a line that says it
pub line_stopped : {A E : Type 0} (r : Result A E) (p : Played) (line : List ℕ) (said : Result (Option Request) Unread) (old new : Option (List ℕ)) → LineIs p.1 line said
    → OnErr r (SaidStopped p said old new) → OnErr r (LineStopped p line old new)
line_stopped (Ok x) p line said old new is part = tt
line_stopped (Err e) p line said old new is part = (
  part.0,
  part.1,
  elim part.2 [
    | inl none ↦ inl none
    | inr wrote ↦ inr (wrote.0, wrote.1, wrote.2, wrote.3, (said, is, wrote.4), wrote.5)
  ],
)

-- ---- a text that is written piece by piece

pub all_written : (text done rest : List ℕ) (old new : Option (List ℕ)) → text ≡ done ++ rest → length rest ≡ 0 → Appends old new done → Appends old new text
all_written text done [] old new split none more = subst (Appends old new) (sym (split ∙ append-nil done)) more
all_written text done (b ∷ rest) old new split none more = absurd (omega arith)

-- one more piece
pub more_written : (text done rest : List ℕ) (old out new : Option (List ℕ)) (count : ℕ) → text ≡ done ++ rest → Appends old out done → Appends out new (take count rest)
    → (done' : List ℕ) × (text ≡ done' ++ drop count rest) × Appends old new done'
more_written text done rest old out new count split before more = (
  done ++ take count rest,
  split ∙ ap (λ l. done ++ l) (sym (take-append-drop count rest)) ∙ sym (append_assoc done (take count rest) (drop count rest)),
  Appends-trans old out new done (take count rest) before more,
)

pub front_written : (text done rest : List ℕ) (old out new : Option (List ℕ)) → text ≡ done ++ rest → Appends old out done → Keeps out new
    → (count : ℕ) × Appends old new (take count text)
front_written text done rest old out new split more same = (
  length done,
  subst (Appends old new) (sym (ap (take (length done)) split ∙ take-append_seam done rest)) (kept_behind old out new done more same),
)

-- before a line was read
pub stopped_before : (p p' : Played) (input output left out out' : Option (List ℕ)) (number : ℕ) → PlayedFront p input output number p' left out → Keeps out out'
    → PlayedPart p input output out'
stopped_before p p' input output left out out' number before same = (
  before.0,
  before.1,
  p',
  [],
  front_begins before.0 input left before.4,
  before.3,
  inl refl,
  subst (Appends output out') (sym (append-nil (concat before.1))) (kept_behind output out out' (concat before.1) before.5 same),
)

-- within a line
pub stopped_within : (p mid : Played) (input output left left' out out-read out' : Option (List ℕ)) (number : ℕ) (line : List ℕ) (is_there : Bool)
    → PlayedFront p input output number mid left out → Gave left is_there line left' → is_there ≡ true → Keeps out out-read → LineStopped mid line out-read out'
    → PlayedPart p input output out'
stopped_within p mid input output left left' out out-read out' number line is_there before gave there same part =
    let read = front_more before.0 line input left left' before.4 (subst (λ b. Gave left b line left') there gave) in (
      before.0,
      before.1,
      mid,
      part.0,
      front_begins before.0 input left before.4,
      before.3,
      next part.2,
      Appends-trans output out out' (concat before.1) part.0 before.5 (kept out out-read out' part.0 same part.1),
    )
  where
    next : ((part.0 ≡ []) ⊎ ((on : Bool) × (p' : Played) × (text : List ℕ) × (count : ℕ) × LinePlayed mid line on p' text × (part.0 ≡ take count text))) → WroteNext mid before.0 input part.0
    next (inl none) = inl none
    next (inr some) = inr (line, some.0, some.1, some.2, some.3, front_begins (before.0 ++ line ∷ []) input left' (front_more before.0 line input left left' before.4 (subst (λ b. Gave left b line left') there gave)), some.4, some.5)

-- ---- the reader

nothing_before : (known : Option (List ℕ)) → prepend_known [] known ≡ known
nothing_before None = refl
nothing_before (Some bytes) = refl

-- a new reader has all of its input left
pub fresh : {T A : Type 0} (remaining : T → Option (List ℕ)) (r : BufReader T A) (input : T) → reader_inner r ≡ input → reader_buffer r ≡ [] → reader_capacity r ≡ 65536
    → reader_remaining remaining r ≡ remaining input
fresh remaining r input inner empty capacity =
    ap (λ n. if n == 0 then None else prepend_known (reader_buffer r) (remaining (reader_inner r))) capacity
    ∙ ap (λ bytes. prepend_known bytes (remaining (reader_inner r))) empty ∙ nothing_before (remaining (reader_inner r)) ∙ ap remaining inner

-- ---- the start

pub replayed : (seed : ℕ) (stores : Stores) (rng : Lcg) (tokens : List (List ℕ)) (left input old new : Option (List ℕ)) (end : Option ℕ) (texts : List (List ℕ)) (p' : Played)
    → stores ≡ start_stores 0 → rng ≡ pcg64_of_seed (pcg32_seed 32 seed) → tokens ≡ [] → left ≡ input
    → InputPlayed (state_of stores (stream_of (steps_u64_low pcg64) rng), tokens) left end texts p' → Appends old new (concat texts) → ReplayedTo seed input end old new
replayed seed stores rng tokens left input old new end texts p' stores_are rng_is none whole played more = (
  texts,
  (
    p',
    subst (λ s. InputPlayed (state_of s (generator seed), []) input end texts p') stores_are
        (subst (λ r. InputPlayed (state_of stores (stream_of (steps_u64_low pcg64) r), []) input end texts p') rng_is
        (subst (λ i. InputPlayed (state_of stores (stream_of (steps_u64_low pcg64) rng), []) i end texts p') whole
        (subst (λ ts. InputPlayed (state_of stores (stream_of (steps_u64_low pcg64) rng), ts) left end texts p') none played))),
  ),
  more,
)

pub began : (seed : ℕ) (stores : Stores) (rng : Lcg) (tokens : List (List ℕ)) (left input old new : Option (List ℕ))
    → stores ≡ start_stores 0 → rng ≡ pcg64_of_seed (pcg32_seed 32 seed) → tokens ≡ [] → left ≡ input
    → PlayedPart (state_of stores (stream_of (steps_u64_low pcg64) rng), tokens) left old new → ReplayedPart seed input old new
began seed stores rng tokens left input old new stores_are rng_is none whole part =
    subst (λ s. PlayedPart (state_of s (generator seed), []) input old new) stores_are
    (subst (λ r. PlayedPart (state_of stores (stream_of (steps_u64_low pcg64) r), []) input old new) rng_is
    (subst (λ i. PlayedPart (state_of stores (stream_of (steps_u64_low pcg64) rng), []) i old new) whole
    (subst (λ ts. PlayedPart (state_of stores (stream_of (steps_u64_low pcg64) rng), ts) left old new) none part)))

pub began_by : {A E : Type 0} (r : Result A E) (seed : ℕ) (stores : Stores) (rng : Lcg) (tokens : List (List ℕ)) (left input old new : Option (List ℕ))
    → stores ≡ start_stores 0 → rng ≡ pcg64_of_seed (pcg32_seed 32 seed) → tokens ≡ [] → left ≡ input
    → OnErr r (PlayedPart (state_of stores (stream_of (steps_u64_low pcg64) rng), tokens) left old new) → OnErr r (ReplayedPart seed input old new)
began_by (Ok x) seed stores rng tokens left input old new stores_are rng_is none whole part = tt
began_by (Err e) seed stores rng tokens left input old new stores_are rng_is none whole part = began seed stores rng tokens left input old new stores_are rng_is none whole part
