-- StepKeeps of a run that are kept, one after the other.
use Rattle.std.proofs.Common.{ℕ, Bool, Option, List, [], ◌++◌, Result, Ok, Err, OnErr, sym, subst, append_assoc, append-nil, refl, inl}
use Rattle.std.proofs.KnownBytes.{Appends-kept, Appends-nil, Consumes-trans}
use Rattle.std.specs.Io.KnownBytes.{Keeps}
use Rattle.http.specs.declared.request.Request.{Request}
use Rattle.http_server.specs.declared.response.Response.{Response}
use Rattle.http_frames.specs.declared.clients.Clients.{Clients}
use Rattle.http_frames.specs.ConnectionEvents.{Event}
use Rattle.http_frames.specs.TurnRuns.{told_text}
use Rattle.http_frames.proofs.Fronts.{whole}
use Rattle.http_frames.proofs.Happenings.{leads-append, said-append, texts_then, up_to_then}
use Rattle.http_frames.proofs.Moments.{joined as moments_joined, none as no_moments}
use Rattle.journal_core.specs.declared.header.Header.{Header}
use Rattle.journal_core.specs.declared.journal.Journal.{Journal}
use Rattle.journal_core.specs.Clocked.{Each}
use Rattle.journal_core.specs.Resting.{clocked_of, disk_behind}
use Rattle.journal_core.proofs.MomentLaws.{joined, none, weaker}
use Rattle.kept_frames.specs.KeptMoments.{IsKeptEnd, IsKeptMoment}
use Rattle.kept_frames.specs.KeptSteps.{EachKeeps, StepStanding, StepBreaks, StepFails, StepServes, StepKeeps}
use Rattle.kept_frames.proofs.Standings.{Stays, by_now, longer}

module _ {S D O : Type 0} {begins : S → ℕ → S → Type 0} {answers : S → Request (List ℕ) → Response → S → Type 0} {clocked : S → ℕ → S → Type 0} {listed : S → List ℕ → S → Type 0} {contents : O → Option (List ℕ)}
    {keeps keeps_end : Header → S → List Event → D → Type 0} where
  -- nothing happened, and the run stands otherwise
  pub steps_to : {From To : StepStanding S D O} (c : Clients) (s : S) (j : Journal D O) (o : O) → ((h : Header) (start : S) (output : Option (List ℕ)) (events : List Event) → From h start output events s j o → To h start output events s j o)
      → StepKeeps begins answers clocked listed contents keeps keeps_end From To [] [] c c s s j j o o
  steps_to {From} {To} c s j o to = record {
    moments = no_moments c;
    leads = refl;
    said = refl;
    wrote = Appends-nil (contents o);
    each = λ h start output events st. none (IsKeptMoment contents keeps h start output (events ++ [])) (clocked_of j);
    stand = λ h start output events st. subst (λ (es : List Event). To h start output es s j o) (sym (append-nil events)) (to h start output events st);
  }

  -- nothing happened
  pub steps_none : {At : StepStanding S D O} (c : Clients) (s : S) (j : Journal D O) (o : O) → StepKeeps begins answers clocked listed contents keeps keeps_end At At [] [] c c s s j j o o
  steps_none c s j o = steps_to c s j o (λ h start output events st. st)

  -- and the run stands otherwise, too
  pub steps_as : {From Mid To : StepStanding S D O} {c c' : Clients} {s s' : S} {j j' : Journal D O} {o o' : O} {more : List Event} {text : List ℕ} → StepKeeps begins answers clocked listed contents keeps keeps_end From Mid more text c c' s s' j j' o o'
      → ((h : Header) (start : S) (output : Option (List ℕ)) (events : List Event) → Mid h start output events s' j' o' → To h start output events s' j' o') → StepKeeps begins answers clocked listed contents keeps keeps_end From To more text c c' s s' j j' o o'
  steps_as {more = more} x to = record {
    moments = x.moments;
    leads = x.leads;
    said = x.said;
    wrote = x.wrote;
    each = x.each;
    stand = λ h start output events st. to h start output (events ++ more) (x.stand h start output events st);
  }

  each_then : {From Mid : StepStanding S D O} {c c1 : Clients} {s s1 : S} {j j1 : Journal D O} {o o1 : O} {xs : List Event} {text : List ℕ} (ys : List Event) (j2 : Journal D O) → StepKeeps begins answers clocked listed contents keeps keeps_end From Mid xs text c c1 s s1 j j1 o o1
      → EachKeeps contents keeps Mid ys s1 j1 j2 o1 → EachKeeps contents keeps From (xs ++ ys) s j j2 o
  each_then {j = j} {j1 = j1} {xs = xs} ys j2 x y = λ h start output events st.
      let longest : D × O → Type 0 = IsKeptMoment contents keeps h start output ((events ++ xs) ++ ys) in
      subst (λ (es : List Event). Each (IsKeptMoment contents keeps h start output es) (clocked_of j) (clocked_of j2)) (append_assoc events xs ys)
      (joined longest (clocked_of j) (clocked_of j1) (clocked_of j2)
      (weaker (IsKeptMoment contents keeps h start output (events ++ xs)) longest (λ m it. longer h start output (events ++ xs) ys m it) (clocked_of j) (clocked_of j1) (x.each h start output events st))
      (y h start output (events ++ xs) (x.stand h start output events st)))

  module _ {From Mid : StepStanding S D O} {c c1 c2 : Clients} {s s1 s2 : S} {j j1 j2 : Journal D O} {o o1 o2 : O} {xs ys : List Event} {text : List ℕ} where
    pub steps_then : {To : StepStanding S D O} {text' : List ℕ} → StepKeeps begins answers clocked listed contents keeps keeps_end From Mid xs text c c1 s s1 j j1 o o1 → StepKeeps begins answers clocked listed contents keeps keeps_end Mid To ys text' c1 c2 s1 s2 j1 j2 o1 o2 → StepKeeps begins answers clocked listed contents keeps keeps_end From To (xs ++ ys) (text ++ text') c c2 s s2 j j2 o o2
    steps_then {To} {text'} x y = record {
      moments = moments_joined c c1 c2 xs ys x.moments y.moments;
      leads = leads-append begins answers clocked listed xs ys s s1 s2 x.leads y.leads;
      said = said-append xs ys text text' x.said y.said;
      wrote = texts_then xs ys (contents o) (contents o1) (contents o2) x.wrote y.wrote;
      each = each_then ys j2 x y.each;
      stand = λ h start output events st.
          subst (λ (es : List Event). To h start output es s2 j2 o2) (append_assoc events xs ys) (y.stand h start output (events ++ xs) (x.stand h start output events st));
    }

    pub breaks_then : StepKeeps begins answers clocked listed contents keeps keeps_end From Mid xs text c c1 s s1 j j1 o o1 → StepBreaks begins answers clocked listed contents keeps keeps_end Mid ys c1 c2 s1 s2 j1 j2 o1 o2 → StepBreaks begins answers clocked listed contents keeps keeps_end From (xs ++ ys) c c2 s s2 j j2 o o2
    breaks_then x y = record {
      moments = moments_joined c c1 c2 xs ys x.moments y.moments;
      leads = leads-append begins answers clocked listed xs ys s s1 s2 x.leads y.leads;
      wrote = up_to_then xs ys (contents o) (contents o1) (contents o2) x.wrote y.wrote;
      each = each_then ys j2 x y.each;
      last = λ h start output events st. subst (λ (es : List Event). IsKeptEnd contents keeps keeps_end h start output es (disk_behind j2, o2)) (append_assoc events xs ys)
          (y.last h start output (events ++ xs) (x.stand h start output events st));
    }

  module _ {From Mid To : StepStanding S D O} {c c1 c2 : Clients} {s s1 s2 : S} {j j1 j2 : Journal D O} {o o1 o2 : O} where
    -- frame after frame
    pub serves_then : (input input1 input2 : Option (List ℕ)) → StepServes begins answers clocked listed contents keeps keeps_end From Mid c c1 s s1 j j1 o o1 input input1 → StepServes begins answers clocked listed contents keeps keeps_end Mid To c1 c2 s1 s2 j1 j2 o1 o2 input1 input2
        → StepServes begins answers clocked listed contents keeps keeps_end From To c c2 s s2 j j2 o o2 input input2
    serves_then input input1 input2 x y = (x.0 ++ y.0, x.1 ++ y.1, steps_then x.2 y.2, Consumes-trans input input1 input2 x.1 y.1 x.3 y.3)

  -- it failed there, as the result says
  pub fails : {A E : Type 0} {From : StepStanding S D O} {c c' : Clients} {s s' : S} {j j' : Journal D O} {o o' : O} {more : List Event} (r : Result A E) → StepBreaks begins answers clocked listed contents keeps keeps_end From more c c' s s' j j' o o'
      → OnErr r (StepFails begins answers clocked listed contents keeps keeps_end From c c' s s' j j' o o')
  fails (Ok a) x = tt
  fails {more = more} (Err e) x = (more, x)

-- ---- and then it ended, or was written out

module _ {S D O : Type 0} {begins : S → ℕ → S → Type 0} {answers : S → Request (List ℕ) → Response → S → Type 0} {clocked : S → ℕ → S → Type 0} {listed : S → List ℕ → S → Type 0} {stands : List (List ℕ) → S → Type 0} {seen : D → List ℕ} {may_leave : D → List ℕ → Type 0} {is_clean : D → Bool}
    {contents : O → Option (List ℕ)} {keeps keeps_end : Header → S → List Event → D → Type 0} {May : List Event → Type 0} {At : StepStanding S D O}
    (stays : Stays begins answers clocked listed stands seen may_leave is_clean contents keeps keeps_end May At) where
  module _ {From : StepStanding S D O} {c c' : Clients} {s s' : S} {j j' : Journal D O} {o o1 : O} {more : List Event} {text : List ℕ} where
    -- it went well, and then it ended
    pub steps_break : StepKeeps begins answers clocked listed contents keeps keeps_end From At more text c c' s s' j j' o o1 → StepBreaks begins answers clocked listed contents keeps keeps_end From more c c' s s' j j' o o1
    steps_break x = record {
      moments = x.moments;
      leads = x.leads;
      wrote = (contents o1, x.wrote, whole (contents o1));
      each = x.each;
      last = λ h start output events st.
          let to = x.stand h start output events st in
          inl (by_now h start output (events ++ more) (disk_behind j') o1 (stays.wrote h start output (events ++ more) s' j' o1 to) (stays.now h start output (events ++ more) s' j' o1 to));
    }

    -- and the output has the same bytes
    pub flushed : {o2 : O} → StepKeeps begins answers clocked listed contents keeps keeps_end From At more text c c' s s' j j' o o1 → Keeps (contents o1) (contents o2) → StepKeeps begins answers clocked listed contents keeps keeps_end From At more text c c' s s' j j' o o2
    flushed {o2} x keeps_bytes = record {
      moments = x.moments;
      leads = x.leads;
      said = x.said;
      wrote = Appends-kept (contents o) (contents o1) (contents o2) (told_text more) x.wrote keeps_bytes;
      each = x.each;
      stand = λ h start output events st.
          subst (λ (es : List Event). At h start output es s' j' o2) (append-nil (events ++ more))
          (stays.on [] s' s' j' j' o1 o2 stays.none refl (λ records stand. stand) refl (λ records settled. settled) (Appends-kept (contents o1) (contents o1) (contents o2) [] (Appends-nil (contents o1)) keeps_bytes)
          h start output (events ++ more) (x.stand h start output events st));
    }
