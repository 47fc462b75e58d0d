-- How a step of a run follows from its parts, and a run from its steps.
use Rattle.std.proofs.Common.{◌≡◌, ℕ, false, List, [], ◌∷◌, ◌++◌, take, Option, Some, None, Result, Ok, IsErr, refl, sym, subst, append-nil}
use Rattle.std.proofs.KnownBytes.{Appends-nil, Consumes-kept, Keeps-refl}
use Rattle.std.specs.Io.KnownBytes.{Appends}
use Rattle.http.specs.declared.request.Request.{Request}
use Rattle.http_server.specs.declared.response.Response.{Response}
use Rattle.http_frames.specs.declared.clients.Clients.{Clients}
use Rattle.http_frames.specs.declared.frames.Frames.{Frames}
use Rattle.http_frames.specs.declared.frames.Head.{Head}
use Rattle.http_frames.specs.declared.serving.End.{End}
use Rattle.http_frames.specs.declared.serving.End.TheVariants.{Wrong}
use Rattle.http_frames.specs.Clients.{Has, count_begun}
use Rattle.http_frames.specs.ConnectionEvents.{Event, Closed}
use Rattle.http_frames.specs.Frames.{IsFrame, bytes_at_hand, unread}
use Rattle.http_frames.specs.TurnRuns.{AreSaid, RunsInTurns, Breaks, IsEnd, EventsLead, Moments, ServesFrames, WritesAnswers, told_text}
use Rattle.http_frames.specs.FrameSteps.{GoesOn, IsEndFor, ReadsOn, TakesFrame}
use Rattle.http_frames.proofs.Ends.{wrong_end}
use Rattle.http_frames.proofs.Fronts.{whole}
use Rattle.http_frames.proofs.Happenings.{leads-append, said-append, texts_then}
use Rattle.http_frames.proofs.Moments.{joined}
use Rattle.http_frames.proofs.Running.{writes_breaks, written_served, wrote_none, wrote_then}
use Rattle.http_frames.proofs.Results.{if_ok-err}

module _ {S : Type 0} (begins : S → ℕ → S → Type 0) (answers : S → Request (List ℕ) → Response → S → Type 0) (clocked : S → ℕ → S → Type 0) (listed : S → List ℕ → S → Type 0) where
  -- a frame is wrong
  pub wrong_follows : {I : Type 0} (remaining : I → Option (List ℕ)) (frames : Frames I) (h : Option Head) (bytes : List ℕ) (n : ℕ) (c c' : Clients) (s s' : S) (held holds : Option (List ℕ))
      → TakesFrame begins answers clocked listed false h bytes c c' s s' held holds → IsFrame h bytes (take n (bytes_at_hand frames))
      → GoesOn begins answers clocked listed (Some Wrong) c c' s s' (unread remaining frames) (unread remaining frames) held holds
  wrong_follows remaining frames h bytes n c c' s s' held holds x frame = (
    subst (λ (c' : Clients). WritesAnswers begins answers clocked listed c c' s s' held holds) (sym x.0) (subst (λ (s' : S). WritesAnswers begins answers clocked listed c c s s' held holds) (sym x.1)
        (subst (λ (t : Option (List ℕ)). WritesAnswers begins answers clocked listed c c s s held t) (sym x.2) (wrote_none begins answers clocked listed c s held))),
    Keeps-refl (unread remaining frames),
    subst (λ (c' : Clients). IsEndFor c' Wrong (unread remaining frames)) (sym x.0) (wrong_end remaining frames c h bytes n frame x.3),
  )

  -- what nobody is told happened
  silent : (es : List Event) (c c' : Clients) (s : S) (held : Option (List ℕ)) → Moments es c c' → EventsLead begins answers clocked listed s es s → AreSaid es [] → told_text es ≡ [] → WritesAnswers begins answers clocked listed c c' s s held held
  silent es c c' s held moments leads said none = (es, moments, leads, said, subst (Appends held held) (sym none) (Appends-nil held))

  -- it was read on
  pub read_follows : (end : Option End) (c c1 c2 : Clients) (s s1 : S) (input input' held holds : Option (List ℕ)) → WritesAnswers begins answers clocked listed c c1 s s1 held holds → ReadsOn end c1 c2 input input'
      → GoesOn begins answers clocked listed end c c2 s s1 input input' held holds
  read_follows None c c1 c2 s s1 input input' held holds w x =
      written_served begins answers clocked listed c c2 s s1 input input' held holds
      (wrote_then begins answers clocked listed c c1 c2 s s1 s1 held holds holds w (silent [] c1 c2 s1 holds x.0 refl refl refl)) x.1
  read_follows (Some end) c c1 c2 s s1 input input' held holds w x =
      (wrote_then begins answers clocked listed c c1 c2 s s1 s1 held holds holds w (silent (Closed ∷ []) c1 c2 s1 holds x.0 (s1, refl, refl) ([], [], refl, refl, refl) refl), x.1, x.2)

  -- reading failed
  pub read_breaks : (c c1 c2 : Clients) (s s1 : S) (held holds : Option (List ℕ)) → WritesAnswers begins answers clocked listed c c1 s s1 held holds → c2 ≡ c1 → Breaks begins answers clocked listed c c2 s s1 held holds
  read_breaks c c1 c2 s s1 held holds w same =
      subst (λ (c2 : Clients). Breaks begins answers clocked listed c c2 s s1 held holds) (sym same) (writes_breaks begins answers clocked listed c c1 s s1 held holds w)

  -- ---- a whole run

  -- it failed
  pub broke : {E : Type 0} (r : Result End E) (c c' : Clients) (s s' : S) (input input' held holds : Option (List ℕ)) → IsErr r → Has c [] → Breaks begins answers clocked listed c c' s s' held holds
      → RunsInTurns begins answers clocked listed r c c' s s' input input' held holds
  broke r c c' s s' input input' held holds err h x = record {
    done = x.0;
    always = x.1.always [] h;
    has = x.1.has [] h;
    in_order = x.1.in_order;
    leads = x.2;
    writes = x.3;
    ends = if_ok-err _ r err;
    wrote = if_ok-err _ r err;
  }

  -- it came to its end, and then what waited was answered
  pub ended : {E : Type 0} (end : End) (c c1 c2 c3 : Clients) (s s1 s2 s3 : S) (input between input' held held1 held2 holds : Option (List ℕ)) → Has c [] → ServesFrames begins answers clocked listed c c1 s s1 input between held held1
      → GoesOn begins answers clocked listed (Some end) c1 c2 s1 s2 between input' held1 held2 → WritesAnswers begins answers clocked listed c2 c3 s2 s3 held2 holds → count_begun c3 ≡ count_begun c2
      → RunsInTurns {E = E} begins answers clocked listed (Ok end) c c3 s s3 input input' held holds
  ended end c c1 c2 c3 s s1 s2 s3 input between input' held held1 held2 holds h x f w same =
      let first = x.0 ++ f.0.0 in
      let moments = joined c c1 c2 x.0 f.0.0 x.1 f.0.1 in
      let all = joined c c2 c3 first w.0 moments w.1 in
      let text = texts_then first w.0 held held2 holds (texts_then x.0 f.0.0 held held1 held2 x.4 f.0.4) w.4 in
      record {
        done = first ++ w.0;
        always = all.always [] h;
        has = all.has [] h;
        in_order = all.in_order;
        leads = leads-append begins answers clocked listed first w.0 s s2 s3 (leads-append begins answers clocked listed x.0 f.0.0 s s1 s2 x.2 f.0.2) w.2;
        writes = (holds, text, whole holds);
        ends = record {
          first = first;
          later = w.0;
          done_is = refl;
          text = x.3.0;
          said = subst (AreSaid first) (append-nil x.3.0) (said-append x.0 f.0.0 x.3.0 [] x.3.1 f.0.3);
          unsaid = w.3;
          consumed = Consumes-kept input between input' x.3.0 x.3.2 f.1;
          ends = subst (λ (n : ℕ). IsEnd end n first input') (sym same) (f.2 first (moments.has [] h));
        };
        wrote = text;
      }
