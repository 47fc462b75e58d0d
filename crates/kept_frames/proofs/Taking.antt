-- Frames that are taken, and reading on.
use Rattle.std.proofs.Common.{◌≡◌, ℕ, true, false, Bool, Option, Some, None, List, [], ◌∷◌, ◌++◌, refl, sym, subst}
use Rattle.std.proofs.KnownBytes.{Appends-nil, Consumes-kept, Consumes-nil}
use Rattle.std.specs.Io.KnownBytes.{Appends}
use Rattle.http.specs.declared.request.Request.{Request}
use Rattle.http_server.specs.declared.response.Response.{Response}
use Rattle.http_frames.specs.declared.clients.Clients.{Clients}
use Rattle.http_frames.specs.declared.frames.Head.{Head}
use Rattle.http_frames.specs.declared.serving.End.{End}
use Rattle.http_frames.specs.ConnectionEvents.{Closed, Event}
use Rattle.http_frames.specs.Frames.{IsFrame}
use Rattle.http_frames.specs.FrameSteps.{BreaksUnturned, ReadsOn, TakesFrame}
use Rattle.http_frames.specs.TurnRuns.{Moments}
use Rattle.http_frames.proofs.Moments.{none as no_moments}
use Rattle.journal_core.specs.declared.header.Header.{Header}
use Rattle.journal_core.specs.declared.journal.Journal.{Journal}
use Rattle.journal_core.specs.Clocked.{past_of}
use Rattle.journal_core.specs.Resting.{clocked_of, disk_behind, header_in}
use Rattle.kept_frames.specs.Giving.{StaysSettled}
use Rattle.kept_frames.specs.KeptSteps.{StepStanding, StepBreaks, StepGoesOn, StepWrites, StepKeeps}
use Rattle.kept_frames.proofs.Noting.{broken, noted, unnoted}
use Rattle.kept_frames.proofs.Standings.{Stays}
use Rattle.kept_frames.proofs.Steps.{steps_break, steps_then}
use Rattle.kept_frames.proofs.Turns.{lead_keep}

module _ {S D O : Type 0} {begins : S → ℕ → S → Type 0} {answers : S → Request (List ℕ) → Response → S → Type 0} {clocked : S → ℕ → S → Type 0} {listed : S → List ℕ → S → Type 0} {stands : List (List ℕ) → S → Type 0} {seen : D → List ℕ} {may_leave : D → List ℕ → Type 0} {is_clean : D → Bool}
    {contents : O → Option (List ℕ)} {keeps keeps_end : Header → S → List Event → D → Type 0} {May : List Event → Type 0} {At : StepStanding S D O}
    (stays : Stays begins answers clocked listed stands seen may_leave is_clean contents keeps keeps_end May At) where
  module _ {c c' : Clients} {s s' : S} {j : Journal D O} {o o' : O} (clocks : (records : List (List ℕ)) (old : S) (moment : ℕ) (new : S) → stands records old → clocked old moment new → stands records new)
      (lists : (records : List (List ℕ)) (old : S) (file : List ℕ) (new : S) → stands records old → listed old file new → stands records new) where
    -- it failed as a frame was taken
    pub unturned_broken : (x : BreaksUnturned begins answers clocked listed c c' s s' (contents o) (contents o')) → May x.0 → StepBreaks begins answers clocked listed contents keeps keeps_end At x.0 c c' s s' j j o o'
    unturned_broken x may = broken stays x.0 may x.1 x.2 (λ records stand. lead_keep begins answers clocked listed stands clocks lists x.0 records s s' x.4 x.2 stand) x.3

    -- a frame was taken
    pub frame_noted : {j' : Journal D O} (h : Option Head) (bytes text : List ℕ) (taken : TakesFrame begins answers clocked listed true h bytes c c' s s' (contents o) (contents o')) (frame : IsFrame h bytes text) → May (taken text frame).0
        → past_of (clocked_of j') ≡ past_of (clocked_of j) ++ (disk_behind j', o') ∷ [] → header_in j' ≡ header_in j → StaysSettled seen may_leave is_clean j j'
        → (more : List Event) × StepKeeps begins answers clocked listed contents keeps keeps_end At At more text c c' s s' j j' o o'
    frame_noted h bytes text taken frame may past same settles =
        let x = taken text frame in
        (x.0, noted stays x.0 may x.1 x.2 (λ records stand. lead_keep begins answers clocked listed stands clocks lists x.0 records s s' x.5 x.2 stand) x.3 x.4 past same settles)

  -- a frame is wrong: nothing happened, and the moment is noted
  pub wrong_noted : {c c' : Clients} {s s' : S} {j j' : Journal D O} {o o' : O} (h : Option Head) (bytes : List ℕ) → TakesFrame begins answers clocked listed false h bytes c c' s s' (contents o) (contents o')
      → past_of (clocked_of j') ≡ past_of (clocked_of j) ++ (disk_behind j', o') ∷ [] → header_in j' ≡ header_in j → StaysSettled seen may_leave is_clean j j'
      → StepWrites begins answers clocked listed contents keeps keeps_end At At c c' s s' j j' o o'
  wrong_noted {c} {c'} {s} {s'} {j} {j'} {o} {o'} h bytes x past same settles = (
    [],
    noted stays [] stays.none (subst (λ (k : Clients). Moments [] c k) (sym x.0) (no_moments c)) x.1 (λ records stand. subst (stands records) (sym x.1) stand) refl
        (subst (λ (t : Option (List ℕ)). Appends (contents o) t []) (sym x.2) (Appends-nil (contents o))) past same settles,
  )

  module _ {From : StepStanding S D O} {c c1 : Clients} {s s1 : S} {j j1 : Journal D O} {o o1 : O} {more : List Event} where
    -- it was read on
    pub read_kept : (c2 : Clients) (input input' : Option (List ℕ)) (end : Option End) → StepKeeps begins answers clocked listed contents keeps keeps_end From At more [] c c1 s s1 j j1 o o1 → ReadsOn end c1 c2 input input'
        → StepGoesOn begins answers clocked listed contents keeps keeps_end From At end c c2 s s1 j j1 o o1 input input'
    read_kept c2 input input' None w x = (
      more ++ [],
      [],
      steps_then w (unnoted stays [] stays.none x.0 refl (λ records stand. stand) refl (Appends-nil (contents o1))),
      Consumes-kept input input input' [] (Consumes-nil input) x.1,
    )
    read_kept c2 input input' (Some end) w x = (
      (more ++ Closed ∷ [], steps_then w (unnoted stays (Closed ∷ []) stays.closed x.0 (s1, refl, refl) (λ records stand. stand) ([], [], refl, refl, refl) (Appends-nil (contents o1)))),
      x.1,
      x.2,
    )

    -- reading failed
    pub read_broken : {c2 : Clients} → StepKeeps begins answers clocked listed contents keeps keeps_end From At more [] c c1 s s1 j j1 o o1 → c2 ≡ c1 → StepBreaks begins answers clocked listed contents keeps keeps_end From more c c2 s s1 j j1 o o1
    read_broken w same = subst (λ (k : Clients). StepBreaks begins answers clocked listed contents keeps keeps_end From more c k s s1 j j1 o o1) (sym same) (steps_break stays w)
