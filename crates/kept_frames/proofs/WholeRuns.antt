-- A whole run follows from its steps.
use Rattle.std.proofs.Common.{◌≡◌, ℕ, Bool, Option, Some, List, [], ◌++◌, Result, Ok, IsErr, refl, sym, subst, append-nil, inl}
use Rattle.std.proofs.KnownBytes.{Appends-nil, Consumes-kept}
use Rattle.http.specs.declared.request.Request.{Request}
use Rattle.http_server.specs.declared.response.Response.{Response}
use Rattle.http_frames.specs.declared.clients.Clients.{Clients}
use Rattle.http_frames.specs.declared.serving.End.{End}
use Rattle.http_frames.specs.Clients.{Has, count_begun}
use Rattle.http_frames.specs.ConnectionEvents.{Event}
use Rattle.http_frames.specs.TurnRuns.{AreSaid, IsEnd}
use Rattle.http_frames.proofs.Fronts.{whole}
use Rattle.http_frames.proofs.Results.{if_ok-err}
use Rattle.journal_core.specs.declared.header.Header.{Header}
use Rattle.journal_core.specs.declared.journal.Journal.{Journal}
use Rattle.journal_core.specs.Resting.{IsSettled, disk_behind, header_in}
use Rattle.kept_frames.specs.KeptMoments.{IsStanding}
use Rattle.kept_frames.specs.KeptRuns.{RunsKeeping}
use Rattle.kept_frames.specs.KeptSteps.{StepStanding, StepBreaks, StepGoesOn, StepServes, StepWrites}
use Rattle.kept_frames.proofs.Standings.{Stays, by_now}
use Rattle.kept_frames.proofs.Steps.{steps_then}

module _ {S D O : Type 0} {begins : S → ℕ → S → Type 0} {answers : S → Request (List ℕ) → Response → S → Type 0} {clocked : S → ℕ → S → Type 0} {listed : S → List ℕ → S → Type 0} {stands : List (List ℕ) → S → Type 0} {seen : D → List ℕ} {may_leave : D → List ℕ → Type 0} {is_clean : D → Bool}
    {contents : O → Option (List ℕ)} where
  -- before the first step
  begun : (s : S) (j : Journal D O) (o : O) (records : List (List ℕ)) → IsSettled seen may_leave is_clean j records → stands records s
      → IsStanding begins answers clocked listed stands seen may_leave is_clean contents (header_in j) s (contents o) [] s j o
  begun s j o records settled stand = record { header = refl; leads = refl; wrote = Appends-nil (contents o); records = records; settled = settled; stand = stand }

module _ {S D O : Type 0} {begins : S → ℕ → S → Type 0} {answers : S → Request (List ℕ) → Response → S → Type 0} {clocked : S → ℕ → S → Type 0} {listed : S → List ℕ → S → Type 0} {stands : List (List ℕ) → S → Type 0} {seen : D → List ℕ} {may_leave : D → List ℕ → Type 0} {is_clean : D → Bool}
    {contents : O → Option (List ℕ)} {keeps keeps_end : Header → S → List Event → D → Type 0} where
  -- it failed
  pub broke_kept : {E : Type 0} {c c' : Clients} {s s' : S} {j j' : Journal D O} {o o' : O} {input input' : Option (List ℕ)} {more : List Event} (r : Result End E) (records : List (List ℕ)) → IsErr r → Has c []
      → IsSettled seen may_leave is_clean j records → stands records s
      → StepBreaks begins answers clocked listed contents keeps keeps_end (IsStanding begins answers clocked listed stands seen may_leave is_clean contents) more c c' s s' j j' o o'
      → RunsKeeping keeps keeps_end begins answers clocked listed stands seen may_leave is_clean contents r c c' s s' j j' input input' o o'
  broke_kept {E} {c} {c'} {s} {s'} {j} {j'} {o} {o'} {input} {input'} {more} r records err h settled stand x = record {
    run = record {
      done = more;
      always = x.moments.always [] h;
      has = x.moments.has [] h;
      in_order = x.moments.in_order;
      leads = x.leads;
      writes = x.wrote;
      ends = if_ok-err _ r err;
      wrote = if_ok-err _ r err;
    };
    each = x.each (header_in j) s (contents o) [] (begun s j o records settled stand);
    last = x.last (header_in j) s (contents o) [] (begun s j o records settled stand);
    settled = if_ok-err _ r err;
  }

module _ {S D O : Type 0} {begins : S → ℕ → S → Type 0} {answers : S → Request (List ℕ) → Response → S → Type 0} {clocked : S → ℕ → S → Type 0} {listed : S → List ℕ → S → Type 0} {stands : List (List ℕ) → S → Type 0} {seen : D → List ℕ} {may_leave : D → List ℕ → Type 0} {is_clean : D → Bool}
    {contents : O → Option (List ℕ)} {keeps keeps_end : Header → S → List Event → D → Type 0} {May : List Event → Type 0}
    (stays : Stays begins answers clocked listed stands seen may_leave is_clean contents keeps keeps_end May (IsStanding begins answers clocked listed stands seen may_leave is_clean contents)) where
  -- it came to its end, and then what waited was answered
  pub ended_kept : {E : Type 0} {A B : StepStanding S D O} {c c1 c2 c3 : Clients} {s s1 s2 s3 : S} {j j1 j2 j3 : Journal D O} {o o1 o2 o3 : O} (input between input' : Option (List ℕ)) (end : End) (records : List (List ℕ)) → Has c []
      → IsSettled seen may_leave is_clean j records → stands records s
      → StepServes begins answers clocked listed contents keeps keeps_end (IsStanding begins answers clocked listed stands seen may_leave is_clean contents) A c c1 s s1 j j1 o o1 input between
      → StepGoesOn begins answers clocked listed contents keeps keeps_end A B (Some end) c1 c2 s1 s2 j1 j2 o1 o2 between input'
      → StepWrites begins answers clocked listed contents keeps keeps_end B (IsStanding begins answers clocked listed stands seen may_leave is_clean contents) c2 c3 s2 s3 j2 j3 o2 o3 → count_begun c3 ≡ count_begun c2
      → RunsKeeping {E = E} keeps keeps_end begins answers clocked listed stands seen may_leave is_clean contents (Ok end) c c3 s s3 j j3 input input' o o3
  ended_kept {E} {A} {B} {c} {c1} {c2} {c3} {s} {s1} {s2} {s3} {j} {j1} {j2} {j3} {o} {o1} {o2} {o3} input between input' end records h settled stand x f w same =
      let first = steps_then x.2 f.0.1 in
      let all = steps_then first w.1 in
      let before = begun s j o records settled stand in
      let behind = all.stand (header_in j) s (contents o) [] before in
      record {
        run = record {
          done = (x.0 ++ f.0.0) ++ w.0;
          always = all.moments.always [] h;
          has = all.moments.has [] h;
          in_order = all.moments.in_order;
          leads = all.leads;
          writes = (contents o3, all.wrote, whole (contents o3));
          ends = record {
            first = x.0 ++ f.0.0;
            later = w.0;
            done_is = refl;
            text = x.1;
            said = subst (AreSaid (x.0 ++ f.0.0)) (append-nil x.1) first.said;
            unsaid = w.1.said;
            consumed = Consumes-kept input between input' x.1 x.3 f.1;
            ends = subst (λ (n : ℕ). IsEnd end n (x.0 ++ f.0.0) input') (sym same) (f.2 (x.0 ++ f.0.0) (first.moments.has [] h));
          };
          wrote = all.wrote;
        };
        each = all.each (header_in j) s (contents o) [] before;
        last = inl (by_now (header_in j) s (contents o) ((x.0 ++ f.0.0) ++ w.0) (disk_behind j3) o3 behind.wrote (stays.now (header_in j) s (contents o) ((x.0 ++ f.0.0) ++ w.0) s3 j3 o3 behind));
        settled = (behind.records, behind.settled, behind.stand);
      }
