-- What is kept over one kind of state of a service is kept over each view of it.
use Rattle.std.proofs.Common.{ℕ, Bool, List, Option, Result, Ok, Err, IfOk, inl, inr}
use Rattle.http.specs.declared.request.Request.{Request}
use Rattle.http_server.specs.declared.response.Response.{Response}
use Rattle.http_frames.specs.declared.clients.Clients.{Clients}
use Rattle.http_frames.specs.declared.serving.End.{End}
use Rattle.http_frames.specs.ConnectionEvents.{Event, IsNoTick}
use Rattle.http_frames.proofs.Simulations.{leads_to}
use Rattle.journal_core.specs.declared.header.Header.{Header}
use Rattle.journal_core.specs.declared.journal.Journal.{Journal}
use Rattle.journal_core.specs.Resting.{IsSettled, clocked_of, disk_behind, header_in}
use Rattle.journal_core.proofs.MomentLaws.{weaker}
use Rattle.kept_frames.specs.KeptMoments.{IsKeptEnd, IsKeptMoment, IsTurn, KeepsWhole, KeepsBut, StandsAfter}
use Rattle.kept_frames.specs.KeptRuns.{RunsKeeping, RunsKept}
use Rattle.kept_frames.specs.LateRuns.{RunsLate}

module _ {S T D O : Type 0} (f : S → T) (contents : O → Option (List ℕ)) (h : Header) (start : S) (output : Option (List ℕ)) (events : List Event) where
  moment_to : (keeps : Header → S → List Event → D → Type 0) (keeps' : Header → T → List Event → D → Type 0) → ((es : List Event) (disk : D) → keeps h start es disk → keeps' h (f start) es disk) → (m : D × O)
      → IsKeptMoment contents keeps h start output events m → IsKeptMoment contents keeps' h (f start) output events m
  moment_to keeps keeps' to m x = record { by_then = x.by_then; rest = x.rest; split = x.split; wrote = x.wrote; kept = to x.by_then m.0 x.kept }

  end_to : (keeps keeps_end : Header → S → List Event → D → Type 0) (keeps' keeps_end' : Header → T → List Event → D → Type 0) → ((es : List Event) (disk : D) → keeps h start es disk → keeps' h (f start) es disk)
      → ((es : List Event) (disk : D) → keeps_end h start es disk → keeps_end' h (f start) es disk) → (m : D × O) → IsKeptEnd contents keeps keeps_end h start output events m
      → IsKeptEnd contents keeps' keeps_end' h (f start) output events m
  end_to keeps keeps_end keeps' keeps_end' to to_end m (inl x) = inl (moment_to keeps keeps' to m x)
  end_to keeps keeps_end keeps' keeps_end' to to_end m (inr x) = inr (record { wrote = x.wrote; kept = to_end events m.0 x.kept })

module _ {S T : Type 0} (f : S → T) (begins : S → ℕ → S → Type 0) (answers : S → Request (List ℕ) → Response → S → Type 0) (clocked : S → ℕ → S → Type 0) (listed : S → List ℕ → S → Type 0) (stands : List (List ℕ) → S → Type 0)
    (begins' : T → ℕ → T → Type 0) (answers' : T → Request (List ℕ) → Response → T → Type 0) (clocked' : T → ℕ → T → Type 0) (listed' : T → List ℕ → T → Type 0) (stands' : List (List ℕ) → T → Type 0)
    (begins_to : (s : S) (n : ℕ) (s' : S) → begins s n s' → begins' (f s) n (f s'))
    (answers_to : (s : S) (request : Request (List ℕ)) (response : Response) (s' : S) → answers s request response s' → answers' (f s) request response (f s'))
    (clocked_to : (s : S) (moment : ℕ) (s' : S) → clocked s moment s' → clocked' (f s) moment (f s'))
    (listed_to : (s : S) (file : List ℕ) (s' : S) → listed s file s' → listed' (f s) file (f s')) (stands_to : (records : List (List ℕ)) (s : S) → stands records s → stands' records (f s)) where
  module _ {D : Type 0} (may_leave : D → List ℕ → Type 0) (h : Header) (start : S) where
    after_to : (es : List Event) (file : List ℕ) → StandsAfter begins answers clocked listed stands may_leave h start es file → StandsAfter begins' answers' clocked' listed' stands' may_leave h (f start) es file
    after_to es file x = (f x.0, leads_to f begins answers clocked listed begins' answers' clocked' listed' begins_to answers_to clocked_to listed_to es start x.0 x.1, (x.2.0, x.2.1, stands_to x.2.0 x.0 x.2.2))

    all_to : (es : List Event) (disk : D) → KeepsWhole begins answers clocked listed stands may_leave h start es disk → KeepsWhole begins' answers' clocked' listed' stands' may_leave h (f start) es disk
    all_to es disk x = λ file left. after_to es file (x file left)

    but_to : (Such : Event → Type 0) (es : List Event) (disk : D) → KeepsBut begins answers clocked listed stands may_leave Such h start es disk → KeepsBut begins' answers' clocked' listed' stands' may_leave Such h (f start) es disk
    but_to Such es disk x = λ file left. let y = x file left in (y.0, y.1, y.2, y.3, after_to y.0 file y.4)

  module _ {D O E : Type 0} (seen : D → List ℕ) (may_leave : D → List ℕ → Type 0) (is_clean : D → Bool) (contents : O → Option (List ℕ)) (result : Result End E) (c c' : Clients) (s s' : S)
      (j j' : Journal D O) (input input' : Option (List ℕ)) (o o' : O) where
    keeping_to : (keeps keeps_end : Header → S → List Event → D → Type 0) (keeps' keeps_end' : Header → T → List Event → D → Type 0)
        → ((es : List Event) (disk : D) → keeps (header_in j) s es disk → keeps' (header_in j) (f s) es disk) → ((es : List Event) (disk : D) → keeps_end (header_in j) s es disk → keeps_end' (header_in j) (f s) es disk)
        → RunsKeeping keeps keeps_end begins answers clocked listed stands seen may_leave is_clean contents result c c' s s' j j' input input' o o'
        → RunsKeeping keeps' keeps_end' begins' answers' clocked' listed' stands' seen may_leave is_clean contents result c c' (f s) (f s') j j' input input' o o'
    keeping_to keeps keeps_end keeps' keeps_end' to to_end x =
        let h = header_in j in
        record {
          run = record {
            done = x.run.done;
            always = x.run.always;
            has = x.run.has;
            in_order = x.run.in_order;
            leads = leads_to f begins answers clocked listed begins' answers' clocked' listed' begins_to answers_to clocked_to listed_to x.run.done s s' x.run.leads;
            writes = x.run.writes;
            ends = x.run.ends;
            wrote = x.run.wrote;
          };
          each = weaker (IsKeptMoment contents keeps h s (contents o) x.run.done) (IsKeptMoment contents keeps' h (f s) (contents o) x.run.done) (moment_to f contents h s (contents o) x.run.done keeps keeps' to) (clocked_of j)
              (clocked_of j') x.each;
          last = end_to f contents h s (contents o) x.run.done keeps keeps_end keeps' keeps_end' to to_end (disk_behind j', o') x.last;
          settled = settled_to result x.settled;
        }
      where
        settled_to : (r : Result End E) → IfOk r (λ _. (records : List (List ℕ)) × IsSettled seen may_leave is_clean j' records × stands records s')
            → IfOk r (λ _. (records : List (List ℕ)) × IsSettled seen may_leave is_clean j' records × stands' records (f s'))
        settled_to (Ok end) y = (y.0, y.1, stands_to y.0 s' y.2)
        settled_to (Err e) y = tt

    pub kept_to : RunsKept begins answers clocked listed stands seen may_leave is_clean contents result c c' s s' j j' input input' o o'
        → RunsKept begins' answers' clocked' listed' stands' seen may_leave is_clean contents result c c' (f s) (f s') j j' input input' o o'
    kept_to x = keeping_to _ _ _ _ (but_to may_leave (header_in j) s IsTurn) (all_to may_leave (header_in j) s) x

    pub late_to : RunsLate begins answers clocked listed stands seen may_leave is_clean contents result c c' s s' j j' input input' o o'
        → RunsLate begins' answers' clocked' listed' stands' seen may_leave is_clean contents result c c' (f s) (f s') j j' input input' o o'
    late_to x = keeping_to _ _ _ _ (but_to may_leave (header_in j) s IsNoTick) (but_to may_leave (header_in j) s IsNoTick) x
