use Rattle.std.proofs.Common.{ℕ, List, length, [], refl, sym, ap, ◌∙◌, subst, append-nil, arith, true≢false, inl, inr}
use Rattle.http_server.specs.declared.connection.Connection.{Connection}
use Rattle.http_server.specs.Connection.{config_of as connection_config, history}
use Rattle.http_server.specs.History.{History, Rests, IsQuiet}
use Rattle.http_frames.specs.Gate.{BeginsWithin}
use Rattle.http_frames.specs.Logging.{LearnsUser}
use Rattle.http_frames.proofs.Learning.{ends_so, same_history, some_called, stepped, user_learned}
use Rattle.http_frames.proofs.Once.{logged, once, spent}
use Rattle.http_frames.proofs.Turning.{some_waits}
use Rattle.http_frames.proofs.held.step.Goals as goal

pub returns-then-wants_write-clause-steps : goal.returns-then-wants_write-clause-steps
returns-then-wants_write-clause-steps g c =
    let some = c.wants_write.ensures.0 c.if-wants_write.true in
    record {
      calls = [];
      turn = inl (refl, refl);
      made = sym (append-nil _);
      quiet = (refl, refl, refl);
      settled = λ closed. refl;
      waits = λ some. (refl, refl, refl);
      rests = λ pauses is_open room. absurd (omega (arith, some, room, pauses));
      config = refl;
      ahead = refl;
      heard = refl;
      behind = refl;
      due = inl refl;
      dues = λ is_open none. absurd (omega (arith, some, ap (λ (t : List ℕ). length t) none));
      news = λ is_open none. absurd (omega (arith, some, ap (λ (t : List ℕ). length t) none));
      ended = refl;
      unqueued = refl;
    }

pub returns-clause-steps : goal.returns-clause-steps
returns-clause-steps g c =
    let calls = c.advance.ensures.calls in
    let x = c.settle.ensures in
    stepped (BeginsWithin g.S.TurnService.begins g.S.TurnService.room c.args.service.now.room) g.S.Service.answers c.args.number c.args.held.now c.settle.new.held c.learn_user.new.held c.args.service.now.service c.advance.new.service.service
    c.advance.new.service.spent c.user.result.now c.learn_user.ensures
    (record {
      calls = calls.0;
      turn = inr (c.open.new.self.service, (c.open.ensures.begins, c.open.ensures.room), once g.S.Service.answers g.L.AccessLog.answered g.S.TurnService.user calls.0 c.open.new.self c.advance.new.service calls.2);
      made = ap (λ (k : Connection). (history k).calls) x.connection ∙ calls.1;
      quiet = subst (λ (k : Connection). IsQuiet (history c.args.held.now.connection) (history k)) (sym x.connection) c.advance.ensures.quiet;
      settled = λ closed. ap history x.connection ∙ c.advance.ensures.settled closed;
      waits = λ some. absurd (true≢false (sym (c.wants_write.ensures.1 (some_waits _ some)) ∙ c.if-wants_write.false));
      rests = λ pauses. subst (λ (k : Connection). Rests (connection_config k) (history k)) (sym x.connection) c.advance.ensures.rests;
      config = ap connection_config x.connection ∙ c.advance.ensures.config;
      ahead = x.ahead;
      heard = x.heard;
      behind = x.behind;
      due = elim x.due [
        | inl same ↦ inl same
        | inr all ↦ inr (all.0, ap (λ (k : Connection). (history k).state) x.connection ∙ all.1, ap (λ (k : Connection). (history k).pending) x.connection ∙ all.2)
      ];
      dues = x.dues;
      news = x.news;
      ended = x.ended;
      unqueued = x.queued;
    })

pub returns-then-wants_write-clause-user : goal.returns-then-wants_write-clause-user
returns-then-wants_write-clause-user g c = record { stays = λ is. is; only = λ is. inl is; learns = λ more. absurd (more refl); told = refl }

pub returns-clause-user : goal.returns-clause-user
returns-clause-user g c =
    let calls = c.advance.ensures.calls in
    let x = c.settle.ensures in
    let same = same_history c.settle.new.held c.learn_user.new.held c.advance.new.service.spent c.user.result.now c.learn_user.ensures in
    let made = ap (λ (h : History). h.calls) same ∙ ap (λ (k : Connection). (history k).calls) x.connection ∙ calls.1 in
    subst (λ (u : List ℕ). LearnsUser u c.args.held.now c.learn_user.new.held) c.user.ensures
    (user_learned c.args.held.now c.settle.new.held c.learn_user.new.held c.advance.new.service.spent c.user.result.now c.learn_user.ensures x.known x.told
    (λ other. spent g.S.Service.answers g.L.AccessLog.answered g.S.TurnService.user calls.0 c.open.new.self c.advance.new.service calls.2 (some_called _ _ calls.0 made other)))

pub returns-then-wants_write-clause-log : goal.returns-then-wants_write-clause-log
returns-then-wants_write-clause-log g c = record { waits = λ some. refl; each = λ none. absurd (omega (arith, c.wants_write.ensures.0 c.if-wants_write.true, ap (λ (t : List ℕ). length t) none)) }

pub returns-clause-log : goal.returns-clause-log
returns-clause-log g c =
    let calls = c.advance.ensures.calls in
    let x = c.settle.ensures in
    let same = same_history c.settle.new.held c.learn_user.new.held c.advance.new.service.spent c.user.result.now c.learn_user.ensures in
    let state = ap (λ (h : History). h.state) same ∙ ap (λ (k : Connection). (history k).state) x.connection in
    record {
      waits = λ some. absurd (true≢false (sym (c.wants_write.ensures.1 (some_waits _ some)) ∙ c.if-wants_write.false));
      each = λ none. record {
        told = c.open.new.self.log;
        begun = subst (λ (a : List ℕ). g.L.AccessLog.begins c.args.service.now.log a c.open.new.self.log) c.as_slice.ensures.value c.open.ensures.log;
        calls = calls.0;
        made = ap (λ (h : History). h.calls) same ∙ ap (λ (k : Connection). (history k).calls) x.connection ∙ calls.1;
        said = c.advance.new.service.log;
        called = logged g.S.Service.answers g.L.AccessLog.answered g.S.TurnService.user calls.0 c.open.new.self c.advance.new.service calls.2;
        end = ends_so g.L.AccessLog.refused g.L.AccessLog.lost _ _ _ _ c.advance.new.service.log c.log_end.new.log c.state-before.ensures (c.state.ensures ∙ sym state) c.log_end.ensures;
      };
    }
