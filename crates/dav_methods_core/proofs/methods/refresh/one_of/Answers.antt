use Rattle.std.proofs.Common.{[], ◌∷◌, ◌∙◌, ap, string_bytes, Global, String, sym, rules, tests}
use Rattle.std.proofs.lemmas.Iterator.{YieldsList-from_slice}
use Rattle.std.proofs.lemmas.Iterator.Consumers.{YieldsList-at, YieldsList-from_filter}
use Rattle.dav_methods_core.specs.RefreshMethod.{is_token_of_one}
use Rattle.dav_session_core.proofs.RefreshLemmas.{gives_none, gives_one, gives_two}
use Rattle.dav_methods_core.proofs.methods.refresh.one_of.Goals as goal

pub returns-in_default-clause-err : goal.returns-in_default-clause-err
returns-in_default-clause-err c =
    gives_none string_bytes (is_token_of_one c.args.locks.now) c.args.tokens.now
    (YieldsList-from_filter _ (λ (t : String Global). is_token_of_one c.args.locks.now (string_bytes t)) (YieldsList-at c.filter-named.ensures.source (YieldsList-from_slice c.args.tokens.now cc))
    c.filter-named.ensures.closure (λ x b q k. search (rules, tests)))
    c.next.result c.next.new.self c.in_default.is c.next.ensures.steps

pub returns-then-is_some-clause-err : goal.returns-then-is_some-clause-err
returns-then-is_some-clause-err c =
    gives_two string_bytes (is_token_of_one c.args.locks.now) c.args.tokens.now
    (YieldsList-from_filter _ (λ (t : String Global). is_token_of_one c.args.locks.now (string_bytes t)) (YieldsList-at c.filter-named.ensures.source (YieldsList-from_slice c.args.tokens.now cc))
    c.filter-named.ensures.closure (λ x b q k. search (rules, tests)))
    c.next.result c.next-2.result c.next.new.self c.next-2.new.self c.in-Some.token c.in-Some.is c.next.ensures.steps (sym c.is_some.ensures ∙ c.if-is_some.true) c.next-2.ensures.steps

pub returns-clause-ok : goal.returns-clause-ok
returns-clause-ok c =
    gives_one string_bytes (is_token_of_one c.args.locks.now) c.args.tokens.now
    (YieldsList-from_filter _ (λ (t : String Global). is_token_of_one c.args.locks.now (string_bytes t)) (YieldsList-at c.filter-named.ensures.source (YieldsList-from_slice c.args.tokens.now cc))
    c.filter-named.ensures.closure (λ x b q k. search (rules, tests)))
    c.next.result c.next-2.result c.next.new.self c.next-2.new.self c.in-Some.token c.in-Some.is c.next.ensures.steps (sym c.is_some.ensures ∙ c.if-is_some.false) c.next-2.ensures.steps
    ∙ ap (λ token. token ∷ []) (sym (c.in_ok-from_str.ensures.ok ∙ c.deref.ensures))
