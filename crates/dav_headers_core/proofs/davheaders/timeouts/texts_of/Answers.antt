use Rattle.std.proofs.Common.{string_bytes}
use Rattle.dav_headers_core.proofs.lists.EveryLemmas.{shown_more}
use Rattle.std.proofs.lemmas.List.Elements.{All-more}
use Rattle.dav_headers_core.specs.Timeouts.{timeout_text, IsTimeoutWithin}
use Rattle.dav_headers_core.proofs.davheaders.timeouts.texts_of.Goals as goal

pub loop-timeout-preserved : goal.loop-timeout-preserved
loop-timeout-preserved c =
    let xs = c.args.timeouts.now in
    let i = c.loop-timeout.timeout-index in
    let within = c.text_of.ensures.within in
    record {
      texts = shown_more timeout_text string_bytes xs i _ c.loop-timeout.texts.items c.push.new.self.items c.in_ok-text_of.field-0 c.loop-timeout-test.true c.loop-timeout.invariant.texts c.in_ok-text_of.ensures.text c.in_ok-push.ensures.items;
      within = All-more IsTimeoutWithin xs i _ c.loop-timeout-test.true c.loop-timeout.invariant.within within;
    }
