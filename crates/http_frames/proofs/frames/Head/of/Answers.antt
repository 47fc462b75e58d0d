use Rattle.std.proofs.Common.{◌≡◌, List, ℕ, Some, None, Result, Ok, Err, MatchResult, Bor, sym, ap, ◌∙◌, lit<}
use Rattle.std.proofs.lemmas.Str.Pattern.{split_once_first}
use Rattle.std.specs.Result.{result_ok}
use Rattle.std.specs.List.{before_first}
use Rattle.std.specs.Str.{IsUtf8}
use Rattle.http_frames.specs.Frames.{head, head_of, is_single_space, one_word}
use Rattle.http_frames.proofs.Words.{no_text, no_blank, two_words}
use Rattle.http_frames.proofs.frames.Head.of.Goals as goal

module _ {E : Type 0} (line : List ℕ) (Q : E → Type 0) where
  unread : (r : Result (Bor (List ℕ)) E) → MatchResult r (λ s. (s.now ≡ line) × IsUtf8 line) (λ e. ¬ (IsUtf8 line) × Q e) → result_ok r ≡ None → ¬ (IsUtf8 line)
  unread (Ok s) x is = cc
  unread (Err e) x is = x.0

  read : (r : Result (Bor (List ℕ)) E) (s : Bor (List ℕ)) → MatchResult r (λ s. (s.now ≡ line) × IsUtf8 line) (λ e. ¬ (IsUtf8 line) × Q e) → result_ok r ≡ Some s → s.now ≡ line
  read (Ok t) s x is = cc
  read (Err e) s x is = cc

pub returns-in_err-ok : goal.returns-in_err-ok
returns-in_err-ok c = c.from_residual.ensures ∙ sym (no_text c.args.line.now (unread c.args.line.now _ c.from_utf8.result c.from_utf8.ensures.cases (sym c.ok.ensures.value ∙ c.in_err-ok.was)))

pub returns-in_err-word : goal.returns-in_err-word
returns-in_err-word c =
    let text = read c.args.line.now _ c.from_utf8.result c.in_ok-ok.field-0 c.from_utf8.ensures.cases (sym c.ok.ensures.value ∙ c.in_ok-ok.was) in
    let none = rw c.in_err-word.was at (split_once_first 32 c.in_ok-ok.field-0.now c.split_once.result c.split_once.ensures.cases (lit< tt)) in
    let not_one = ap one_word text ∙ sym c.one_word.ensures ∙ c.in_default.is in
    c.from_residual-in_err-word.ensures ∙ sym (ap head (sym text) ∙ no_blank c.in_ok-ok.field-0.now not_one none)

pub returns : goal.returns
returns c =
    let text = read c.args.line.now _ c.from_utf8.result c.in_ok-ok.field-0 c.from_utf8.ensures.cases (sym c.ok.ensures.value ∙ c.in_ok-ok.was) in
    let words = rw c.in_ok-word.was at (split_once_first 32 c.in_ok-ok.field-0.now c.split_once.result c.split_once.ensures.cases (lit< tt)) in
    let not_one = ap one_word text ∙ sym c.one_word.ensures ∙ c.in_default.is in
    c.by_word.ensures ∙ ap (λ (w : List ℕ). head_of w c.in_ok-word.rest.now) words.1 ∙ ap (head_of (before_first is_single_space c.in_ok-ok.field-0.now)) words.2
    ∙ sym (two_words c.in_ok-ok.field-0.now not_one) ∙ ap head text
