use Rattle.std.proofs.Common.{◌≡◌, ℕ, List, [], ◌∷◌, Bor, Option, Some, None, Ok, map, option_map, string_bytes, refl, sym, ap, ◌∙◌}
use Rattle.dav_headers_core.specs.Optional.{◌>>=◌}
use Rattle.dav_resource_core.specs.RequestLines.{head_form, labels_word, text_word, labelled_token}
use Rattle.dav_resource_core.specs.Private.LineReading.{exactly}
use Rattle.line_streams.specs.Numerals.{numeral}
use Rattle.dav_resource_core.proofs.davreplay.lines.head_of.Goals as goal

said : {U : Type 0} (o : Option U) (x : U) → Ok x ≡ exactly o → o ≡ Some x
said (Some y) x h = ap (λ y. Some y) (let same : x ≡ y = cc in sym same)
said None x h = absurd (cc)

each : {A B C : Type 0} (f : B → C) (g : A → B) (xs : List A) → map f (map g xs) ≡ map (λ x. f (g x)) xs
each f g [] = refl
each f g (x ∷ xs) = ap (λ ys. f (g x) ∷ ys) (each f g xs)

pub returns : goal.returns
returns c = read ∙ ap (λ tokens. Some (record { now = c.in_ok-number_of.field-0; principal = option_map string_bytes c.in_ok-principal.principal; tokens = tokens })) tokens
  where
    granted : List (List ℕ)
    granted = c.args.granted.now

    moment : numeral c.args.moment.now ≡ Some c.in_ok-number_of.field-0
    moment = said (numeral c.args.moment.now) c.in_ok-number_of.field-0 c.in_ok-number_of.ensures

    labels : labels_word c.args.labels.now ≡ Some (map (λ label. label.now) c.in_ok-labels.labels.items)
    labels = c.in_ok-labels.ensures

    principal : text_word c.args.principal.now ≡ option_map string_bytes c.in_ok-principal.principal
    principal = sym c.in_ok-principal.ensures

    tokens : map (labelled_token granted) (map (λ label. label.now) c.in_ok-labels.labels.items) ≡ map string_bytes c.in_ok-tokens.tokens.items
    tokens =
        each (labelled_token granted) (λ label. label.now) c.in_ok-labels.labels.items
        ∙ ap (map (λ (label : Bor (List ℕ)). labelled_token granted label.now)) (sym c.deref.ensures.value) ∙ sym c.in_ok-tokens.ensures

    read : head_form granted c.args.moment.now c.args.principal.now c.args.labels.now
        ≡ Some (record { now = c.in_ok-number_of.field-0; principal = option_map string_bytes c.in_ok-principal.principal; tokens = map (labelled_token granted) (map (λ label. label.now) c.in_ok-labels.labels.items) })
    read = λ i. moment i >>= λ now. labels i >>= λ named. Some (record { now = now; principal = principal i; tokens = map (labelled_token granted) named })
