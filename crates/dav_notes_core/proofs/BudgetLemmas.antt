-- What notes cost, and what is left of what was given.
use Rattle.std.proofs.Common.{◌≡◌, ℕ, ◌+◌, ◌-◌, ◌^◌, ◌≤◌, ◌<◌, arith, Bool, true, false, cond, not, ◌&&◌, List, [], ◌∷◌, ◌++◌, map, Result, Ok, Err, is_ok, sym, subst, ap, ◌∙◌}
use Rattle.std.specs.Prelude.{OnOk, OnErr}
use Rattle.std.proofs.lemmas.List.Sums.{sum_by_push}
use Rattle.dav_guarded_core.specs.declared.guarded.requests.Reply as served
use Rattle.dav_guarded_core.specs.declared.guarded.requests.Refusal as served_refusal
use Rattle.dav_guarded_core.specs.Requests.{Answer, Command}
use Rattle.dav_guarded_core.specs.Served.{answer_of}
use Rattle.dav_notes_core.specs.declared.notes.Note.{Note}
use Rattle.dav_notes_core.specs.Asking.{Caller}
use Rattle.dav_notes_core.specs.Changes.{is_look}
use Rattle.dav_notes_core.specs.Costs.{in_eight_bytes, cost_for, note_cost, notes_cost}
use Rattle.dav_notes_core.specs.Noting.{Noted, note_for, note_of}
use Rattle.dav_notes_core.specs.Seen.{StaysWithin, spent_on}

-- what is less than the greatest number is not in_eight_bytes
pub is_exact : (n cost : ℕ) → cost ≡ in_eight_bytes n → cost < 2 ^ 64 - 1 → cost ≡ n
is_exact n cost is small = grind arith

pub in_eight_bytes-le : (n : ℕ) → in_eight_bytes n ≤ n
in_eight_bytes-le n = grind arith

-- without notes
pub within_none : (ns : List Note) (held left given : ℕ) → ns ≡ [] → held ≡ 0 → left ≡ given → given < 2 ^ 64 - 1 → StaysWithin ns held left given
within_none ns held left given none nothing all most = record {
  cost = subst (λ (xs : List Note). notes_cost (map note_of xs) + left ≤ given) (sym none) (omega (arith, all));
  held = omega (arith, nothing);
  most = most;
}

-- with other bytes set aside
pub within_held : (ns ms : List Note) (held left given held' left' given' : ℕ) → StaysWithin ns held left given → ms ≡ ns → left' ≡ left → given' ≡ given → held' ≤ left
    → StaysWithin ms held' left' given'
within_held ns ms held left given held' left' given' h same rest all le = record {
  cost = subst (λ (xs : List Note). notes_cost (map note_of xs) + left' ≤ given') (sym same) (omega (arith, h.cost, rest, all));
  held = omega (arith, le, rest);
  most = omega (arith, h.most, all);
}

-- what stays set aside for others
pub held_for : (made : Bool) (cost n held held' bytes : ℕ) → cost ≡ in_eight_bytes n → held' ≡ held - cond made cost 0 → bytes + n ≤ held → bytes ≤ held'
held_for true cost n held held' bytes is now le = omega (arith, is, now, le, in_eight_bytes-le n)
held_for false cost n held held' bytes is now le = omega (arith, now, le)

-- what one note more costs
one_more : (ns : List Noted) (n : Noted) → notes_cost (ns ++ n ∷ []) ≡ notes_cost ns + note_cost n
one_more ns n = sum_by_push note_cost ns n

-- what is taken beside what is set aside
pub held_beside : (made : Bool) (cost held left held' left' : ℕ) → cost ≤ left - held → held ≤ left → held' ≡ held → left' ≡ left - cond made cost 0 → held' ≤ left'
held_beside true cost held left held' left' fits le same now = omega (arith, fits, le, same, now)
held_beside false cost held left held' left' fits le same now = omega (arith, le, same, now)

module _ (who : Caller) (c : Command) (next : List ℕ) (cost : ℕ) where
  -- behind a request that is noted where it is done
  pub within_changed : (ns ns' ms : List Note) (result : Result served.Reply served_refusal.Refusal) (held left given held' left' given' : ℕ) → StaysWithin ns held left given → ns' ≡ ns
      → cost ≡ in_eight_bytes (cost_for who c) → cost ≤ left → OnOk result (map note_of ms ≡ map note_of ns' ++ note_for who c next ∷ []) → OnErr result (ms ≡ ns')
      → left' ≡ left - cond (is_ok result) cost 0 → held' ≤ left' → given' ≡ given → StaysWithin ms held' left' given'
  within_changed ns ns' ms (Ok reply) held left given held' left' given' h same is fits ok err now le all =
      let before : notes_cost (map note_of ns') ≡ notes_cost (map note_of ns) = ap (λ (xs : List Note). notes_cost (map note_of xs)) same in
      let after : notes_cost (map note_of ms) ≡ notes_cost (map note_of ns') + cost_for who c = ap notes_cost ok ∙ one_more (map note_of ns') (note_for who c next) in
      let exact : cost ≡ cost_for who c = is_exact (cost_for who c) cost is (omega (arith, h.cost, h.most, fits)) in
      record {
        cost = omega (arith, h.cost, before, after, exact, now, fits, all);
        held = le;
        most = omega (arith, h.most, all);
      }
  within_changed ns ns' ms (Err e) held left given held' left' given' h same is fits ok err now le all =
      let before : notes_cost (map note_of ms) ≡ notes_cost (map note_of ns) = ap (λ (xs : List Note). notes_cost (map note_of xs)) (err ∙ same) in
      record {
        cost = omega (arith, h.cost, before, now, all);
        held = le;
        most = omega (arith, h.most, all);
      }

  -- what is taken away then
  pub spent_changed : (keeps : Bool) (result : Result served.Reply served_refusal.Refusal) (left left' : ℕ) → (keeps && not (is_look c)) ≡ true → cost ≡ in_eight_bytes (cost_for who c) → cost ≤ left
      → left < 2 ^ 64 - 1 → left' ≡ left - cond (is_ok result) cost 0 → left' + spent_on keeps who c (answer_of result) ≡ left
  spent_changed keeps (Ok reply) left left' noted is fits small now =
      let exact : cost ≡ cost_for who c = is_exact (cost_for who c) cost is (omega (arith, fits, small)) in
      rw noted (omega (arith, exact, now, fits))
  spent_changed keeps (Err e) left left' noted is fits small now = rw noted (omega (arith, now))

-- behind one that is not noted
pub spent_alone : (keeps : Bool) (who : Caller) (c : Command) (answer : Answer) (left : ℕ) → (keeps && not (is_look c)) ≡ false → left + spent_on keeps who c answer ≡ left
spent_alone keeps who c answer left alone = rw alone (omega arith)
