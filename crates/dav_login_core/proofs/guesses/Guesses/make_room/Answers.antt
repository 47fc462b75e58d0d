use Rattle.std.proofs.Common.{not, rules, eqb}
use Rattle.std.specs.Cmp.{nat_eq_equiv}
use Rattle.std.specs.HashMap as table
use Rattle.std.proofs.lemmas.Map.Entries.{lookup-filter-values}
use Rattle.std.proofs.lemmas.Map.Made.{filter_same_pairs}
use Rattle.dav_login_core.specs.Guessing.{has_rested}
use Rattle.dav_login_core.proofs.Sifting.{sifted}
use Rattle.dav_login_core.proofs.guesses.Guesses.make_room.Goals as goal

pub returns-then-saturating_sub-ge-SWEEP-clause-table : goal.returns-then-saturating_sub-ge-SWEEP-clause-table
returns-then-saturating_sub-ge-SWEEP-clause-table c =
    let now = c.args.self.now.latest in
    let e = filter_same_pairs _ (λ p. not (has_rested p.1 now)) _ (λ k v b w f' t. search rules) _ _ c.retain.ensures.filtered in
    λ q. sifted now (table.get eqb c.args.self.now.buckets q) (table.get eqb c.retain.new.self q)
    (rw e (lookup-filter-values nat_eq_equiv (λ b. not (has_rested b now)) q c.args.self.now.buckets.entries c.retain.ensures.was_unique))
