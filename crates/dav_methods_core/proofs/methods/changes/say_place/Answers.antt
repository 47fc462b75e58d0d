use Rattle.std.proofs.Common.{sym, ◌∙◌, subst}
use Rattle.http_header.specs.FieldValue.{IsFieldValue}
use Rattle.dav_safe_methods_core.proofs.SentLemmas.{place_held}
use Rattle.dav_methods_core.proofs.methods.changes.say_place.Goals as goal

pub add_location-requires : goal.add_location-requires
add_location-requires c = subst IsFieldValue (sym (c.deref.ensures ∙ c.in_ok-url.ensures)) (place_held c.args.prefix.now c.args.path.now)
