use Rattle.std.proofs.Common.{◌≡◌, ◌++◌, length, take, map, string_bytes}
use Rattle.std.specs.List.{flat_map, AllByRecursion}
use Rattle.dav_effects_core.specs.ByteForms.{IsUtf8Text, counted_text, number_text}
use Rattle.dav_effects_core.proofs.putting.put_texts.Given as goal

abbrev pub invariant-putting : goal.invariant-putting
invariant-putting l = record {
  text : l.out.items ≡ l.fn.out.items ++ (number_text (length l.texts) ++ flat_map counted_text (map string_bytes (take l.text-index l.texts)));
  fits : AllByRecursion IsUtf8Text (map string_bytes (take l.text-index l.texts));
}
