-- Texts that spell a URL.
use Rattle.std.specs.Prelude.{ℕ, List, Option, None}
use Rattle.std.specs.Result.{result_ok}
use Rattle.url.specs.Parser.{parse_url}
use Rattle.url.specs.Parts.{Parts}

-- the URL that the text spells by the URL Standard
abbrev pub url_of : List ℕ → Option Parts
url_of text = result_ok (parse_url None text)
