-- What follows from the format alone.
use Rattle.std.specs.Prelude.{◌≡◌, ℕ, List}
use Rattle.journal_core.specs.declared.header.Header.{Header}
use Rattle.journal_core.specs.Format.{StandsFor}

-- a file stands for one list of records at most
abbrev pub FilesAreOne : Type 0
FilesAreOne = (h g : Header) (file : List ℕ) (records others : List (List ℕ)) → StandsFor h file records → StandsFor g file others → records ≡ others
