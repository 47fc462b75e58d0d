-- The field that asks for a name and a password (RFC 7617 sections 2 and 2.1, RFC 9110 section 11.6.1).
use Rattle.std.specs.Prelude.{◌==◌, ℕ, Bool, not, ◌&&◌, ◌||◌, List, ◌++◌, codes}
use Rattle.std.specs.List.{list_all}
use Rattle.http_header.specs.Token.{is_value_byte}

-- it can stand between quotes as it is: `qdtext` of RFC 9110 section 5.6.4
abbrev pub is_realm_byte : ℕ → Bool
is_realm_byte b = is_value_byte b && not (b == 34 || b == 92)

abbrev pub is_realm : List ℕ → Bool
is_realm realm = list_all is_realm_byte realm

-- the value of the field
abbrev pub challenge : List ℕ → List ℕ
challenge realm = codes "Basic realm=\"" ++ (realm ++ codes "\", charset=\"UTF-8\"")
