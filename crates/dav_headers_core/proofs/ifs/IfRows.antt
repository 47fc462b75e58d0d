-- Worked rows of the `If` grammar. The reader on lists computes them, and by `reading_sound` and `reading_complete` they are rows
-- of the grammar itself.
use Rattle.std.proofs.Common.{◌≡◌, refl, List, [], ◌∷◌, ℕ, true, false, None, Some}
use Rattle.std.specs.Prelude.{codes}
use Rattle.std.specs.Str.{is_utf8, chars}
use Rattle.dav_headers_core.specs.IfBytes.{Item, Token, Tag, Condition, Group}
use Rattle.dav_headers_core.specs.Private.IfReading.{if_reading, pointed_at, bracketed_at, worded_at, group_at}
use Rattle.dav_headers_core.specs.IfGrammar.{IfText}
use Rattle.dav_headers_core.proofs.ifs.GroupLemmas.{reading_sound, reading_complete}

abbrev asked : Item → Condition
asked item = record { negated = false; item = item }

abbrev denied : Item → Condition
denied item = record { negated = true; item = item }

abbrev Unread : List ℕ → Type 0
Unread bytes = (groups : List Group) → ¬ (IfText bytes groups)

unread : (bytes : List ℕ) → if_reading bytes ≡ None → Unread bytes
unread bytes none groups h = let some = reading_complete bytes groups h in cc

abbrev untagged : List Condition → Group
untagged conditions = record { tag = None; conditions = conditions }

abbrev tagged : List ℕ → List Condition → Group
tagged text conditions = record { tag = Some text; conditions = conditions }

both_lists : IfText (codes "  <http://x.yz/> ([W/\"etag\"] Not <DAV:nope> ) (Not<urn:x>[W/\"bla\"] plain:word:123) ") (tagged (codes "http://x.yz/") (asked (Tag (codes "W/\"etag\"")) ∷ denied (Token (codes "DAV:nope")) ∷ [])
    ∷ untagged (denied (Token (codes "urn:x")) ∷ asked (Tag (codes "W/\"bla\"")) ∷ asked (Token (codes "plain:word:123")) ∷ []) ∷ [])
unfolding is_utf8 chars lib.Utf8.encode pointed_at bracketed_at worded_at group_at
both_lists = reading_sound _ _ refl

nothing_x : IfText (codes "(Nothing:x)") (untagged (denied (Token (codes "hing:x")) ∷ []) ∷ [])
unfolding is_utf8 chars lib.Utf8.encode pointed_at bracketed_at worded_at group_at
nothing_x = reading_sound _ _ refl

two : IfText (codes "(a:b<c:d>)") (untagged (asked (Token (codes "a:b")) ∷ asked (Token (codes "c:d")) ∷ []) ∷ [])
unfolding is_utf8 chars lib.Utf8.encode pointed_at bracketed_at worded_at group_at
two = reading_sound _ _ refl

quoted_bracket : IfText (codes "([\"a]b\"])") (untagged (asked (Tag (codes "\"a]b\"")) ∷ []) ∷ [])
unfolding is_utf8 chars lib.Utf8.encode pointed_at bracketed_at worded_at group_at
quoted_bracket = reading_sound _ _ refl

not_last : Unread (codes "(<a:b> Not)")
unfolding is_utf8 chars lib.Utf8.encode pointed_at bracketed_at worded_at group_at
not_last = unread _ refl

open_list : Unread (codes "(<a:b")
unfolding is_utf8 chars lib.Utf8.encode pointed_at bracketed_at worded_at group_at
open_list = unread _ refl

no_conditions : Unread (codes "()")
unfolding is_utf8 chars lib.Utf8.encode pointed_at bracketed_at worded_at group_at
no_conditions = unread _ refl

no_bytes : Unread []
unfolding is_utf8 chars lib.Utf8.encode pointed_at bracketed_at worded_at group_at
no_bytes = unread _ refl

one_quote : Unread (codes "([\"])")
unfolding is_utf8 chars lib.Utf8.encode pointed_at bracketed_at worded_at group_at
one_quote = unread _ refl

not_not : Unread (codes "(NotNot:x)")
unfolding is_utf8 chars lib.Utf8.encode pointed_at bracketed_at worded_at group_at
not_not = unread _ refl

-- a reading as far as the texts go: `url` refuses the tag `x`
relative : IfText (codes "<x> (a:b)") (tagged (codes "x") (asked (Token (codes "a:b")) ∷ []) ∷ [])
unfolding is_utf8 chars lib.Utf8.encode pointed_at bracketed_at worded_at group_at
relative = reading_sound _ _ refl

tag_of_one_list : IfText (codes "<http://x/>(a:b)(c:d)") (tagged (codes "http://x/") (asked (Token (codes "a:b")) ∷ []) ∷ untagged (asked (Token (codes "c:d")) ∷ []) ∷ [])
unfolding is_utf8 chars lib.Utf8.encode pointed_at bracketed_at worded_at group_at
tag_of_one_list = reading_sound _ _ refl

not_colon : IfText (codes "(Not:x)") (untagged (denied (Token (codes ":x")) ∷ []) ∷ [])
unfolding is_utf8 chars lib.Utf8.encode pointed_at bracketed_at worded_at group_at
not_colon = reading_sound _ _ refl

quoted_pointed : IfText (codes "(<a:\"b>c\">)") (untagged (asked (Token (codes "a:\"b>c\"")) ∷ []) ∷ [])
unfolding is_utf8 chars lib.Utf8.encode pointed_at bracketed_at worded_at group_at
quoted_pointed = reading_sound _ _ refl

quote_in_word : IfText (codes "(a:b\"c d:e)") (untagged (asked (Token (codes "a:b\"c")) ∷ asked (Token (codes "d:e")) ∷ []) ∷ [])
unfolding is_utf8 chars lib.Utf8.encode pointed_at bracketed_at worded_at group_at
quote_in_word = reading_sound _ _ refl

accent : IfText (40 ∷ 195 ∷ 169 ∷ 58 ∷ 120 ∷ 41 ∷ []) (untagged (asked (Token (195 ∷ 169 ∷ 58 ∷ 120 ∷ [])) ∷ []) ∷ [])
unfolding is_utf8 chars lib.Utf8.encode pointed_at bracketed_at worded_at group_at
accent = reading_sound _ _ refl

byte_255 : Unread (40 ∷ 255 ∷ 58 ∷ 120 ∷ 41 ∷ [])
unfolding is_utf8 chars lib.Utf8.encode pointed_at bracketed_at worded_at group_at
byte_255 = unread _ refl

two_tags : Unread (codes "<http://x/> <http://y/> (a:b)")
unfolding is_utf8 chars lib.Utf8.encode pointed_at bracketed_at worded_at group_at
two_tags = unread _ refl

not_not_spaced : Unread (codes "(Not Not <a:b>)")
unfolding is_utf8 chars lib.Utf8.encode pointed_at bracketed_at worded_at group_at
not_not_spaced = unread _ refl

blank_in_tag : Unread (codes "([\"a\" ])")
unfolding is_utf8 chars lib.Utf8.encode pointed_at bracketed_at worded_at group_at
blank_in_tag = unread _ refl

open_quote : Unread (codes "(<a:\"b>)")
unfolding is_utf8 chars lib.Utf8.encode pointed_at bracketed_at worded_at group_at
open_quote = unread _ refl

open_word : Unread (codes "(a:b")
unfolding is_utf8 chars lib.Utf8.encode pointed_at bracketed_at worded_at group_at
open_word = unread _ refl

no_colon : Unread (codes "(ab)")
unfolding is_utf8 chars lib.Utf8.encode pointed_at bracketed_at worded_at group_at
no_colon = unread _ refl

only_tag : Unread (codes "<http://x/>")
unfolding is_utf8 chars lib.Utf8.encode pointed_at bracketed_at worded_at group_at
only_tag = unread _ refl

pointed_alone : Unread (codes "<")
unfolding is_utf8 chars lib.Utf8.encode pointed_at bracketed_at worded_at group_at
pointed_alone = unread _ refl

bracketed_alone : Unread (codes "([")
unfolding is_utf8 chars lib.Utf8.encode pointed_at bracketed_at worded_at group_at
bracketed_alone = unread _ refl
