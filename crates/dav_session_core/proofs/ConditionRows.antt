-- Worked rows of `If`, computed: the examples of RFC 4918 sections 10.4.6 to 10.4.11 with short names, and more.
use Rattle.std.proofs.Common.{◌≡◌, refl, ℕ, Bool, true, false, List, [], ◌∷◌, Option, None, Some}
use Rattle.std.specs.Prelude.{codes}
use Rattle.rand_core.specs.Stream.{Stream}
use Rattle.url.specs.Parts.{Parts}
use Rattle.url.specs.declared.host.Host.TheVariants.{Domain}
use Rattle.dav_path_core.specs.Fronts.{Path}
use Rattle.dav_path_core.specs.Segments.{segments}
use Rattle.dav_files_core.specs.Resources.{ResourceMap}
use Rattle.dav_headers_core.specs.IfBytes.{Token, Condition}
use Rattle.dav_headers_core.specs.IfValues.{Located}
use Rattle.dav_locks_core.specs.Lock.{Lock}
use Rattle.dav_guarded_core.specs.Step.{State}
use Rattle.dav_session_core.specs.Conditions.{conditions_hold, untagged_list}
use Rattle.dav_fields_core.specs.IfTokens.{tokens_of}
use Rattle.dav_fields_core.specs.TaggedLists.{spread_tags}

abbrev lock : List ℕ → List ℕ → Bool → Bool → Lock
lock token path shared deep = record {
  token = token;
  path = record { prefix = []; bytes = path };
  principal = Some (codes "ann");
  owner = None;
  timeout_at = None;
  timeout = None;
  shared = shared;
  deep = deep;
}

abbrev is : List ℕ → Condition
is token = record { negated = false; item = Token token }

abbrev is_not : List ℕ → Condition
is_not token = record { negated = true; item = Token token }

abbrev url : List ℕ → Parts
url path = record {
  scheme = codes "http";
  username = [];
  password = [];
  host = Some (Domain (codes "h"));
  port = None;
  path = path;
  query = None;
  fragment = None;
}

abbrev tagged : List ℕ → List Condition → Located
tagged path conditions = record { tag = Some (url path); conditions = conditions }

-- ---- conditions, whatever stands on the map

module _ (map : ResourceMap) (rng : Stream) where
  -- a deep lock of /a, and a shallow and shared one of /c
  abbrev s : State
  s = record { map = map; locks = lock (codes "u:1") (codes "/a") false true ∷ lock (codes "u:2") (codes "/c") true false ∷ []; rng = rng }

  abbrev at : List ℕ → Option Path
  at path = Some (segments path)

  -- the lock covers the folder and what is below, whoever asks (section 10.4.10)
  locked : conditions_hold s (at (codes "/a")) (is (codes "u:1") ∷ []) ≡ true
  unfolding segments
  locked = refl

  below_deep : conditions_hold s (at (codes "/a/b")) (is (codes "u:1") ∷ []) ≡ true
  unfolding segments
  below_deep = refl

  below_shallow : conditions_hold s (at (codes "/c/d")) (is (codes "u:2") ∷ []) ≡ false
  unfolding segments
  below_shallow = refl

  elsewhere : conditions_hold s (at (codes "/c")) (is (codes "u:1") ∷ []) ≡ false
  unfolding segments
  elsewhere = refl

  -- all conditions of a list are to hold, and `Not` turns round the one behind it (section 10.4.7)
  both : conditions_hold s (at (codes "/a/b")) (is (codes "u:1") ∷ is (codes "u:2") ∷ []) ≡ false
  unfolding segments
  both = refl

  one_and_not_the_other : conditions_hold s (at (codes "/a/b")) (is_not (codes "u:2") ∷ is (codes "u:1") ∷ []) ≡ true
  unfolding segments
  one_and_not_the_other = refl

  -- always true (section 10.4.8)
  no_lock : conditions_hold s (at (codes "/a")) (is_not (codes "DAV:no-lock") ∷ []) ≡ true
  unfolding segments
  no_lock = refl

  -- of no path of the server
  another_host : conditions_hold s None (is (codes "u:1") ∷ []) ≡ false
  another_host = refl

-- ---- tags and tokens

-- a tag is for all lists up to the next one
two_tags : spread_tags (tagged (codes "/a") (is (codes "u:1") ∷ []) ∷ untagged_list (is (codes "u:2") ∷ []) ∷ tagged (codes "/c") (is (codes "u:3") ∷ []) ∷ [])
    ≡ tagged (codes "/a") (is (codes "u:1") ∷ []) ∷ tagged (codes "/a") (is (codes "u:2") ∷ []) ∷ tagged (codes "/c") (is (codes "u:3") ∷ []) ∷ []
two_tags = refl

late_tag : spread_tags (untagged_list (is (codes "u:1") ∷ []) ∷ tagged (codes "/a") (is (codes "u:2") ∷ []) ∷ [])
    ≡ untagged_list (is (codes "u:1") ∷ []) ∷ tagged (codes "/a") (is (codes "u:2") ∷ []) ∷ []
late_tag = refl

each_once : tokens_of (untagged_list (is (codes "u:2") ∷ is_not (codes "u:1") ∷ []) ∷ untagged_list (is (codes "u:2") ∷ []) ∷ []) ≡ codes "u:2" ∷ codes "u:1" ∷ []
each_once = refl
