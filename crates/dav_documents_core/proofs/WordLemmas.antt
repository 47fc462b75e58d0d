-- The words that name the elements of `DAV:` that are told: each is a name.
use Rattle.std.proofs.Common.{refl, codes}
use lib.Utf8.{encode}
use Rattle.dav_xml_core.specs.Namespaces.{are_distinct}
use Rattle.dav_documents_core.proofs.FragmentLemmas.{IsWord}

pub activelock : IsWord (codes "activelock")
unfolding encode are_distinct
activelock = record { start = refl; same = refl }

pub cannot_modify_protected_property : IsWord (codes "cannot-modify-protected-property")
unfolding encode are_distinct
cannot_modify_protected_property = record { start = refl; same = refl }

pub collection : IsWord (codes "collection")
unfolding encode are_distinct
collection = record { start = refl; same = refl }

pub creationdate : IsWord (codes "creationdate")
unfolding encode are_distinct
creationdate = record { start = refl; same = refl }

pub depth : IsWord (codes "depth")
unfolding encode are_distinct
depth = record { start = refl; same = refl }

pub error : IsWord (codes "error")
unfolding encode are_distinct
error = record { start = refl; same = refl }

pub exclusive : IsWord (codes "exclusive")
unfolding encode are_distinct
exclusive = record { start = refl; same = refl }

pub getcontentlength : IsWord (codes "getcontentlength")
unfolding encode are_distinct
getcontentlength = record { start = refl; same = refl }

pub getcontenttype : IsWord (codes "getcontenttype")
unfolding encode are_distinct
getcontenttype = record { start = refl; same = refl }

pub getetag : IsWord (codes "getetag")
unfolding encode are_distinct
getetag = record { start = refl; same = refl }

pub getlastmodified : IsWord (codes "getlastmodified")
unfolding encode are_distinct
getlastmodified = record { start = refl; same = refl }

pub href : IsWord (codes "href")
unfolding encode are_distinct
href = record { start = refl; same = refl }

pub lock_token_matches_request_uri : IsWord (codes "lock-token-matches-request-uri")
unfolding encode are_distinct
lock_token_matches_request_uri = record { start = refl; same = refl }

pub lock_token_submitted : IsWord (codes "lock-token-submitted")
unfolding encode are_distinct
lock_token_submitted = record { start = refl; same = refl }

pub lockdiscovery : IsWord (codes "lockdiscovery")
unfolding encode are_distinct
lockdiscovery = record { start = refl; same = refl }

pub lockentry : IsWord (codes "lockentry")
unfolding encode are_distinct
lockentry = record { start = refl; same = refl }

pub lockroot : IsWord (codes "lockroot")
unfolding encode are_distinct
lockroot = record { start = refl; same = refl }

pub lockscope : IsWord (codes "lockscope")
unfolding encode are_distinct
lockscope = record { start = refl; same = refl }

pub locktoken : IsWord (codes "locktoken")
unfolding encode are_distinct
locktoken = record { start = refl; same = refl }

pub locktype : IsWord (codes "locktype")
unfolding encode are_distinct
locktype = record { start = refl; same = refl }

pub multistatus : IsWord (codes "multistatus")
unfolding encode are_distinct
multistatus = record { start = refl; same = refl }

pub no_conflicting_lock : IsWord (codes "no-conflicting-lock")
unfolding encode are_distinct
no_conflicting_lock = record { start = refl; same = refl }

pub prop : IsWord (codes "prop")
unfolding encode are_distinct
prop = record { start = refl; same = refl }

pub propfind_finite_depth : IsWord (codes "propfind-finite-depth")
unfolding encode are_distinct
propfind_finite_depth = record { start = refl; same = refl }

pub propstat : IsWord (codes "propstat")
unfolding encode are_distinct
propstat = record { start = refl; same = refl }

pub resourcetype : IsWord (codes "resourcetype")
unfolding encode are_distinct
resourcetype = record { start = refl; same = refl }

pub response : IsWord (codes "response")
unfolding encode are_distinct
response = record { start = refl; same = refl }

pub shared : IsWord (codes "shared")
unfolding encode are_distinct
shared = record { start = refl; same = refl }

pub status : IsWord (codes "status")
unfolding encode are_distinct
status = record { start = refl; same = refl }

pub supportedlock : IsWord (codes "supportedlock")
unfolding encode are_distinct
supportedlock = record { start = refl; same = refl }

pub timeout : IsWord (codes "timeout")
unfolding encode are_distinct
timeout = record { start = refl; same = refl }

pub write : IsWord (codes "write")
unfolding encode are_distinct
write = record { start = refl; same = refl }
