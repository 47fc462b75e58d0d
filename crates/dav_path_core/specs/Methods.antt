-- The methods, each with its word (RFC 9110 section 9, RFC 5789, RFC 4918 section 9, RFC 3253 section 3.6, RFC 4791
-- section 5.3.1, RFC 6352 section 6.3.1) and its bit (own).
use Rattle.std.specs.Prelude.{ℕ, List, codes}
use Rattle.dav_path_core.specs.declared.util.DavMethod.{DavMethod}
use Rattle.dav_path_core.specs.declared.util.DavMethod.TheVariants.{Head, Get, Put, Patch, Options, PropFind, PropPatch, MkCol, Copy, Move, Delete, Lock, Unlock, Report, MkCalendar, MkAddressbook}

abbrev pub word : DavMethod → List ℕ
word Head = codes "HEAD"
word Get = codes "GET"
word Put = codes "PUT"
word Patch = codes "PATCH"
word Options = codes "OPTIONS"
word PropFind = codes "PROPFIND"
word PropPatch = codes "PROPPATCH"
word MkCol = codes "MKCOL"
word Copy = codes "COPY"
word Move = codes "MOVE"
word Delete = codes "DELETE"
word Lock = codes "LOCK"
word Unlock = codes "UNLOCK"
word Report = codes "REPORT"
word MkCalendar = codes "MKCALENDAR"
word MkAddressbook = codes "MKADDRESSBOOK"

abbrev pub bit : DavMethod → ℕ
bit Head = 0x1
bit Get = 0x2
bit Put = 0x4
bit Patch = 0x8
bit Options = 0x10
bit PropFind = 0x20
bit PropPatch = 0x40
bit MkCol = 0x80
bit Copy = 0x100
bit Move = 0x200
bit Delete = 0x400
bit Lock = 0x800
bit Unlock = 0x1000
bit Report = 0x2000
bit MkCalendar = 0x4000
bit MkAddressbook = 0x8000
