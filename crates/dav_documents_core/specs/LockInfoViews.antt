-- What contracts see of what a LOCK asks for.
use Rattle.std.specs.Prelude.{option_map, string_bytes}
use Rattle.dav_documents_core.specs.declared.lock_infos.LockInfo as code
use Rattle.dav_documents_core.specs.LockInfos.{LockInfo}

abbrev pub info_of : code.LockInfo → LockInfo
info_of info = record { shared = info.shared; owner = option_map string_bytes info.owner }
