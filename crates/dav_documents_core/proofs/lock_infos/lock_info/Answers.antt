use Rattle.std.proofs.Common.{sym, subst}
use Rattle.dav_documents_core.specs.KeptReading.{IsLang}
use Rattle.dav_documents_core.proofs.KeptReadingLaws.{own_text}
use Rattle.dav_documents_core.proofs.ReadChildLemmas.{children_read}
use Rattle.dav_documents_core.proofs.lock_infos.lock_info.Goals as goal

pub lock_info_by-requires-clause-read : goal.lock_info_by-requires-clause-read
lock_info_by-requires-clause-read c = rw (c.deref-4.ensures.value, c.in_ok-inside.ensures, c.deref-2.ensures.value) (children_read _ c.in_ok-document.ensures.readable)

pub lock_info_by-requires-clause-lang : goal.lock_info_by-requires-clause-lang
lock_info_by-requires-clause-lang c =
    subst IsLang (sym c.own_lang.ensures) (rw c.deref-3.ensures.value (own_text _ c.in_ok-document.ensures.readable.could))
