use Rattle.std.proofs.Common.{ap, ◌∙◌, map, option_map, Some, codes}
use Rattle.dav_documents_core.specs.Elements.{is_dav, element_nodes}
use Rattle.dav_documents_core.specs.KeptReading.{WasRead}
use Rattle.dav_documents_core.proofs.NamedLemmas.{only_holds}
use Rattle.dav_documents_core.proofs.lock_infos.lock_info_by.Goals as goal

pub owner_text-requires-clause-read : goal.owner_text-requires-clause-read
owner_text-requires-clause-read c = λ owner is.
    only_holds WasRead (is_dav (codes "owner")) (map element_nodes c.args.inside.now) (element_nodes owner)
    (c.in_ok-owner.ensures.ok ∙ ap (λ found. Some (option_map element_nodes found)) is) c.requires.read
