use Rattle.journal_core.specs.Resting.{Carries}
use Rattle.store_changes.proofs.ImportLemmas.{imports_appended, imports_begin, imports_left, imports_more, imports_stand}
use Rattle.store_changes.proofs.laws.imports_are_kept.Goals as goal

pub returns : goal.returns
returns c = record {
  begins = λ s last round empty. imports_begin s last (Carries round) empty;
  adds = λ base s t from last clock m made source old new i a. imports_more base s t from last m made (Carries old) (Carries new) i clock source a;
  leaves = λ base s t from last m made old new i left round. imports_left base s t from last m made (Carries old) (Carries new) i left round;
  appends = λ base s from last made old new i empty. imports_appended base s from last made (Carries old) (Carries new) i empty;
  stands = λ h records made base s from last round stand i. imports_stand base s from last made (Carries round) (Carries round) i h records stand;
}
