use Rattle.dav_notes_core.proofs.notes.apply_given.Goals as goal

pub returns-clause-answered : goal.returns-clause-answered
returns-clause-answered c = λ drawn draws. record {
  before = _;
  after = _;
  draws = draws;
  step = c.apply.ensures.step;
}
