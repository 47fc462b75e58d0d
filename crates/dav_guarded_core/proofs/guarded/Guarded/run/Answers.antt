use Rattle.std.proofs.lemmas.Result.{IfOk-weaker}
use Rattle.dav_guarded_core.proofs.AloneLaws.{run_alone}
use Rattle.dav_guarded_core.proofs.RunLaws.{each_exclusive, each_shape, each_ends_named, each_new_shown, each_isolated, each_any_isolated, run_stand, run_isolated}
use Rattle.dav_guarded_core.proofs.guarded.Guarded.run.Goals as goal

pub returns-clause-each_exclusive : goal.returns-clause-each_exclusive
returns-clause-each_exclusive g c = IfOk-weaker c.run_all.result _ _ (λ answers ran. each_exclusive _ _ _ _ c.run_all.ensures.exclusive.0) c.run_all.ensures.run

pub returns-clause-each_shape : goal.returns-clause-each_shape
returns-clause-each_shape g c = IfOk-weaker c.run_all.result _ _ (λ answers ran. each_shape _ _ _ _ c.run_all.ensures.shape.0) c.run_all.ensures.run

pub returns-clause-each_isolated : goal.returns-clause-each_isolated
returns-clause-each_isolated g c = IfOk-weaker c.run_all.result _ _ (λ answers ran. each_isolated _ _ _ _) c.run_all.ensures.run

pub returns-clause-each_any_isolated : goal.returns-clause-each_any_isolated
returns-clause-each_any_isolated g c = IfOk-weaker c.run_all.result _ _ (λ answers ran. each_any_isolated _ _ _ _) c.run_all.ensures.run

pub returns-clause-each_ends_named : goal.returns-clause-each_ends_named
returns-clause-each_ends_named g c = IfOk-weaker c.run_all.result _ _ (λ answers ran. each_ends_named _ _ _ _) c.run_all.ensures.run

pub returns-clause-each_new_shown : goal.returns-clause-each_new_shown
returns-clause-each_new_shown g c = IfOk-weaker c.run_all.result _ _ (λ answers ran. each_new_shown _ _ _ _) c.run_all.ensures.run

pub returns-clause-stand : goal.returns-clause-stand
returns-clause-stand g c = IfOk-weaker c.run_all.result _ _ (λ answers ran. run_stand _ _ _ _ ran) c.run_all.ensures.run

pub returns-clause-kept : goal.returns-clause-kept
returns-clause-kept g c = IfOk-weaker c.run_all.result _ _ (λ answers ran. run_isolated _ _ _ _ ran) c.run_all.ensures.run

pub returns-clause-alone : goal.returns-clause-alone
returns-clause-alone g c = IfOk-weaker c.run_all.result _ _ (λ answers ran. run_alone _ _ _ _ c.run_all.ensures.exclusive.0 ran) c.run_all.ensures.run
